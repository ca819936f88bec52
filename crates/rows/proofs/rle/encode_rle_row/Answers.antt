use Rattle.std.proofs.Common.{◌+◌, ◌-◌, length, sym, refl, ap, ◌∙◌, arith}
use Rattle.leaves.specs.Put.{put}
use Rattle.rows.specs.RleCodes.{is_rle4, depth_of, row_codes}
use Rattle.rows.proofs.RleBlocks.{depth_le}
use Rattle.rows.proofs.RleBytes.{block_fits, turn_put}
use Rattle.rows.proofs.RleBlocks as Codes
use Rattle.rows.proofs.Scans as Laws
use Rattle.leaves.proofs.Puts as Puts
use Rattle.rows.proofs.rle.encode_rle_row.Goals.{else-most-count-gt7+else-most-count+then-w-v, else-most-count-gt7+then-most-count, then-most-count-gt7+then-same-lt8}
use Rattle.rows.proofs.rle.encode_rle_row.Goals as goal

pub loop-i-init : goal.loop-i-init
unfolding row_codes
loop-i-init c = (omega arith, refl, refl, refl)

pub long_run-count-requires : goal.long_run-count-requires
long_run-count-requires c =
    let a = c.args in
    let i = c.loop-i.i in
    let l = c.loop-count in
    let s = c.same_of-same in (
      Laws.run_eight_on (depth_of (is_rle4 a.rle)) a.row.now i l.count l.invariant.0 s.result (s.ensures (is_rle4 a.rle) a.row.now (i + l.count - 1) (l.invariant.1 (omega arith))) (omega arith) (omega arith) c.if-same-lt8.false,
      c.min-most.ensures,
      omega arith,
    )

pub loop-count-preserved-then-most-count-gt7 : goal.loop-count-preserved-then-most-count-gt7
loop-count-preserved-then-most-count-gt7 c = (c.long_run-count.ensures.0, λ m. c.first_differences-x-then-most-count-gt7.ensures (omega arith), λ m. absurd (omega (arith, c.long_run-count.ensures.1)))

pub loop-count-preserved : goal.loop-count-preserved
loop-count-preserved c =
    let a = c.args in
    let i = c.loop-i.i in
    let l = c.loop-count in
    let v = c.cell-v in
    let w = c.cell-w in (
      Laws.run_on (depth_of (is_rle4 a.rle)) a.row.now i l.count l.invariant.0 (omega arith) v.result w.result v.ensures.0 w.ensures.0 (omega arith) c.if-w-v.false,
      λ m. absurd (omega arith),
      λ m. absurd (omega arith),
    )

pub block_from-b-requires : goal.block_from-b-requires
block_from-b-requires c =
    let a = c.args in
    let i = c.loop-i.i in
    let l = c.loop-count in
    let m = c.min-most in
    let v = c.cell-v in (
      omega arith,
      v.ensures.0,
      elim (c.if-most-count-gt7.branch) [ then-most-count-gt7+then-same-lt8 k ↦ k.run-is ∙ Laws.run_eight_stop (depth_of (is_rle4 a.rle)) a.row.now i l.count l.invariant.0 k.same_of-same.result (k.same_of-same.ensures (is_rle4 a.rle) a.row.now (i + l.count - 1) (l.invariant.1 (omega arith))) (omega arith) (omega arith) k.if-same-lt8.true | else-most-count-gt7+then-most-count k ↦ k.run-is ∙ Laws.run_end (depth_of (is_rle4 a.rle)) a.row.now i l.count l.invariant.0 m.result m.ensures k.if-most-count.true | else-most-count-gt7+else-most-count+then-w-v k ↦ k.run-is ∙ Laws.run_stop (depth_of (is_rle4 a.rle)) a.row.now i l.count l.invariant.0 (omega arith) v.result k.cell-w.result v.ensures.0 k.cell-w.ensures.0 k.if-w-v.true ],
      λ r. l.invariant.2 (elim (c.if-most-count-gt7.branch) [ then-most-count-gt7+then-same-lt8 k ↦ omega arith | else-most-count-gt7+then-most-count k ↦ omega arith | else-most-count-gt7+else-most-count+then-w-v k ↦ omega arith ]),
    )

pub put_block-o-requires : goal.put_block-o-requires
put_block-o-requires c =
    let a = c.args in
    let l = c.loop-i in
    let b = c.block_from-b in
    (c.loop-i-test.true, b.ensures, block_fits (depth_of (is_rle4 a.rle)) (depth_le (is_rle4 a.rle)) a.row.now l.i c.loop-i-test.true b.result b.ensures (row_codes (depth_of (is_rle4 a.rle)) a.row.now) l.o a.at (length l.buf) l.invariant.2 (omega arith))

pub overflow_add-i-in-loop-i : goal.overflow_add-i-in-loop-i
overflow_add-i-in-loop-i c =
    let a = c.args in
    let l = c.loop-i in
    let b = c.block_from-b in
    let s = Codes.sound_at (depth_of (is_rle4 a.rle)) (depth_le (is_rle4 a.rle)) a.row.now l.i c.loop-i-test.true b.result b.ensures in
    omega arith

pub put_shown-reached-requires : goal.put_shown-reached-requires
put_shown-reached-requires c =
    let a = c.args in
    let l = c.loop-i in
    let b = c.block_from-b in
    let p = c.put_block-o in
    let w = c.width in
    let t = turn_put (depth_of (is_rle4 a.rle)) (depth_le (is_rle4 a.rle)) a.row.now l.i c.loop-i-test.true b.result b.ensures (row_codes (depth_of (is_rle4 a.rle)) a.row.now)
    l.o a.at (length l.buf) l.invariant.2 (omega (arith, c.requires, l.invariant.1)) a.buf.now l.buf p.new.buf p.result w.result p.ensures.1 p.ensures.0 w.ensures refl l.invariant.3 in
    record { at_in_bounds = t.0; row_in_bounds = omega (arith, t.1, p.auto.buf ∙ l.invariant.1, c.requires) }

pub loop-i-smaller : goal.loop-i-smaller
loop-i-smaller c =
    let a = c.args in
    let l = c.loop-i in
    let b = c.block_from-b in
    let r = c.put_shown-reached.ensures in
    let s = Codes.sound_at (depth_of (is_rle4 a.rle)) (depth_le (is_rle4 a.rle)) a.row.now l.i c.loop-i-test.true b.result b.ensures in
    omega (arith, r.on, r.within, s.some, c.width.ensures)

pub loop-i-preserved : goal.loop-i-preserved
loop-i-preserved c =
    let a = c.args in
    let l = c.loop-i in
    let b = c.block_from-b in
    let p = c.put_block-o in
    let w = c.width in
    let t = turn_put (depth_of (is_rle4 a.rle)) (depth_le (is_rle4 a.rle)) a.row.now l.i c.loop-i-test.true b.result b.ensures (row_codes (depth_of (is_rle4 a.rle)) a.row.now)
    l.o a.at (length l.buf) l.invariant.2 (omega (arith, c.requires, l.invariant.1)) a.buf.now l.buf p.new.buf p.result w.result p.ensures.1 p.ensures.0 w.ensures refl l.invariant.3 in
    let q = c.put_shown-reached in
    let r = q.ensures in
    (r.within, q.auto.buf ∙ p.auto.buf ∙ l.invariant.1, r.left ∙ t.1, r.put_left ∙ t.2)

pub returns : goal.returns
returns c =
    let a = c.args in
    let l = c.loop-i in
    let e = Codes.codes_none (depth_of (is_rle4 a.rle)) a.row.now l.i c.loop-i-test.false in
    (omega (arith, ap length e), sym (Puts.put-nil l.buf l.o) ∙ ap (put l.buf l.o) (sym e) ∙ l.invariant.3)
