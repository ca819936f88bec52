use Rattle.std.proofs.Common.{◌≡◌, ℕ, ◌+◌, ◌<◌, ◌≤◌, Bool, not, List, length, drop, refl, ◌∙◌, arith}
use Rattle.rows.specs.RleCodes.{is_rle4, depth_of, cells, codes}
use Rattle.rows.specs.Windows.{from_bits}
use Rattle.rows.specs.Words.{leading}
use Rattle.rows.proofs.RleBlocks.{depth_le, sound_at}
use Rattle.rows.proofs.RleBytes.{block_fits, turn_put}
use Rattle.rows.proofs.ShownBlocks.{Shows, shows_on, shown_inside, shown_run, shown_gathered}
use Rattle.rows.proofs.rle.put_window.Goals as goal

-- a block that is shown starts in the row
here : (d : ℕ) (row : List ℕ) (i e n m l : ℕ) (s : Shows (cells d row) i e n) → ((f : ℕ → Bool) → e ≡ from_bits f 64 → m ≡ leading f 0 64)
    → ((f : ℕ → Bool) → e ≡ from_bits f 64 → l ≡ leading (λ k. not (f k)) 0 64) → m + l + 2 ≤ n → i + 1 < length row
here d row i e n m l s em el fits = omega (arith, shown_inside d row i e n s m l (em s.flags s.word) (el s.flags s.word) fits)

pub shown_block-b-requires : goal.shown_block-b-requires
shown_block-b-requires c =
    let a = c.args in
    let l = c.loop-known in
    let s = l.invariant.5 in
    let m = c.flags_set-same in
    let n = c.flags_clear-lone in
    let em = m.ensures.0 s.flags s.word in
    let el = n.ensures.0 s.flags s.word in (
      here (depth_of (is_rle4 a.rle)) a.row.now l.i l.e l.known c.flags_set-same.result c.flags_clear-lone.result l.invariant.5 c.flags_set-same.ensures.0 c.flags_clear-lone.ensures.0 c.if-known-same.false,
      m.ensures.1,
      shown_run (depth_of (is_rle4 a.rle)) a.row.now l.i l.e l.known s m.result n.result em el c.if-known-same.false,
      shown_gathered (depth_of (is_rle4 a.rle)) a.row.now l.i l.e l.known s m.result n.result em el c.if-known-same.false,
    )

pub put_block-o-requires : goal.put_block-o-requires
put_block-o-requires c =
    let a = c.args in
    let l = c.loop-known in
    let b = c.shown_block-b in
    let h = here (depth_of (is_rle4 a.rle)) a.row.now l.i l.e l.known c.flags_set-same.result c.flags_clear-lone.result l.invariant.5 c.flags_set-same.ensures.0 c.flags_clear-lone.ensures.0 c.if-known-same.false in
    (omega (arith, h), b.ensures.0, block_fits (depth_of (is_rle4 a.rle)) (depth_le (is_rle4 a.rle)) a.row.now l.i (omega (arith, h)) b.result b.ensures.0 (codes (depth_of (is_rle4 a.rle)) 0 (drop a.at (cells (depth_of (is_rle4 a.rle)) a.row.now))) l.o a.place (length l.buf) l.invariant.3 (omega arith))

pub loop-known-smaller : goal.loop-known-smaller
loop-known-smaller c =
    let a = c.args in
    let l = c.loop-known in
    let b = c.shown_block-b in
    let h = here (depth_of (is_rle4 a.rle)) a.row.now l.i l.e l.known c.flags_set-same.result c.flags_clear-lone.result l.invariant.5 c.flags_set-same.ensures.0 c.flags_clear-lone.ensures.0 c.if-known-same.false in
    omega (arith, c.if-known-same.false, b.ensures.1, c.width-width.ensures, (sound_at (depth_of (is_rle4 a.rle)) (depth_le (is_rle4 a.rle)) a.row.now l.i (omega (arith, h)) b.result b.ensures.0).some)

pub loop-known-preserved : goal.loop-known-preserved
loop-known-preserved c =
    let a = c.args in
    let l = c.loop-known in
    let b = c.shown_block-b in
    let p = c.put_block-o in
    let h = here (depth_of (is_rle4 a.rle)) a.row.now l.i l.e l.known c.flags_set-same.result c.flags_clear-lone.result l.invariant.5 c.flags_set-same.ensures.0 c.flags_clear-lone.ensures.0 c.if-known-same.false in
    let t = turn_put (depth_of (is_rle4 a.rle)) (depth_le (is_rle4 a.rle)) a.row.now l.i (omega (arith, h)) b.result b.ensures.0 (codes (depth_of (is_rle4 a.rle)) 0 (drop a.at (cells (depth_of (is_rle4 a.rle)) a.row.now)))
    l.o a.place (length l.buf) l.invariant.3 (omega arith) a.buf.now l.buf p.new.buf p.result c.width-width.result p.ensures.1 p.ensures.0 c.width-width.ensures refl l.invariant.4 in (
      omega (arith, l.invariant.0),
      t.0,
      p.auto.buf ∙ l.invariant.2,
      t.1,
      t.2,
      shows_on (cells (depth_of (is_rle4 a.rle)) a.row.now) l.i l.e l.known c.width-width.result _ l.invariant.5 (omega (arith, c.if-known-same.false, b.ensures.1, c.width-width.ensures)) refl,
    )

pub returns : goal.returns
returns c = let i = c.loop-known.invariant in record { on = i.0; within = i.1; left = i.3; put_left = i.4 }
