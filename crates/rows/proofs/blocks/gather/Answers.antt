use Rattle.std.proofs.Common.{◌≡◌, ◌+◌, not, get_or, sym, refl, ap, ◌∙◌, arith, eq-eqb, ne_eqb}
use Rattle.rows.specs.RleCodes.{is_rle4, depth_of, cells, lone}
use Rattle.rows.proofs.Scans.{scan_most, scan_stop, scan_step, twin-at, twin_end, lone_stop, lone_on, first_stop, first_on}
use Rattle.rows.proofs.RleBlocks.{run-one}
use Rattle.rows.proofs.blocks.gather.Goals.{else-most-gt8, else-next-row, then-most-gt8+else-lone-lt8, then-next-row+else-x-y}
use Rattle.rows.proofs.blocks.gather.Goals as goal

pub returns-then-lone-lt8 : goal.returns-then-lone-lt8
returns-then-lone-lt8 c =
    let a = c.args in
    first_stop (depth_of (is_rle4 a.rle)) a.row.now a.at c.lone_of-lone.result (c.lone_of-lone.ensures (is_rle4 a.rle) a.row.now a.at (c.requires.2 (omega arith))) (omega arith) (run-one (depth_of (is_rle4 a.rle)) a.row.now a.at (omega arith) c.requires.1) c.if-lone-lt8.true

pub loop-count-init : goal.loop-count-init
loop-count-init c =
    let a = c.args in
    elim (c.if-most-gt8.branch) [
      | then-most-gt8+else-lone-lt8 w ↦ rw w.count-is (
        omega arith,
        omega arith,
        first_on (depth_of (is_rle4 a.rle)) a.row.now a.at w.lone_of-lone.result (w.lone_of-lone.ensures (is_rle4 a.rle) a.row.now a.at (c.requires.2 (omega arith))) (omega arith) (run-one (depth_of (is_rle4 a.rle)) a.row.now a.at (omega arith) c.requires.1) w.if-lone-lt8.false,
      )
      | else-most-gt8 w ↦ rw w.count-is (omega arith, omega arith, refl)
    ]

pub loop-count-preserved-then-most-count-gt8 : goal.loop-count-preserved-then-most-count-gt8
loop-count-preserved-then-most-count-gt8 c =
    let a = c.args in
    let n = c.loop-count.count in
    let e : a.at + (n + 8) ≡ a.at + n + 8 = omega arith in (
      omega arith,
      omega arith,
      c.loop-count.invariant.2 ∙ rw e (lone_on (depth_of (is_rle4 a.rle)) a.row.now n (a.at + n) c.lone_of-lone-then-most-count-gt8.result (c.lone_of-lone-then-most-count-gt8.ensures (is_rle4 a.rle) a.row.now _ c.differences.ensures) (omega arith) (omega arith) c.if-lone-lt8-2.false),
    )

pub loop-count-preserved : goal.loop-count-preserved
loop-count-preserved c =
    let a = c.args in
    let row = a.row.now in
    let n = c.loop-count.count in
    let q = a.at + n + 1 in
    let e : a.at + (n + 1) ≡ q = omega arith in
    let x = get_or (cells (depth_of (is_rle4 a.rle)) row) (a.at + n) 0 in (
      omega arith,
      omega arith,
      c.loop-count.invariant.2
          ∙ scan_step lone (depth_of (is_rle4 a.rle)) row n (a.at + n) (a.at + (n + 1)) e (omega arith) (omega arith)
          (rw e
          (elim (c.if-next-row.branch) [ then-next-row+else-x-y w ↦ ap not (twin-at (depth_of (is_rle4 a.rle)) row x q w.if-next-row.true ∙ ne_eqb _ _ (λ t. w.if-x-y.false (w.cell-x.ensures.0 ∙ t ∙ sym w.cell-y.ensures.0))) | else-next-row w ↦ ap not (twin_end (depth_of (is_rle4 a.rle)) row x q w.if-next-row.false) ])),
    )

pub returns-then-lone-lt8-2 : goal.returns-then-lone-lt8-2
returns-then-lone-lt8-2 c =
    let a = c.args in
    let n = c.loop-count.count in
    sym (c.loop-count.invariant.2 ∙ lone_stop (depth_of (is_rle4 a.rle)) a.row.now n (a.at + n) c.lone_of-lone-then-most-count-gt8.result (c.lone_of-lone-then-most-count-gt8.ensures (is_rle4 a.rle) a.row.now _ c.differences.ensures) (omega arith) (omega arith) c.if-lone-lt8-2.true)

pub returns-then-most-count : goal.returns-then-most-count
returns-then-most-count c =
    let a = c.args in
    let n = c.loop-count.count in
    sym (c.loop-count.invariant.2 ∙ scan_most lone (depth_of (is_rle4 a.rle)) a.row.now a.at n c.min-most.result c.min-most.ensures c.if-most-count.true)

pub returns-then-x-y : goal.returns-then-x-y
returns-then-x-y c =
    let a = c.args in
    let row = a.row.now in
    let n = c.loop-count.count in
    let q = a.at + n + 1 in
    let x = get_or (cells (depth_of (is_rle4 a.rle)) row) (a.at + n) 0 in
    sym
    (c.loop-count.invariant.2
    ∙ scan_stop lone (depth_of (is_rle4 a.rle)) row n (a.at + n) q refl (omega arith)
    (ap not (twin-at (depth_of (is_rle4 a.rle)) row x q (omega arith) ∙ eq-eqb _ _ (sym c.cell-x.ensures.0 ∙ c.if-x-y.true ∙ c.cell-y.ensures.0))))
