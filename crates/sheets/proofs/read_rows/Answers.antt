use mathlib.Core.List.{List, map}
use mathlib.Core.Path.{ap, ◌∙◌}
use Prim.Native.Nat.{ℕ}
use native.Mathlib.Omega.{arith}
use lib.ListN.{length}
use Rattle.leaves.specs.Put.{put}
use Rattle.arguments.specs.Words.{items_of}
use Rattle.arguments.proofs.Pieces.{part_up}
use Rattle.sheets.specs.Sheets.{without_return, index_of, up_to_bad}
use Rattle.sheets.proofs.RowLoop.{rows_start, rows_done, rows_ragged, rows_room, rows_bad, rows_turn}
use Rattle.sheets.proofs.read_rows.Goals as goal

pub loop-at-init : goal.loop-at-init
loop-at-init c = (omega arith, omega arith, rows_start c.row_width-width.ensures)

pub shape_of-cells-then-count-width : goal.shape_of-cells-then-count-width
shape_of-cells-then-count-width c = c.loop-at.invariant.2.long

pub returns-then-count-width : goal.returns-then-count-width
returns-then-count-width c =
    let a = c.args in
    let l = c.loop-at in
    let inside = c.loop-at-test.true in
    let to = c.end_of-to in
    let text = part_up 10 a.text.now l.at to.result c.part.result.now c.part.ensures to.ensures.0 to.ensures.1 in
    let line = c.without_return-line.ensures ∙ ap without_return text in
    let count = c.items-count.ensures.0 ∙ ap (λ (x : List ℕ). length (items_of a.separator x)) line in
    rows_ragged l.invariant.2 inside to.result to.ensures.0 c.items-count.result count c.if-count-width.true

pub overflow_sub-cells : goal.overflow_sub-cells
overflow_sub-cells c =
    let l = c.loop-at in
    omega (arith, l.invariant.2.fits, l.invariant.2.long)

pub shape_of-cells-then-cells-filled : goal.shape_of-cells-then-cells-filled
shape_of-cells-then-cells-filled c = c.loop-at.invariant.2.long

pub returns-then-cells-filled : goal.returns-then-cells-filled
returns-then-cells-filled c = rows_room c.loop-at.invariant.2 c.loop-at-test.true c.end_of-to.result c.end_of-to.ensures.0 c.if-cells-filled.true

pub read_cells-n-requires : goal.read_cells-n-requires
read_cells-n-requires c =
    let l = c.loop-at in
    omega (arith, c.items-count.ensures.0, c.if-count-width.false, c.if-cells-filled.false, l.invariant.2.fits, l.invariant.2.long)

pub shape_of-cells-then-n-width : goal.shape_of-cells-then-n-width
shape_of-cells-then-n-width c = c.read_cells-n.auto.cells ∙ c.loop-at.invariant.2.long

pub returns-then-n-width : goal.returns-then-n-width
returns-then-n-width c =
    let a = c.args in
    let l = c.loop-at in
    let inside = c.loop-at-test.true in
    let to = c.end_of-to in
    let text = part_up 10 a.text.now l.at to.result c.part.result.now c.part.ensures to.ensures.0 to.ensures.1 in
    let line = c.without_return-line.ensures ∙ ap without_return text in
    let count = c.items-count.ensures.0 ∙ ap (λ (x : List ℕ). length (items_of a.separator x)) line in
    let cells = c.read_cells-n.ensures in
    let n = cells.0 ∙ ap (λ (x : List ℕ). length (up_to_bad a.most (map index_of (items_of a.separator x)))) line in
    rows_bad l.invariant.2 inside to.result to.ensures.0 c.items-count.result count c.if-count-width.false c.read_cells-n.result n c.if-n-width.true

pub overflow_add-filled : goal.overflow_add-filled
overflow_add-filled c =
    let l = c.loop-at in
    omega (arith, c.if-cells-filled.false, l.invariant.2.fits, l.invariant.2.long)

pub loop-at-preserved : goal.loop-at-preserved
loop-at-preserved c =
    let a = c.args in
    let l = c.loop-at in
    let inside = c.loop-at-test.true in
    let to = c.end_of-to in
    let text = part_up 10 a.text.now l.at to.result c.part.result.now c.part.ensures to.ensures.0 to.ensures.1 in
    let line = c.without_return-line.ensures ∙ ap without_return text in
    let count = c.items-count.ensures.0 ∙ ap (λ (x : List ℕ). length (items_of a.separator x)) line in
    let cells = c.read_cells-n.ensures in
    let n = cells.0 ∙ ap (λ (x : List ℕ). length (up_to_bad a.most (map index_of (items_of a.separator x)))) line in
    let next = cells.1 ∙ ap (λ (x : List ℕ). put l.cells l.filled (up_to_bad a.most (map index_of (items_of a.separator x)))) line in (
      omega arith,
      omega arith,
      rows_turn l.invariant.2 inside to.result to.ensures.0 c.items-count.result count c.if-count-width.false c.read_cells-n.result n c.if-n-width.false c.if-cells-filled.false c.read_cells-n.new.cells next,
    )

pub shape_of-cells : goal.shape_of-cells
shape_of-cells c = c.loop-at.invariant.2.long

pub returns : goal.returns
returns c = rows_done c.loop-at.invariant.2 c.loop-at-test.false
