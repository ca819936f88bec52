use Rattle.cells.proofs.CellLaws.{byte_cell}
use Rattle.format.specs.Decode.{cell_at}
use Rattle.cells.proofs.CellLaws.{byte_cell}
use Rattle.cells.proofs.Loops.{tab_start, tab_turn, tab_end}
use lib.ListN.{drop}
use mathlib.Core.Path.{◌∙◌}
use native.Mathlib.Omega.{arith}
use Rattle.cells.proofs.indices.widen.Goals as goal

pub loop-x-init : goal.loop-x-init
loop-x-init c = let a = c.args in (tab_start (cell_at 8 (drop a.from a.file.now)))

pub overflow_add-cells : goal.overflow_add-cells
overflow_add-cells c = omega (arith, c.loop-x.invariant.long)

pub offset_bounds-cells-to : goal.offset_bounds-cells-to
offset_bounds-cells-to c = omega (arith, c.loop-x.invariant.long)

pub bounds-cells-to : goal.bounds-cells-to
bounds-cells-to c = omega (arith, c.loop-x.invariant.long)

pub loop-x-preserved : goal.loop-x-preserved
loop-x-preserved c = let a = c.args in let l = c.loop-x in (tab_turn (cell_at 8 (drop a.from a.file.now)) l.x _ l.invariant (c.byte.ensures.0 ∙ byte_cell a.file.now a.from l.x (omega (arith, c.byte.ensures.0, c.byte.ensures.1))) (omega arith))

pub shape_of-cells : goal.shape_of-cells
shape_of-cells c = c.loop-x.invariant.long

pub returns : goal.returns
returns c = let a = c.args in tab_end (cell_at 8 (drop a.from a.file.now)) c.loop-x.invariant (omega arith)
