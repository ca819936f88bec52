use Rattle.cells.proofs.CellLaws.{bits_inside}
use Rattle.format.specs.Decode.{cell_at}
use Rattle.cells.proofs.Loops.{tab_start, tab_turn, tab_end}
use lib.ListN.{drop}
use native.Mathlib.Omega.{arith}
use Rattle.cells.proofs.indices.each_index.Goals as goal

pub loop-x-init : goal.loop-x-init
loop-x-init c = let a = c.args in (tab_start (cell_at a.depth (drop a.from a.file.now)))

pub packed_index-requires : goal.packed_index-requires
packed_index-requires c = let a = c.args in let l = c.loop-x in record { table_depth = c.requires.table_depth; x_bound = omega arith; depth_in_bounds = omega (arith, bits_inside a.depth l.x a.n c.requires.table_depth (omega arith)) }

pub overflow_add-cells : goal.overflow_add-cells
overflow_add-cells c = omega (arith, c.loop-x.invariant.long)

pub offset_bounds-cells-to : goal.offset_bounds-cells-to
offset_bounds-cells-to c = omega (arith, c.loop-x.invariant.long)

pub bounds-cells-to : goal.bounds-cells-to
bounds-cells-to c = omega (arith, c.loop-x.invariant.long)

pub loop-x-preserved : goal.loop-x-preserved
loop-x-preserved c = let a = c.args in let l = c.loop-x in (tab_turn (cell_at a.depth (drop a.from a.file.now)) l.x _ l.invariant c.packed_index.ensures (omega arith))

pub shape_of-cells : goal.shape_of-cells
shape_of-cells c = c.loop-x.invariant.long

pub returns : goal.returns
returns c = let a = c.args in tab_end (cell_at a.depth (drop a.from a.file.now)) c.loop-x.invariant (omega arith)
