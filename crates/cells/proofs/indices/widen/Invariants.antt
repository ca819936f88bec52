use Rattle.format.specs.Decode.{cell_at}
use Rattle.leaves.specs.Lists.{tab}
use Rattle.cells.proofs.Loops.{SoFar}
use lib.ListN.{drop}
use Rattle.cells.proofs.indices.widen.Given as goal

abbrev pub invariant-loop-x : goal.invariant-loop-x
invariant-loop-x l = SoFar l.initial.cells l.to (tab (cell_at 8 (drop l.from l.file)) l.x) l.cells
