use Rattle.cells.proofs.Blocks.{AtByte}
use Rattle.cells.proofs.Loops.{SoFar}
use Rattle.format.specs.Decode.{cell_at}
use Rattle.leaves.specs.Lists.{tab}
use lib.ListN.{drop}
use Prim.Native.Nat.{◌-◌, ◌≤◌}
use Rattle.cells.proofs.indices.unpack.Given as goal

abbrev pub invariant-loop-x : goal.invariant-loop-x
invariant-loop-x l = (l.x ≤ l.n) × AtByte l.depth l.from l.x l.p × SoFar l.initial.cells l.to (tab (cell_at l.depth (drop l.from l.file)) l.x) l.cells

abbrev pub decreases-loop-x : goal.decreases-loop-x
decreases-loop-x l = l.n - l.x
