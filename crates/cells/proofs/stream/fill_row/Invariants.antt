use Rattle.cells.proofs.RowCodes.{RowFill}
use Prim.Native.Nat.{◌-◌}
use Rattle.cells.proofs.stream.fill_row.Given as goal

abbrev pub invariant-loop-x : goal.invariant-loop-x
invariant-loop-x l = RowFill l.file l.start l.depth l.width l.initial.cells l.to l.cells l.at l.x

abbrev pub decreases-loop-x : goal.decreases-loop-x
decreases-loop-x l = l.width - l.x
