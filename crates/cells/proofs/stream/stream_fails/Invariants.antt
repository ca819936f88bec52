use Rattle.cells.proofs.Trials.{Trial}
use Prim.Native.Nat.{◌-◌}
use Rattle.cells.proofs.stream.stream_fails.Given as goal

abbrev pub invariant-loop-below : goal.invariant-loop-below
invariant-loop-below l = Trial l.file l.depth l.width l.offset (l.height - 1) (l.height - l.below) l.at
