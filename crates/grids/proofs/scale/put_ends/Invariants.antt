use Prim.Native.Nat.{◌+◌, ◌*◌}
use lib.Ieee.{nan}
use lib.ListN.{get_or}
use Rattle.grids.proofs.Placing.{Placed}
use Rattle.grids.proofs.scale.put_ends.Given as goal

abbrev pub invariant-loop-i : goal.invariant-loop-i
invariant-loop-i l = Placed (λ j. get_or l.edges (16 * j + 15) lib.Ieee.nan) 16 l.i l.ends
