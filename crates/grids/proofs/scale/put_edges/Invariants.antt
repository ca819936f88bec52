use lib.Ieee.{nan}
use lib.ListN.{get_or}
use Rattle.grids.proofs.Placing.{Placed}
use Rattle.grids.proofs.scale.put_edges.Given as goal

abbrev pub invariant-loop-k : goal.invariant-loop-k
invariant-loop-k l = Placed (λ j. get_or l.edges j lib.Ieee.nan) 256 l.k l.all
