use mathlib.Core.Path.{◌≡◌}
use lib.ListN.{length, drop}
use Rattle.leaves.specs.Put.{put}
use Rattle.grids.specs.Scale.{indices_of}
use Rattle.grids.proofs.scale.fill.Given as goal

abbrev pub invariant-loop-k : goal.invariant-loop-k
invariant-loop-k l = (length l.plane ≡ length l.initial.plane) × (put l.plane l.k (drop l.k (indices_of l.edges l.lows l.highs)) ≡ put l.initial.plane 0 (indices_of l.edges l.lows l.highs))
