use Rattle.std.proofs.Common.{◌≡◌}
use lib.Ieee.{le}
use lib.ListN.{take}
use Rattle.std.specs.List.{count_by}
use Rattle.grids.proofs.scale.Blocks.shade.Given as goal

abbrev pub invariant-loop-end : goal.invariant-loop-end
invariant-loop-end l = l.whole ≡ count_by (λ edge. le edge l.price) (take l.end-index l.end-items)

abbrev pub invariant-loop-edge : goal.invariant-loop-edge
invariant-loop-edge l = l.count ≡ count_by (λ edge. le edge l.price) (take l.edge-index l.edge-items)
