use Rattle.cells.proofs.Blocks.{number_at}
use Rattle.leaves.specs.Lists.{tab}
use lib.ListN.{length, take}
use mathlib.Core.Path.{◌≡◌}
use Rattle.cells.proofs.colours.four_cells.Given as goal

abbrev pub invariant-loop-k : goal.invariant-loop-k
invariant-loop-k l = (length l.numbers ≡ 16) × (take l.k l.numbers ≡ tab (number_at l.file l.from l.size) l.k)
