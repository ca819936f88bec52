use mathlib.Core.Path.{◌≡◌}
use lib.ListN.{length, take}
use Rattle.leaves.specs.Lists.{tab}
use Rattle.command.specs.Sample.{shade}
use Rattle.command.proofs.sample.sample_palette.Given as goal

-- the first i places are shades
abbrev pub invariant-loop-i : goal.invariant-loop-i
invariant-loop-i l = (length l.palette ≡ 1024) × (take l.i l.palette ≡ tab shade l.i)
