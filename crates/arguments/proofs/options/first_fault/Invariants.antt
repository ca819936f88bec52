use mathlib.Core.Path.{◌≡◌}
use Prim.Native.Nat.{◌-◌}
use lib.ListN.{length, drop}
use Rattle.arguments.specs.Words.{words_of}
use Rattle.arguments.specs.Options.{first_fault}
use Rattle.arguments.proofs.options.first_fault.Given as goal

abbrev pub invariant-loop-at : goal.invariant-loop-at
invariant-loop-at l = first_fault (words_of (drop l.at l.words)) ≡ first_fault (words_of l.words)

abbrev pub decreases-loop-at : goal.decreases-loop-at
decreases-loop-at l = length l.words - l.at
