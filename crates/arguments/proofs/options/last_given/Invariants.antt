use mathlib.Core.List.{List}
use mathlib.Core.Path.{◌≡◌}
use Prim.Native.Nat.{ℕ, ◌-◌, ◌<◌}
use lib.ListN.{length, drop}
use Rattle.std.specs.Prelude.{Option, IfSome}
use Rattle.arguments.specs.Words.{words_of}
use Rattle.arguments.specs.Options.{last_given}
use Rattle.arguments.proofs.OptionLaws.{or_else, words_found}
use Rattle.arguments.proofs.options.last_given.Given as goal

-- what is found, and what is found later
abbrev pub given : ℕ → List ℕ → ℕ → Option ℕ → List (List ℕ)
given option text at last = or_else (words_found text last) (last_given option (words_of (drop at text)))

abbrev pub invariant-loop-at : goal.invariant-loop-at
invariant-loop-at l = IfSome l.last (λ at. at < length l.words) × (last_given l.option (words_of l.words) ≡ given l.option l.words l.at l.last)

abbrev pub decreases-loop-at : goal.decreases-loop-at
decreases-loop-at l = length l.words - l.at
