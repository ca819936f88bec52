use mathlib.Core.Path.{ap, ◌∙◌}
use Prim.Native.Nat.{ℕ}
use native.Mathlib.Nat.{zero-add}
use lib.Dec.{ltb}
use lib.ListN.{length}
use Rattle.arguments.specs.Options.{carries_value}
use Rattle.arguments.specs.Words.{up_to}
use Rattle.arguments.proofs.options.carries_value.Goals as goal

pub returns : goal.returns
unfolding carries_value
returns c = ap (λ (n : ℕ). ltb n (length c.args.word.now)) (c.end_of.ensures.0 ∙ zero-add (length (up_to 61 c.args.word.now)))
