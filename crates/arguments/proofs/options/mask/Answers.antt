use mathlib.Core.Path.{ap, ◌∙◌}
use Prim.Native.Nat.{ℕ}
use Rattle.std.specs.Prelude.{Option}
use Rattle.std.specs.Option.{unwrap_or}
use Rattle.arguments.specs.Numbers.{number32}
use Rattle.arguments.proofs.options.mask.Goals as goal

pub returns : goal.returns
returns c = c.unwrap_or.ensures ∙ ap (λ (n : Option ℕ). unwrap_or n 0) (c.number32.ensures ∙ ap number32 c.item.ensures)
