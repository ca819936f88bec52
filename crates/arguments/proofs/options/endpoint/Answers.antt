use mathlib.Core.Path.{ap, ◌∙◌}
use Rattle.std.specs.Prelude.{Option}
use Rattle.std.specs.Option.{unwrap_or}
use lib.IntN.{ℤ, pos}
use Rattle.arguments.specs.Numbers.{signed32}
use Rattle.arguments.specs.Words.{items_of, item_at}
use Rattle.leaves.proofs.Signs.{read_back}
use Rattle.arguments.proofs.options.endpoint.Goals as goal

pub returns : goal.returns
returns c =
    let a = c.args in
    read_back c.unwrap_or.result (unwrap_or (signed32 (item_at (items_of 44 a.list.now) a.k)) (pos 0)) c.unwrap_or.type_inv
    (c.unwrap_or.ensures ∙ ap (λ (z : Option ℤ). unwrap_or z (pos 0)) (c.signed32.ensures ∙ ap signed32 c.item.ensures))
