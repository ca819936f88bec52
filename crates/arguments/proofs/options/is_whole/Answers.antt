use mathlib.Core.Path.{sym, ◌∙◌}
use Rattle.arguments.specs.Options.{option_named, is_whole}
use Rattle.arguments.proofs.OptionPlaces.{alone_named}
use Rattle.arguments.proofs.options.is_whole.Goals as goal

pub returns-then-is_some_and : goal.returns-then-is_some_and
unfolding is_whole
returns-then-is_some_and c =
    let alone = alone_named (option_named c.args.word.now) c.is_some_and.result (rw c.option_named.ensures at c.is_some_and.ensures) in
    rw (sym alone ∙ c.if-is_some_and.true) c.if-is_some_and.true

pub returns-else-is_some_and : goal.returns-else-is_some_and
unfolding is_whole
returns-else-is_some_and c =
    let alone = alone_named (option_named c.args.word.now) c.is_some_and.result (rw c.option_named.ensures at c.is_some_and.ensures) in
    rw (sym alone ∙ c.if-is_some_and.false) c.carries_value.ensures
