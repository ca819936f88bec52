use mathlib.Core.Path.{sym, ◌∙◌}
use Rattle.arguments.specs.Options.{option_named}
use Rattle.arguments.proofs.OptionPlaces.{place_is, tag_is, none_named}
use Rattle.arguments.proofs.options.place_named.Goals as goal

pub returns-in-Some : goal.returns-in-Some
returns-in-Some c =
    let option = c.in-Some.option in
    tag_is option ∙ sym (place_is (option_named c.args.word.now) option (sym c.option_named.ensures ∙ c.in-Some.is))

pub returns-in-None : goal.returns-in-None
returns-in-None c = none_named c.args.word.now (sym c.option_named.ensures ∙ c.in-None.is)
