use mathlib.Core.Path.{sym, ap, ◌∙◌}
use Rattle.arguments.specs.Options.{value_in, value_of}
use Rattle.arguments.proofs.OptionLaws.{no_value}
use Rattle.arguments.proofs.options.value_of.Goals as goal

pub returns-in-Some : goal.returns-in-Some
unfolding value_of
returns-in-Some c = c.value_at.ensures ∙ ap value_in c.in-Some.ensures.1

pub returns-in-None : goal.returns-in-None
unfolding value_of
returns-in-None c = no_value ∙ sym (ap value_in c.in-None.ensures)
