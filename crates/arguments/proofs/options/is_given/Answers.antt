use mathlib.Core.Path.{◌∙◌}
use Rattle.arguments.proofs.OptionLaws.{given_at}
use Rattle.arguments.proofs.options.is_given.Goals as goal

pub returns : goal.returns
returns c = c.is_some.ensures ∙ given_at c.args.option c.args.words.now c.last_given.result c.last_given.ensures
