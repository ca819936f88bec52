use mathlib.Core.Path.{ap, ◌∙◌}
use Rattle.arguments.specs.Words.{up_to}
use Rattle.arguments.proofs.options.name_at.Goals as goal

pub returns : goal.returns
returns c = c.piece.ensures ∙ ap (up_to 61) c.word.ensures
