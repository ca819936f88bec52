use mathlib.Core.Path.{◌∙◌}
use Rattle.sheets.proofs.SheetLaws.{separates}
use Rattle.sheets.proofs.is_separator.Goals as goal

pub returns : goal.returns
returns c = c.contains.ensures.value ∙ separates c.args.byte
