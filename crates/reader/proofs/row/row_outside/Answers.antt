use Rattle.reader.specs.Fields.{fields_in}
use mathlib.Core.Path.{sym, ◌∙◌}
use Rattle.reader.proofs.OneRow.{outside_coded, outside_past, outside_row}
use Rattle.reader.proofs.row.row_outside.Goals as goal

pub returns-then-is_coded : goal.returns-then-is_coded
returns-then-is_coded c = let a = c.args in let t = fields_in a.t in outside_coded a.n t a.start (sym c.is_coded.ensures ∙ c.if-is_coded.true)

pub returns-then-n-start : goal.returns-then-n-start
returns-then-n-start c = let a = c.args in let t = fields_in a.t in outside_past a.n t a.start (sym c.is_coded.ensures ∙ c.if-is_coded.false) c.if-n-start.true

pub returns : goal.returns
returns c = let a = c.args in let t = fields_in a.t in outside_row a.n t a.start (sym c.is_coded.ensures ∙ c.if-is_coded.false) c.row_stride.result c.if-n-start.false c.row_stride.ensures
