use Rattle.reader.specs.Fields.{fields_in}
use lib.ListN.{length}
use mathlib.Core.Path.{sym, ◌∙◌}
use lib.Dec.{leb}
use borrow.Author.Tests.{lt-ltb, le-ltb}
use Rattle.format.proofs.Passing.{or_false}
use Rattle.reader.proofs.PlainRows.{few_numbers}
use Rattle.reader.proofs.OneRow.{outside_either, too_many, row_never, row_cut, row_short, row_stops, row_none}
use native.Mathlib.Omega.{arith}
use Rattle.reader.proofs.row.check_row.Goals as goal

pub never_written-requires : goal.never_written-requires
never_written-requires c = c.requires

pub returns-then-never_written : goal.returns-then-never_written
returns-then-never_written c = let a = c.args in let f = a.file.now in let t = fields_in a.t in row_never f t c.requires a.start a.cells (sym c.never_written.ensures ∙ c.if-never_written.true)

pub returns-then-head_outside-row_outside : goal.returns-then-head_outside-row_outside
returns-then-head_outside-row_outside c = let a = c.args in let f = a.file.now in let t = fields_in a.t in row_cut f t c.requires a.start a.cells (sym c.never_written.ensures ∙ c.if-never_written.false) (outside_either (length f) t a.start _ _ c.head_outside.ensures c.row_outside.ensures c.if-head_outside-row_outside.true)

pub overflow_mul-t : goal.overflow_mul-t
overflow_mul-t c = let a = c.args in let f = a.file.now in let t = fields_in a.t in omega (arith, few_numbers a.t.width c.numbers_each.result (leb a.t.depth 8) c.struct_known-1.given.1.1.0.fits c.numbers_each.ensures)

pub returns-then-cells-t : goal.returns-then-cells-t
returns-then-cells-t c = let a = c.args in let f = a.file.now in let t = fields_in a.t in row_short f t c.requires a.start a.cells (sym c.never_written.ensures ∙ c.if-never_written.false) (outside_either (length f) t a.start _ _ c.head_outside.ensures c.row_outside.ensures c.if-head_outside-row_outside.false) (too_many t a.cells _ c.numbers_each.ensures (lt-ltb a.cells _ c.if-cells-t.true))

pub row_fails-requires : goal.row_fails-requires
row_fails-requires c = let a = c.args in let f = a.file.now in let t = fields_in a.t in record { fields_read = c.requires; not_17 = (sym c.never_written.ensures ∙ c.if-never_written.false); head_inside = sym c.head_outside.ensures ∙ (or_false _ _ c.if-head_outside-row_outside.false).0 }

pub returns-then-row_fails : goal.returns-then-row_fails
returns-then-row_fails c = let a = c.args in let f = a.file.now in let t = fields_in a.t in row_stops f t c.requires a.start a.cells (sym c.never_written.ensures ∙ c.if-never_written.false) (outside_either (length f) t a.start _ _ c.head_outside.ensures c.row_outside.ensures c.if-head_outside-row_outside.false) (too_many t a.cells _ c.numbers_each.ensures (le-ltb a.cells _ c.if-cells-t.false)) (sym c.row_fails.ensures ∙ c.if-row_fails.true)

pub returns : goal.returns
returns c = let a = c.args in let f = a.file.now in let t = fields_in a.t in row_none f t c.requires a.start a.cells (sym c.never_written.ensures ∙ c.if-never_written.false) (outside_either (length f) t a.start _ _ c.head_outside.ensures c.row_outside.ensures c.if-head_outside-row_outside.false) (too_many t a.cells _ c.numbers_each.ensures (le-ltb a.cells _ c.if-cells-t.false)) (sym c.row_fails.ensures ∙ c.if-row_fails.false)
