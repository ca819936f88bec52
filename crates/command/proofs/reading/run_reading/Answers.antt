use Rattle.command.proofs.ReadLaws.{not-read, has_read}
use Rattle.command.proofs.reading.run_reading.Goals as goal

pub returns-then-checked-ne3 : goal.returns-then-checked-ne3
returns-then-checked-ne3 c = let a = c.args in not-read c.check-checked.ensures a.file.now a.head.now a.table.now a.cells.now a.out.now c.if-checked-ne3.true

pub returns : goal.returns
returns c = has_read c.check-checked.ensures c.if-checked-ne3.false c.sheet_out.ensures
