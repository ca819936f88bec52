use Rattle.std.proofs.Common.{rules}
use Rattle.reader.proofs.OneRow.{row_stopped}
use Rattle.reader.proofs.row.read_row.Goals as goal

pub returns-in_err-check_row : goal.returns-in_err-check_row
returns-in_err-check_row c =
    let a = c.args in
    row_stopped a.file.now a.start a.cells.now c.in_err-check_row.field-0.0 c.from_residual.result (search rules) c.in_err-check_row.ensures
