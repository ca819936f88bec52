use native.Mathlib.Omega.{arith}
use Rattle.std.specs.Prelude.{Ok}
use Rattle.reader.specs.Answers.{answered}
use Rattle.reader.proofs.Calls.{profile_inside}
use Rattle.reader.proofs.read.read_into.Goals as goal

pub overflow_add-result : goal.overflow_add-result
overflow_add-result c =
    let a = c.args in
    omega (arith, profile_inside a.file.now a.head.now a.table.now a.cells.now _ _ _ (answered (Ok c.in-Ok.reading)) c.in-Ok.ensures, c.well_formed)

pub slice_bounds-result-end : goal.slice_bounds-result-end
slice_bounds-result-end c =
    let a = c.args in
    omega (arith, profile_inside a.file.now a.head.now a.table.now a.cells.now _ _ _ (answered (Ok c.in-Ok.reading)) c.in-Ok.ensures)
