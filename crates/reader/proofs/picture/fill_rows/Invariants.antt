use Rattle.leaves.specs.Lists.{cat}
use Rattle.cells.proofs.Loops.{SoFar}
use Rattle.reader.proofs.PlainRows.{row_at}
use Rattle.reader.specs.Fields.{fields_in}
use Rattle.reader.proofs.picture.fill_rows.Given as goal

abbrev pub invariant-loop-y : goal.invariant-loop-y
invariant-loop-y l = SoFar l.initial.cells 0 (cat (row_at l.file (fields_in l.t)) l.y) l.cells
