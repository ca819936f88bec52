use mathlib.Core.Path.{◌≡◌}
use lib.ListN.{length}
use Rattle.sheets.proofs.CellLoop.{line_of, Left}
use Rattle.sheets.proofs.read_cells.Given as goal

abbrev pub invariant-loop-cell : goal.invariant-loop-cell
invariant-loop-cell l = (l.n ≡ length l.yielded) × Left (line_of l.fn.separator l.line) l.most l.at l.initial.cells l.cells l.n
