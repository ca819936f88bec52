use Rattle.std.proofs.Common.{◌≡◌, false}
use Rattle.rows.specs.StoredRows.{cell24}
use Rattle.rows.proofs.Cells.{finished}
use Rattle.rows.proofs.exchange.exchange24.Given as goal

abbrev pub invariant-loop-x : goal.invariant-loop-x
invariant-loop-x l = finished (cell24 false l.src) 3 l.width l.dst l.at l.x ≡ finished (cell24 false l.src) 3 l.width l.initial.dst l.at l.done
