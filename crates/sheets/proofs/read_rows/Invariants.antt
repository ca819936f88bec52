use Prim.Native.Nat.{◌+◌, ◌-◌, ◌≤◌}
use lib.ListN.{length}
use Rattle.sheets.proofs.RowLoop.{RowsLeft}
use Rattle.sheets.proofs.read_rows.Given as goal

abbrev pub invariant-loop-at : goal.invariant-loop-at
invariant-loop-at l = (l.at ≤ length l.text + 1) × (l.rows ≤ l.at) × RowsLeft l.separator l.text l.start l.most l.width l.initial.cells l.cells l.at l.rows l.filled

abbrev pub decreases-loop-at : goal.decreases-loop-at
decreases-loop-at l = length l.text + 1 - l.at
