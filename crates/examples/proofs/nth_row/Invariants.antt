use Rattle.std.proofs.Common.{◌≡◌, length}
use Rattle.examples.proofs.nth_row.Given as goal

abbrev pub invariant-loop-i : goal.invariant-loop-i
invariant-loop-i l = length l.row ≡ 7
