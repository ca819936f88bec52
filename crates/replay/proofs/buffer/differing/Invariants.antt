use Rattle.std.proofs.Common.{◌≤◌}
use Rattle.replay.proofs.buffer.differing.Given as goal

-- at most one a byte
abbrev pub invariant-loop-i : goal.invariant-loop-i
invariant-loop-i l = l.count ≤ l.i
