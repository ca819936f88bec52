use Rattle.std.proofs.Common.{◌≤◌}
use Rattle.replay.proofs.sample.replayed.Given as goal

abbrev pub invariant-loop-done : goal.invariant-loop-done
invariant-loop-done g l = l.differ ≤ l.done
