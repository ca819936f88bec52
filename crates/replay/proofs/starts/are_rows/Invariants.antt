use Rattle.std.proofs.Common.{◌-◌, ◌≤◌}
use Rattle.replay.proofs.starts.are_rows.Given as goal

abbrev pub invariant-loop-y : goal.invariant-loop-y
invariant-loop-y l = l.y ≤ l.height

abbrev pub decreases-loop-y : goal.decreases-loop-y
decreases-loop-y l = l.height - l.y
