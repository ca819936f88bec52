use Rattle.std.proofs.Common.{◌-◌, ◌≤◌}
use Rattle.rows.specs.RleCodes.{is_rle4, depth_of}
use Rattle.rows.specs.Runs.{Running}
use Rattle.rows.proofs.blocks.long_run.Given as goal

abbrev pub invariant-loop-n : goal.invariant-loop-n
invariant-loop-n l = Running (depth_of (is_rle4 l.rle)) l.row l.at l.n × (l.count ≤ l.n) × (l.n ≤ l.most)

abbrev pub decreases-loop-n : goal.decreases-loop-n
decreases-loop-n l = l.most - l.n
