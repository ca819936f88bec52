use Rattle.std.proofs.Common.{◌-◌, length}
use Rattle.rows.specs.RleCodes.{is_rle4, depth_of}
use Rattle.rows.proofs.Scans as Laws
use Rattle.rows.proofs.counting.run_length.Given as goal

abbrev pub invariant-loop-count : goal.invariant-loop-count
invariant-loop-count l = Laws.Running (depth_of (is_rle4 l.rle)) l.row l.at l.count

abbrev pub decreases-loop-count : goal.decreases-loop-count
decreases-loop-count l = length l.row - l.count
