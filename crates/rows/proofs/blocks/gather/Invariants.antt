use Rattle.std.proofs.Common.{◌≡◌, ◌+◌, ◌-◌, ◌≤◌, length, drop}
use Rattle.rows.specs.RleCodes.{is_rle4, depth_of, cells, scan, lone, gather_length}
use Rattle.rows.proofs.blocks.gather.Given as goal

abbrev pub invariant-loop-count : goal.invariant-loop-count
invariant-loop-count l = (l.at + l.count ≤ length l.row) × (l.count ≤ 255) × (gather_length (drop (l.at + 1) (cells (depth_of (is_rle4 l.rle)) l.row)) ≡ scan lone l.count (drop (l.at + l.count) (cells (depth_of (is_rle4 l.rle)) l.row)))

abbrev pub decreases-loop-count : goal.decreases-loop-count
decreases-loop-count l = length l.row - l.count
