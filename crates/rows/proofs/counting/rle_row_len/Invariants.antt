use Rattle.std.proofs.Common.{◌≡◌, ◌+◌, ◌-◌, ◌≤◌, length, drop}
use Rattle.rows.specs.RleCodes.{is_rle4, depth_of, cells, codes, row_codes}
use Rattle.rows.proofs.counting.rle_row_len.Given as goal

abbrev pub invariant-loop-at : goal.invariant-loop-at
invariant-loop-at l = (l.at ≤ length l.row) × (l.len + length (codes (depth_of (is_rle4 l.rle)) 0 (drop l.at (cells (depth_of (is_rle4 l.rle)) l.row))) ≡ length (row_codes (depth_of (is_rle4 l.rle)) l.row))

abbrev pub decreases-loop-at : goal.decreases-loop-at
decreases-loop-at l = length l.row - l.at
