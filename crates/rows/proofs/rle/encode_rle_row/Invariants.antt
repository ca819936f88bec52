use Rattle.std.proofs.Common.{◌≡◌, ℕ, ◌+◌, ◌-◌, ◌<◌, ◌≤◌, Bool, List, length, get_or, drop}
use lib.Bits.{bit_xor}
use Rattle.leaves.specs.Put.{put}
use Rattle.rows.specs.RleCodes.{is_rle4, depth_of, cells, codes, row_codes}
use Rattle.rows.specs.Words.{word}
use Rattle.rows.proofs.Scans as Laws
use Rattle.rows.proofs.rle.encode_rle_row.Given as goal

-- the differences from a place on
abbrev pub differing : Bool → List ℕ → ℕ → ℕ
differing four row k = word (λ i. bit_xor (get_or (cells (depth_of four) row) i 0) (get_or (cells (depth_of four) row) (i + 1) 0)) k 8

abbrev pub invariant-loop-count : goal.invariant-loop-count
invariant-loop-count l = Laws.Running (depth_of (is_rle4 l.rle)) l.row l.i l.count
    × (7 < l.most - l.count → l.x ≡ differing (is_rle4 l.rle) l.row (l.i + l.count - 1))
    × (l.count ≤ 1 → l.i + 8 < length l.row → l.x ≡ differing (is_rle4 l.rle) l.row l.i)

abbrev pub decreases-loop-count : goal.decreases-loop-count
decreases-loop-count l = length l.row - l.count

abbrev pub invariant-loop-i : goal.invariant-loop-i
invariant-loop-i l = (l.i ≤ length l.row)
    × (length l.buf ≡ length l.initial.buf)
    × (l.o + length (codes (depth_of (is_rle4 l.rle)) 0 (drop l.i (cells (depth_of (is_rle4 l.rle)) l.row))) ≡ l.at + length (row_codes (depth_of (is_rle4 l.rle)) l.row))
    × (put l.buf l.o (codes (depth_of (is_rle4 l.rle)) 0 (drop l.i (cells (depth_of (is_rle4 l.rle)) l.row))) ≡ put l.initial.buf l.at (row_codes (depth_of (is_rle4 l.rle)) l.row))

abbrev pub decreases-loop-i : goal.decreases-loop-i
decreases-loop-i l = length l.row - l.i
