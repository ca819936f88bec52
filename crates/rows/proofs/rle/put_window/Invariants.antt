use Rattle.std.proofs.Common.{◌≡◌, ◌+◌, ◌≤◌, length, drop}
use Rattle.leaves.specs.Put.{put}
use Rattle.rows.specs.RleCodes.{is_rle4, depth_of, cells, codes}
use Rattle.rows.proofs.ShownBlocks.{Shows}
use Rattle.rows.proofs.rle.put_window.Given as goal

abbrev pub invariant-loop-known : goal.invariant-loop-known
invariant-loop-known l = (l.at ≤ l.i)
    × (l.i ≤ length l.row)
    × (length l.buf ≡ length l.initial.buf)
    × (l.o + length (codes (depth_of (is_rle4 l.rle)) 0 (drop l.i (cells (depth_of (is_rle4 l.rle)) l.row))) ≡ l.place + length (codes (depth_of (is_rle4 l.rle)) 0 (drop l.at (cells (depth_of (is_rle4 l.rle)) l.row))))
    × (put l.buf l.o (codes (depth_of (is_rle4 l.rle)) 0 (drop l.i (cells (depth_of (is_rle4 l.rle)) l.row))) ≡ put l.initial.buf l.place (codes (depth_of (is_rle4 l.rle)) 0 (drop l.at (cells (depth_of (is_rle4 l.rle)) l.row))))
    × Shows (cells (depth_of (is_rle4 l.rle)) l.row) l.i l.e l.known

abbrev pub decreases-loop-known : goal.decreases-loop-known
decreases-loop-known l = l.known
