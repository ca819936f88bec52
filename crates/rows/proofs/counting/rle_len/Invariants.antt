use Rattle.std.proofs.Common.{◌≡◌, length}
use Rattle.rows.specs.RleCodes.{is_rle4, depth_of}
use Rattle.leaves.specs.Lists.{cat}
use Rattle.rows.specs.Stream.{stream_row}
use Rattle.rows.proofs.counting.rle_len.Given as goal

abbrev pub invariant-loop-y : goal.invariant-loop-y
invariant-loop-y l = l.len ≡ length (cat (stream_row (depth_of (is_rle4 l.rle)) l.width l.height l.plane l.stride) l.y)
