use Rattle.std.proofs.Common.{◌≡◌, ◌+◌, ◌-◌, length}
use Rattle.leaves.specs.Lists.{cat}
use Rattle.leaves.specs.Put.{put}
use Rattle.rows.specs.RleCodes.{is_rle4, depth_of}
use Rattle.rows.specs.Starts.{noted}
use Rattle.rows.specs.Stream.{stream_row, stream_start}
use Rattle.rows.proofs.rle.rle_into.Given as goal

abbrev pub invariant-loop-y : goal.invariant-loop-y
invariant-loop-y l =
    let d = depth_of (is_rle4 l.rle) in
    (l.o ≡ l.at + length (cat (stream_row d l.width l.height l.plane l.stride) l.y))
    × (l.buf ≡ put l.initial.buf l.at (cat (stream_row d l.width l.height l.plane l.stride) l.y))
    × (l.starts ≡ noted (λ s. l.at - l.origin + stream_start d l.width l.height l.plane l.stride s) l.initial.starts l.y)
