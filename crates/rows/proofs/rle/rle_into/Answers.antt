use Rattle.std.proofs.Common.{◌≡◌, ℕ, ◌+◌, ◌-◌, ◌≤◌, eqb, List, length, sym, refl, add-zero, le_antisymm, arith}
use Rattle.leaves.specs.Lists.{cat}
use Rattle.leaves.specs.Put.{put}
use Rattle.rows.specs.RleCodes.{is_rle4, depth_of}
use Rattle.rows.specs.Stream.{stream_row, stream, stream_start}
use Rattle.leaves.proofs.Puts.{put-nil}
use Rattle.rows.proofs.StartLaws.{noted_start, noted_turn, noted_end, stream_place}
use Rattle.rows.proofs.Streams.{row_fits, write_turn, place_turn}
use Rattle.rows.proofs.rle.rle_into.Goals as goal

-- the stream's room
room : (d w h : ℕ) (plane : List ℕ) (stride at n m : ℕ) → n ≡ m → at + length (stream d w h plane stride) ≤ m → at + length (cat (stream_row d w h plane stride) h) ≤ n
unfolding stream
room d w h plane stride at n m f g = rw f g

-- all rows are written
whole : (d w h : ℕ) (plane : List ℕ) (stride y at o : ℕ) (buf₀ buf : List ℕ) → y ≡ h
    → o ≡ at + length (cat (stream_row d w h plane stride) y) → buf ≡ put buf₀ at (cat (stream_row d w h plane stride) y)
    → (o ≡ at + length (stream d w h plane stride)) × (buf ≡ put buf₀ at (stream d w h plane stride))
unfolding stream
whole d w h plane stride y at o buf₀ buf f eo eb = (rw f at eo, rw f at eb)

pub loop-y-init : goal.loop-y-init
unfolding cat
loop-y-init c =
    let a = c.args in
    (sym (add-zero a.at), sym (put-nil a.buf.now a.at), noted_start (λ s. a.at - a.origin + stream_start (depth_of (is_rle4 a.rle)) a.width a.height a.plane.now a.stride s) a.starts.now)

pub rle_row-o-requires : goal.rle_row-o-requires
rle_row-o-requires c =
    let a = c.args in
    let l = c.loop-y in
    let d = depth_of (is_rle4 a.rle) in
    row_fits d a.width a.height a.plane.now a.stride l.y c.source_row-row.result.now c.source_row-row.ensures a.at l.o (length l.buf) c.loop-y-test.true l.invariant.0
    (room d a.width a.height a.plane.now a.stride a.at (length l.buf) (length a.buf.now) l.auto.buf c.requires.stride_in_bounds)

pub loop-y-preserved : goal.loop-y-preserved
loop-y-preserved c =
    let a = c.args in
    let l = c.loop-y in
    let d = depth_of (is_rle4 a.rle) in
    let r = c.rle_row-o in
    let below = c.loop-y-test.true in (
      place_turn d a.width a.height a.plane.now a.stride l.y c.source_row-row.result.now c.source_row-row.ensures a.at l.o r.result l.invariant.0 r.ensures.0,
      write_turn d a.width a.height a.plane.now a.stride l.y c.source_row-row.result.now c.source_row-row.ensures a.buf.now l.buf r.new.buf a.at l.o (eqb (l.y + 1) a.height) refl below
          (room d a.width a.height a.plane.now a.stride a.at (length a.buf.now) (length a.buf.now) refl c.requires.stride_in_bounds) l.invariant.0 l.invariant.1 r.ensures.1,
      noted_turn (λ k. a.at - a.origin + stream_start d a.width a.height a.plane.now a.stride k) a.starts.now l.starts c.note_start.new.starts l.y (l.o - a.origin) l.invariant.2
          (stream_place d a.width a.height a.plane.now a.stride a.at a.origin l.y l.o c.requires.origin_le_at l.invariant.0) c.note_start.ensures,
    )

pub returns : goal.returns
returns c =
    let a = c.args in
    let l = c.loop-y in
    let d = depth_of (is_rle4 a.rle) in
    let done = le_antisymm (omega arith) c.loop-y-test.false in record {
      answer = whole d a.width a.height a.plane.now a.stride l.y a.at l.o a.buf.now l.buf done l.invariant.0 l.invariant.1;
      starts_after = noted_end (λ s. a.at - a.origin + stream_start d a.width a.height a.plane.now a.stride s) a.starts.now l.starts l.y a.height done l.invariant.2;
    }
