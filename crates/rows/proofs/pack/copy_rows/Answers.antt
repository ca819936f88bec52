use Rattle.std.proofs.Common.{ℕ, ◌+◌, ◌*◌, List, ap, ◌∙◌, arith}
use Rattle.leaves.specs.Put.{put}
use Rattle.rows.specs.StoredRows.{padded}
use Rattle.rows.proofs.AllRows.{copy_at, length_copy_at, rows_start, rows_turn, rows_end}
use Rattle.rows.proofs.pack.copy_rows.Goals.{In-loop-s}
use Rattle.rows.proofs.pack.copy_rows.Goals as goal

pub loop-s-init : goal.loop-s-init
loop-s-init c =
    let a = c.args in
    rows_start (copy_at a.stored a.bytes a.height a.top_down a.plane.now a.stride) a.stored a.at a.origin a.dst.now a.starts.now

pub loop-s-preserved : goal.loop-s-preserved
loop-s-preserved c =
    let a = c.args in
    let l = c.loop-s in
    rows_turn (copy_at a.stored a.bytes a.height a.top_down a.plane.now a.stride) a.stored a.at a.origin a.dst.now a.starts.now l.dst l.starts l.s l.invariant
    c.copy_row.new.dst c.note_start.new.starts a.height (λ k. length_copy_at a.stored a.bytes a.height a.top_down a.plane.now a.stride k c.requires.bytes_le_stored) c.requires.origin_le_at c.loop-s-test.true c.requires.dst_in_bounds
    (c.copy_row.ensures ∙ ap (λ (r : List ℕ). put l.dst (a.at + l.s * a.stored) (padded a.stored r)) c.source_row-src.ensures)
    c.note_start.ensures

pub returns : goal.returns
returns c =
    let a = c.args in
    let l = c.loop-s in
    let r = rows_end (copy_at a.stored a.bytes a.height a.top_down a.plane.now a.stride) a.stored a.at a.origin a.dst.now a.starts.now l.dst l.starts l.s l.invariant a.height (omega arith) in
    record { dst_after = r.0; starts_after = r.1 }
