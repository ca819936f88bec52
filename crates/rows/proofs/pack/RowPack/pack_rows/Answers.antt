use Rattle.std.proofs.Common.{◌≡◌, ℕ, ◌+◌, ◌-◌, ◌*◌, ◌≤◌, List, length, set, ap, ◌∙◌, arith}
use Rattle.leaves.specs.Put.{put}
use Rattle.leaves.specs.Sizes.{row_stride}
use Rattle.rows.specs.StoredRows.{stored_row, source_row, pack_bits, pack_bytes, row_of, stored_rows}
use Rattle.rows.proofs.AllRows.{row_at, length_row_at, rows_start, row_room, rows_turn, rows_end, length_source, row_of_below}
use Rattle.rows.proofs.pack.RowPack.pack_rows.Goals.{After-row_stride-stored, In-loop-s}
use Rattle.rows.proofs.pack.RowPack.pack_rows.Goals as goal

-- the length of a stored row
size : (c : After-row_stride-stored) → c.row_stride-stored.result ≡ row_stride c.args.width (pack_bits c.args.self)
size c = c.row_stride-stored.ensures ∙ ap (row_stride c.args.width) c.bits_per_pixel.ensures

-- the next one is within the buffer
room : (c : In-loop-s) → c.args.at + c.loop-s.s * row_stride c.args.width (pack_bits c.args.self) + row_stride c.args.width (pack_bits c.args.self) ≤ length c.loop-s.dst
room c =
    let a = c.args in
    let l = c.loop-s in
    row_room (row_stride a.width (pack_bits a.self)) a.at a.height l.s (length a.dst.now) (length l.dst) c.loop-s-test.true c.requires.dst_in_bounds l.auto.dst

pub loop-s-init : goal.loop-s-init
loop-s-init c =
    let a = c.args in
    rows_start (row_at a.self a.width a.height a.top_down a.plane.now a.stride) (row_stride a.width (pack_bits a.self)) a.at a.origin a.dst.now a.starts.now

pub row-requires : goal.row-requires
row-requires c =
    let a = c.args in
    let l = c.loop-s in
    let n : a.width * c.source_bytes.result ≡ a.width * pack_bytes a.self = ap (λ (z : ℕ). a.width * z) c.source_bytes.ensures in
    let e = size (goal.at.row-requires c).After-row_stride-stored in
    let y = row_of a.top_down a.height l.s in
    let fits = length_source a.plane.now a.stride (a.width * c.source_bytes.result) a.height y (omega arith) c.requires.height_in_bounds (row_of_below a.top_down a.height l.s c.loop-s-test.true) in
    record { pack_ok = c.requires.pack_ok; src_len = ap length c.source_row-src.ensures ∙ fits ∙ n; self_in_bounds = rw e (room (goal.at.row-requires c).In-loop-s); fields_ok = c.requires.fields_ok }

pub loop-s-preserved : goal.loop-s-preserved
loop-s-preserved c =
    let a = c.args in
    let l = c.loop-s in
    let e = size (goal.at.loop-s-preserved c).After-row_stride-stored in
    let n : a.width * c.source_bytes.result ≡ a.width * pack_bytes a.self = ap (λ (z : ℕ). a.width * z) c.source_bytes.ensures in
    let row = c.source_row-src.ensures ∙ ap (λ (z : ℕ). source_row a.plane.now a.stride z (row_of a.top_down a.height l.s)) n in
    rows_turn (row_at a.self a.width a.height a.top_down a.plane.now a.stride) (row_stride a.width (pack_bits a.self)) a.at a.origin a.dst.now a.starts.now l.dst l.starts l.s l.invariant
    c.row.new.dst c.note_start.new.starts a.height (λ k. length_row_at a.self c.requires.pack_ok a.width a.height a.top_down a.plane.now a.stride k) c.requires.origin_le_at c.loop-s-test.true c.requires.dst_in_bounds
    (c.row.ensures ∙ ap (λ (r : List ℕ). put l.dst (a.at + l.s * c.row_stride-stored.result) (stored_row a.self a.width r)) row ∙ ap (λ (z : ℕ). put l.dst (a.at + l.s * z) (row_at a.self a.width a.height a.top_down a.plane.now a.stride l.s)) e)
    (c.note_start.ensures ∙ ap (λ (z : ℕ). set l.starts l.s (a.at + l.s * z - a.origin)) e)

pub returns : goal.returns
unfolding stored_rows
returns c =
    let a = c.args in
    let l = c.loop-s in
    let r = rows_end (row_at a.self a.width a.height a.top_down a.plane.now a.stride) (row_stride a.width (pack_bits a.self)) a.at a.origin a.dst.now a.starts.now l.dst l.starts l.s l.invariant a.height (omega arith) in
    record { dst_after = r.0; starts_after = r.1 }
