use Rattle.std.proofs.Common.{◌≡◌, false, length, sym, ◌∙◌, arith}
use Rattle.leaves.specs.Lists.{cat}
use Rattle.leaves.specs.Put.{put}
use Rattle.rows.specs.StoredRows.{mask_cell}
use Rattle.rows.proofs.FieldLists.{fields_ordered}
use Rattle.rows.proofs.MaskCells.{cells_fit, masks_end_lem}
use Rattle.rows.proofs.ShortFields.{depth32, layout_ordered, put_ordered, room_ordered}
use Rattle.rows.proofs.masks.MaskLayout.pack.Goals.{then-self-eq16, else-self-eq16}
use Rattle.rows.proofs.masks.MaskLayout.pack.Goals as goal

pub cells-requires : goal.cells-requires
cells-requires c =
    let a = c.args in
    let o = c.ordered-layout in
    let deep = c.if-self-eq16.true in record { layout_ok = layout_ordered a.self o.result a.bgr o.ensures c.requires.layout_ok; depth = o.ensures.0 ∙ deep; known_size = c.requires.known_size; src_len = c.requires.src_len; width_in_bounds = room_ordered a.self o.result a.bgr o.ensures c.requires.layout_ok a.width a.at (length a.dst.now) 2 deep c.requires.bpp_in_bounds; fields_made = c.requires.fields_made ∙ sym (fields_ordered a.self o.result a.bgr o.ensures) }

pub cells-requires-else-self-eq16 : goal.cells-requires-else-self-eq16
cells-requires-else-self-eq16 c =
    let a = c.args in
    let o = c.ordered-layout in
    let deep = depth32 a.self.bpp c.requires.layout_ok.depth c.if-self-eq16.false in record { layout_ok = layout_ordered a.self o.result a.bgr o.ensures c.requires.layout_ok; depth = o.ensures.0 ∙ deep; known_size = c.requires.known_size; src_len = c.requires.src_len; width_in_bounds = room_ordered a.self o.result a.bgr o.ensures c.requires.layout_ok a.width a.at (length a.dst.now) 4 deep c.requires.bpp_in_bounds; fields_made = c.requires.fields_made ∙ sym (fields_ordered a.self o.result a.bgr o.ensures) }

pub overflow_sub-row_stride : goal.overflow_sub-row_stride
overflow_sub-row_stride c = omega (arith, cells_fit c.args.width c.args.self.bpp c.requires.layout_ok.depth)

pub put_zeros-requires : goal.put_zeros-requires
put_zeros-requires c = omega (arith, c.if-self-eq16.auto.dst, cells_fit c.args.width c.args.self.bpp c.requires.layout_ok.depth)

pub returns : goal.returns
returns c =
    let a = c.args in
    let i = c.if-self-eq16 in
    let o = c.ordered-layout in
    let r = c.row_stride in
    let cells : i.dst ≡ put a.dst.now a.at (cat (mask_cell o.result a.in_bpp false a.src.now) a.width) =
    elim (i.branch) [ then-self-eq16 w ↦ w.dst-is ∙ w.cells.ensures | else-self-eq16 w ↦ w.dst-is ∙ w.cells-else-self-eq16.ensures ] in
    masks_end_lem a.self a.in_bpp a.bgr a.src.now a.dst.now i.dst c.put_zeros.new.buf a.at a.width r.result c.requires.layout_ok.depth
    (put_ordered a.self o.result a.bgr o.ensures a.in_bpp a.src.now a.dst.now i.dst a.at a.width cells) r.ensures c.requires.bpp_in_bounds c.put_zeros.ensures
