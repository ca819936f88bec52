use Rattle.std.proofs.Common.{◌+◌, ◌*◌, ◌<◌, false, length, get_or, ap, arith, eq-eqb, ne_eqb}
use Rattle.rows.specs.StoredRows.{channel_at}
use Rattle.rows.proofs.FieldLists.{length_fields, field-read}
use Rattle.rows.proofs.MaskCells.{word_of}
use Rattle.rows.proofs.masks.MaskLayout.word.Goals.{else-in_bpp-eq4, then-in_bpp-eq4}
use Rattle.rows.proofs.masks.MaskLayout.word.Goals as goal

pub field_of-r-requires : goal.field_of-r-requires
field_of-r-requires c = omega (arith, ap length c.requires.fields_made, length_fields c.args.self false)

pub field_of-g-requires : goal.field_of-g-requires
field_of-g-requires c = omega (arith, ap length c.requires.fields_made, length_fields c.args.self false)

pub field_of-b-requires : goal.field_of-b-requires
field_of-b-requires c = omega (arith, ap length c.requires.fields_made, length_fields c.args.self false)

pub field_of-a-requires : goal.field_of-a-requires
field_of-a-requires c = omega (arith, ap length c.requires.fields_made, length_fields c.args.self false)

pub returns : goal.returns
unfolding channel_at
returns c =
    let a = c.args in
    let n = a.in_bpp in
    let row = a.src.now in
    let r = c.field_of-r in
    let g = c.field_of-g in
    let b = c.field_of-b in
    let l = c.field_of-a in
    let read = field-read a.self a.fields.now in
    let below : c.if-in_bpp-eq4.alpha < 256 = elim (c.if-in_bpp-eq4.branch) [ then-in_bpp-eq4 w ↦ omega (arith, w.alpha-is, (c.shared_slice_known-2-1.given (a.x * n + 3)).fits) | else-in_bpp-eq4 w ↦ omega (arith, w.alpha-is) ] in
    word_of a.self n row a.x c.if-in_bpp-eq4.alpha r.result g.result b.result l.result
    (elim (c.if-in_bpp-eq4.branch) [ then-in_bpp-eq4 w ↦ rw (eq-eqb n 4 w.if-in_bpp-eq4.true) w.alpha-is | else-in_bpp-eq4 w ↦ rw (ne_eqb n 4 w.if-in_bpp-eq4.false) w.alpha-is ])
    (read 0 (get_or row (a.x * n) 0) _ r.result c.requires.fields_made (omega arith) (c.shared_slice_known-2-1.given (a.x * n)).fits (omega arith) r.ensures)
    (read 1 (get_or row (a.x * n + 1) 0) _ g.result c.requires.fields_made (omega arith) (c.shared_slice_known-2-1.given (a.x * n + 1)).fits (omega arith) g.ensures)
    (read 2 (get_or row (a.x * n + 2) 0) _ b.result c.requires.fields_made (omega arith) (c.shared_slice_known-2-1.given (a.x * n + 2)).fits (omega arith) b.ensures)
    (read 3 c.if-in_bpp-eq4.alpha _ l.result c.requires.fields_made (omega arith) below (omega arith) l.ensures)
