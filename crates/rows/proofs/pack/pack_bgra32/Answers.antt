use Rattle.std.proofs.Common.{Bool, true, false, sym, ap, ◌∙◌, arith}
use Rattle.rows.specs.declared.pack.RowPack.TheVariants.{Bgra32}
use Rattle.leaves.specs.Put.{put}
use Rattle.leaves.specs.Sizes.{row_stride}
use Rattle.rows.specs.StoredRows.{stored_row}
use Rattle.rows.proofs.Cells.{copied32, stored32}
use Rattle.rows.proofs.pack.pack_bgra32.Goals as goal

pub put_slice-requires : goal.put_slice-requires
unfolding row_stride
put_slice-requires c = omega arith

pub returns-then-bgr : goal.returns-then-bgr
returns-then-bgr c =
    let a = c.args in
    c.put_slice.ensures
    ∙ ap (put a.dst.now a.at)
    (copied32 a.src.now a.width c.requires.src_len
    ∙ sym (stored32 true a.src.now a.width)
    ∙ ap (λ (bgr : Bool). stored_row (Bgra32 bgr) a.width a.src.now) (sym c.if-bgr.true))

pub exchange32-requires : goal.exchange32-requires
unfolding row_stride
exchange32-requires c = record { src_len = omega arith; width_in_bounds = omega arith }

pub returns : goal.returns
returns c =
    let a = c.args in
    c.exchange32.ensures
    ∙ ap (put a.dst.now a.at)
    (sym (stored32 false a.src.now a.width) ∙ ap (λ (bgr : Bool). stored_row (Bgra32 bgr) a.width a.src.now) (sym c.if-bgr.false))
