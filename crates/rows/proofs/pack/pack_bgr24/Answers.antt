use Rattle.std.proofs.Common.{Bool, sym, ap, ◌∙◌, arith}
use Rattle.rows.specs.declared.pack.RowPack.TheVariants.{Bgr24}
use Rattle.leaves.specs.Lists.{cat}
use Rattle.leaves.specs.Put.{put}
use Rattle.leaves.specs.Sizes.{row_stride}
use Rattle.rows.specs.StoredRows.{cell24}
use Rattle.rows.proofs.AllRows.{copied_gives}
use Rattle.rows.proofs.Cells.{stored24}
use Rattle.rows.proofs.pack.pack_bgr24.Goals as goal

pub copy_row-requires : goal.copy_row-requires
unfolding row_stride
copy_row-requires c = record { src_len_bound = omega arith; stored_in_bounds = omega arith }

pub returns-then-bgr : goal.returns-then-bgr
returns-then-bgr c =
    let a = c.args in
    let r = c.row_stride-stride in
    copied_gives (Bgr24 a.bgr) c.if-bgr.true a.width a.at r.result a.src.now a.dst.now _ (λ i. (c.shared_slice_known-1.given i).fits) c.requires.src_len r.ensures c.copy_row.ensures

pub exchange24-requires : goal.exchange24-requires
unfolding row_stride
exchange24-requires c = record { src_len = omega arith; width_in_bounds = omega arith }

pub overflow_sub-stride : goal.overflow_sub-stride
unfolding row_stride
overflow_sub-stride c = omega arith

pub put_zeros-requires : goal.put_zeros-requires
unfolding row_stride
put_zeros-requires c = omega arith

pub returns : goal.returns
unfolding row_stride
returns c =
    let a = c.args in
    let r = c.row_stride-stride in
    stored24 a.bgr a.src.now a.dst.now _ _ a.at a.width r.result c.requires.src_len r.ensures (omega arith)
    (c.exchange24.ensures ∙ ap (λ (bgr : Bool). put a.dst.now a.at (cat (cell24 bgr a.src.now) a.width)) (sym c.if-bgr.false)) c.put_zeros.ensures
