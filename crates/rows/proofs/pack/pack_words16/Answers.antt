use Rattle.std.proofs.Common.{refl, arith}
use Rattle.rows.specs.declared.pack.RowPack.TheVariants.{Words16}
use Rattle.leaves.specs.Sizes.{row_stride}
use Rattle.rows.proofs.AllRows.{copied_gives}
use Rattle.rows.proofs.pack.pack_words16.Goals as goal

pub copy_row-requires : goal.copy_row-requires
unfolding row_stride
copy_row-requires c = record { src_len_bound = omega arith; stored_in_bounds = omega arith }

pub returns : goal.returns
returns c =
    let a = c.args in
    let r = c.row_stride in
    copied_gives Words16 refl a.width a.at r.result a.src.now a.dst.now _ (λ i. (c.shared_slice_known-1.given i).fits) c.requires.src_len r.ensures c.copy_row.ensures
