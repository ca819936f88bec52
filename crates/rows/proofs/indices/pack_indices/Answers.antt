use Rattle.std.proofs.Common.{◌≡◌, ℕ, ◌^◌, ◌<◌, ◌≤◌, List, length, sym, ap, ◌∙◌, mul-le-mul_left, mul-one, arith, eq-eqb}
use Rattle.rows.specs.declared.pack.RowPack.TheVariants.{Indexed}
use Rattle.leaves.specs.Put.{put}
use Rattle.leaves.specs.Sizes.{row_stride}
use Rattle.rows.specs.Packing.{packed}
use Rattle.rows.specs.StoredRows.{stored_row}
use Rattle.rows.proofs.AllRows.{copied_fits, copied_gives}
use Rattle.rows.proofs.PackLaws.{depth}
use Rattle.rows.proofs.indices.pack_indices.Goals as goal

-- a row of fewer than 2 ^ 32 indices is short
stride-small : (n d : ℕ) → n < 2 ^ 32 → d ≤ 8 → row_stride n d < 2 ^ 40
unfolding row_stride
stride-small n d h k = omega (arith, mul-le-mul_left n k)

-- bytes up to the stride
to-stride : (d e row : List ℕ) (at bpp n m : ℕ) → n ≡ m → e ≡ put d at (packed bpp row n) → e ≡ put d at (packed bpp row m)
to-stride d e row at bpp n m size is = is ∙ ap (λ (k : ℕ). put d at (packed bpp row k)) size

pub copy_row-requires : goal.copy_row-requires
copy_row-requires c =
    let a = c.args in
    record { src_len_bound = omega (arith, copied_fits (Indexed a.bpp) (eq-eqb a.bpp 8 c.if-bpp-eq8.true) (length a.src.now)); stored_in_bounds = omega arith }

pub returns-then-bpp-eq8 : goal.returns-then-bpp-eq8
unfolding stored_row
returns-then-bpp-eq8 c =
    let a = c.args in
    let r = c.row_stride-stride in
    copied_gives (Indexed a.bpp) (eq-eqb a.bpp 8 c.if-bpp-eq8.true) (length a.src.now) a.at r.result a.src.now a.dst.now _ (λ i. (c.shared_slice_known-1.given i).fits) (sym (mul-one (length a.src.now))) r.ensures c.copy_row.ensures

pub pack_bytes-requires : goal.pack_bytes-requires
pack_bytes-requires c =
    let a = c.args in
    record { table_depth = c.requires.table_depth; n_bound = omega (arith, stride-small (length a.src.now) a.bpp (omega arith) (depth a.bpp c.requires.table_depth).small); n_in_bounds = omega arith }

pub returns-else-bpp-eq8 : goal.returns-else-bpp-eq8
returns-else-bpp-eq8 c =
    let a = c.args in
    let p = c.pack_bytes in
    let r = c.row_stride-stride in
    to-stride a.dst.now p.new.dst a.src.now a.at a.bpp r.result (row_stride (length a.src.now) a.bpp) r.ensures p.ensures
