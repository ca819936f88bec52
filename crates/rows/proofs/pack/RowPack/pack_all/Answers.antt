use Rattle.std.proofs.Common.{◌≡◌, ℕ, ◌+◌, ◌-◌, ◌*◌, true, sym, ap, ◌∙◌, arith}
use Rattle.leaves.specs.Put.{put}
use Rattle.leaves.specs.Sizes.{row_stride}
use Rattle.rows.specs.Starts.{noted}
use Rattle.rows.specs.StoredRows.{pack_bits, is_copied}
use Rattle.rows.proofs.AllRows.{copied_fits, copied_rows}
use Rattle.rows.proofs.pack.RowPack.pack_all.Goals.{After-row_stride, Then-is_copied}
use Rattle.rows.proofs.pack.RowPack.pack_all.Goals as goal

-- the kind is stored as it is
copied : (c : Then-is_copied) → is_copied c.args.self ≡ true
copied c = sym c.is_copied.ensures ∙ c.if-is_copied.true

-- the length of a stored row
size : (c : After-row_stride) → c.row_stride.result ≡ row_stride c.args.width (pack_bits c.args.self)
size c = c.row_stride.ensures ∙ ap (row_stride c.args.width) c.bits_per_pixel.ensures

pub copy_rows-requires : goal.copy_rows-requires
copy_rows-requires c =
    let a = c.args in
    let e = size (goal.at.copy_rows-requires c).After-row_stride in
    let b = ap (λ (z : ℕ). a.width * z) c.source_bytes.ensures in record { bytes_le_stride = omega (arith, b); bytes_le_stored = omega (arith, b, e, copied_fits a.self (copied (goal.at.copy_rows-requires c).Then-is_copied) a.width); height_in_bounds = c.requires.height_in_bounds; dst_in_bounds = omega (arith, ap (λ (z : ℕ). z * a.height) e); origin_le_at = c.requires.origin_le_at }

pub returns-then-is_copied : goal.returns-then-is_copied
returns-then-is_copied c =
    let a = c.args in
    let e = size (goal.at.returns-then-is_copied c).After-row_stride in
    let r = c.copy_rows in record {
      dst_after = r.ensures.dst_after
          ∙ ap (put a.dst.now a.at)
          (copied_rows a.self (copied (goal.at.returns-then-is_copied c).Then-is_copied) a.width a.height a.stride (a.width * c.source_bytes.result) c.row_stride.result a.top_down a.plane.now
          (λ i. (c.shared_slice_known-1.given i).fits) (ap (λ (z : ℕ). a.width * z) c.source_bytes.ensures) e c.requires.self_bound c.requires.height_in_bounds);
      starts_after = r.ensures.starts_after ∙ ap (λ (z : ℕ). noted (λ k. a.at - a.origin + k * z) a.starts.now a.height) e;
    }
