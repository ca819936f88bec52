-- Plan::write_into appends the document's file.
use mathlib.Core.Path.{◌≡◌, refl, sym, ap, ◌∙◌, subst}
use mathlib.Core.Bool.{Bool, true, false, cond}
use mathlib.Core.Logic.{◌⊎◌}
use mathlib.Core.List.{List, [], ◌++◌, append-nil}
use Prim.Native.Nat.{ℕ, ◌+◌, ◌-◌, ◌*◌, ◌%◌, ◌^◌, ◌≤◌, ◌<◌}
use native.Mathlib.Nat.{mod-eq_of_lt}
use native.Mathlib.Omega.{arith}
use borrow.Author.Tests.{ne_eqb}
use lib.Dec.{eqb}
use lib.ListN.{length, take, drop, replicate, length-append}
use lib.Seq.{take_all, drop-length, take-append_seam, drop-append_seam}
use Rattle.leaves.specs.Bytes.{le16, le32}
use Rattle.leaves.specs.Formats.{bits_per_pixel, is_indexed, is_rgb565}
use Rattle.leaves.specs.Sizes.{row_stride}
use Rattle.format.specs.declared.layout.Mode.{Mode}
use Rattle.format.specs.declared.layout.Mode.TheVariants.{Masked, Calibrated, Profiled, Plain}
use Rattle.format.specs.File.{mode_in, pack_in, raw_bytes, tail_of, stored_height_of, head_of, plain_size_of}
use Rattle.format.specs.Layout.{tail_in, head_len, rows_compression}
use Rattle.format.specs.Headers.{file_header, info_header}
use Rattle.format.specs.Input.{Input}
use Rattle.format.proofs.Acceptance.{Checked}
use Rattle.reference.specs.Rust.{Run, done, panics, negated, to_le_bytes, within, copy_from_slice, assert_equal}
use Rattle.rows.specs.StoredRows as rows
use Rattle.rows.specs.declared.pack.RowPack.{RowPack}
use Rattle.format.proofs.FileSizes.{pack_ok}
use Rattle.format.proofs.SourceRows.{length_source}
use Rattle.reference.specs.Packing.{source_row, pack_all}
use Rattle.reference.specs.Rle.{Rle, rle_compression}
use Rattle.reference.specs.Headers.{write_file_header}
use Rattle.reference.specs.Plan.{V3, V4Rgb565, Sizes, Plan, signed_stored_height, write_header, write_head, patch_rle_head, wrote, tail, write_pixels}
use Rattle.reference.specs.Compared.{Typed}
use Rattle.reference.proofs.Original.{row_in, original_rows, original_head}
use Rattle.reference.proofs.RunLaws.{add_is, range_is, within_is, copy_is}
use Rattle.reference.proofs.PackingLaws.{pack_of, same_bits, same_bytes, pack_all_is}
use Rattle.reference.proofs.SourceLaws.{RowsOk, source_is, row_small}
use Rattle.reference.proofs.NewRows.{rows_for}
use Rattle.reference.proofs.NewPlan.{format_in, plan_in}
use Rattle.reference.proofs.PlanSizes as PlanSizes
use Rattle.reference.proofs.PlanHeads.{indexed_head, head_for}
use Rattle.reference.proofs.PlanSizes.{direct, length_head}
use Rattle.reference.proofs.HeadLaws.{depth_by, compression_by, head_in, head_bytes_in, masked_is, calibrated_is, profiled_is, plain_is}

-- biHeight
height_is : (i : Input) → 0 < i.source.height → i.source.height < 2 ^ 31 → signed_stored_height i.source.height i.options.top_down ≡ done (stored_height_of i)
unfolding signed_stored_height negated
height_is i high tall =
    let h = i.source.height in
    let m : h % 4294967296 ≡ h = mod-eq_of_lt (omega (arith, tall)) in
    rw m (go i.options.top_down)
  where
    go : (t : Bool) → cond t (cond (eqb i.source.height 0x80000000) panics (done ((4294967296 - i.source.height) % 4294967296))) (done i.source.height) ≡ done (cond t (4294967296 - i.source.height) i.source.height)
    go true =
        let n : eqb i.source.height 0x80000000 ≡ false = ne_eqb i.source.height 0x80000000 (λ e. omega (arith, e, tall)) in
        let m : (4294967296 - i.source.height) % 4294967296 ≡ 4294967296 - i.source.height = mod-eq_of_lt (omega (arith, high)) in
        rw (n, m)
    go false = refl

-- bytes 2 to 6 and 30 to 34 are written again
pub patch_is : (old offset w h bpp used n : ℕ) (rest : List ℕ) (rle : Rle)
    → patch_rle_head (file_header old offset ++ info_header 40 w h bpp 0 0 2835 2835 used ++ rest) n rle
    ≡ done (file_header (n % 4294967296) offset ++ info_header 40 w h bpp (rle_compression rle) 0 2835 2835 used ++ rest)
unfolding patch_rle_head file_header info_header le16 le32 to_le_bytes assert_equal
patch_is old offset w h bpp used n rest rle =
    let before : List ℕ = file_header old offset ++ info_header 40 w h bpp 0 0 2835 2835 used ++ rest in
    let sized : List ℕ = file_header (n % 4294967296) offset ++ info_header 40 w h bpp 0 0 2835 2835 used ++ rest in
    let long : length before ≡ 54 + length rest = omega arith in
    let same : length sized ≡ 54 + length rest = omega arith in
    rw (
      range_is before 14 18 (omega arith) (omega (arith, long)),
      within_is before 2 6 (λ part. copy_from_slice part (to_le_bytes 4 (n % 4294967296))) (to_le_bytes 4 (n % 4294967296)) (omega arith) (omega (arith, long)) (copy_is (take 4 (drop 2 before)) (to_le_bytes 4 (n % 4294967296)) refl),
      within_is sized 30 34 (λ part. copy_from_slice part (to_le_bytes 4 (rle_compression rle))) (to_le_bytes 4 (rle_compression rle)) (omega arith) (omega (arith, same)) (copy_is (take 4 (drop 30 sized)) (to_le_bytes 4 (rle_compression rle)) refl),
    )

-- what is done to all bytes behind `out`
pub within_rest : (out rest new : List ℕ) (f : List ℕ → Run (List ℕ)) → f rest ≡ done new → within (out ++ rest) (length out) (length (out ++ rest)) f ≡ done (out ++ new)
within_rest out rest new f e =
    let all = out ++ rest in
    let n : length all ≡ length out + length rest = length-append out rest in
    let part : take (length all - length out) (drop (length out) all) ≡ rest =
    ap (take (length all - length out)) (drop-append_seam out rest) ∙ take_all (length all - length out) rest (omega (arith, n)) in
    within_is all (length out) (length all) f new (omega (arith, n)) (omega arith) (ap f part ∙ e)
    ∙ ap done (ap (λ x. x ++ new ++ drop (length all) all) (take-append_seam out rest) ∙ ap (λ x. out ++ new ++ x) (drop-length all) ∙ append-nil (out ++ new))

-- the tail of a head
tail_is : (m : Mode) (i : Input) → tail (head_for m i.source.format i) ≡ tail_in m i.source.has_linked_icc i.icc i.linked
unfolding tail_in
tail_is Masked i = refl
tail_is Calibrated i = refl
tail_is Profiled i = refl
tail_is Plain i = go (is_indexed i.source.format) (is_rgb565 i.source.format)
  where
    go : (a b : Bool) → tail (cond a (indexed_head i.source.format i) (cond b V4Rgb565 (V3 (bits_per_pixel i.source.format)))) ≡ []
    go true b = refl
    go false true = refl
    go false false = refl

-- what writing the head asks for
pub record HeadFits (i : Input) (pixel_bytes : ℕ) : Type 0 where
  pub whole : (length i.palette % 4 ≡ 0) ⊎ (is_indexed i.source.format ≡ false)
  -- a profile stands behind the raw bytes, and its place and length have 32 bits
  pub profile : mode_in i ≡ Profiled → (pixel_bytes ≡ raw_bytes i) × (plain_size_of i < 2 ^ 32)
  -- the long header of Rgb565 counts its pixels itself
  pub raw : mode_in i ≡ Plain → is_rgb565 i.source.format ≡ true → (pixel_bytes ≡ row_stride i.source.width 16 * i.source.height) × (pixel_bytes < 2 ^ 32)

module _ (i : Input) (ok : Typed i) (k : Checked i) (sizes : Sizes) where
  abbrev pub plan : Plan
  plan = plan_in (mode_in i) i (rows_for (pack_of (pack_in i)) i) sizes

  -- the pack's sizes are the document's
  abbrev pack : RowPack
  pack = pack_in i

  pack_fits : rows.PackOk pack
  pack_fits = (pack_ok i k.masks k.samples).0

  pub rows_ok : i.source.stride * i.source.height < 2 ^ 64 → RowsOk plan.rows
  rows_ok product = record { inside = subst (λ n. i.source.width * n ≤ i.source.stride) (sym (PlanSizes.sizes i ok k).bytes) k.rows_inside; whole = k.plane_long; small = product }

  -- a source row, with its length
  pub row_read : i.source.stride * i.source.height < 2 ^ 64 → (y : ℕ) → y < i.source.height → source_row plan.rows y ≡ done (row_in i y)
  row_read product y l =
      source_is plan.rows (rows_ok product) y l
      ∙ ap (λ n. done (rows.source_row i.plane i.source.stride (i.source.width * n) (rows.row_of i.options.top_down i.source.height y))) (same_bytes pack)

  row_inside : (t : Bool) (y : ℕ) → y < i.source.height → rows.row_of t i.source.height y < i.source.height
  row_inside true y l = l
  row_inside false y l = omega (arith, l)

  pub row_length_lem : (y : ℕ) → y < i.source.height → length (row_in i y) ≡ i.source.width * rows.pack_bytes pack
  row_length_lem y l =
      let inside : i.source.width * rows.pack_bytes pack ≤ i.source.stride = subst (λ n. i.source.width * n ≤ i.source.stride) (sym (PlanSizes.sizes i ok k).bytes ∙ same_bytes pack) k.rows_inside in
      length_source i.plane i.source.stride (i.source.width * rows.pack_bytes pack) i.source.height (rows.row_of i.options.top_down i.source.height y) inside k.plane_long (row_inside i.options.top_down y l)

  pub rows_packed : i.source.stride * i.source.height < 2 ^ 64 → pack_all plan.rows (replicate (raw_bytes i) 0) ≡ done (original_rows i)
  unfolding original_rows
  rows_packed product =
      let stride = ap (row_stride i.source.width) (same_bits pack) in
      let raw = PlanSizes.raw_is i ok k in
      ap (λ n. pack_all plan.rows (replicate n 0)) (sym raw)
      ∙ pack_all_is plan.rows pack pack_fits refl stride ok.width (omega (arith, raw, PlanSizes.raw_small i ok k)) (row_in i) (row_read product) row_length_lem (row_small i ok)

  pub head_written : (out : List ℕ) (file_size_of pixel_bytes : ℕ) → HeadFits i pixel_bytes
      → write_head plan out file_size_of pixel_bytes ≡ done (out ++ original_head i (rows_compression i.source i.options) pixel_bytes file_size_of)
  unfolding write_head head_len write_header head_of tail_in plain_size_of
  head_written out file_size_of pixel_bytes fits =
      rw (length_head i ok k, height_is i k.some_height k.tall, depth_by i, compression_by i) (go (mode_in i) (direct i ok k) fits.profile fits.raw)
    where
      go : (m : Mode) → (m ≡ Masked → is_indexed i.source.format ≡ false)
          → (m ≡ Profiled → (pixel_bytes ≡ raw_bytes i) × (head_bytes_in m i + raw_bytes i + length (tail_in m i.source.has_linked_icc i.icc i.linked) < 2 ^ 32))
          → (m ≡ Plain → is_rgb565 i.source.format ≡ true → (pixel_bytes ≡ row_stride i.source.width 16 * i.source.height) × (pixel_bytes < 2 ^ 32))
          → write_header (head_for m i.source.format i) (write_file_header out file_size_of (head_bytes_in m i)) i.source.width (stored_height_of i) (head_bytes_in m i) pixel_bytes ≡ done (out ++ head_in m i pixel_bytes file_size_of)
      go Masked d p r = ap done (masked_is i out file_size_of pixel_bytes (d refl))
      go Calibrated d p r = calibrated_is i out file_size_of pixel_bytes fits.whole
      go Profiled d p r = rw (p refl).0 (profiled_is i out file_size_of pixel_bytes fits.whole (p refl).1)
      go Plain d p r = plain_is i out file_size_of pixel_bytes fits.whole ok.width k.some_height k.tall (r refl)

  -- the rows and the tail
  pub pixels_written : i.source.stride * i.source.height < 2 ^ 64 → sizes.raw ≡ raw_bytes i → (out : List ℕ) → length out + raw_bytes i < 2 ^ 64
      → write_pixels plan out ≡ done (wrote (format_in (mode_in i) i) (out ++ original_rows i ++ tail_of i))
  unfolding write_pixels
  pixels_written product raw out room =
      let more : length out + raw_bytes i - length out ≡ raw_bytes i = omega arith in
      let small : raw_bytes i % 18446744073709551616 ≡ raw_bytes i = mod-eq_of_lt (omega (arith, PlanSizes.raw_small i ok k)) in
      let packed = within_rest out (replicate (raw_bytes i) 0) (original_rows i) (pack_all plan.rows) (rows_packed product) in
      rw (raw, small, add_is 64 (length out) (raw_bytes i) room, more, packed, tail_is (mode_in i) i)
