-- The readers find the whole head in the file.
use mathlib.Core.Path.{◌≡◌, refl, sym, ap, ◌∙◌}
use mathlib.Core.Bool.{Bool, true, false, false≢true, cond}
use mathlib.Core.List.{List, [], ◌∷◌}
use Prim.Native.Nat.{ℕ, ◌+◌, ◌≤◌}
use native.Mathlib.Omega.{arith}
use lib.Dec.{eqb}
use lib.ListN.{length, get_or}
use Rattle.std.proofs.Common.{is_some}
use Rattle.leaves.specs.declared.image.BmpPixelFormat.{BmpPixelFormat}
use Rattle.leaves.specs.Bytes.{le32}
use Rattle.format.specs.File.{mode_in, entries_of, limit_in, stream_used, compression_of, file_size_of, file_of, head_bytes_of}
use Rattle.format.specs.Layout.{is_masked, header_size_of, mask_tail, head_rest, head_len, plain_compression, rows_compression}
use Rattle.leaves.specs.Formats.{bits_per_pixel, is_rgb565}
use Rattle.format.specs.declared.layout.Mode.{Mode}
use Rattle.format.specs.declared.layout.Mode.TheVariants.{Masked, Calibrated, Profiled, Plain}
use Rattle.format.proofs.Modes.{given_mode, mask_mode}
use Rattle.format.proofs.HeadFields.{length_file, fields_read}
use Rattle.format.proofs.HeadTable.{header_fills, count-read}
use Rattle.leaves.specs.Masks.{has_alpha_mask, mask_compression}
use Rattle.leaves.specs.Options.{bitfields_in}
use Rattle.format.specs.Headers.{dwords}
use Rattle.format.specs.Input.{Input}
use Rattle.format.specs.Accepted.{Accepted}
use Rattle.format.specs.Readers.{Fields, fields_of, table_count, head_needs}

-- the bytes up to the last mask that a compression needs
abbrev masks_end : ℕ → ℕ
masks_end c = cond (eqb c 6) 70 (cond (eqb c 3) 66 54)

-- of masks, three or four
masked_end : (b : Bool) (p q r s : ℕ) → masks_end (cond b 6 3) ≤ 54 + length (dwords (p ∷ q ∷ r ∷ cond b (s ∷ []) []))
unfolding dwords le32
masked_end true p q r s = omega arith
masked_end false p q r s = omega arith

-- of a stream, none
stream_end : (b : Bool) → masks_end (cond b 1 2) ≤ 54
stream_end true = omega arith
stream_end false = omega arith

-- of other rows, those of Rgb565 or none
long_end : (b : Bool) → masks_end (cond b 3 0) ≤ 14 + 108
long_end true = omega arith
long_end false = omega arith

short_end : (b : Bool) → masks_end (cond b 3 0) ≤ 14 + cond b 108 40
short_end true = omega arith
short_end false = omega arith

rows_end : (f : BmpPixelFormat) (m : Mode) → is_masked m ≡ false → masks_end (plain_compression f) ≤ 14 + header_size_of m f
rows_end f Masked e = absurd (false≢true (sym e))
rows_end f Calibrated e = long_end (is_rgb565 f)
rows_end f Profiled e = omega (arith, long_end (is_rgb565 f))
rows_end f Plain e = short_end (is_rgb565 f)

module _ (i : Input) (a : Accepted i) where
  abbrev rest_bytes : ℕ
  rest_bytes = length (head_rest (mode_in i) i.source i.options 0 0)

  -- without masks the header fills the head
  fills : (m : Mode) → is_masked m ≡ false → 54 + length (head_rest m i.source i.options 0 0) ≡ 14 + header_size_of m i.source.format
  fills = header_fills i.source i.options a.nine_endpoints a.three_gammas

  -- the masks stand in the head
  masks_inside : masks_end (compression_of (limit_in i) i) ≤ 54 + rest_bytes
  unfolding compression_of rows_compression head_rest mask_tail
  masks_inside = go (stream_used (limit_in i) i) (is_some i.options.bitfields) refl
    where
      masks : List ℕ
      masks = (bitfields_in i.options).masks

      go : (used given : Bool) → is_some i.options.bitfields ≡ given
          → masks_end (cond used (cond (eqb (bits_per_pixel i.source.format) 8) 1 2) (cond given (mask_compression masks) (plain_compression i.source.format))) ≤ 54 + rest_bytes
      go true given e = omega (arith, stream_end (eqb (bits_per_pixel i.source.format) 8))
      go false true e = rw (mask_mode i e) (masked_end (has_alpha_mask masks) (get_or masks 0 0) (get_or masks 1 0) (get_or masks 2 0) (get_or masks 3 0))
      go false false e =
          let other : is_masked (mode_in i) ≡ false = sym (given_mode i.source i.options) ∙ e in
          omega (arith, fills (mode_in i) other, rows_end i.source.format (mode_in i) other)

  -- the header stands in the head
  header_inside : (m : Mode) → 14 + header_size_of m i.source.format ≤ 54 + length (head_rest m i.source i.options 0 0)
  header_inside Masked = omega arith
  header_inside Calibrated = omega (arith, fills Calibrated refl)
  header_inside Profiled = omega (arith, fills Profiled refl)
  header_inside Plain = omega (arith, fills Plain refl)

  -- the fields, masks and table that the readers need are in the head
  pub head_needs_lem : head_needs (fields_of (file_of (limit_in i) i)) ≤ head_bytes_of i
  unfolding head_needs head_len
  head_needs_lem =
      let count : table_count (fields_of (file_of (limit_in i) i)) ≡ entries_of i = count-read i a in
      let size : (fields_of (file_of (limit_in i) i)).header_size_of ≡ header_size_of (mode_in i) i.source.format = ap (λ (t : Fields). t.header_size_of) (fields_read i a) in
      let code : (fields_of (file_of (limit_in i) i)).compression ≡ compression_of (limit_in i) i = ap (λ (t : Fields). t.compression) (fields_read i a) in
      rw (count, size, code) (omega (arith, header_inside (mode_in i), masks_inside))

  -- and so in the file
  pub head_long : head_needs (fields_of (file_of (limit_in i) i)) ≤ length (file_of (limit_in i) i)
  unfolding file_size_of
  head_long = omega (arith, head_needs_lem, length_file i)

-- the readers' first fields are in every file
pub first_there : (i : Input) → 54 ≤ length (file_of (limit_in i) i)
unfolding file_size_of head_len
first_there i = rw (length_file i) (omega arith)
