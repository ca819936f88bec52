-- The length of the stored rows, and the size of an accepted file.
use mathlib.Core.Path.{◌≡◌, refl, sym, ap, ◌∙◌}
use mathlib.Core.Logic.{◌⊎◌, inl, inr}
use mathlib.Core.Bool.{Bool, true, false, false≢true, cond}
use mathlib.Core.List.{List}
use Prim.Native.Nat.{ℕ, ◌+◌, ◌*◌, ◌^◌, ◌≤◌, ◌<◌}
use native.Mathlib.Nat.{lt_of_lt_of_le, mul_comm}
use native.Mathlib.Omega.{arith}
use borrow.Author.Tests.{eqb-true, eqb-false}
use lib.Count.{count_trailing_zeros}
use lib.Dec.{eqb}
use lib.ListN.{length, get_or}
use lib.Pow.{pow_mono}
use Rattle.std.proofs.Common.{is_some}
use Rattle.leaves.specs.declared.image.BmpPixelFormat.{BmpPixelFormat}
use Rattle.leaves.specs.declared.image.BmpPixelFormat.TheVariants.{Rgba, Rgb24, Bgra, Bgr24, Rgb555, Rgb565, Pal8, Indexed4, Indexed2, Indexed1}
use Rattle.format.specs.File.{depth_in, pack_in, raw_bytes, head_bytes_of, tail_of, stream_of, budget, stream_used, stored_rows_of, pixels, file_size_of, plain_size_of}
use Rattle.format.specs.Layout.{depth_of, channel_of, channels_of, plain_pack, mask_pack, pack_of, raw_len}
use Rattle.leaves.specs.Formats.{bytes_per_pixel, bits_per_pixel, mask_source}
use Rattle.format.proofs.Modes.{no_tail, used_in}
use Rattle.leaves.specs.Masks.{count, lowest, is_one_run}
use Rattle.leaves.specs.Sizes.{row_stride}
use Rattle.rows.specs.StoredRows.{pack_bits, LayoutOk, PackOk}
use Rattle.format.specs.Accepted.{MasksAccepted}
use Rattle.format.specs.Input.{Input}
use Rattle.leaves.proofs.Runs.{ends_within, len_run, count-zero}
use Rattle.leaves.specs.Options.{bitfields_in}
use Rattle.rows.proofs.AllRows.{length-stored_rows}

-- masks have cells of at most 32 bits
pub masked_depth : (d : ℕ) → (d ≡ 16) ⊎ (d ≡ 32) → d ≤ 32
masked_depth d (inl e) = omega arith
masked_depth d (inr e) = omega arith

-- so an accepted mask has 32 bits
pub mask_lt : (d : ℕ) (masks : List ℕ) → MasksAccepted d masks → (k : ℕ) → k < 4 → get_or masks k 0 < 2 ^ 32
mask_lt d masks a k h = lt_of_lt_of_le (a.inside k h) (pow_mono {j = 32} (masked_depth d a.depths))

-- a channel of a mask that is one run stays in the word
channel-within : (m : ℕ) → m < 2 ^ 32 → is_one_run m ≡ true → (channel_of m).shift + (channel_of m).len ≤ 32
unfolding lowest
channel-within m h r = go (eqb m 0) refl
  where
    go : (b : Bool) → eqb m 0 ≡ b → cond b 0 (count_trailing_zeros 32 m) + count m ≤ 32
    go true e = omega (arith, ap count (eqb-true m 0 e), count-zero)
    go false e =
        let p : 0 < m = omega (arith, eqb-false m 0 e) in
        omega (arith, ends_within m p h, len_run m p h r)

pub mask_within : (d : ℕ) (masks : List ℕ) → MasksAccepted d masks → (k : ℕ) → k < 4 → (channel_of (get_or masks k 0)).shift + (channel_of (get_or masks k 0)).len ≤ 32
mask_within d masks a k h = channel-within (get_or masks k 0) (mask_lt d masks a k h) (a.runs k h)

layout_ok : (d : ℕ) (masks : List ℕ) → MasksAccepted d masks → LayoutOk (channels_of d masks)
unfolding channels_of
layout_ok d masks a =
    record {
      depth = a.depths;
      red = mask_within d masks a 0 (omega arith);
      green = mask_within d masks a 1 (omega arith);
      blue = mask_within d masks a 2 (omega arith);
      alpha = mask_within d masks a 3 (omega arith);
    }

-- pixels of the four sources that mask mode takes
sample-bytes : (f : BmpPixelFormat) → mask_source f ≡ false → (bytes_per_pixel f ≡ 3) ⊎ (bytes_per_pixel f ≡ 4)
sample-bytes Rgba e = inr refl
sample-bytes Rgb24 e = inl refl
sample-bytes Bgra e = inr refl
sample-bytes Bgr24 e = inl refl
sample-bytes Rgb555 e = absurd (false≢true (sym e))
sample-bytes Rgb565 e = absurd (false≢true (sym e))
sample-bytes Pal8 e = absurd (false≢true (sym e))
sample-bytes Indexed4 e = absurd (false≢true (sym e))
sample-bytes Indexed2 e = absurd (false≢true (sym e))
sample-bytes Indexed1 e = absurd (false≢true (sym e))

plain_ok : (f : BmpPixelFormat) → PackOk (plain_pack f) × (pack_bits (plain_pack f) ≡ bits_per_pixel f)
plain_ok Rgba = (tt, refl)
plain_ok Rgb24 = (tt, refl)
plain_ok Bgra = (tt, refl)
plain_ok Bgr24 = (tt, refl)
plain_ok Rgb555 = (tt, refl)
plain_ok Rgb565 = (tt, refl)
plain_ok Pal8 = (refl, refl)
plain_ok Indexed4 = (refl, refl)
plain_ok Indexed2 = (refl, refl)
plain_ok Indexed1 = (refl, refl)

-- the pack of a call whose masks, if given, were accepted
pub pack_ok : (i : Input) → (is_some i.options.bitfields ≡ true → MasksAccepted (bitfields_in i.options).bpp (bitfields_in i.options).masks)
    → (is_some i.options.bitfields ≡ true → mask_source i.source.format ≡ false) → PackOk (pack_in i) × (pack_bits (pack_in i) ≡ depth_in i)
unfolding pack_of depth_of channels_of
pack_ok i a s = go (is_some i.options.bitfields) a s
  where
    f : BmpPixelFormat
    f = i.source.format

    d : ℕ
    d = (bitfields_in i.options).bpp

    masks : List ℕ
    masks = (bitfields_in i.options).masks

    go : (b : Bool) → (b ≡ true → MasksAccepted d masks) → (b ≡ true → mask_source f ≡ false)
        → PackOk (cond b (mask_pack f d masks) (plain_pack f)) × (pack_bits (cond b (mask_pack f d masks) (plain_pack f)) ≡ cond b d (bits_per_pixel f))
    go true k l = ((sample-bytes f (l refl), layout_ok d masks (k refl)), refl)
    go false k l = plain_ok f

-- "the raw bytes are the stored row's length × height"
pub length_rows_lem : (i : Input) → (is_some i.options.bitfields ≡ true → MasksAccepted (bitfields_in i.options).bpp (bitfields_in i.options).masks)
    → (is_some i.options.bitfields ≡ true → mask_source i.source.format ≡ false) → length (stored_rows_of i) ≡ raw_bytes i
unfolding stored_rows_of raw_len
length_rows_lem i a s =
    let k = pack_ok i a s in
    length-stored_rows (pack_in i) k.0 i.source.width i.source.height i.options.top_down i.plane i.source.stride
    ∙ ap (λ (d : ℕ). i.source.height * row_stride i.source.width d) k.1
    ∙ mul_comm i.source.height (row_stride i.source.width (depth_in i))

-- without a stream they are the pixels
pub rows_pixels : (limit : ℕ) (i : Input) → stream_used limit i ≡ false → pixels limit i ≡ stored_rows_of i
unfolding pixels
rows_pixels limit i e = rw e

-- a stream under the budget keeps the file in the limit
coded_fits : (limit : ℕ) (i : Input) → stream_used limit i ≡ true → head_bytes_of i + length (stream_of i) + length (tail_of i) ≤ limit
unfolding budget
coded_fits limit i e =
    let used = used_in limit i e in
    omega (arith, used.under, no_tail i used.planned)

-- a file whose plain form fits, or whose stream is under the budget, fits
pub file_fits_lem : (limit : ℕ) (i : Input) → length (stored_rows_of i) ≡ raw_bytes i → (stream_used limit i ≡ false → plain_size_of i ≤ limit) → file_size_of limit i ≤ limit
unfolding file_size_of pixels plain_size_of
file_fits_lem limit i rows whole = go (stream_used limit i) refl
  where
    go : (b : Bool) → stream_used limit i ≡ b → head_bytes_of i + length (cond b (stream_of i) (stored_rows_of i)) + length (tail_of i) ≤ limit
    go true e = coded_fits limit i e
    go false e = omega (arith, whole e)
