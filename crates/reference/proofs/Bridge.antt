-- The original's file, with the agreed differences, is the document's. What changes of the document's file or of the agreed differences is taken up here.
use mathlib.Core.Path.{◌≡◌, refl, sym, ap, ◌∙◌}
use mathlib.Core.Bool.{Bool, true, false, true≢false, cond}
use mathlib.Core.List.{List, [], ◌++◌, append-nil}
use Prim.Native.Nat.{ℕ, ◌+◌, ◌<◌}
use native.Mathlib.Omega.{arith}
use lib.Dec.{eqb}
use lib.ListN.{length, take, drop, length-append, take-append-drop}
use lib.Seq.{take_at, drop_at}
use Rattle.std.proofs.Common.{is_some}
use Rattle.leaves.specs.declared.encoder.EncodedBmpFormat.TheVariants.{Rle8, Rle4, Bitfields, AlphaBitfields}
use Rattle.leaves.specs.declared.image.BmpPixelFormat.{BmpPixelFormat}
use Rattle.leaves.specs.declared.image.BmpPixelFormat.TheVariants as source
use Rattle.leaves.specs.Bytes.{le32}
use Rattle.leaves.specs.Formats.{bits_per_pixel, plain_token}
use Rattle.leaves.specs.Masks.{has_alpha_mask}
use Rattle.leaves.specs.Put.{put}
use Rattle.leaves.specs.Options.{bitfields_in}
use Rattle.format.specs.declared.layout.Mode.{Mode}
use Rattle.format.specs.File.{mode_in, raw_bytes, head_bytes_of, tail_of, stream_of, stream_used, stored_rows_of, pixels, compression_of, image_size_of, x_pels_in, y_pels_in, file_size_of, file_of, plain_size_of, format_of}
use Rattle.format.specs.Input.{Input}
use Rattle.format.specs.Layout.{is_profiled, header_size_of, mask_format, rows_compression, rows_format}
use Rattle.format.specs.Readers.{dword_at}
use Rattle.format.proofs.Acceptance.{Checked, rows_long}
use Rattle.format.proofs.HeadFields.{length_head, file_with, length_with}
use Rattle.format.proofs.ImageSize.{earlier_size, put_image, put_resolutions, offset_at, stream_compression, mask_compression_lem, other_size, planned_header, found_size}
use Rattle.format.proofs.Modes.{mask_mode, unprofiled_tail, tail_empty, used_in}
use Rattle.reference.specs.Compared.{refitted_words, with_wide_channels, is_rle_or_masks, with_image_size, filled_in_of, with_resolutions, agreed, Typed}
use Rattle.reference.proofs.Original.{original_rows, original_head, original_file}
use Rattle.reference.proofs.PlanSizes.{head_small}
use Rattle.reference.proofs.WideChannels.{length-refitted}
use Rattle.reference.proofs.WideRows.{masks_in, wide_in, masked, rows_same, rows_refitted}

-- ---- the formats

stream_format : (b : Bool) → is_rle_or_masks (cond b Rle8 Rle4) ≡ true
stream_format true = refl
stream_format false = refl

mask_format_lem : (b : Bool) → is_rle_or_masks (cond b AlphaBitfields Bitfields) ≡ true
mask_format_lem true = refl
mask_format_lem false = refl

plain_format : (f : BmpPixelFormat) → is_rle_or_masks (plain_token f) ≡ false
plain_format source.Rgba = refl
plain_format source.Rgb24 = refl
plain_format source.Bgra = refl
plain_format source.Bgr24 = refl
plain_format source.Rgb555 = refl
plain_format source.Rgb565 = refl
plain_format source.Pal8 = refl
plain_format source.Indexed4 = refl
plain_format source.Indexed2 = refl
plain_format source.Indexed1 = refl

-- ---- the file

module _ (i : Input) (ok : Typed i) (k : Checked i) where
  -- a file with a wide channel has neither a stream nor a profile
  no_stream : wide_in i ≡ true → (limit : ℕ) → stream_used limit i ≡ false
  no_stream h limit = go (stream_used limit i) refl
    where
      go : (b : Bool) → stream_used limit i ≡ b → stream_used limit i ≡ false
      go true e = absurd (true≢false (sym (masked i ok k h) ∙ (used_in limit i e).planned.unmasked))
      go false e = e

  no_profile : wide_in i ≡ true → tail_of i ≡ []
  no_profile h = unprofiled_tail i (ap is_profiled (mask_mode i (masked i ok k h)))

  module _ (limit : ℕ) where
    -- the document's file with what the original has in the fields that differ
    abbrev own_file : List ℕ
    own_file = file_with limit i (earlier_size i) 2835 2835

    -- without a wide channel the original's own file has the document's rows
    narrow_file : wide_in i ≡ false → original_file limit i ≡ own_file
    unfolding original_file file_size_of pixels compression_of plain_size_of
    narrow_file h = go (stream_used limit i) refl
      where
        go : (b : Bool) → stream_used limit i ≡ b → original_file limit i ≡ own_file
        go true e =
            let n : head_bytes_of i + length (stream_of i) + 0 ≡ head_bytes_of i + length (stream_of i) = omega arith in
            rw (e, tail_empty i (used_in limit i e).planned, n) (sym (append-nil _))
        go false e = rw (e, rows_same i ok k h, rows_long i k)

    -- with one the file is a head and words
    abbrev wide_head : List ℕ
    wide_head = original_head i (rows_compression i.source i.options) (raw_bytes i) (plain_size_of i)

    wide_original : wide_in i ≡ true → original_file limit i ≡ wide_head ++ original_rows i
    unfolding original_file
    wide_original h = rw (no_stream h limit, no_profile h) (append-nil _)

    wide_own : wide_in i ≡ true → wide_head ++ stored_rows_of i ≡ own_file
    unfolding file_size_of pixels compression_of plain_size_of
    wide_own h = rw (no_stream h limit, rows_long i k, no_profile h) (sym (append-nil _))

    -- and with one it has them once it is fitted anew
    pub own_file_lem : with_wide_channels i (original_file limit i) ≡ own_file
    unfolding with_wide_channels
    own_file_lem = go (wide_in i) refl
      where
        go : (b : Bool) → wide_in i ≡ b
            → cond b
            (take (dword_at (original_file limit i) 10) (original_file limit i) ++ refitted_words (masks_in i) (drop (dword_at (original_file limit i) 10) (original_file limit i)))
            (original_file limit i)
            ≡ own_file
        go true h =
            let at : dword_at (wide_head ++ original_rows i) 10 ≡ head_bytes_of i = offset_at i _ _ _ _ _ (original_rows i) (omega (arith, head_small i ok k)) in
            let long : length wide_head ≡ head_bytes_of i = length_head i _ _ _ _ _ in
            rw (wide_original h, at, take_at wide_head (original_rows i) (head_bytes_of i) long, drop_at wide_head (original_rows i) (head_bytes_of i) long, rows_refitted i ok k h)
            (wide_own h)
        go false h = narrow_file h

    -- an RLE file or a mask file: its length less its pixel offset is the image size
    filled_in : 0 < compression_of limit i → header_size_of (mode_in i) i.source.format ≡ 40 → with_image_size own_file ≡ file_with limit i (image_size_of limit i) 2835 2835
    unfolding with_image_size
    filled_in c h =
        ap (λ (v : ℕ). put own_file 34 (le32 v)) (found_size limit i c h (omega (arith, head_small i ok k)) (earlier_size i) 2835 2835)
        ∙ put_image limit i (earlier_size i) 2835 2835 (image_size_of limit i)

    filled_file : filled_in_of (format_of limit i) own_file ≡ file_with limit i (image_size_of limit i) 2835 2835
    unfolding format_of rows_format
    filled_file = go (stream_used limit i) (is_some i.options.bitfields) refl refl
      where
        go : (u m : Bool) → stream_used limit i ≡ u → is_some i.options.bitfields ≡ m
            → cond (is_rle_or_masks (cond u (cond (eqb (bits_per_pixel i.source.format) 8) Rle8 Rle4) (cond m (mask_format (bitfields_in i.options).masks) (plain_token i.source.format))))
            (with_image_size own_file) own_file
            ≡ file_with limit i (image_size_of limit i) 2835 2835
        go true m e q = rw (stream_format (eqb (bits_per_pixel i.source.format) 8)) (filled_in (stream_compression limit i e) (planned_header i (used_in limit i e).planned))
        go false true e q =
            rw (mask_format_lem (has_alpha_mask (bitfields_in i.options).masks))
            (filled_in (mask_compression_lem limit i e q) (ap (λ (mode : Mode). header_size_of mode i.source.format) (mask_mode i q)))
        go false false e q = rw (plain_format i.source.format) (ap (λ (n : ℕ). file_with limit i n 2835 2835) (sym (other_size limit i (rows_long i k) e q)))

    pub bridge : agreed i (original_file limit i) (format_of limit i) ≡ file_of limit i
    unfolding agreed with_resolutions file_of
    bridge =
        ap (with_resolutions i.options.x_pels_per_meter i.options.y_pels_per_meter) (ap (filled_in_of (format_of limit i)) own_file_lem ∙ filled_file)
        ∙ put_resolutions limit i (image_size_of limit i) 2835 2835 (x_pels_in i) (y_pels_in i)

    -- no byte is added or lost: the original's own file is as long as the document's
    pub same_length : length (original_file limit i) ≡ length (file_of limit i)
    unfolding with_wide_channels file_of
    same_length = sym (go (wide_in i) (original_file limit i)) ∙ ap length own_file_lem ∙ length_with limit i (earlier_size i) 2835 2835 ∙ sym (length_with limit i (image_size_of limit i) (x_pels_in i) (y_pels_in i))
      where
        go : (b : Bool) (file : List ℕ) → length (cond b (take (dword_at file 10) file ++ refitted_words (masks_in i) (drop (dword_at file 10) file)) file) ≡ length file
        go true file =
            let at : ℕ = dword_at file 10 in
            length-append (take at file) _
            ∙ ap (λ (z : ℕ). length (take at file) + z) (length-refitted (masks_in i) (drop at file))
            ∙ sym (length-append (take at file) (drop at file))
            ∙ ap length (take-append-drop at file)
        go false file = refl
