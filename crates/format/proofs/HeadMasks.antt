-- The masks that the readers take from a head.
use mathlib.Core.Path.{◌≡◌, refl, sym, ap, ◌∙◌}
use mathlib.Core.Bool.{Bool, true, false, cond, false≢true}
use mathlib.Core.List.{List, [], ◌∷◌, ◌++◌, append_assoc}
use Prim.Native.Nat.{ℕ, ◌+◌, ◌-◌, ◌<◌}
use native.Mathlib.Omega.{arith}
use lib.ListN.{length, get_or, replicate}
use Rattle.std.proofs.Common.{is_some}
use Rattle.leaves.specs.declared.image.BmpPixelFormat.TheVariants.{Rgb565}
use Rattle.leaves.specs.Bytes.{le16, le32}
use Rattle.leaves.specs.Masks.{has_alpha_mask}
use Rattle.format.specs.Headers.{dwords, file_header, info_header, v4_fields, v5_fields, longs}
use Rattle.format.specs.Input.{Input}
use Rattle.format.specs.File.{mode_in, raw_bytes, head_bytes_of, tail_of, limit_in, pixels, colour_table, file_size_of, file_of}
use Rattle.format.specs.Layout.{is_masked, long_masks, mask_tail, head_rest}
use Rattle.leaves.specs.Formats.{is_rgb565, mask_source}
use Rattle.leaves.specs.Options.{bitfields_in, calibrated_in}
use Rattle.format.specs.declared.layout.Mode.{Mode}
use Rattle.format.specs.declared.layout.Mode.TheVariants.{Masked, Calibrated, Profiled, Plain}
use Rattle.format.proofs.Modes.{given_mode, mask_mode}
use Rattle.format.proofs.FileSizes.{mask_lt}
use Rattle.format.proofs.HeadFields.{dword_bytes, first_part, file_parts}
use Rattle.format.specs.Accepted.{Accepted}
use Rattle.format.specs.Readers.{word_at, dword_at}

-- the colour masks that a reader finds
pub record ColourMasks (file : List ℕ) (red green blue : ℕ) : Type 0 where
  pub red_mask : dword_at file 54 ≡ red
  pub green_mask : dword_at file 58 ≡ green
  pub blue_mask : dword_at file 62 ≡ blue

-- ---- behind the two headers

-- three numbers in a row, read behind the two headers
behind : (i : Input) (n a b c : ℕ) (more : List ℕ) → a < 4294967296 → b < 4294967296 → c < 4294967296
    → ColourMasks (first_part i n ++ (le32 a ++ (le32 b ++ (le32 c ++ more)))) a b c
unfolding file_header info_header le32 le16 dword_at word_at
behind i n a b c more p q r = record { red_mask = dword_bytes a p; green_mask = dword_bytes b q; blue_mask = dword_bytes c r }

-- and the fourth
fourth : (i : Input) (n a b c d : ℕ) (more : List ℕ) → d < 4294967296
    → dword_at (first_part i n ++ (le32 a ++ (le32 b ++ (le32 c ++ (le32 d ++ more))))) 66 ≡ d
unfolding file_header info_header le32 le16 dword_at word_at
fourth i n a b c d more p = dword_bytes d p

-- ---- in mask mode

-- the masks written begin with the three colours
mask_bytes : (masks more : List ℕ)
    → mask_tail masks ++ more
    ≡ le32 (get_or masks 0 0) ++ (le32 (get_or masks 1 0) ++ (le32 (get_or masks 2 0) ++ (dwords (cond (has_alpha_mask masks) (get_or masks 3 0 ∷ []) []) ++ more)))
unfolding mask_tail dwords le32
mask_bytes masks more = refl

-- and end with the alpha mask, where there is one
alpha_bytes : (masks more : List ℕ) → has_alpha_mask masks ≡ true
    → mask_tail masks ++ more ≡ le32 (get_or masks 0 0) ++ (le32 (get_or masks 1 0) ++ (le32 (get_or masks 2 0) ++ (le32 (get_or masks 3 0) ++ more)))
unfolding dwords le32
alpha_bytes masks more e = mask_bytes masks more ∙ rw e

module _ (i : Input) where
  -- what follows the masks
  abbrev pub after_rest : List ℕ
  after_rest = colour_table i ++ (pixels (limit_in i) i ++ tail_of i)

  -- the file by its mode
  pub mode_file : (m : Mode) → mode_in i ≡ m
      → file_of (limit_in i) i ≡ first_part i (file_size_of (limit_in i) i) ++ (head_rest m i.source i.options (length (tail_of i)) (head_bytes_of i - 14 + raw_bytes i) ++ after_rest)
  mode_file m e =
      file_parts i
      ∙ ap (λ (n : Mode). first_part i (file_size_of (limit_in i) i) ++ (head_rest n i.source i.options (length (tail_of i)) (head_bytes_of i - 14 + raw_bytes i) ++ after_rest)) e

  module _ (a : Accepted i) where
    -- every mask has 32 bits
    small : is_some i.options.bitfields ≡ true → (k : ℕ) → k < 4 → get_or (bitfields_in i.options).masks k 0 < 4294967296
    small e = mask_lt (bitfields_in i.options).bpp (bitfields_in i.options).masks (a.masks e)

    -- the colour masks are the ones handed in
    pub masks_read : is_some i.options.bitfields ≡ true
        → ColourMasks (file_of (limit_in i) i) (get_or (bitfields_in i.options).masks 0 0) (get_or (bitfields_in i.options).masks 1 0) (get_or (bitfields_in i.options).masks 2 0)
    unfolding head_rest
    masks_read e =
        rw (mode_file Masked (mask_mode i e), mask_bytes (bitfields_in i.options).masks after_rest)
        (behind i (file_size_of (limit_in i) i) (get_or (bitfields_in i.options).masks 0 0) (get_or (bitfields_in i.options).masks 1 0) (get_or (bitfields_in i.options).masks 2 0)
        (dwords (cond (has_alpha_mask (bitfields_in i.options).masks) (get_or (bitfields_in i.options).masks 3 0 ∷ []) []) ++ after_rest)
        (small e 0 (omega arith)) (small e 1 (omega arith)) (small e 2 (omega arith)))

    -- and so is a nonzero alpha mask
    pub alpha_read : is_some i.options.bitfields ≡ true → has_alpha_mask (bitfields_in i.options).masks ≡ true
        → dword_at (file_of (limit_in i) i) 66 ≡ get_or (bitfields_in i.options).masks 3 0
    unfolding head_rest
    alpha_read e h =
        rw (mode_file Masked (mask_mode i e), alpha_bytes (bitfields_in i.options).masks after_rest h)
        (fourth i (file_size_of (limit_in i) i) (get_or (bitfields_in i.options).masks 0 0) (get_or (bitfields_in i.options).masks 1 0) (get_or (bitfields_in i.options).masks 2 0)
        (get_or (bitfields_in i.options).masks 3 0) after_rest (small e 3 (omega arith)))

-- ---- Rgb565

-- the masks of a longer header stand behind the two headers
long_masks_lem : (i : Input) (n : ℕ) (masks : List ℕ) (space : ℕ) (ends gammas more : List ℕ) → masks ≡ long_masks Rgb565
    → ColourMasks (first_part i n ++ (v4_fields masks space ends gammas ++ more)) 0xF800 0x07E0 0x001F
unfolding v4_fields dwords file_header info_header le32 le16 dword_at word_at
long_masks_lem i n masks space ends gammas more e = rw e (record { red_mask = refl; green_mask = refl; blue_mask = refl })

-- a plain head has the longer header where its test holds
tested_masks : (i : Input) (n : ℕ) (masks : List ℕ) (space : ℕ) (ends gammas more : List ℕ) (b : Bool) → b ≡ true → masks ≡ long_masks Rgb565
    → ColourMasks (first_part i n ++ (cond b (v4_fields masks space ends gammas) [] ++ more)) 0xF800 0x07E0 0x001F
tested_masks i n masks space ends gammas more true t e = long_masks_lem i n masks space ends gammas more e
tested_masks i n masks space ends gammas more false t e = absurd (false≢true t)

-- by the mode
mode_565 : (i : Input) (n size at : ℕ) (more : List ℕ) (m : Mode) → is_masked m ≡ false → i.source.format ≡ Rgb565
    → ColourMasks (first_part i n ++ (head_rest m i.source i.options size at ++ more)) 0xF800 0x07E0 0x001F
unfolding head_rest
mode_565 i n size at more Masked never e = absurd (false≢true (sym never))
mode_565 i n size at more Calibrated never e =
    long_masks_lem i n (long_masks i.source.format) 0 (longs (calibrated_in i.options).endpoints) (calibrated_in i.options).gamma more (ap long_masks e)
mode_565 i n size at more Profiled never e =
    rw (append_assoc (v4_fields (long_masks i.source.format) (cond i.source.has_linked_icc 0x4C494E4B 0x4D424544) (replicate 9 0) (replicate 3 0)))
    (long_masks_lem i n (long_masks i.source.format) (cond i.source.has_linked_icc 0x4C494E4B 0x4D424544) (replicate 9 0) (replicate 3 0)
    (v5_fields i.options.rendering_intent at size ++ more) (ap long_masks e))
mode_565 i n size at more Plain never e =
    tested_masks i n (long_masks i.source.format) 0x73524742 (replicate 9 0) (replicate 3 0) more (is_rgb565 i.source.format) (ap is_rgb565 e) (ap long_masks e)

-- an accepted Rgb565 source has no masks of its own, and the file has those of Rgb565
pub rgb565_read : (i : Input) → Accepted i → i.source.format ≡ Rgb565 → ColourMasks (file_of (limit_in i) i) 0xF800 0x07E0 0x001F
rgb565_read i a e =
    rw (mode_file i (mode_in i) refl)
    (mode_565 i (file_size_of (limit_in i) i) (length (tail_of i)) (head_bytes_of i - 14 + raw_bytes i) (after_rest i) (mode_in i) (unmasked (is_masked (mode_in i)) (given_mode i.source i.options)) e)
  where
    unmasked : (b : Bool) → is_some i.options.bitfields ≡ b → b ≡ false
    unmasked true q = absurd (false≢true (sym (a.samples q) ∙ ap mask_source e))
    unmasked false q = refl
