-- What the original is handed for a call, and which of its answers is which of document 01's.
use Rattle.std.specs.Prelude.{ℕ, ◌+◌, ◌-◌, ◌*◌, ◌/◌, ◌^◌, ◌<◌, Bool, true, false, cond, ◌&&◌, ◌||◌, ◌≡◌, List, [], ◌∷◌, ◌++◌, ltb, ℤ, length, get_or, take, drop, Ok, Err, is_some}
use Rattle.std.specs.Int.Bits.{bit_and}
use Rattle.std.specs.Int.{w32}
use Rattle.std.proofs.Common.{of_z}
use Rattle.leaves.specs.declared.encoder.EncodedBmpFormat.{EncodedBmpFormat}
use Rattle.leaves.specs.declared.encoder.EncodedBmpFormat.TheVariants.{Rgb32, Rgb24, Rgb16Rgb, Rgb16Bitfields, Indexed8, Indexed4, Indexed2, Rle8, Rle4, Indexed1, Bitfields, AlphaBitfields}
use Rattle.leaves.specs.Bytes.{le32}
use Rattle.leaves.specs.Fit.{repeated}
use Rattle.leaves.specs.Lists.{tab}
use Rattle.leaves.specs.Masks.{count, lowest}
use Rattle.leaves.specs.Put.{put}
use Rattle.leaves.specs.Refusals.{number_of, first_of, first_number, Check}
use Rattle.format.specs.File as document
use Rattle.format.specs.Input.{Input}
use Rattle.format.specs.Readers.{dword_at}
use Rattle.format.specs.Refusals.{plan_rows, stream_over_budget}
use Rattle.leaves.specs.declared.error.Refusal.{Refusal}
use Rattle.leaves.specs.declared.error.Refusal.TheVariants.{ZeroDimension, DimensionTooLarge, PaletteMissing, PaletteNotQuads, SeveralModes, MaskDepth, MaskAboveDepth, MaskNotOneRun, MaskOverlap, NoColourMask, MaskSource, PlaneTooShort, StrideTooShort, FileTooLarge, BufferTooShort, StreamOverBudget, LimitTooLarge, NegativeResolution, StartsTooShort}
use Rattle.leaves.specs.Options.{bitfields_in, calibrated_in}
use Rattle.reference.specs.Rust.{Error, zero_dimension, requires_palette, mutually_exclusive, bitfields_bpp, mask_exceeds, mask_not_contiguous, mask_overlaps, no_colour_mask, bitfields_source, plane_truncated, stride_below_row, pixel_array_overflows, file_overflows, over_limit, not_addressable, rle_over_limit, Kind, InvalidData, Unsupported, kind_of, Run, done, fails, panics, ◌>>=◌, Option, some, none}
use Rattle.reference.specs.Types.{BmpBitfields, EncodeSource, EncodeOptions}
use Rattle.reference.specs.Plan.{Plan, new_plan, with_limit, Appended, wrote, refused, write_into, appended, encode_source}

-- ---- what it is handed

abbrev pub given : {A : Type 0} → Bool → A → Option A
given flag a = cond flag (some a) none

-- the entries of a palette of four bytes each
unfoldable pub entries_in : List ℕ → List (List ℕ)
entries_in palette = tab (λ k. take 4 (drop (k * 4) palette)) (length palette / 4)

abbrev pub masks_of : ℕ → List ℕ → BmpBitfields
masks_of depth masks = record { bpp = depth; r = get_or masks 0 0; g = get_or masks 1 0; b = get_or masks 2 0; a = get_or masks 3 0 }

unfoldable pub source_of : Input → EncodeSource
source_of i =
    record {
      plane = record { stride = i.source.stride; «data» = i.plane };
      format = i.source.format;
      palette = given i.source.has_palette (record { entries = entries_in i.palette });
      icc = given i.source.has_icc i.icc;
      width = i.source.width;
      height = i.source.height;
    }

unfoldable pub options_of : Input → EncodeOptions
options_of i =
    record {
      top_down = i.options.top_down;
      minimal_palette = i.options.minimal_palette;
      rle = i.options.rle;
      bitfields = given (is_some i.options.bitfields) (masks_of (bitfields_in i.options).bpp (bitfields_in i.options).masks);
      embed_icc = i.options.embed_icc;
      linked_icc = given i.source.has_linked_icc i.linked;
      rendering_intent = i.options.rendering_intent;
      calibrated_rgb = given (is_some i.options.calibrated_rgb) (calibrated_in i.options);
    }

-- ---- what it answers

-- an Err's number in document 01's table: "The Rust's 64-bit overflow refusal is 14 here. Its "target can address" refusal cannot occur", which is 0
abbrev pub error_number : Error → ℕ
error_number zero_dimension = 1
error_number requires_palette = 3
error_number mutually_exclusive = 5
error_number bitfields_bpp = 6
error_number mask_exceeds = 7
error_number mask_not_contiguous = 8
error_number mask_overlaps = 9
error_number no_colour_mask = 10
error_number bitfields_source = 11
error_number plane_truncated = 12
error_number stride_below_row = 13
error_number pixel_array_overflows = 14
error_number file_overflows = 14
error_number over_limit = 14
error_number not_addressable = 0
error_number rle_over_limit = 16

-- the table's column "Rust"; none where it says "added", and of document 02's numbers, which the Rust has not
abbrev pub rust_kind : Refusal → Option Kind
rust_kind ZeroDimension = some InvalidData
rust_kind DimensionTooLarge = none
rust_kind PaletteMissing = some InvalidData
rust_kind PaletteNotQuads = none
rust_kind SeveralModes = some Unsupported
rust_kind MaskDepth = some InvalidData
rust_kind MaskAboveDepth = some InvalidData
rust_kind MaskNotOneRun = some InvalidData
rust_kind MaskOverlap = some InvalidData
rust_kind NoColourMask = some InvalidData
rust_kind MaskSource = some Unsupported
rust_kind PlaneTooShort = some InvalidData
rust_kind StrideTooShort = some InvalidData
rust_kind FileTooLarge = some Unsupported
rust_kind BufferTooShort = none
rust_kind StreamOverBudget = some Unsupported
rust_kind LimitTooLarge = none
rust_kind NegativeResolution = none
rust_kind StartsTooShort = none

-- a refusal has its number and its kind
pub data Outcome (A : Type 0) : Type 0 where
  gives : A → Outcome A
  refuses : ℕ → Option Kind → Outcome A
  panicked : Outcome A

abbrev pub outcome : {A : Type 0} → Run A → Outcome A
outcome (done a) = gives a
outcome (fails e) = refuses (error_number e) (some (kind_of e))
outcome panics = panicked

-- the document's answer: the first row of its table that applies, or else this
abbrev pub answer : {A : Type 0} → Check → A → Outcome A
answer (Ok passed) a = gives a
answer (Err why) a = refuses (number_of why) (rust_kind why)

-- ---- the agreed differences

-- "Mask files with such a channel are compared with this definition; narrower channels still with the Rust" (document 02, A.4): a mask of more than 16 ones
abbrev pub is_wide : ℕ → Bool
is_wide mask = ltb 16 (count mask)

-- such a channel of a word, fitted anew from its top 8 bits, which are the sample; every bit outside the mask stays
unfoldable pub refitted : ℕ → ℕ → ℕ
refitted mask word =
    cond (is_wide mask) (word - bit_and word mask + repeated (count mask) (bit_and word mask / 2 ^ (lowest mask + (count mask - 8))) * 2 ^ lowest mask) word

-- a word of the original's pixels
unfoldable pub refitted_word : List ℕ → ℕ → ℕ
refitted_word masks word = refitted (get_or masks 3 0) (refitted (get_or masks 2 0) (refitted (get_or masks 1 0) (refitted (get_or masks 0 0) word)))

-- and all of them, one behind another: only words of 32 bits have room for such a channel
unfoldable pub refitted_words : List ℕ → List ℕ → List ℕ
refitted_words masks (a ∷ b ∷ c ∷ d ∷ rest) = le32 (refitted_word masks (a + 256 * b + 65536 * (c + 256 * d))) ++ refitted_words masks rest
refitted_words masks [] = []
refitted_words masks (a ∷ []) = a ∷ []
refitted_words masks (a ∷ b ∷ []) = a ∷ b ∷ []
refitted_words masks (a ∷ b ∷ c ∷ []) = a ∷ b ∷ c ∷ []

-- whether one of the four is wide
abbrev pub any_wide : List ℕ → Bool
any_wide masks = is_wide (get_or masks 0 0) || is_wide (get_or masks 1 0) || is_wide (get_or masks 2 0) || is_wide (get_or masks 3 0)

-- a mask file with its wide channels fitted anew; its pixels begin at bfOffBits
unfoldable pub with_wide_channels : Input → List ℕ → List ℕ
with_wide_channels i file =
    cond ((is_some i.options.bitfields) && any_wide (bitfields_in i.options).masks)
    (take (dword_at file 10) file ++ refitted_words (bitfields_in i.options).masks (drop (dword_at file 10) file))
    file

-- "RLE files and mask files" (document 02, A.2)
abbrev pub is_rle_or_masks : EncodedBmpFormat → Bool
is_rle_or_masks Rgb32 = false
is_rle_or_masks Rgb24 = false
is_rle_or_masks Rgb16Rgb = false
is_rle_or_masks Rgb16Bitfields = false
is_rle_or_masks Indexed8 = false
is_rle_or_masks Indexed4 = false
is_rle_or_masks Indexed2 = false
is_rle_or_masks Rle8 = true
is_rle_or_masks Rle4 = true
is_rle_or_masks Indexed1 = false
is_rle_or_masks Bitfields = true
is_rle_or_masks AlphaBitfields = true

-- biSizeImage filled in, by numbers of the file itself: its length less bfOffBits
unfoldable pub with_image_size : List ℕ → List ℕ
with_image_size file = put file 34 (le32 (length file - dword_at file 10))

-- "Byte equality is with the Rust's file after those four bytes are filled in"
abbrev pub filled_in_of : EncodedBmpFormat → List ℕ → List ℕ
filled_in_of format file = cond (is_rle_or_masks format) (with_image_size file) file

-- "with the two resolution fields set" (document 02, A.5): biXPelsPerMeter and biYPelsPerMeter
unfoldable pub with_resolutions : ℤ → ℤ → List ℕ → List ℕ
with_resolutions x y file = put (put file 38 (le32 (of_z w32 x))) 42 (le32 (of_z w32 y))

-- what the original's own file, of this format, becomes here
unfoldable pub agreed : Input → List ℕ → EncodedBmpFormat → List ℕ
agreed i file format = with_resolutions i.options.x_pels_per_meter i.options.y_pels_per_meter (filled_in_of format (with_wide_channels i file))

-- the length of the original's own file, before any difference
abbrev pub size_of : List ℕ × EncodedBmpFormat → Run (ℕ × EncodedBmpFormat)
size_of (file, format) = done (length file, format)

-- of what `encode_source` returns
abbrev pub agreed_file : Input → List ℕ × EncodedBmpFormat → Run (List ℕ × EncodedBmpFormat)
agreed_file i (file, format) = done (agreed i file format, format)

-- of what `write_into` leaves behind `out`
abbrev pub agreed_behind : Input → List ℕ → Appended → Run Appended
agreed_behind i out (wrote format all) = done (wrote format (take (length out) all ++ agreed i (drop (length out) all) format))
agreed_behind i out (refused e all) = done (refused e all)

-- ---- the comparison

-- "Domain of the comparison: 2, 4 and 15 don't apply and stride × height is below 2^64"; 15 is a lent buffer's, which the original has not. Document 02,
-- A.5: "leaves out 20 and 21 as it does 2 and 4"
pub record Domain (i : Input) : Type 0 where
  pub not_2 : first_number (plan_rows (document.limit_in i) i) ≡ 2 → ⊥
  pub not_4 : first_number (plan_rows (document.limit_in i) i) ≡ 4 → ⊥
  pub not_20 : first_number (plan_rows (document.limit_in i) i) ≡ 20 → ⊥
  pub not_21 : first_number (plan_rows (document.limit_in i) i) ≡ 21 → ⊥
  pub product : i.source.stride * i.source.height < 2 ^ 64

-- what the arguments' types hold
pub record Typed (i : Input) : Type 0 where
  pub width : i.source.width < 2 ^ 32
  pub height : i.source.height < 2 ^ 32
  pub plane_bytes_is : (k : ℕ) → get_or i.plane k 0 < 256
  pub masks : (k : ℕ) → get_or (bitfields_in i.options).masks k 0 < 2 ^ 32
  pub nine_endpoints : length (calibrated_in i.options).endpoints ≡ 9
  pub three_gammas : length (calibrated_in i.options).gamma ≡ 3

-- `encoded_size_bound`, of a plan
abbrev pub size_bound : Run Plan → Run ℕ
size_bound plan = plan >>= λ p. done p.sizes.bound

-- `encode_into`, of a plan: the file behind what stands in `out`
abbrev pub encode_behind : Run Plan → List ℕ → Run Appended
encode_behind plan out = plan >>= λ p. write_into p out

-- `encode_source`, of a plan
abbrev pub encode_plan : Run Plan → Run (List ℕ × EncodedBmpFormat)
encode_plan plan = plan >>= λ p. write_into p [] >>= appended

-- "The Rust comparison uses `with_limit`" (document 02, A.5): `Plan::new(..)?.with_limit(limit)?`
abbrev pub limited_plan : EncodeSource → EncodeOptions → ℕ → Run Plan
limited_plan src options limit = new_plan src options >>= λ p. with_limit p limit

-- the rows of the writing call without 15
unfoldable pub file_rows : Input → List (Bool × Refusal)
file_rows i = plan_rows (document.limit_in i) i ++ ((stream_over_budget (document.limit_in i) i, StreamOverBudget) ∷ [])

-- Bound, length, file (with the agreed differences), format and refusal, with its kind, are the document's, and nothing panics. Where `out` has room for the bound of a plan in a Vec, the file stands
-- behind what `out` held, and the one Err that `write_into` returns leaves `out` as it was; where there is no plan, no room is asked for.
pub record SameAnswers (i : Input) (plan : Run Plan) : Type 0 where
  pub bound : outcome (size_bound plan) ≡ answer (first_of (plan_rows (document.limit_in i) i)) (document.bound_of (document.limit_in i) i)
  pub size : outcome (encode_plan plan >>= size_of) ≡ answer (first_of (file_rows i)) (length (document.file_of (document.limit_in i) i), document.format_of (document.limit_in i) i)
  pub file : outcome (encode_plan plan >>= agreed_file i) ≡ answer (first_of (file_rows i)) (document.file_of (document.limit_in i) i, document.format_of (document.limit_in i) i)
  pub behind : (out : List ℕ) → (first_of (plan_rows (document.limit_in i) i) ≡ Ok tt → length out + document.bound_of (document.limit_in i) i < 2 ^ 63)
      → outcome (encode_behind plan out >>= agreed_behind i out)
      ≡ answer (first_of (plan_rows (document.limit_in i) i))
      (cond (stream_over_budget (document.limit_in i) i) (refused rle_over_limit out) (wrote (document.format_of (document.limit_in i) i) (out ++ document.file_of (document.limit_in i) i)))

-- `encode_source` itself, which knows no limit but the largest file: its plan, and what it returns
pub record SameAsSource (i : Input) : Type 0 where
  pub answers : SameAnswers i (new_plan (source_of i) (options_of i))
  pub returned : encode_plan (new_plan (source_of i) (options_of i)) ≡ encode_source (source_of i) (options_of i)
