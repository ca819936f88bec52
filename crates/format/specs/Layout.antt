-- What source and options decide of a file, before a byte of any slice is looked at (document 01, The plan).
use Rattle.std.specs.Prelude.{ℕ, ◌+◌, ◌*◌, ◌/◌, Bool, true, false, not, cond, ◌&&◌, List, [], ◌∷◌, ◌++◌, eqb, length, get_or, replicate, Option, Some, None, is_some}
use Rattle.leaves.specs.declared.bitfields.MaskShiftLen.{MaskShiftLen}
use Rattle.leaves.specs.declared.encoder.EncodeSource.{EncodeSource}
use Rattle.leaves.specs.declared.encoder.EncodedBmpFormat.{EncodedBmpFormat}
use Rattle.leaves.specs.declared.encoder.EncodedBmpFormat.TheVariants.{Bitfields, AlphaBitfields}
use Rattle.leaves.specs.declared.image.BmpPixelFormat.{BmpPixelFormat}
use Rattle.leaves.specs.declared.image.BmpPixelFormat.TheVariants as source
use Rattle.leaves.specs.declared.options.EncodeOptions.{EncodeOptions}
use Rattle.leaves.specs.Formats.{bytes_per_pixel, bits_per_pixel, is_indexed, blue_first, is_rgb565, plain_token}
use Rattle.format.specs.declared.layout.Mode.{Mode}
use Rattle.format.specs.declared.layout.Mode.TheVariants.{Masked, Calibrated, Profiled, Plain}
use Rattle.format.specs.declared.layout.Layout.{Layout}
use Rattle.leaves.specs.Masks.{count, lowest, has_alpha_mask, mask_compression}
use Rattle.leaves.specs.Refusals.{profile_mode}
use Rattle.leaves.specs.Sizes.{row_stride, written_palette_entries}
use Rattle.leaves.specs.Options.{bitfields_in, calibrated_in}
use Rattle.rows.specs.declared.masks.MaskLayout.{MaskLayout}
use Rattle.rows.specs.declared.pack.RowPack.{RowPack}
use Rattle.rows.specs.declared.pack.RowPack.TheVariants as pack
use Rattle.rows.specs.declared.rle.Rle.{Rle}
use Rattle.rows.specs.declared.rle.Rle.TheVariants.{Rle8, Rle4}
use Rattle.format.specs.Headers.{dwords, v4_fields, v5_fields, longs}

-- ---- modes

-- "masks, calibrated colour, profile": of a call that 5 lets pass at most one is given, and without one the head is plain
unfoldable pub mode_of : EncodeSource → EncodeOptions → Mode
mode_of s o =
    cond (is_some o.bitfields) Masked
    (cond (is_some o.calibrated_rgb) Calibrated
    (cond (profile_mode s.has_linked_icc s.has_icc o.embed_icc) Profiled Plain))

abbrev pub is_masked : Mode → Bool
is_masked Masked = true
is_masked Calibrated = false
is_masked Profiled = false
is_masked Plain = false

abbrev pub is_profiled : Mode → Bool
is_profiled Masked = false
is_profiled Calibrated = false
is_profiled Profiled = true
is_profiled Plain = false

abbrev pub is_plain : Mode → Bool
is_plain Masked = false
is_plain Calibrated = false
is_plain Profiled = false
is_plain Plain = true

-- "The profile tail is the linked blob if there is one, otherwise the embedded blob"
unfoldable pub tail_in : Mode → Bool → List ℕ → List ℕ → List ℕ
tail_in mode given icc linked = cond (is_profiled mode) (cond given linked icc) []

-- ---- cells

-- "Masks: .. depth": the masks' own depth, and else the source's
unfoldable pub depth_of : EncodeSource → EncodeOptions → ℕ
depth_of s o = cond (is_some o.bitfields) (bitfields_in o).bpp (bits_per_pixel s.format)

-- a mask's place, 0 for a zero mask, and its count of ones
abbrev pub channel_of : ℕ → MaskShiftLen
channel_of mask = record { shift = cond (eqb mask 0) 0 (lowest mask); len = count mask }

unfoldable pub channels_of : ℕ → List ℕ → MaskLayout
channels_of depth masks =
    record {
      bpp = depth;
      r = channel_of (get_or masks 0 0);
      g = channel_of (get_or masks 1 0);
      b = channel_of (get_or masks 2 0);
      a = channel_of (get_or masks 3 0);
    }

-- how the rows of a source are stored without masks
abbrev pub plain_pack : BmpPixelFormat → RowPack
plain_pack source.Rgba = pack.Bgra32 false
plain_pack source.Rgb24 = pack.Bgr24 false
plain_pack source.Bgra = pack.Bgra32 true
plain_pack source.Bgr24 = pack.Bgr24 true
plain_pack source.Rgb555 = pack.Words16
plain_pack source.Rgb565 = pack.Words16
plain_pack source.Pal8 = pack.Indexed 8
plain_pack source.Indexed4 = pack.Indexed 4
plain_pack source.Indexed2 = pack.Indexed 2
plain_pack source.Indexed1 = pack.Indexed 1

-- and with masks
abbrev pub mask_pack : BmpPixelFormat → ℕ → List ℕ → RowPack
mask_pack f depth masks = pack.Masks (bytes_per_pixel f) (blue_first f) (channels_of depth masks)

-- the masks decide where they are given, and else the source
unfoldable pub pack_of : EncodeSource → EncodeOptions → RowPack
pack_of s o = cond (is_some o.bitfields) (mask_pack s.format (bitfields_in o).bpp (bitfields_in o).masks) (plain_pack s.format)

-- ---- the colour table

-- entries written for a palette of so many bytes: none for direct colour
unfoldable pub table_entries : BmpPixelFormat → ℕ → Bool → ℕ
table_entries f palette_bytes minimal = cond (is_indexed f) (written_palette_entries (bits_per_pixel f) (palette_bytes / 4) minimal) 0

-- ---- the head

-- "all with the 40-byte header. Rgb565 has the 108-byte header ..": biSize
abbrev pub header_size_of : Mode → BmpPixelFormat → ℕ
header_size_of Masked f = 40
header_size_of Calibrated f = 108
header_size_of Profiled f = 124
header_size_of Plain f = cond (is_rgb565 f) 108 40

-- the masks of the longer headers: those of Rgb565; "32-bit rows have .. masks 0, 0, 0, FF000000 (hexadecimal)"
abbrev pub long_masks : BmpPixelFormat → List ℕ
long_masks source.Rgba = 0 ∷ 0 ∷ 0 ∷ 0xFF000000 ∷ []
long_masks source.Rgb24 = replicate 4 0
long_masks source.Bgra = 0 ∷ 0 ∷ 0 ∷ 0xFF000000 ∷ []
long_masks source.Bgr24 = replicate 4 0
long_masks source.Rgb555 = replicate 4 0
long_masks source.Rgb565 = 0xF800 ∷ 0x07E0 ∷ 0x001F ∷ 0 ∷ []
long_masks source.Pal8 = replicate 4 0
long_masks source.Indexed4 = replicate 4 0
long_masks source.Indexed2 = replicate 4 0
long_masks source.Indexed1 = replicate 4 0

-- "three masks and compression 3, or with a nonzero alpha mask four and compression 6"
unfoldable pub mask_tail : List ℕ → List ℕ
mask_tail masks = dwords (get_or masks 0 0 ∷ get_or masks 1 0 ∷ get_or masks 2 0 ∷ cond (has_alpha_mask masks) (get_or masks 3 0 ∷ []) [])

-- what stands between the first 40 bytes of the info header and the colour table, of a profile of `size` bytes that begins `at` bytes after the
-- info header's start
unfoldable pub head_rest : Mode → EncodeSource → EncodeOptions → ℕ → ℕ → List ℕ
head_rest Masked s o size at = mask_tail (bitfields_in o).masks
head_rest Calibrated s o size at = v4_fields (long_masks s.format) 0 (longs (calibrated_in o).endpoints) (calibrated_in o).gamma
head_rest Profiled s o size at =
    v4_fields (long_masks s.format) (cond s.has_linked_icc 0x4C494E4B 0x4D424544) (replicate 9 0) (replicate 3 0)
    ++ v5_fields o.rendering_intent at size
head_rest Plain s o size at = cond (is_rgb565 s.format) (v4_fields (long_masks s.format) 0x73524742 (replicate 9 0) (replicate 3 0)) []

-- "The head is everything before the pixels"
unfoldable pub head_len : EncodeSource → EncodeOptions → ℕ → ℕ
head_len s o palette_bytes = 14 + 40 + length (head_rest (mode_of s o) s o 0 0) + 4 * table_entries s.format palette_bytes o.minimal_palette

-- "the raw bytes are the stored row's length × height"
unfoldable pub raw_len : EncodeSource → EncodeOptions → ℕ
raw_len s o = row_stride s.width (depth_of s o) * s.height

-- compression and format of stored rows: "The format answered is `plain_token`'s for the source, .. and Bitfields or, with a nonzero alpha mask,
-- AlphaBitfields in mask mode"
abbrev pub plain_compression : BmpPixelFormat → ℕ
plain_compression f = cond (is_rgb565 f) 3 0

unfoldable pub rows_compression : EncodeSource → EncodeOptions → ℕ
rows_compression s o = cond (is_some o.bitfields) (mask_compression (bitfields_in o).masks) (plain_compression s.format)

abbrev pub mask_format : List ℕ → EncodedBmpFormat
mask_format masks = cond (has_alpha_mask masks) AlphaBitfields Bitfields

unfoldable pub rows_format : EncodeSource → EncodeOptions → EncodedBmpFormat
rows_format s o = cond (is_some o.bitfields) (mask_format (bitfields_in o).masks) (plain_token s.format)

-- ---- the stream

-- the depths that have a coding (the pages: BI_RLE8 for 8 bits per pixel, BI_RLE4 for 4)
abbrev pub coding_at : ℕ → Option Rle
coding_at depth = cond (eqb depth 8) (Some Rle8) (cond (eqb depth 4) (Some Rle4) None)

-- whether a source's indices have one
abbrev pub coded : BmpPixelFormat → Bool
coded f = is_some (coding_at (bits_per_pixel f))

-- "RLE is planned for plain Pal8 and Indexed4 if the option is on and the picture isn't top-down"
unfoldable pub wants_rle : EncodeSource → EncodeOptions → Bool
wants_rle s o = is_plain (mode_of s o) && coded s.format && o.rle && not o.top_down

-- what is tried before the rows are stored
unfoldable pub coding_of : EncodeSource → EncodeOptions → Option Rle
coding_of s o = cond (wants_rle s o) (coding_at (bits_per_pixel s.format)) None

-- ---- the layout

-- all of it, for a palette of so many bytes
unfoldable pub layout_of : EncodeSource → EncodeOptions → ℕ → Layout
layout_of s o palette_bytes =
    record {
      mode = mode_of s o;
      header_size = header_size_of (mode_of s o) s.format;
      bit_count = depth_of s o;
      entries = table_entries s.format palette_bytes o.minimal_palette;
      coding = coding_of s o;
      pack = pack_of s o;
      compression = rows_compression s o;
      format = rows_format s o;
    }
