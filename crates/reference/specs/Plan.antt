-- The plan, its sizes and its writing (encoder.rs, section "The file plan"), and `encode_source`.
use Rattle.std.specs.Prelude.{ℕ, ◌-◌, ◌^◌, min, max, Bool, true, false, not, cond, ◌&&◌, ◌||◌, List, [], ◌∷◌, ltb, leb, eqb, length, replicate}
use Rattle.leaves.specs.declared.image.BmpPixelFormat.{BmpPixelFormat}
use Rattle.leaves.specs.declared.image.BmpPixelFormat.TheVariants as source
use Rattle.leaves.specs.declared.encoder.EncodedBmpFormat.{EncodedBmpFormat}
use Rattle.leaves.specs.declared.encoder.EncodedBmpFormat.TheVariants as written
use Rattle.leaves.specs.declared.options.CalibratedRgb.{CalibratedRgb}
use Rattle.reference.specs.Rust.{Error, zero_dimension, requires_palette, mutually_exclusive, pixel_array_overflows, file_overflows, over_limit, not_addressable, rle_over_limit, Run, done, fails, ◌>>=◌, ◌>>◌, Option, some, none, fail_if, ok_or, is_some, u32, u64, usize, add, sub, mul, cast, checked_add, checked_mul, saturating_sub, clamp, negated, to_le_bytes, range, within, copy_from_slice, assert_equal, extend, reserve, truncate, resize}
use Rattle.reference.specs.Types.{BmpBitfields, Palette, EncodeSource, EncodeOptions, bytes_per_pixel, bits_per_pixel, is_indexed, blue_first, plain_token}
use Rattle.reference.specs.Bitfields.{has_alpha, masks_compression, validate}
use Rattle.reference.specs.Packing.{RowPack, Bgra32, Bgr24, Words16, Indexed, pack_masks, Rows, new_rows, pack_all}
use Rattle.reference.specs.Rle.{Rle, Rle8, Rle4, rle_compression, rle_format, rle_slack, rle_into}
use Rattle.reference.specs.Headers.{extend_all, palette_entry_count, write_file_header, write_dib_header_v3, write_color_table, write_dib_header_v3_indexed, write_dib_header_v4_bitfields, write_dib_header_v4_calibrated, write_dib_header_v5_with_profile, write_dib_header_v5_indexed_with_profile}

-- ---- heads

-- struct ColourHeader<'a>
pub record ColourHeader : Type 0 where
  pub bpp : ℕ
  pub compression : ℕ
  pub masks : List ℕ
  pub table : Option (Palette × ℕ)

-- enum Head<'a>
pub data Head : Type 0 where
  -- bpp
  V3 : ℕ → Head
  V3Masks : BmpBitfields → Head
  -- bpp, palette, entries, rle
  V3Indexed : ℕ → Palette → ℕ → Option Rle → Head
  V4Rgb565 : Head
  V4Calibrated : ColourHeader → CalibratedRgb → Head
  -- header, cs_type, intent, blob
  V5Profile : ColourHeader → ℕ → ℕ → List ℕ → Head

-- fn written_palette_entries(bpp: u16, palette: &Palette, options: &EncodeOptions) -> usize
unfoldable pub written_palette_entries : ℕ → Palette → EncodeOptions → Run ℕ
written_palette_entries bpp palette options =
    let full = palette_entry_count bpp in
    cond options.minimal_palette (clamp (length palette.entries) 1 full) (done full)

-- (entries * 4) as u32
unfoldable pub entry_bytes : ℕ → Run ℕ
entry_bytes entries = mul usize entries 4 >>= λ bytes. done (cast u32 bytes)

-- fn table_bytes(&self) -> u32
unfoldable pub table_bytes_of : Option (Palette × ℕ) → Run ℕ
table_bytes_of none = done 0
table_bytes_of (some (palette, entries)) = entry_bytes entries

-- fn clr_used(&self) -> u32
unfoldable pub clr_used_of : ℕ → Option (Palette × ℕ) → ℕ
clr_used_of bpp none = 0
clr_used_of bpp (some (palette, entries)) = cond (ltb entries (palette_entry_count bpp)) (cast u32 entries) 0

-- fn write_table(&self, out: &mut Vec<u8>)
unfoldable pub write_table : Option (Palette × ℕ) → List ℕ → Run (List ℕ)
write_table none out = done out
write_table (some (palette, entries)) out = write_color_table out palette entries

-- the header's bytes in Head::len
unfoldable pub header_len : Head → Run ℕ
header_len (V3 bpp) = done 40
header_len (V3Masks masks) = add u32 40 (cond (has_alpha masks) 16 12)
header_len (V3Indexed bpp palette entries rle) = entry_bytes entries >>= add u32 40
header_len V4Rgb565 = done 108
header_len (V4Calibrated header cal) = table_bytes_of header.table >>= add u32 108
header_len (V5Profile header cs_type intent blob) = table_bytes_of header.table >>= add u32 124

-- fn len(&self) -> u32
unfoldable pub head_len : Head → Run ℕ
head_len self = header_len self >>= add u32 14

-- ---- sizes

-- struct Sizes
pub record Sizes : Type 0 where
  pub head : ℕ
  pub raw : ℕ
  pub file : ℕ
  pub file_fits : Bool
  pub rle_budget : Option ℕ
  pub bound : ℕ
  pub limit : ℕ

-- (rle_budget, bound) of Sizes::new
unfoldable pub budget_and_bound : ℕ → ℕ → ℕ → Bool → Option ℕ → ℕ → Run (Option ℕ × ℕ)
budget_and_bound head raw file file_fits_of none limit = do
  fail_if (not file_fits_of) over_limit
  done (none, file)
budget_and_bound head raw file file_fits_of (some slack) limit = do
  above ← add u64 limit 1
  let budget = min raw (saturating_sub above head)
  let fallback = cond file_fits_of raw 0
  probe ← ok_or (checked_add u64 budget slack) file_overflows
  bound ← ok_or (checked_add u64 (max probe fallback) head) file_overflows
  done (some budget, bound)

-- fn new(head: u64, raw: u64, tail: u64, rle_slack: Option<u64>, limit: u64, addressable: u64) -> Result<Self>
unfoldable pub new_sizes : ℕ → ℕ → ℕ → Option ℕ → ℕ → ℕ → Run Sizes
new_sizes head raw tail slack limit addressable = do
  body ← ok_or (checked_add u64 head raw) file_overflows
  file ← ok_or (checked_add u64 body tail) file_overflows
  let file_fits_of = leb file limit
  (budget, bound) ← budget_and_bound head raw file file_fits_of slack limit
  fail_if (ltb addressable bound) not_addressable
  done (record { head = head; raw = raw; file = file; file_fits = file_fits_of; rle_budget = budget; bound = bound; limit = limit })

-- (tail, slack) of Sizes::of
unfoldable pub tail_and_slack : Head → Rows → Run (ℕ × Option ℕ)
tail_and_slack (V3 bpp) rows = done (0, none)
tail_and_slack (V3Masks masks) rows = done (0, none)
tail_and_slack (V3Indexed bpp palette entries none) rows = done (0, none)
tail_and_slack (V3Indexed bpp palette entries (some rle)) rows = rle_slack rows.width >>= λ slack. done (0, some slack)
tail_and_slack V4Rgb565 rows = done (0, none)
tail_and_slack (V4Calibrated header cal) rows = done (0, none)
tail_and_slack (V5Profile header cs_type intent blob) rows = done (length blob, none)

-- fn of(head: &Head<'_>, rows: &Rows<'_>, limit: u64) -> Result<Self>
unfoldable pub sizes_of : Head → Rows → ℕ → Run Sizes
sizes_of head rows limit = do
  raw ← ok_or (checked_mul u64 rows.stride rows.height) pixel_array_overflows
  (tail, slack) ← tail_and_slack head rows
  len ← head_len head
  new_sizes len raw tail slack limit (2 ^ usize - 1)

-- ---- the plan

-- const MAX_FILE: u64 = u32::MAX as u64
abbrev pub max_file : ℕ
max_file = 2 ^ 32 - 1

-- struct Plan<'a>
pub record Plan : Type 0 where
  pub head : Head
  pub rows : Rows
  pub width : ℕ
  pub height : ℕ
  pub format : EncodedBmpFormat
  pub sizes : Sizes

-- fn assemble(src: &EncodeSource<'a>, head: Head<'a>, rows: Rows<'a>) -> Result<Self>
unfoldable pub assemble : EncodeSource → Head → Rows → Run Plan
assemble src head rows = do
  sizes ← sizes_of head rows max_file
  done (record { head = head; rows = rows; width = src.width; height = src.height; format = plain_token src.format; sizes = sizes })

-- RowPack::bgra32 and RowPack::bgr24
abbrev pub pack_bgra32 : BmpPixelFormat → RowPack
pack_bgra32 format = Bgra32 (bytes_per_pixel format) (blue_first format)

abbrev pub pack_bgr24 : BmpPixelFormat → RowPack
pack_bgr24 format = Bgr24 (bytes_per_pixel format) (blue_first format)

-- match format { Pal8 => Some(Rle8), Indexed4 => Some(Rle4), _ => None }
abbrev pub rle_in : BmpPixelFormat → Option Rle
rle_in source.Rgba = none
rle_in source.Bgra = none
rle_in source.Rgb24 = none
rle_in source.Bgr24 = none
rle_in source.Rgb555 = none
rle_in source.Rgb565 = none
rle_in source.Pal8 = some Rle8
rle_in source.Indexed4 = some Rle4
rle_in source.Indexed2 = none
rle_in source.Indexed1 = none

-- rle.filter(|_| options.rle && !options.top_down)
abbrev pub rle_for : BmpPixelFormat → EncodeOptions → Option Rle
rle_for format options = cond (options.rle && not options.top_down) (rle_in format) none

-- the indexed arm of Plan::plain
unfoldable pub plain_indexed : EncodeSource → EncodeOptions → Run (Head × RowPack)
plain_indexed src options = do
  let bpp = bits_per_pixel src.format
  palette ← ok_or src.palette requires_palette
  entries ← written_palette_entries bpp palette options
  done (V3Indexed bpp palette entries (rle_for src.format options), Indexed bpp)

-- (head, pack) of Plan::plain
unfoldable pub plain_head : BmpPixelFormat → EncodeSource → EncodeOptions → Run (Head × RowPack)
plain_head source.Rgba src options = done (V3 32, pack_bgra32 source.Rgba)
plain_head source.Bgra src options = done (V3 32, pack_bgra32 source.Bgra)
plain_head source.Rgb24 src options = done (V3 24, pack_bgr24 source.Rgb24)
plain_head source.Bgr24 src options = done (V3 24, pack_bgr24 source.Bgr24)
plain_head source.Rgb555 src options = done (V3 16, Words16)
plain_head source.Rgb565 src options = done (V4Rgb565, Words16)
plain_head source.Pal8 src options = plain_indexed src options
plain_head source.Indexed4 src options = plain_indexed src options
plain_head source.Indexed2 src options = plain_indexed src options
plain_head source.Indexed1 src options = plain_indexed src options

-- fn plain(src: &EncodeSource<'a>, options: &EncodeOptions) -> Result<Self>
unfoldable pub plain : EncodeSource → EncodeOptions → Run Plan
plain src options = do
  (head, pack) ← plain_head src.format src options
  rows ← new_rows src.plane pack src.width src.height options.top_down
  assemble src head rows

-- fn bitfields(src: &EncodeSource<'a>, masks: BmpBitfields, options: &EncodeOptions) -> Result<Self>
unfoldable pub plan_bitfields : EncodeSource → BmpBitfields → EncodeOptions → Run Plan
plan_bitfields src masks options = do
  validate masks
  pack ← pack_masks src.format masks
  rows ← new_rows src.plane pack src.width src.height options.top_down
  plan ← assemble src (V3Masks masks) rows
  done (record { head = plan.head; rows = plan.rows; width = plan.width; height = plan.height; format = cond (has_alpha masks) written.AlphaBitfields written.Bitfields; sizes = plan.sizes })

-- the indexed arm of Plan::colour_rows
unfoldable pub colour_indexed : EncodeSource → EncodeOptions → Run (RowPack × ColourHeader)
colour_indexed src options = do
  let bpp = bits_per_pixel src.format
  palette ← ok_or src.palette requires_palette
  entries ← written_palette_entries bpp palette options
  done (Indexed bpp, record { bpp = bpp; compression = 0; masks = replicate 4 0; table = some (palette, entries) })

-- (pack, bpp, compression, masks, table) of Plan::colour_rows
unfoldable pub colour_head : BmpPixelFormat → EncodeSource → EncodeOptions → Run (RowPack × ColourHeader)
colour_head source.Rgba src options = done (pack_bgra32 source.Rgba, record { bpp = 32; compression = 0; masks = 0 ∷ 0 ∷ 0 ∷ 0xFF000000 ∷ []; table = none })
colour_head source.Bgra src options = done (pack_bgra32 source.Bgra, record { bpp = 32; compression = 0; masks = 0 ∷ 0 ∷ 0 ∷ 0xFF000000 ∷ []; table = none })
colour_head source.Rgb24 src options = done (pack_bgr24 source.Rgb24, record { bpp = 24; compression = 0; masks = replicate 4 0; table = none })
colour_head source.Bgr24 src options = done (pack_bgr24 source.Bgr24, record { bpp = 24; compression = 0; masks = replicate 4 0; table = none })
colour_head source.Rgb555 src options = done (Words16, record { bpp = 16; compression = 0; masks = replicate 4 0; table = none })
colour_head source.Rgb565 src options = done (Words16, record { bpp = 16; compression = 3; masks = 0xF800 ∷ 0x07E0 ∷ 0x001F ∷ 0 ∷ []; table = none })
colour_head source.Pal8 src options = colour_indexed src options
colour_head source.Indexed4 src options = colour_indexed src options
colour_head source.Indexed2 src options = colour_indexed src options
colour_head source.Indexed1 src options = colour_indexed src options

-- fn colour_rows(src: &EncodeSource<'a>, options: &EncodeOptions) -> Result<(Rows<'a>, ColourHeader<'a>)>
unfoldable pub colour_rows : EncodeSource → EncodeOptions → Run (Rows × ColourHeader)
colour_rows src options = do
  (pack, header) ← colour_head src.format src options
  rows ← new_rows src.plane pack src.width src.height options.top_down
  done (rows, header)

-- usize::from(b)
abbrev pub from_bool : Bool → ℕ
from_bool true = 1
from_bool false = 0

-- (blob, cs_type): a linked profile takes precedence over an embedded one
abbrev pub profile_of : Option (List ℕ) → Option (List ℕ) → Option (List ℕ × ℕ)
profile_of (some path) embedded = some (path, 0x4C494E4B)
profile_of none (some icc) = some (icc, 0x4D424544)
profile_of none none = none

-- the rest of Plan::new after `requested`, by the options given
unfoldable pub plan_for : EncodeSource → EncodeOptions → Option BmpBitfields → Option CalibratedRgb → Option (List ℕ × ℕ) → Run Plan
plan_for src options (some masks) calibrated profile = plan_bitfields src masks options
plan_for src options none (some cal) profile = do
  (rows, header) ← colour_rows src options
  assemble src (V4Calibrated header cal) rows
plan_for src options none none (some (blob, cs_type)) = do
  (rows, header) ← colour_rows src options
  assemble src (V5Profile header cs_type options.rendering_intent blob) rows
plan_for src options none none none = plain src options

-- fn new(src: &EncodeSource<'a>, options: &'a EncodeOptions) -> Result<Self>
unfoldable pub new_plan : EncodeSource → EncodeOptions → Run Plan
new_plan src options = do
  fail_if (eqb src.width 0 || eqb src.height 0) zero_dimension
  fail_if (is_indexed src.format && not (is_some src.palette)) requires_palette
  let embedded = cond options.embed_icc src.icc none
  let v5 = is_some options.linked_icc || is_some embedded
  both ← add usize (from_bool (is_some options.bitfields)) (from_bool (is_some options.calibrated_rgb))
  requested ← add usize both (from_bool v5)
  fail_if (ltb 1 requested) mutually_exclusive
  plan_for src options options.bitfields options.calibrated_rgb (profile_of options.linked_icc embedded)

-- fn with_limit(mut self, limit: u64) -> Result<Self>
unfoldable pub with_limit : Plan → ℕ → Run Plan
with_limit self limit = do
  sizes ← sizes_of self.head self.rows limit
  done (record { head = self.head; rows = self.rows; width = self.width; height = self.height; format = self.format; sizes = sizes })

-- ---- writing

-- fn signed_stored_height(h: u32, top_down: bool) -> i32
unfoldable pub signed_stored_height : ℕ → Bool → Run ℕ
signed_stored_height h is_top_down = cond is_top_down (negated (cast u32 h)) (done (cast u32 h))

-- the V3Masks arm of write_head
unfoldable pub write_masks : BmpBitfields → List ℕ → List ℕ
write_masks masks out =
    let three = extend_all out (to_le_bytes 4 masks.r ∷ to_le_bytes 4 masks.g ∷ to_le_bytes 4 masks.b ∷ []) in
    cond (has_alpha masks) (extend three (to_le_bytes 4 masks.a)) three

-- the arms of write_head, after the file header
unfoldable pub write_header : Head → List ℕ → ℕ → ℕ → ℕ → ℕ → Run (List ℕ)
write_header (V3 bpp) out w h pixel_offset pixel_bytes = done (write_dib_header_v3 out w h bpp 0 0)
write_header (V3Masks masks) out w h pixel_offset pixel_bytes = done (write_masks masks (write_dib_header_v3 out w h masks.bpp (masks_compression masks) 0))
write_header (V3Indexed bpp palette entries rle) out w h pixel_offset pixel_bytes = write_dib_header_v3_indexed out w h bpp 0 palette entries
write_header V4Rgb565 out w h pixel_offset pixel_bytes = write_dib_header_v4_bitfields out w h
write_header (V4Calibrated header cal) out w h pixel_offset pixel_bytes = do
  headed ← write_dib_header_v4_calibrated out w h header.bpp pixel_bytes header.compression header.masks (clr_used_of header.bpp header.table) cal.endpoints cal.gamma
  write_table header.table headed
write_header (V5Profile header cs_type intent blob) out w h pixel_offset pixel_bytes = do
  dib ← sub pixel_offset 14
  profile_data ← add u32 dib pixel_bytes
  let profile_size = cast u32 (length blob)
  headed ← cond (is_some header.table)
      (done (write_dib_header_v5_indexed_with_profile out w h header.bpp pixel_bytes (clr_used_of header.bpp header.table) cs_type intent profile_data profile_size))
      (write_dib_header_v5_with_profile out w h header.bpp pixel_bytes header.compression header.masks cs_type intent profile_data profile_size)
  write_table header.table headed

-- fn write_head(&self, out: &mut Vec<u8>, file_size: u32, pixel_bytes: u32)
unfoldable pub write_head : Plan → List ℕ → ℕ → ℕ → Run (List ℕ)
write_head self out file_size_of pixel_bytes = do
  pixel_offset ← head_len self.head
  h ← signed_stored_height self.height self.rows.top_down
  write_header self.head (write_file_header out file_size_of pixel_offset) self.width h pixel_offset pixel_bytes

-- fn patch_rle_head(file: &mut [u8], file_size: usize, rle: Rle)
unfoldable pub patch_rle_head : List ℕ → ℕ → Rle → Run (List ℕ)
patch_rle_head file file_size_of rle = do
  size ← range file 14 18
  assert_equal size (to_le_bytes 4 40)
  sized ← within file 2 6 λ part. copy_from_slice part (to_le_bytes 4 (cast u32 file_size_of))
  within sized 30 34 λ part. copy_from_slice part (to_le_bytes 4 (rle_compression rle))

-- Ok(format) or Err(e), and `out` as it is left
pub data Appended : Type 0 where
  wrote : EncodedBmpFormat → List ℕ → Appended
  refused : Error → List ℕ → Appended

-- fn tail(&self) -> &'a [u8]
abbrev pub tail : Head → List ℕ
tail (V3 bpp) = []
tail (V3Masks masks) = []
tail (V3Indexed bpp palette entries rle) = []
tail V4Rgb565 = []
tail (V4Calibrated header cal) = []
tail (V5Profile header cs_type intent blob) = blob

-- write_into from `let pixels = out.len();` on
unfoldable pub write_pixels : Plan → List ℕ → Run Appended
write_pixels self out = do
  let pixels = length out
  end ← add usize pixels (cast usize self.sizes.raw)
  let grown = resize out end
  packed ← within grown pixels (length grown) (pack_all self.rows)
  done (wrote self.format (extend packed (tail self.head)))

-- the RLE stream of a V3 indexed head with a budget
abbrev pub probed : Head → Option ℕ → Option (Rle × ℕ)
probed (V3 bpp) budget = none
probed (V3Masks masks) budget = none
probed (V3Indexed bpp palette entries none) budget = none
probed (V3Indexed bpp palette entries (some rle)) none = none
probed (V3Indexed bpp palette entries (some rle)) (some budget) = some (rle, budget)
probed V4Rgb565 budget = none
probed (V4Calibrated header cal) budget = none
probed (V5Profile header cs_type intent blob) budget = none

unfoldable pub write_probed : Plan → List ℕ → Option (Rle × ℕ) → Run Appended
write_probed self out none = write_head self out (cast u32 self.sizes.file) (cast u32 self.sizes.raw) >>= write_pixels self
write_probed self out (some (rle, budget)) = do
  let start = length out
  let provisional = cond self.sizes.file_fits (cast u32 self.sizes.file) 0
  headed ← write_head self out provisional 0
  probe ← rle_into self.rows rle (cast usize budget) headed
  cond probe.kept
      (do
        size ← sub (length probe.out) start
        patched ← within probe.out start (length probe.out) (λ file. patch_rle_head file size rle)
        done (wrote (rle_format rle) patched))
      (cond (not self.sizes.file_fits) (done (refused rle_over_limit (truncate probe.out start))) (write_pixels self probe.out))

-- fn write_into(&self, out: &mut Vec<u8>) -> Result<EncodedBmpFormat>
unfoldable pub write_into : Plan → List ℕ → Run Appended
write_into self out = do
  reserved ← reserve out (cast usize self.sizes.bound)
  write_probed self reserved (probed self.head self.sizes.rle_budget)

-- `plan.write_into(&mut out)?`, with what it has appended
abbrev pub appended : Appended → Run (List ℕ × EncodedBmpFormat)
appended (wrote format out) = done (out, format)
appended (refused e out) = fails e

-- pub(crate) fn encode_source(src: &EncodeSource<'_>, options: &EncodeOptions) -> Result<(Vec<u8>, EncodedBmpFormat)>; shrink_to_fit changes no byte
unfoldable pub encode_source : EncodeSource → EncodeOptions → Run (List ℕ × EncodedBmpFormat)
encode_source src options = do
  plan ← new_plan src options
  answer ← write_into plan []
  appended answer
