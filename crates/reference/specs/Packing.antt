-- Source rows and how they are packed (encoder.rs, section "Pixel-packing helpers").
use Rattle.std.specs.Prelude.{ℕ, ◌+◌, ◌*◌, ◌/◌, ◌%◌, min, Bool, cond, List, ltb, eqb, length}
use Rattle.std.specs.Int.Bits.{bit_and, bit_or}
use Rattle.leaves.specs.declared.image.BmpPixelFormat.{BmpPixelFormat}
use Rattle.leaves.specs.declared.image.BmpPixelFormat.TheVariants as source
use Rattle.reference.specs.Rust.{bitfields_source, plane_truncated, stride_below_row, Run, done, fails, ◌>>=◌, ◌>>◌, fail_if, u8, u32, usize, add, sub, mul, div, shl, saturating_mul, to_le_bytes, at, store, range, within, copy_from_slice, for}
use Rattle.reference.specs.Types.{BmpBitfields, PlaneRef, bytes_per_pixel, blue_first}
use Rattle.reference.specs.Bitfields.{mask_shift_len, quantise}

-- struct MaskLayout: each channel's shift and length
pub record MaskLayout : Type 0 where
  pub bpp : ℕ
  pub r : ℕ × ℕ
  pub g : ℕ × ℕ
  pub b : ℕ × ℕ
  pub a : ℕ × ℕ

-- enum RowPack
pub data RowPack : Type 0 where
  -- in_bpp, bgr
  Bgra32 : ℕ → Bool → RowPack
  Bgr24 : ℕ → Bool → RowPack
  Words16 : RowPack
  -- bpp
  Indexed : ℕ → RowPack
  -- in_bpp, bgr, layout
  Masks : ℕ → Bool → MaskLayout → RowPack

-- pub fn row_stride(width_px: usize, bpp: usize) -> usize
unfoldable pub row_stride : ℕ → ℕ → Run ℕ
row_stride width bpp = do
  bits ← mul usize width bpp
  mul usize ((bits + 31) / 32) 4

-- fn new(masks: BmpBitfields) -> Self
unfoldable pub new_layout : BmpBitfields → Run MaskLayout
new_layout masks = do
  r ← mask_shift_len masks.r
  g ← mask_shift_len masks.g
  b ← mask_shift_len masks.b
  a ← mask_shift_len masks.a
  done (record { bpp = masks.bpp; r = r; g = g; b = b; a = a })

-- fn masks(format: BmpPixelFormat, masks: BmpBitfields) -> Result<Self>
unfoldable pub pack_masks : BmpPixelFormat → BmpBitfields → Run RowPack
pack_masks source.Rgba masks = new_layout masks >>= λ layout. done (Masks (bytes_per_pixel source.Rgba) (blue_first source.Rgba) layout)
pack_masks source.Rgb24 masks = new_layout masks >>= λ layout. done (Masks (bytes_per_pixel source.Rgb24) (blue_first source.Rgb24) layout)
pack_masks source.Bgra masks = new_layout masks >>= λ layout. done (Masks (bytes_per_pixel source.Bgra) (blue_first source.Bgra) layout)
pack_masks source.Bgr24 masks = new_layout masks >>= λ layout. done (Masks (bytes_per_pixel source.Bgr24) (blue_first source.Bgr24) layout)
pack_masks source.Rgb555 masks = fails bitfields_source
pack_masks source.Rgb565 masks = fails bitfields_source
pack_masks source.Pal8 masks = fails bitfields_source
pack_masks source.Indexed4 masks = fails bitfields_source
pack_masks source.Indexed2 masks = fails bitfields_source
pack_masks source.Indexed1 masks = fails bitfields_source

-- fn bits_per_pixel(&self) -> usize
abbrev pub pack_bits : RowPack → ℕ
pack_bits (Bgra32 n bgr) = 32
pack_bits (Bgr24 n bgr) = 24
pack_bits Words16 = 16
pack_bits (Indexed bpp) = bpp
pack_bits (Masks n bgr layout) = layout.bpp

-- fn source_bytes(&self) -> usize
abbrev pub source_bytes : RowPack → ℕ
source_bytes (Bgra32 n bgr) = n
source_bytes (Bgr24 n bgr) = n
source_bytes Words16 = 2
source_bytes (Indexed bpp) = 1
source_bytes (Masks n bgr layout) = n

-- ---- one row

-- for (d, s) in dst.as_chunks_mut::<m>().0.iter_mut().zip(src's chunks of n) { body }
unfoldable pub zip_chunks : ℕ → ℕ → (List ℕ → List ℕ → Run (List ℕ)) → List ℕ → List ℕ → Run (List ℕ)
zip_chunks m n body src dst =
    for (min (length dst / m) (length src / n)) (λ k d. within d (k * m) (k * m + m) λ chunk. range src (k * n) (k * n + n) >>= body chunk) dst

-- d[0] = s[2]; d[1] = s[1]; d[2] = s[0];
unfoldable pub exchanged : List ℕ → List ℕ → Run (List ℕ)
exchanged d s = do
  d ← store d 0 (← at s 2)
  d ← store d 1 (← at s 1)
  store d 2 (← at s 0)

-- d[..3].copy_from_slice(&s[..3]);
unfoldable pub copied3 : List ℕ → List ℕ → Run (List ℕ)
copied3 d s = do
  three ← range s 0 3
  within d 0 3 λ part. copy_from_slice part three

-- d[3] = v;
unfoldable pub with_alpha : Run (List ℕ) → ℕ → Run (List ℕ)
with_alpha d v = d >>= λ d. store d 3 v

unfoldable pub row_bgra32 : ℕ → Bool → List ℕ → List ℕ → Run (List ℕ)
row_bgra32 n bgr src dst =
    cond (eqb n 4)
    (cond bgr (within dst 0 (length src) λ part. copy_from_slice part src) (zip_chunks 4 4 (λ d s. at s 3 >>= with_alpha (exchanged d s)) src dst))
    (cond bgr (zip_chunks 4 3 (λ d s. with_alpha (copied3 d s) 0xFF) src dst) (zip_chunks 4 3 (λ d s. with_alpha (exchanged d s) 0xFF) src dst))

unfoldable pub row_bgr24 : ℕ → Bool → List ℕ → List ℕ → Run (List ℕ)
row_bgr24 n bgr src dst = do
  cells ← div (length src) n
  used ← mul usize cells 3
  within dst 0 used (zip_chunks 3 n (cond bgr copied3 exchanged) src)

-- dst[i] |= v;
unfoldable pub or_at : List ℕ → ℕ → ℕ → Run (List ℕ)
or_at dst i v = do
  old ← at dst i
  store dst i (bit_or old v)

-- the turns of pack_indices' loops
unfoldable pub index4 : List ℕ → ℕ → List ℕ → Run (List ℕ)
index4 src x dst = do
  byte ← at src x
  let idx = bit_and byte 0x0F
  cond (eqb (bit_and x 1) 0) (shl u8 idx 4 >>= store dst (x / 2)) (or_at dst (x / 2) idx)

unfoldable pub index2 : List ℕ → ℕ → List ℕ → Run (List ℕ)
index2 src x dst = do
  byte ← at src x
  let idx = bit_and byte 0x03
  pairs ← mul usize 2 (x % 4)
  shift ← sub 6 pairs
  or_at dst (x / 4) (← shl u8 idx shift)

unfoldable pub index1 : List ℕ → ℕ → List ℕ → Run (List ℕ)
index1 src x dst = do
  byte ← at src x
  let bit = bit_and byte 1
  cond (eqb bit 0) (done dst) (sub 7 (x % 8) >>= shl u8 1 >>= or_at dst (x / 8))

-- fn pack_indices(src: &[u8], bpp: usize, dst: &mut [u8])
unfoldable pub pack_indices : List ℕ → ℕ → List ℕ → Run (List ℕ)
pack_indices src bpp dst =
    cond (eqb bpp 8) (within dst 0 (length src) λ part. copy_from_slice part src)
    (cond (eqb bpp 4) (for (length src) (index4 src) dst) (cond (eqb bpp 2) (for (length src) (index2 src) dst) (for (length src) (index1 src) dst)))

-- if n > 0 { word |= quantise(sample, n) << shift; }
unfoldable pub or_field : ℕ → ℕ × ℕ → ℕ → Run ℕ
or_field sample (shift, n) word = cond (ltb 0 n) (quantise sample n >>= λ q. shl u32 q shift >>= λ moved. done (bit_or word moved)) (done word)

-- src[x * in_bpp + k]
unfoldable pub sample : List ℕ → ℕ → ℕ → ℕ → Run ℕ
sample src n x k = do
  start ← mul usize x n
  at src (← add usize start k)

-- the turn of MaskLayout::pack's loop; ri and bi are where red and blue stand
unfoldable pub mask_pixel : MaskLayout → List ℕ → ℕ → ℕ → ℕ → ℕ → List ℕ → Run (List ℕ)
mask_pixel self src n ri bi x dst = do
  r ← sample src n x ri
  g ← sample src n x 1
  b ← sample src n x bi
  a ← cond (eqb n 4) (sample src n x 3) (done 0xFF)
  word ← or_field r self.r 0
  word ← or_field g self.g word
  word ← or_field b self.b word
  word ← or_field a self.a word
  let bytes = self.bpp / 8
  start ← mul usize x bytes
  end ← add usize start bytes
  cell ← range (to_le_bytes 4 word) 0 bytes
  within dst start end λ part. copy_from_slice part cell

-- fn pack(&self, src: &[u8], in_bpp: usize, bgr: bool, dst: &mut [u8])
unfoldable pub pack_layout : MaskLayout → List ℕ → ℕ → Bool → List ℕ → Run (List ℕ)
pack_layout self src n bgr dst = do
  cells ← div (length src) n
  for cells (mask_pixel self src n (cond bgr 2 0) (cond bgr 0 2)) dst

-- fn row(&self, src: &[u8], dst: &mut [u8])
unfoldable pub pack_row : RowPack → List ℕ → List ℕ → Run (List ℕ)
pack_row (Bgra32 n bgr) src dst = row_bgra32 n bgr src dst
pack_row (Bgr24 n bgr) src dst = row_bgr24 n bgr src dst
pack_row Words16 src dst = within dst 0 (length src) λ part. copy_from_slice part src
pack_row (Indexed bpp) src dst = pack_indices src bpp dst
pack_row (Masks n bgr layout) src dst = pack_layout layout src n bgr dst

-- ---- all rows

-- struct Rows<'a>
pub record Rows : Type 0 where
  pub plane : PlaneRef
  pub pack : RowPack
  pub width : ℕ
  pub height : ℕ
  pub top_down : Bool
  pub stride : ℕ

-- fn new(plane, pack, width: u32, height: u32, top_down: bool, truncated: &str) -> Result<Self>
unfoldable pub new_rows : PlaneRef → RowPack → ℕ → ℕ → Bool → Run Rows
new_rows plane pack width height is_top_down = do
  all ← mul usize plane.stride height
  fail_if (ltb (length plane.«data») all) plane_truncated
  let row = saturating_mul usize width (source_bytes pack)
  fail_if (ltb plane.stride row) stride_below_row
  stride ← row_stride width (pack_bits pack)
  done (record { plane = plane; pack = pack; width = width; height = height; top_down = is_top_down; stride = stride })

-- fn source(&self, y: usize) -> &'a [u8]
unfoldable pub source_row : Rows → ℕ → Run (List ℕ)
source_row self y = do
  y ← cond self.top_down (done y) (sub self.height 1 >>= λ last. sub last y)
  start ← mul usize y self.plane.stride
  bytes ← mul usize self.width (source_bytes self.pack)
  end ← add usize start bytes
  range self.plane.«data» start end

-- fn pack(&self, y: usize, dst: &mut [u8])
unfoldable pub pack_one : Rows → ℕ → List ℕ → Run (List ℕ)
pack_one self y dst = source_row self y >>= λ src. pack_row self.pack src dst

-- fn pack_all(&self, dst: &mut [u8])
unfoldable pub pack_all : Rows → List ℕ → Run (List ℕ)
pack_all self = for self.height λ y dst. do
  start ← mul usize y self.stride
  end ← add usize start self.stride
  within dst start end (pack_one self y)
