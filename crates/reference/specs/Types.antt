-- What `encode_source` is handed (image.rs, options.rs, encoder.rs). Formats and calibrated colour are the port's types, which have the Rust's variants and fields.
use Rattle.std.specs.Prelude.{ℕ, Bool, true, false, List}
use Rattle.leaves.specs.declared.image.BmpPixelFormat.{BmpPixelFormat}
use Rattle.leaves.specs.declared.image.BmpPixelFormat.TheVariants as source
use Rattle.leaves.specs.declared.encoder.EncodedBmpFormat.{EncodedBmpFormat}
use Rattle.leaves.specs.declared.encoder.EncodedBmpFormat.TheVariants as written
use Rattle.leaves.specs.declared.options.CalibratedRgb.{CalibratedRgb}
use Rattle.reference.specs.Rust.{Option}

-- pub struct BmpBitfields
pub record BmpBitfields : Type 0 where
  pub bpp : ℕ
  pub r : ℕ
  pub g : ℕ
  pub b : ℕ
  pub a : ℕ

-- pub(crate) struct PlaneRef<'a>
pub record PlaneRef : Type 0 where
  pub stride : ℕ
  pub «data» : List ℕ

-- pub struct Palette: `[r, g, b, a]` per entry
pub record Palette : Type 0 where
  pub entries : List (List ℕ)

-- pub(crate) struct EncodeSource<'a>
pub record EncodeSource : Type 0 where
  pub plane : PlaneRef
  pub format : BmpPixelFormat
  pub palette : Option Palette
  pub icc : Option (List ℕ)
  pub width : ℕ
  pub height : ℕ

-- pub struct EncodeOptions
pub record EncodeOptions : Type 0 where
  pub top_down : Bool
  pub minimal_palette : Bool
  pub rle : Bool
  pub bitfields : Option BmpBitfields
  pub embed_icc : Bool
  pub linked_icc : Option (List ℕ)
  pub rendering_intent : ℕ
  pub calibrated_rgb : Option CalibratedRgb

-- pub const fn bytes_per_pixel(self) -> usize
abbrev pub bytes_per_pixel : BmpPixelFormat → ℕ
bytes_per_pixel source.Rgba = 4
bytes_per_pixel source.Bgra = 4
bytes_per_pixel source.Rgb24 = 3
bytes_per_pixel source.Bgr24 = 3
bytes_per_pixel source.Rgb555 = 2
bytes_per_pixel source.Rgb565 = 2
bytes_per_pixel source.Pal8 = 1
bytes_per_pixel source.Indexed4 = 1
bytes_per_pixel source.Indexed2 = 1
bytes_per_pixel source.Indexed1 = 1

-- pub const fn bits_per_pixel(self) -> u16
abbrev pub bits_per_pixel : BmpPixelFormat → ℕ
bits_per_pixel source.Rgba = 32
bits_per_pixel source.Bgra = 32
bits_per_pixel source.Rgb24 = 24
bits_per_pixel source.Bgr24 = 24
bits_per_pixel source.Rgb555 = 16
bits_per_pixel source.Rgb565 = 16
bits_per_pixel source.Pal8 = 8
bits_per_pixel source.Indexed4 = 4
bits_per_pixel source.Indexed2 = 2
bits_per_pixel source.Indexed1 = 1

-- pub const fn is_indexed(self) -> bool
abbrev pub is_indexed : BmpPixelFormat → Bool
is_indexed source.Rgba = false
is_indexed source.Bgra = false
is_indexed source.Rgb24 = false
is_indexed source.Bgr24 = false
is_indexed source.Rgb555 = false
is_indexed source.Rgb565 = false
is_indexed source.Pal8 = true
is_indexed source.Indexed4 = true
is_indexed source.Indexed2 = true
is_indexed source.Indexed1 = true

-- fn blue_first(format: BmpPixelFormat) -> bool
abbrev pub blue_first : BmpPixelFormat → Bool
blue_first source.Rgba = false
blue_first source.Bgra = true
blue_first source.Rgb24 = false
blue_first source.Bgr24 = true
blue_first source.Rgb555 = false
blue_first source.Rgb565 = false
blue_first source.Pal8 = false
blue_first source.Indexed4 = false
blue_first source.Indexed2 = false
blue_first source.Indexed1 = false

-- fn plain_token(format: BmpPixelFormat) -> EncodedBmpFormat
abbrev pub plain_token : BmpPixelFormat → EncodedBmpFormat
plain_token source.Rgba = written.Rgb32
plain_token source.Bgra = written.Rgb32
plain_token source.Rgb24 = written.Rgb24
plain_token source.Bgr24 = written.Rgb24
plain_token source.Rgb555 = written.Rgb16Rgb
plain_token source.Rgb565 = written.Rgb16Bitfields
plain_token source.Pal8 = written.Indexed8
plain_token source.Indexed4 = written.Indexed4
plain_token source.Indexed2 = written.Indexed2
plain_token source.Indexed1 = written.Indexed1
