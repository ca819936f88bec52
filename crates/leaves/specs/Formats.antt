-- Source layouts and the formats they are written as.
use Rattle.std.specs.Prelude.{ℕ, Bool, true, false, List, [], ◌∷◌, map, slice_index_or}
use Rattle.leaves.specs.declared.image.BmpPixelFormat.{BmpPixelFormat}
use Rattle.leaves.specs.declared.encoder.EncodedBmpFormat.{EncodedBmpFormat}
use Rattle.leaves.specs.declared.image.BmpPixelFormat.TheVariants as source
use Rattle.leaves.specs.declared.encoder.EncodedBmpFormat.TheVariants as written
use Rattle.leaves.specs.Texts.{bytes_of}

-- a cell's bytes in the lent plane (document 01, Cells: "source bytes")
abbrev pub bytes_per_pixel : BmpPixelFormat → ℕ
bytes_per_pixel source.Rgba = 4
bytes_per_pixel source.Rgb24 = 3
bytes_per_pixel source.Bgra = 4
bytes_per_pixel source.Bgr24 = 3
bytes_per_pixel source.Rgb555 = 2
bytes_per_pixel source.Rgb565 = 2
bytes_per_pixel source.Pal8 = 1
bytes_per_pixel source.Indexed4 = 1
bytes_per_pixel source.Indexed2 = 1
bytes_per_pixel source.Indexed1 = 1

-- the file's depth without masks (document 01, The plan: "Plain heads: ..")
abbrev pub bits_per_pixel : BmpPixelFormat → ℕ
bits_per_pixel source.Rgba = 32
bits_per_pixel source.Rgb24 = 24
bits_per_pixel source.Bgra = 32
bits_per_pixel source.Bgr24 = 24
bits_per_pixel source.Rgb555 = 16
bits_per_pixel source.Rgb565 = 16
bits_per_pixel source.Pal8 = 8
bits_per_pixel source.Indexed4 = 4
bits_per_pixel source.Indexed2 = 2
bits_per_pixel source.Indexed1 = 1

-- the indexed formats
abbrev pub is_indexed : BmpPixelFormat → Bool
is_indexed source.Rgba = false
is_indexed source.Rgb24 = false
is_indexed source.Bgra = false
is_indexed source.Bgr24 = false
is_indexed source.Rgb555 = false
is_indexed source.Rgb565 = false
is_indexed source.Pal8 = true
is_indexed source.Indexed4 = true
is_indexed source.Indexed2 = true
is_indexed source.Indexed1 = true

-- the layouts that come blue first (document 01, Cells: "Bgra and Bgr24 sources come in that order")
abbrev pub blue_first : BmpPixelFormat → Bool
blue_first source.Rgba = false
blue_first source.Rgb24 = false
blue_first source.Bgra = true
blue_first source.Bgr24 = true
blue_first source.Rgb555 = false
blue_first source.Rgb565 = false
blue_first source.Pal8 = false
blue_first source.Indexed4 = false
blue_first source.Indexed2 = false
blue_first source.Indexed1 = false

-- the one plain layout with a 108-byte header
abbrev pub is_rgb565 : BmpPixelFormat → Bool
is_rgb565 source.Rgba = false
is_rgb565 source.Rgb24 = false
is_rgb565 source.Bgra = false
is_rgb565 source.Bgr24 = false
is_rgb565 source.Rgb555 = false
is_rgb565 source.Rgb565 = true
is_rgb565 source.Pal8 = false
is_rgb565 source.Indexed4 = false
is_rgb565 source.Indexed2 = false
is_rgb565 source.Indexed1 = false

-- the layouts that masks are not for (11: "source is not Rgba, Rgb24, Bgra or Bgr24")
abbrev pub mask_source : BmpPixelFormat → Bool
mask_source source.Rgba = false
mask_source source.Rgb24 = false
mask_source source.Bgra = false
mask_source source.Bgr24 = false
mask_source source.Rgb555 = true
mask_source source.Rgb565 = true
mask_source source.Pal8 = true
mask_source source.Indexed4 = true
mask_source source.Indexed2 = true
mask_source source.Indexed1 = true

-- the format answered where neither masks nor a stream are used (document 01, The plan: "The format answered is `plain_token`'s ..")
abbrev pub plain_token : BmpPixelFormat → EncodedBmpFormat
plain_token source.Rgba = written.Rgb32
plain_token source.Rgb24 = written.Rgb24
plain_token source.Bgra = written.Rgb32
plain_token source.Bgr24 = written.Rgb24
plain_token source.Rgb555 = written.Rgb16Rgb
plain_token source.Rgb565 = written.Rgb16Bitfields
plain_token source.Pal8 = written.Indexed8
plain_token source.Indexed4 = written.Indexed4
plain_token source.Indexed2 = written.Indexed2
plain_token source.Indexed1 = written.Indexed1

-- the numbers of the formats that are answered, where an answer is numbers
abbrev pub format_number : EncodedBmpFormat → ℕ
format_number written.Rgb32 = 0
format_number written.Rgb24 = 1
format_number written.Rgb16Rgb = 2
format_number written.Rgb16Bitfields = 3
format_number written.Indexed8 = 4
format_number written.Indexed4 = 5
format_number written.Indexed2 = 6
format_number written.Rle8 = 7
format_number written.Rle4 = 8
format_number written.Indexed1 = 9
format_number written.Bitfields = 10
format_number written.AlphaBitfields = 11

-- what they are called, by number: the names of the Rust's variants
unfoldable pub written_names : List (List ℕ)
written_names =
    map bytes_of
    ("Rgb32" ∷ "Rgb24" ∷ "Rgb16Rgb" ∷ "Rgb16Bitfields" ∷ "Indexed8" ∷ "Indexed4" ∷ "Indexed2" ∷ "Rle8" ∷ "Rle4" ∷ "Indexed1" ∷ "Bitfields" ∷ "AlphaBitfields" ∷ [])

unfoldable pub written_name : EncodedBmpFormat → List ℕ
written_name f = slice_index_or written_names (format_number f) []
