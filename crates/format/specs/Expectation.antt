-- What must be shown (document 01, Cells: "Cell x of row y handed in ..", "Shown must be: .."), from those sentences alone.
use Rattle.std.specs.Prelude.{ℕ, ◌+◌, ◌*◌, ◌/◌, ◌%◌, min, max, Bool, cond, List, eqb, length, get_or, is_some}
use Rattle.std.specs.Int.Count.{ones_in}
use Rattle.leaves.specs.declared.image.BmpPixelFormat.{BmpPixelFormat}
use Rattle.leaves.specs.declared.image.BmpPixelFormat.TheVariants.{Rgba, Rgb24, Bgra, Bgr24, Rgb555, Rgb565, Pal8, Indexed4, Indexed2, Indexed1}
use Rattle.leaves.specs.Fit.{fit}
use Rattle.leaves.specs.Lists.{tab}
use Rattle.leaves.specs.Options.{bitfields_in}
use Rattle.format.specs.Input.{Input}
use Rattle.format.specs.Shown.{Cell, index, rgb, rgba, Shown}

-- a pixel's bytes in the plane
abbrev pub pixel_bytes : BmpPixelFormat → ℕ
pixel_bytes Rgba = 4
pixel_bytes Rgb24 = 3
pixel_bytes Bgra = 4
pixel_bytes Bgr24 = 3
pixel_bytes Rgb555 = 2
pixel_bytes Rgb565 = 2
pixel_bytes Pal8 = 1
pixel_bytes Indexed4 = 1
pixel_bytes Indexed2 = 1
pixel_bytes Indexed1 = 1

-- "the source bytes at y × stride + x × source bytes": byte k of them
unfoldable pub handed : Input → ℕ → ℕ → ℕ → ℕ
handed i y x k = get_or i.plane (y * i.source.stride + x * pixel_bytes i.source.format + k) 0

-- "the word's fields from bits 10, 5, 0", and for Rgb565 those under its masks
abbrev pub word555 : ℕ → Cell
word555 v = rgb (v / 1024 % 32) (v / 32 % 32) (v % 32)

abbrev pub word565 : ℕ → Cell
word565 v = rgb (v / 2048 % 32) (v / 32 % 64) (v % 32)

-- without masks: by the source
unfoldable pub plainly_shown : BmpPixelFormat → (ℕ → ℕ) → Cell
plainly_shown Rgba byte = rgb (byte 0) (byte 1) (byte 2)
plainly_shown Rgb24 byte = rgb (byte 0) (byte 1) (byte 2)
plainly_shown Bgra byte = rgb (byte 2) (byte 1) (byte 0)
plainly_shown Bgr24 byte = rgb (byte 2) (byte 1) (byte 0)
plainly_shown Rgb555 byte = word555 (byte 0 + 256 * byte 1)
plainly_shown Rgb565 byte = word565 (byte 0 + 256 * byte 1)
plainly_shown Pal8 byte = index (byte 0 % 256)
plainly_shown Indexed4 byte = index (byte 0 % 16)
plainly_shown Indexed2 byte = index (byte 0 % 4)
plainly_shown Indexed1 byte = index (byte 0 % 2)

-- "in mask mode those samples, and with a nonzero alpha mask alpha, each fitted as above to its mask's count of ones"
unfoldable pub fitted : List ℕ → ℕ → ℕ → ℕ → ℕ → Cell
fitted masks red green blue alpha =
    cond (eqb (get_or masks 3 0) 0) (rgb (to 0 red) (to 1 green) (to 2 blue)) (rgba (to 0 red) (to 1 green) (to 2 blue) (to 3 alpha))
  where
    to : ℕ → ℕ → ℕ
    to k sample = fit (ones_in 32 (get_or masks k 0)) sample

-- the samples of the four sources that mask mode takes; "A missing alpha sample is 255". The others are refused
unfoldable pub fitted_shown : BmpPixelFormat → List ℕ → (ℕ → ℕ) → Cell
fitted_shown Rgba masks byte = fitted masks (byte 0) (byte 1) (byte 2) (byte 3)
fitted_shown Rgb24 masks byte = fitted masks (byte 0) (byte 1) (byte 2) 255
fitted_shown Bgra masks byte = fitted masks (byte 2) (byte 1) (byte 0) (byte 3)
fitted_shown Bgr24 masks byte = fitted masks (byte 2) (byte 1) (byte 0) 255
fitted_shown Rgb555 masks byte = index 0
fitted_shown Rgb565 masks byte = index 0
fitted_shown Pal8 masks byte = index 0
fitted_shown Indexed4 masks byte = index 0
fitted_shown Indexed2 masks byte = index 0
fitted_shown Indexed1 masks byte = index 0

unfoldable pub cell_shown : Input → ℕ → ℕ → Cell
cell_shown i y x =
    cond (is_some i.options.bitfields) (fitted_shown i.source.format (bitfields_in i.options).masks (handed i y x)) (plainly_shown i.source.format (handed i y x))

-- the entries of the palette shown: "the colour table as filled above", and none above depth 8
unfoldable pub colours_shown : BmpPixelFormat → ℕ → Bool → ℕ
colours_shown Rgba count minimal = 0
colours_shown Rgb24 count minimal = 0
colours_shown Bgra count minimal = 0
colours_shown Bgr24 count minimal = 0
colours_shown Rgb555 count minimal = 0
colours_shown Rgb565 count minimal = 0
colours_shown Pal8 count minimal = cond minimal (max 1 (min count 256)) 256
colours_shown Indexed4 count minimal = cond minimal (max 1 (min count 16)) 16
colours_shown Indexed2 count minimal = cond minimal (max 1 (min count 4)) 4
colours_shown Indexed1 count minimal = cond minimal (max 1 (min count 2)) 2

-- "its entries in order as red, green, blue"; a missing one is black
unfoldable pub palette_shown : Input → List Cell
palette_shown i =
    tab (λ k. rgb (get_or i.palette (4 * k) 0) (get_or i.palette (4 * k + 1) 0) (get_or i.palette (4 * k + 2) 0))
    (colours_shown i.source.format (length i.palette / 4) i.options.minimal_palette)

unfoldable pub expected : Input → Shown
expected i =
    record {
      width = i.source.width;
      height = i.source.height;
      palette = palette_shown i;
      rows = tab (λ y. tab (λ x. cell_shown i y x) i.source.width) i.source.height;
    }
