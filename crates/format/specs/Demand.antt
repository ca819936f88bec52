-- Demand 3, of the bytes that an accepted call appends.
use Rattle.std.specs.Prelude.{ℕ, ◌≡◌, Bool, true, false, not, cond, ◌&&◌, List, eqb, get_or, is_some}
use Rattle.leaves.specs.declared.image.BmpPixelFormat.{BmpPixelFormat}
use Rattle.leaves.specs.declared.image.BmpPixelFormat.TheVariants.{Rgba, Rgb24, Bgra, Bgr24, Rgb555, Rgb565, Pal8, Indexed4, Indexed2, Indexed1}
use Rattle.leaves.specs.Options.{bitfields_in}
use Rattle.format.specs.Input.{Input}
use Rattle.format.specs.Readers.{older, newer, Reading, shows, refuses, read}
use Rattle.format.specs.Shown.{unknown_depth, unknown_compression}
use Rattle.format.specs.Expectation.{expected}

-- "cells have 2 bits"
abbrev pub two_bits : BmpPixelFormat → Bool
two_bits Rgba = false
two_bits Rgb24 = false
two_bits Bgra = false
two_bits Bgr24 = false
two_bits Rgb555 = false
two_bits Rgb565 = false
two_bits Pal8 = false
two_bits Indexed4 = false
two_bits Indexed2 = true
two_bits Indexed1 = false

-- "mask mode has a nonzero alpha mask"
abbrev pub alpha_masked : Input → Bool
alpha_masked i = (is_some i.options.bitfields) && not (eqb (get_or (bitfields_in i.options).masks 3 0) 0)

-- "The older one refuses, by name and showing no cell, exactly when .."; "in every other case the two are alike"
abbrev pub older_reads : Input → Reading
older_reads i = cond (two_bits i.source.format) (refuses unknown_depth) (cond (alpha_masked i) (refuses unknown_compression) (shows (expected i)))

pub record Demand3 (i : Input) (bytes : List ℕ) : Type 0 where
  pub newer_shows : read newer bytes ≡ shows (expected i)
  pub older_reads_is : read older bytes ≡ older_reads i
