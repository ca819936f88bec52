-- What the examples hand in: pictures of one row, and the Rust's default options with a choice changed.
use mathlib.Core.Bool.{Bool, true, false}
use mathlib.Core.List.{List, []}
use Prim.Native.Nat.{ℕ}
use lib.IntN.{ℤ, pos}
use lib.ListN.{replicate}
use Rattle.std.proofs.Common.{Option, Some, None}
use Rattle.std.specs.Bool.{then_some}
use Rattle.leaves.specs.declared.bitfields.BmpBitfields.{BmpBitfields}
use Rattle.leaves.specs.declared.image.BmpPixelFormat.{BmpPixelFormat}
use Rattle.leaves.specs.declared.image.BmpPixelFormat.TheVariants.{Pal8}
use Rattle.leaves.specs.declared.encoder.EncodeSource.{EncodeSource}
use Rattle.leaves.specs.declared.options.CalibratedRgb.{CalibratedRgb}
use Rattle.leaves.specs.declared.options.EncodeOptions.{EncodeOptions}
use Rattle.leaves.specs.Options.{defaults}
use Rattle.format.specs.Input.{Input}

-- one row of this format, width and stride; whether a palette, an embedded and a linked profile are given
abbrev pub one_row : BmpPixelFormat → ℕ → ℕ → Bool → Bool → Bool → EncodeSource
one_row format width stride palette icc linked =
    record {
      format = format;
      width = width;
      height = 1;
      stride = stride;
      has_palette = palette;
      has_icc = icc;
      has_linked_icc = linked;
    }

-- top-down, minimal palette, RLE, masks, intent, calibrated colour
abbrev pub chosen : Bool → Bool → Bool → Option BmpBitfields → ℕ → Option CalibratedRgb → EncodeOptions
chosen is_top_down minimal rle masks intent calibrated =
    record {
      top_down = is_top_down;
      minimal_palette = minimal;
      rle = rle;
      bitfields = masks;
      embed_icc = true;
      rendering_intent = intent;
      calibrated_rgb = calibrated;
      limit = defaults.limit;
      x_pels_per_meter = defaults.x_pels_per_meter;
      y_pels_per_meter = defaults.y_pels_per_meter;
    }

-- a minimal palette; top-down or not, RLE on or off
abbrev pub with_minimal : Bool → Bool → EncodeOptions
with_minimal is_top_down rle = chosen is_top_down true rle None 4 None

-- any calibrated colour
abbrev pub some_calibrated : CalibratedRgb
some_calibrated = record { endpoints = replicate 9 (pos 1); gamma = replicate 3 1 }

abbrev pub with_intent : ℕ → EncodeOptions
with_intent n = chosen false false true None n None

-- masks of a depth; calibrated colour beside them or not
abbrev pub with_masks : ℕ → List ℕ → Bool → EncodeOptions
with_masks depth masks calibrated = chosen false false true (Some (record { bpp = depth; masks = masks })) 4 (then_some calibrated some_calibrated)

abbrev pub with_calibrated : List ℤ → List ℕ → EncodeOptions
with_calibrated endpoints gamma = chosen false false true None 4 (Some (record { endpoints = endpoints; gamma = gamma }))

abbrev pub call : EncodeSource → EncodeOptions → List ℕ → List ℕ → List ℕ → List ℕ → Input
call source options plane palette icc linked =
    record { source = source; options = options; plane = plane; palette = palette; icc = icc; linked = linked }

-- a call with another limit and other resolutions
abbrev pub with_settings : ℕ → ℤ → ℤ → Input → Input
with_settings limit x y i =
    call i.source
    (record {
      top_down = i.options.top_down;
      minimal_palette = i.options.minimal_palette;
      rle = i.options.rle;
      bitfields = i.options.bitfields;
      embed_icc = i.options.embed_icc;
      rendering_intent = i.options.rendering_intent;
      calibrated_rgb = i.options.calibrated_rgb;
      limit = limit;
      x_pels_per_meter = x;
      y_pels_per_meter = y;
    })
    i.plane i.palette i.icc i.linked

abbrev pub under : ℕ → Input → Input
under limit i = with_settings limit i.options.x_pels_per_meter i.options.y_pels_per_meter i

-- Pal8 of one row of this width and stride, a plane of so many bytes, all 7, with an empty minimal palette; RLE on or off
abbrev pub sevens_with : Bool → ℕ → ℕ → ℕ → Input
sevens_with rle width stride plane_bytes = call (one_row Pal8 width stride true false false) (with_minimal false rle) (replicate plane_bytes 7) [] [] []

abbrev pub sevens : ℕ → ℕ → ℕ → Input
sevens = sevens_with true
