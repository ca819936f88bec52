-- The Rust's `EncodeOptions::default()`. Limit and resolutions are what the Rust has for every file (document 02, A.5: "defaults
-- are today's numbers").
use Rattle.std.specs.Prelude.{true, false, None, unwrap_or, replicate, pos}
use Rattle.leaves.specs.declared.bitfields.BmpBitfields.{BmpBitfields}
use Rattle.leaves.specs.declared.options.CalibratedRgb.{CalibratedRgb}
use Rattle.leaves.specs.declared.options.EncodeOptions.{EncodeOptions}

abbrev pub defaults : EncodeOptions
defaults =
    record {
      top_down = false;
      minimal_palette = false;
      rle = true;
      bitfields = None;
      embed_icc = true;
      rendering_intent = 4;
      calibrated_rgb = None;
      limit = 4294967295;
      x_pels_per_meter = pos 2835;
      y_pels_per_meter = pos 2835;
    }

-- the masks and the calibrated colour of a call; zeros, which nothing looks at, where it has none
abbrev pub bitfields_in : EncodeOptions → BmpBitfields
bitfields_in o = unwrap_or o.bitfields (record { bpp = 0; masks = replicate 4 0 })

abbrev pub calibrated_in : EncodeOptions → CalibratedRgb
calibrated_in o = unwrap_or o.calibrated_rgb (record { endpoints = replicate 9 (pos 0); gamma = replicate 3 0 })
