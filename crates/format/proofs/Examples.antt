-- Document 01's marked examples, by computation over one list, and the two beside them.
use mathlib.Core.Path.{◌≡◌, refl}
use mathlib.Core.List.{List, [], ◌∷◌, map}
use Prim.Native.Nat.{ℕ}
use lib.Count.{ones_in, count_trailing_zeros}
use lib.ListN.{length, replicate}
use Rattle.leaves.specs.declared.encoder.EncodedBmpFormat.TheVariants.{Rle8, Indexed8}
use Rattle.leaves.specs.Bytes.{le16, le32}
use Rattle.leaves.specs.Fit.{from_top, repeated, fit}
use Rattle.leaves.specs.Lists.{tab, cat}
use Rattle.leaves.specs.Masks.{count, lowest, is_one_run, shares_bit, mask_rows, bitfields_rows}
use Rattle.leaves.specs.Refusals.{first_number, dimension_rows, settings_rows, palette_rows, mode_rows, plane_rows}
use Rattle.leaves.specs.Sizes.{row_stride, palette_entry_count, written_palette_entries, clr_used_of}
use Rattle.rows.specs.Packing.{digits, packed_byte_of, packed}
use Rattle.rows.specs.RleCodes.{cells, scan, bytes, codes, row_codes}
use Rattle.rows.specs.Stream.{stream_row, stream}
use Rattle.format.specs.Headers.{file_header, info_header}
use Rattle.format.specs.Input.{Input}
use Rattle.format.specs.File.{raw_bytes, stream_of, max_file, limit_in, budget, stream_used, pixels, table_entry, colour_table, compression_of, image_size_of, head_of, file_size_of, file_of, plain_size_of, bound_of, format_of}
use Rattle.format.specs.Layout.{mode_of, tail_in, depth_of, table_entries, head_rest, head_len, raw_len, rows_compression, rows_format, wants_rle}
use Rattle.format.specs.Refusals.{given_masks_rows, check_rows, plan_rows}
use Rattle.format.proofs.ExampleInputs.{sevens}

pub data Example : Type 0 where
  -- a depth, a row's indices, its codes
  row : ℕ → List ℕ → List ℕ → Example
  -- bits, a sample, the sample fitted to them
  sample : ℕ → ℕ → ℕ → Example
  -- a width, a depth, the bytes of the stored row
  stride : ℕ → ℕ → ℕ → Example
  -- a depth, the four masks, the number that the mask check gives
  masks : ℕ → List ℕ → ℕ → Example
  -- a call, its bound, the bytes that it reports, its file
  file : Input → ℕ → ℕ → List ℕ → Example

-- what the definitions give
unfoldable pub found : Example → List ℕ
found (row depth indices result) = row_codes depth indices
found (sample bits value result) = fit bits value ∷ []
found (stride width depth result) = row_stride width depth ∷ []
found (masks depth four result) = first_number (bitfields_rows depth four) ∷ []
found (file input bound size result) = bound_of (limit_in input) input ∷ file_size_of (limit_in input) input ∷ file_of (limit_in input) input

-- what document 01 prints, with M9's third number and M12's image size of document 02
unfoldable pub printed : Example → List ℕ
printed (row depth indices result) = result
printed (sample bits value result) = result ∷ []
printed (stride width depth result) = result ∷ []
printed (masks depth four result) = result ∷ []
printed (file input bound size result) = bound ∷ size ∷ result

unfoldable pub m12_file : List ℕ
m12_file =
    0x42 ∷ 0x4D ∷ 0x3E ∷ 0x00 ∷ 0x00 ∷ 0x00 ∷ 0x00 ∷ 0x00 ∷ 0x00 ∷ 0x00 ∷ 0x3A ∷ 0x00 ∷ 0x00 ∷ 0x00 ∷ 0x28 ∷ 0x00 ∷ 0x00 ∷ 0x00 ∷ 0x05 ∷ 0x00 ∷ 0x00 ∷ 0x00 ∷ 0x01 ∷ 0x00 ∷ 0x00 ∷ 0x00 ∷ 0x01 ∷ 0x00 ∷ 0x08 ∷ 0x00 ∷ 0x01 ∷ 0x00 ∷ 0x00 ∷ 0x00 ∷ 0x04 ∷ 0x00 ∷ 0x00 ∷ 0x00 ∷ 0x13 ∷ 0x0B ∷ 0x00 ∷ 0x00 ∷ 0x13 ∷ 0x0B ∷ 0x00 ∷ 0x00 ∷ 0x01 ∷ 0x00 ∷ 0x00 ∷ 0x00 ∷ 0x00 ∷ 0x00 ∷ 0x00 ∷ 0x00 ∷ 0x00 ∷ 0x00 ∷ 0x00 ∷ 0x00 ∷ 0x05 ∷ 0x07 ∷ 0x00 ∷ 0x01 ∷ []

unfoldable pub marked : List Example
marked =
    -- M1
    row 8 (5 ∷ []) (0x01 ∷ 0x05 ∷ [])
    -- M2
    ∷ row 8 (1 ∷ 2 ∷ []) (0x01 ∷ 0x01 ∷ 0x01 ∷ 0x02 ∷ [])
    -- M3
    ∷ row 8 (1 ∷ 2 ∷ 3 ∷ []) (0x00 ∷ 0x03 ∷ 0x01 ∷ 0x02 ∷ 0x03 ∷ 0x00 ∷ [])
    -- M4
    ∷ row 8 (1 ∷ 2 ∷ 3 ∷ 3 ∷ []) (0x01 ∷ 0x01 ∷ 0x01 ∷ 0x02 ∷ 0x02 ∷ 0x03 ∷ [])
    -- M5
    ∷ row 8 (replicate 256 7) (0xFF ∷ 0x07 ∷ 0x01 ∷ 0x07 ∷ [])
    -- M6
    ∷ row 4 (1 ∷ 2 ∷ []) (0x01 ∷ 0x12 ∷ 0x01 ∷ 0x20 ∷ [])
    -- M7
    ∷ row 4 (1 ∷ 2 ∷ 3 ∷ 4 ∷ 5 ∷ []) (0x00 ∷ 0x05 ∷ 0x12 ∷ 0x34 ∷ 0x50 ∷ 0x00 ∷ [])
    -- M8
    ∷ row 4 (19 ∷ 3 ∷ []) (0x02 ∷ 0x33 ∷ [])
    -- M9
    ∷ sample 5 255 31
    ∷ sample 10 255 1023
    ∷ sample 17 255 131071
    -- M10
    ∷ stride 32 1 4
    ∷ stride 33 1 8
    -- M11: the first mask is above the depth and also broken
    ∷ masks 16 (0x50000 ∷ 0 ∷ 0 ∷ 0 ∷ []) 7
    ∷ masks 16 (0xA00 ∷ 0 ∷ 0 ∷ 0 ∷ []) 8
    ∷ masks 16 (0 ∷ 0 ∷ 0 ∷ 0xFF00 ∷ []) 10
    -- M12
    ∷ file (sevens 5 5 5) 78 62 m12_file
    ∷ []

-- M1 to M12
pub marked_hold : map found marked ≡ map printed marked
unfolding found printed marked m12_file row_codes codes cells scan bytes packed_byte_of digits packed fit repeated from_top row_stride bitfields_rows mask_rows is_one_run count lowest ones_in count_trailing_zeros shares_bit file_of head_of file_size_of pixels stream_used stream_of stream stream_row budget raw_len depth_of head_len head_rest table_entries written_palette_entries palette_entry_count clr_used_of colour_table table_entry wants_rle mode_of tail_in compression_of rows_compression image_size_of file_header info_header le16 le32 cat tab bound_of plain_size_of
marked_hold = refl

-- M12's file is a stream
pub five_wide : format_of max_file (sevens 5 5 5) ≡ Rle8
unfolding stream_used stream_of stream stream_row row_codes codes cells scan bytes budget raw_len depth_of head_len head_rest table_entries written_palette_entries palette_entry_count row_stride wants_rle mode_of cat format_of rows_format
five_wide = refl

-- "The same at 4 × 1: stream 4, raw 4, so plain Indexed8; bound 72": a tie keeps the rows
pub four_wide : (length (stream_of (sevens 4 4 4)) ≡ 4) × (raw_bytes (sevens 4 4 4) ≡ 4) × (bound_of max_file (sevens 4 4 4) ≡ 72) × (format_of max_file (sevens 4 4 4) ≡ Indexed8)
unfolding stream_used stream_of stream stream_row row_codes codes cells scan bytes budget raw_len depth_of head_len head_rest table_entries written_palette_entries palette_entry_count row_stride wants_rle mode_of tail_in cat bound_of plain_size_of format_of rows_format
four_wide = (refl, refl, refl, refl)

-- "Plane one byte short in its last row's padding: 12": 7 bytes hold all four cells of a row of stride 8
pub one_byte_short : first_number (plan_rows max_file (sevens 4 8 7)) ≡ 12
unfolding plan_rows check_rows dimension_rows settings_rows palette_rows mode_rows given_masks_rows plane_rows
one_byte_short = refl
