-- The transcription computes: M12's file, a row of each coder, and the files that the original wrote.
use mathlib.Core.Path.{◌≡◌, refl}
use mathlib.Core.List.{List, [], ◌∷◌, map}
use Prim.Native.Nat.{ℕ}
use lib.Count.{ones_in, count_trailing_zeros, count_leading_zeros}
use Rattle.leaves.specs.declared.encoder.EncodedBmpFormat.{EncodedBmpFormat}
use Rattle.leaves.specs.declared.encoder.EncodedBmpFormat.TheVariants.{Rle8}
use Rattle.leaves.specs.Bytes.{le32}
use Rattle.leaves.specs.Fit.{from_top, repeated}
use Rattle.leaves.specs.Lists.{tab}
use Rattle.leaves.specs.Masks.{count, lowest}
use Rattle.leaves.specs.Put.{put}
use Rattle.format.specs.Readers.{word_at, dword_at}
use Rattle.format.specs.File.{limit_in}
use Rattle.format.proofs.ExampleInputs.{sevens}
use Rattle.format.proofs.Examples.{m12_file}
use Rattle.format.proofs.FileExamples.{Written, files}
use Rattle.reference.specs.Rust.{done, ◌>>=◌, add, mul, sub, div, shl, shr, checked_add, checked_mul, clamp, negated, to_le_bytes, at, store, range, within, copy_from_slice, assert_equal, reserve, for, for_each, loop}
use Rattle.reference.specs.Bitfields.{validate_channel, validate, mask_shift_len, quantise}
use Rattle.reference.specs.Packing.{row_stride, new_layout, pack_masks, zip_chunks, exchanged, copied3, with_alpha, row_bgra32, row_bgr24, or_at, index4, index2, index1, pack_indices, or_field, sample, mask_pixel, pack_layout, pack_row, new_rows, source_row, pack_one, pack_all}
use Rattle.reference.specs.Rle.{rle_slack, equal, run_from, abs_turn, abs_from, literal8, turn8, encode_rle8_row, nibble, nibbles, nibble_if, pair_turn_of, literal4, turn4, encode_rle4_row, rle_row, probe_from, rle_into}
use Rattle.reference.specs.Headers.{extend_all, palette_entry_count, write_file_header, write_dib_header_v3, write_entry, write_color_table, write_dib_header_v3_indexed, write_dib_header_v4_bitfields, write_dib_header_v4_calibrated, write_dib_header_v5_with_profile, write_dib_header_v5_indexed_with_profile}
use Rattle.reference.specs.Plan.{written_palette_entries, entry_bytes, table_bytes_of, clr_used_of, write_table, header_len, head_len, budget_and_bound, new_sizes, tail_and_slack, sizes_of, assemble, plain_indexed, plain_head, plain, plan_bitfields, colour_indexed, colour_head, colour_rows, plan_for, new_plan, with_limit, signed_stored_height, write_masks, write_header, write_head, patch_rle_head, write_pixels, write_probed, write_into, encode_source}
use Rattle.reference.specs.Compared.{Outcome, gives, outcome, refitted, refitted_word, refitted_words, with_wide_channels, with_image_size, with_resolutions, agreed, agreed_file, limited_plan, size_bound, encode_plan, entries_in, source_of, options_of}

row8 : encode_rle8_row [] (1 ∷ 2 ∷ 3 ∷ 7 ∷ 7 ∷ 7 ∷ 9 ∷ []) ≡ done (0 ∷ 3 ∷ 1 ∷ 2 ∷ 3 ∷ 0 ∷ 3 ∷ 7 ∷ 1 ∷ 9 ∷ [])
unfolding encode_rle8_row turn8 literal8 run_from abs_from abs_turn equal add sub mul shl for loop at range
row8 = refl

row4 : encode_rle4_row [] (0x11 ∷ 2 ∷ 3 ∷ 7 ∷ 7 ∷ 9 ∷ []) ≡ done (0 ∷ 3 ∷ 0x12 ∷ 0x30 ∷ 2 ∷ 0x77 ∷ 1 ∷ 0x90 ∷ [])
unfolding encode_rle4_row turn4 literal4 run_from abs_from abs_turn equal nibble nibbles nibble_if pair_turn_of add sub mul shl for loop at range
row4 = refl

-- M12's own file has the image size 0; with the agreed differences it is the document's
m12 : (encode_source (source_of (sevens 5 5 5)) (options_of (sevens 5 5 5)) ≡ done (put m12_file 34 (le32 0), Rle8))
    × ((encode_source (source_of (sevens 5 5 5)) (options_of (sevens 5 5 5)) >>= agreed_file (sevens 5 5 5)) ≡ done (m12_file, Rle8))
unfolding agreed with_resolutions with_wide_channels with_image_size put le32 dword_at word_at encode_source m12_file add mul sub div shl shr checked_add checked_mul clamp negated to_le_bytes at store range within copy_from_slice assert_equal reserve for for_each loop validate_channel validate mask_shift_len quantise row_stride new_layout pack_masks zip_chunks exchanged copied3 with_alpha row_bgra32 row_bgr24 or_at index4 index2 index1 pack_indices or_field sample mask_pixel pack_layout pack_row new_rows source_row pack_one pack_all rle_slack equal run_from abs_turn abs_from literal8 turn8 encode_rle8_row nibble nibbles nibble_if pair_turn_of literal4 turn4 encode_rle4_row rle_row probe_from rle_into extend_all palette_entry_count write_file_header write_dib_header_v3 write_entry write_color_table write_dib_header_v3_indexed write_dib_header_v4_bitfields write_dib_header_v4_calibrated write_dib_header_v5_with_profile write_dib_header_v5_indexed_with_profile written_palette_entries entry_bytes table_bytes_of clr_used_of write_table header_len head_len budget_and_bound new_sizes tail_and_slack sizes_of assemble plain_indexed plain_head plain plan_bitfields colour_indexed colour_head colour_rows plan_for new_plan with_limit signed_stored_height write_masks write_header write_head patch_rle_head write_pixels write_probed write_into source_of options_of entries_in tab
m12 = (refl, refl)

-- what the transcription makes of a call, with the agreed differences
unfoldable found : Written → Outcome (List ℕ × EncodedBmpFormat) × Outcome ℕ
found e =
    let plan = limited_plan (source_of e.input) (options_of e.input) (limit_in e.input) in
    (outcome (encode_plan plan >>= agreed_file e.input), outcome (size_bound plan))

files_hold : map found files ≡ map (λ (e : Written). (gives (e.bytes, e.format), gives e.bound)) files
unfolding found agreed with_resolutions with_wide_channels refitted_words refitted_word refitted repeated from_top count lowest with_image_size put le32 dword_at word_at encode_source count_trailing_zeros count_leading_zeros ones_in add mul sub div shl shr checked_add checked_mul clamp negated to_le_bytes at store range within copy_from_slice assert_equal reserve for for_each loop validate_channel validate mask_shift_len quantise row_stride new_layout pack_masks zip_chunks exchanged copied3 with_alpha row_bgra32 row_bgr24 or_at index4 index2 index1 pack_indices or_field sample mask_pixel pack_layout pack_row new_rows source_row pack_one pack_all rle_slack equal run_from abs_turn abs_from literal8 turn8 encode_rle8_row nibble nibbles nibble_if pair_turn_of literal4 turn4 encode_rle4_row rle_row probe_from rle_into extend_all palette_entry_count write_file_header write_dib_header_v3 write_entry write_color_table write_dib_header_v3_indexed write_dib_header_v4_bitfields write_dib_header_v4_calibrated write_dib_header_v5_with_profile write_dib_header_v5_indexed_with_profile written_palette_entries entry_bytes table_bytes_of clr_used_of write_table header_len head_len budget_and_bound new_sizes tail_and_slack sizes_of assemble plain_indexed plain_head plain plan_bitfields colour_indexed colour_head colour_rows plan_for new_plan with_limit signed_stored_height write_masks write_header write_head patch_rle_head write_pixels write_probed write_into source_of options_of entries_in tab
files_hold = refl
