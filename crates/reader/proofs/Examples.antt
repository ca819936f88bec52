-- The numbers on small inputs, by computation.
use mathlib.Core.Path.{◌≡◌, refl}
use mathlib.Core.Bool.{Bool, true, false}
use mathlib.Core.List.{List, [], ◌∷◌, ◌++◌}
use Prim.Native.Nat.{ℕ}
use Rattle.leaves.specs.Lists.{tab}
use Rattle.leaves.specs.Refusals.{first_applying}
use Rattle.format.specs.Decode.{cell_at, pair_cell, data_read, read_code, fill_row}
use Rattle.format.specs.OneRow.{shows_row, cell_from, row_body, row_by_fields, read_one_row}
use Rattle.format.specs.Readers.{newer, word_at, dword_at, fields_of, table_count, knows_depth, knows_compression, pairs, row_length, rgb_cell, head_needs}
use Rattle.format.specs.Shown.{index}
use Rattle.reader.specs.Numbers.{has_profile, profile_bytes_of, profile_at_of}
use Rattle.reader.specs.OneRow.{row_fails, row_rows}
use Rattle.reader.specs.Refusals.{masks_of, never_written, outside_file, stops, open_rows}

-- "each test made only where every field it needs lies whole in the file": 'XM' is 17, 'X' is 18, and so is 'BM'
marks_hold : (first_applying (open_rows (88 ∷ 77 ∷ [])) ≡ 17) × ((first_applying (open_rows (88 ∷ [])) ≡ 18) × ((first_applying (open_rows (66 ∷ 77 ∷ [])) ≡ 18) × (first_applying (open_rows []) ≡ 18)))
unfolding open_rows never_written outside_file masks_of fields_of dword_at word_at table_count row_length has_profile profile_bytes_of profile_at_of
marks_hold = (refl, (refl, (refl, refl)))

-- whether a stream of two cells a row, with so many rows above the bottom row, is refused
fails : List ℕ → ℕ → Bool
fails bytes above = stops 8 2 above 2 bytes 0

-- "the stream steps over a row's end, ends a row early, uses a delta code or ends before the last cell": by a pair, by a block, in a full row;
-- 00 00 in a row with room; 00 02; 00 01, no byte left, half a code, a block without its data
faults_hold : (fails (3 ∷ 7 ∷ []) 0 ≡ true) × ((fails (0 ∷ 3 ∷ 1 ∷ 2 ∷ 3 ∷ 0 ∷ []) 0 ≡ true) × ((fails (2 ∷ 7 ∷ 1 ∷ 7 ∷ []) 1 ≡ true)
    × ((fails (1 ∷ 7 ∷ 0 ∷ 0 ∷ 2 ∷ 7 ∷ []) 1 ≡ true) × ((fails (0 ∷ 2 ∷ 1 ∷ 1 ∷ []) 0 ≡ true)
    × ((fails (1 ∷ 7 ∷ 0 ∷ 1 ∷ []) 0 ≡ true) × ((fails (1 ∷ 7 ∷ []) 0 ≡ true) × ((fails (2 ∷ []) 0 ≡ true) × (fails [] 0 ≡ true))))))))
unfolding fails stops data_read
faults_hold = (refl, (refl, (refl, (refl, (refl, (refl, (refl, (refl, refl))))))))

-- "Nothing after the last cell of a stream is read": no end, another byte, a delta behind it
ends_hold : (fails (2 ∷ 7 ∷ []) 0 ≡ false) × ((fails (2 ∷ 7 ∷ 0 ∷ []) 0 ≡ false) × ((fails (2 ∷ 7 ∷ 0 ∷ 2 ∷ []) 0 ≡ false) × (fails (1 ∷ 5 ∷ 1 ∷ 6 ∷ 0 ∷ 0 ∷ 2 ∷ 7 ∷ []) 1 ≡ false)))
unfolding fails stops data_read
ends_hold = (refl, (refl, (refl, refl)))

-- ---- one row

-- a file of three 8-bit cells in one row: head and a table of one entry, in 58 bytes, with a compression
head_with : ℕ → List ℕ
head_with c =
    66 ∷ 77 ∷ 0 ∷ 0 ∷ 0 ∷ 0 ∷ 0 ∷ 0 ∷ 0 ∷ 0 ∷ 58 ∷ 0 ∷ 0 ∷ 0 ∷
    40 ∷ 0 ∷ 0 ∷ 0 ∷ 3 ∷ 0 ∷ 0 ∷ 0 ∷ 1 ∷ 0 ∷ 0 ∷ 0 ∷ 1 ∷ 0 ∷ 8 ∷ 0 ∷ c ∷ 0 ∷ 0 ∷ 0 ∷
    0 ∷ 0 ∷ 0 ∷ 0 ∷ 0 ∷ 0 ∷ 0 ∷ 0 ∷ 0 ∷ 0 ∷ 0 ∷ 0 ∷ 1 ∷ 0 ∷ 0 ∷ 0 ∷ 0 ∷ 0 ∷ 0 ∷ 0 ∷
    0 ∷ 0 ∷ 0 ∷ 0 ∷ []

plain : List ℕ
plain = head_with 0 ++ (7 ∷ 8 ∷ 9 ∷ 0 ∷ [])

coded : List ℕ
coded = head_with 1 ++ (3 ∷ 7 ∷ [])

row_number : List ℕ → ℕ → ℕ → ℕ
row_number file start cells = first_applying (row_rows file start cells)

-- the stored row whole, one byte of its padding outside, a start past the end; with room for two; the stream's row, a start past its end
rows_refused : (row_number plain 58 3 ∷ row_number plain 59 3 ∷ row_number plain 99 3 ∷ row_number plain 58 2 ∷ row_number coded 58 3 ∷ row_number coded 99 3 ∷ []) ≡ (0 ∷ 18 ∷ 18 ∷ 15 ∷ 0 ∷ 19 ∷ [])
unfolding head_with plain coded row_number row_rows never_written masks_of fields_of dword_at word_at table_count row_length row_fails stops data_read
rows_refused = refl

-- from the row's start, from inside the head, and of a stream
rows_shown_is : (read_one_row newer plain 58 ≡ shows_row (index 7 ∷ index 8 ∷ index 9 ∷ [])) × ((read_one_row newer plain 0 ≡ shows_row (index 66 ∷ index 77 ∷ index 0 ∷ []))
    × (read_one_row newer coded 58 ≡ shows_row (index 7 ∷ index 7 ∷ index 7 ∷ [])))
unfolding head_with plain coded read_one_row row_by_fields row_body cell_from fields_of dword_at word_at table_count knows_depth knows_compression pairs head_needs rgb_cell cell_at pair_cell read_code fill_row tab
rows_shown_is = (refl, (refl, refl))
