-- How document 01's readers take a stream (Cells: "RLE starts at the pixel offset, at column 0 of the bottom row, and takes two bytes at a time ..").
-- Written from those sentences, with its own arithmetic: nothing here comes from the coder.
use Rattle.std.specs.Prelude.{Bool, true, false, cond, List, [], ◌∷◌, ◌++◌, ℕ, zero, suc, ◌+◌, ◌-◌, ◌*◌, ◌/◌, ◌%◌, ◌^◌, ltb, eqb, length, get_or, drop}
use Rattle.leaves.specs.Lists.{tab}
use Rattle.format.specs.Shown.{Cause, short, bad_code, past_row_end}

-- the cells that are filled from a place on, in stored order, and how many bytes they take; or the cause
pub data Decoded : Type 0 where
  filled : List ℕ → ℕ → Decoded
  refused : Cause → Decoded

-- what is read behind cells that take `taken` bytes
abbrev pub behind : List ℕ → ℕ → Decoded → Decoded
behind cells taken (filled more n) = filled (cells ++ more) (taken + n)
behind cells taken (refused cause) = refused cause

-- one reading after the other: the second is told the cells of the first and the bytes that they take
abbrev pub and_then : Decoded → (List ℕ → ℕ → Decoded) → Decoded
and_then (filled cells taken) next = behind cells taken (next cells taken)
and_then (refused cause) next = refused cause

-- ---- one code

-- "cell x starts x × depth bits into its row", the high bits of a byte first
unfoldable pub cell_at : ℕ → List ℕ → ℕ → ℕ
cell_at d row x = get_or row (x * d / 8) 0 / 2 ^ (8 - d - x * d % 8) % 2 ^ d

-- "a value (at depth 4 its halves in turn, high first)": cell j of a pair
unfoldable pub pair_cell : ℕ → ℕ → ℕ → ℕ
pair_cell d value j = cond (eqb d 4) (cond (eqb (j % 2) 0) (value / 16) (value % 16)) value

-- "that many packed indices, padded to an even count of data bytes"
unfoldable pub data_read : ℕ → ℕ → ℕ
data_read d n = (n * d + 7) / 8 + (n * d + 7) / 8 % 2

-- a row with no cell left to fill
abbrev pub row_full : ℕ → Bool
row_full zero = true
row_full (suc room) = false

-- "takes two bytes at a time": the code at the first byte, where `room` cells of the row are left to fill; its cells, and its bytes with the padding
unfoldable pub read_code : ℕ → ℕ → List ℕ → Decoded
-- "a needed byte past the end"
read_code d room [] = refused short
read_code d room (b ∷ []) = refused short
-- "A count of 1 or more and a value .. fill that many cells"; "a step over the row's end, is refused"
read_code d room (suc n ∷ v ∷ bs) = cond (ltb room (suc n)) (refused past_row_end) (filled (tab (pair_cell d v) (suc n)) 2)
-- "00 00, in a full row only, goes to column 0 of the row above"
read_code d room (zero ∷ zero ∷ bs) = cond (row_full room) (filled [] 2) (refused bad_code)
-- "Anything else .. is refused"
read_code d room (zero ∷ suc zero ∷ bs) = refused bad_code
read_code d room (zero ∷ suc (suc zero) ∷ bs) = refused bad_code
-- "after 0 and a number of 3 or more come that many packed indices"
read_code d room (zero ∷ suc (suc (suc n)) ∷ bs) =
    cond (ltb room (suc (suc (suc n)))) (refused past_row_end)
    (cond (ltb (length bs * 8) (suc (suc (suc n)) * d)) (refused short)
    (filled (tab (cell_at d bs) (suc (suc (suc n)))) (suc (suc (data_read d (suc (suc (suc n))))))))

-- ---- one row

abbrev pub unless_full : ℕ → Decoded → Decoded
unless_full room rest = cond (row_full room) (filled [] 0) rest

-- Codes until the `room` cells are filled that the row has left, after `skip` bytes of a code that was read. The last code's padding belongs to the row, but
-- is not looked at: behind the top row it may be missing.
unfoldable pub fill_row : ℕ → ℕ → List ℕ → ℕ → Decoded
fill_row d room [] skip = refused short
fill_row d room (b ∷ bs) zero =
    and_then (read_code d room (b ∷ bs)) (λ cells taken. unless_full (room - length cells) (fill_row d (room - length cells) bs (taken - 1)))
fill_row d room (b ∷ bs) (suc skip) = fill_row d room bs skip

-- the row of w cells whose codes begin at the first byte
abbrev pub read_row : ℕ → ℕ → List ℕ → Decoded
read_row d w bs = unless_full w (fill_row d w bs 0)

-- ---- a stream

-- a row with another above it, and the code between them: in a full row only 00 00 is not refused
unfoldable pub read_row_end : ℕ → ℕ → List ℕ → Decoded
read_row_end d w bs = and_then (read_row d w bs) (λ cells taken. read_code d 0 (drop taken bs))

-- "at column 0 of the bottom row": the s rows below row s, in stored order; row s begins where they end
unfoldable pub rows_below : ℕ → ℕ → List ℕ → ℕ → Decoded
rows_below d w bs zero = filled [] 0
rows_below d w bs (suc s) = and_then (rows_below d w bs s) (λ cells place. read_row_end d w (drop place bs))

-- "Nothing past the top row's last cell is read": the rows below the top row, and that row without a code behind it
unfoldable pub decode : ℕ → ℕ → List ℕ → ℕ → Decoded
decode d w bs top = and_then (rows_below d w bs top) (λ cells place. read_row d w (drop place bs))
