-- Reading one row from a place of the file (document 02, A.7: "reading one row from there"): the numbers of A.1, as for the whole file but for that row alone.
use Rattle.std.specs.Prelude.{ℕ, zero, suc, ◌+◌, ◌*◌, ◌≡◌, Bool, not, ◌&&◌, ◌||◌, List, [], ◌∷◌, ltb, length, drop}
use Rattle.leaves.specs.Put.{put}
use Rattle.leaves.specs.Refusals.{first_applying}
use Rattle.format.specs.OneRow.{shows_row, read_one_row}
use Rattle.format.specs.Readers.{Fields, fields_of, newer, row_length}
use Rattle.format.specs.Shown.{Cell}
use Rattle.reader.specs.Numbers.{row_numbers, numbers_each}
use Rattle.reader.specs.Refusals.{is_coded, never_written, head_outside, stops}

-- ---- 18: a byte of header, masks, table or of that whole stored row, with its padding, lies outside the file, which has n bytes; the profile is not asked for

-- the stored row that begins at a place
abbrev pub row_outside : ℕ → Fields → ℕ → Bool
row_outside n t start = not (is_coded t.compression) && ltb n (start + row_length t.width t.depth)

abbrev pub head_or_row_outside : ℕ → Fields → ℕ → Bool
head_or_row_outside n t start = head_outside n t || row_outside n t start

-- ---- 15: the row's numbers do not fit into so many

abbrev pub numbers_too_many : Fields → ℕ → Bool
numbers_too_many t cells = ltb cells (t.width * numbers_each t)

-- ---- 19: the stream does not fill the row; a start past the end is one that does not

-- a stream of one row, with none above it
unfoldable pub row_fails : List ℕ → Fields → ℕ → Bool
row_fails file t start = is_coded t.compression && stops t.depth t.width 0 t.width (drop start file) 0

-- ---- the order is that of the whole file: 17, 18, 15, 19

unfoldable pub row_rows : List ℕ → ℕ → ℕ → List (Bool × ℕ)
row_rows file start cells =
    (never_written file, 17) ∷ (head_or_row_outside (length file) (fields_of file) start, 18) ∷ (numbers_too_many (fields_of file) cells, 15) ∷ (row_fails file (fields_of file) start, 19) ∷ []

-- ---- a reading

-- the later cells, where nothing is refused: "the newer reader, reading one row from there, shows that row"; A.1: "Values past those filled stay"
pub record ShowsRow (file : List ℕ) (start : ℕ) (cells later_cells : List ℕ) : Type 0 where
  pub row : List Cell
  pub newer_shows : read_one_row newer file start ≡ shows_row row
  pub cells_filled : later_cells ≡ put cells 0 (row_numbers row)

-- a refusal changes nothing
abbrev pub RowOutcome : ℕ → List ℕ → ℕ → List ℕ → List ℕ → Type 0
RowOutcome zero file start cells later_cells = ShowsRow file start cells later_cells
RowOutcome (suc n) file start cells later_cells = later_cells ≡ cells

-- the promise
pub record ReadRow (file : List ℕ) (start : ℕ) (cells later_cells : List ℕ) (number : ℕ) : Type 0 where
  -- the first number that applies, or 0
  pub first : number ≡ first_applying (row_rows file start (length cells))
  pub outcome : RowOutcome number file start cells later_cells
