-- Reading one row (document 02, A.7: "so that the newer reader, reading one row from there, shows that row of its whole reading"), beside the readers and
-- from their sentences. Of the pixels only bytes of that row are looked at, and of the head no byte that a whole reading does not need.
use Rattle.std.specs.Prelude.{ℕ, ◌+◌, ◌*◌, ◌/◌, not, cond, ◌||◌, List, [], ltb, eqb, length, get_or, drop}
use Rattle.leaves.specs.Lists.{tab}
use Rattle.format.specs.Decode.{Decoded, filled, refused, read_row}
use Rattle.format.specs.Readers.{Reader, Fields, fields_of, knows_depth, knows_compression, pairs, cell_word, rgb_cell, mask_cell, head_needs}
use Rattle.format.specs.Shown.{Cell, index, Cause, unknown_depth, unknown_compression, pairing, short}

-- a row's cells from the left, or the cause
pub data RowReading : Type 0 where
  shows_row : List Cell → RowReading
  refuses_row : Cause → RowReading

-- "cell x starts x × depth bits into its row", which begins at a place
unfoldable pub cell_from : List ℕ → Fields → ℕ → ℕ → Cell
cell_from file t start x =
    cond (eqb t.compression 0) (rgb_cell t.depth (drop start file) x) (mask_cell file t.compression (cell_word t.depth (drop start file) x))

-- RLE "at column 0", "two bytes at a time", until the row is full
abbrev pub coded_row : ℕ → Decoded → RowReading
coded_row width (filled cells taken) = shows_row (tab (λ x. index (get_or cells x 0)) width)
coded_row width (refused cause) = refuses_row cause

-- the bytes of a plain row that hold cells: padding is not needed
abbrev pub cell_bytes : Fields → ℕ
cell_bytes t = (t.width * t.depth + 7) / 8

-- The row whose first byte stands at `start`. The height is not looked at; of a row without a cell no byte is needed.
unfoldable pub row_body : List ℕ → Fields → ℕ → RowReading
row_body file t start =
    cond (eqb t.width 0) (shows_row [])
    (cond (eqb t.compression 1 || eqb t.compression 2)
    (coded_row t.width (read_row t.depth t.width (drop start file)))
    (cond (ltb (length file) (start + cell_bytes t)) (refuses_row short) (shows_row (tab (cell_from file t start) t.width))))

-- the head is read as for all rows
unfoldable pub row_by_fields : Reader → List ℕ → Fields → ℕ → RowReading
row_by_fields r file t start =
    cond (not (knows_depth r t.depth)) (refuses_row unknown_depth)
    (cond (not (knows_compression r t.compression)) (refuses_row unknown_compression)
    (cond (not (pairs t.compression t.depth)) (refuses_row pairing)
    (cond (ltb (length file) (head_needs t)) (refuses_row short) (row_body file t start))))

-- what a reader makes of the row that begins at a place of the file
unfoldable pub read_one_row : Reader → List ℕ → ℕ → RowReading
read_one_row r file start = cond (ltb (length file) 54) (refuses_row short) (row_by_fields r file (fields_of file) start)
