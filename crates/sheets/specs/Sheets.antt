-- What a sheet of indices holds: rows of numbers, as a spreadsheet writes them out (docs/DECISIONS.md, "The programs").
use Rattle.std.specs.Prelude.{Bool, true, false, cond, ◌&&◌, ◌||◌, ◌≡◌, Result, Ok, Err, unwrap_or, List, [], ◌∷◌, ◌++◌, map, ℕ, ◌-◌, ◌*◌, ◌^◌, ◌≤◌, ◌<◌, eqb, leb, length, get_or, take, drop}
use Rattle.leaves.specs.Put.{put}
use Rattle.arguments.specs.Numbers.{number_of}
use Rattle.arguments.specs.Words.{alike, pieces, items_of}
use Rattle.sheets.specs.declared.Grid.{Grid}
use Rattle.sheets.specs.declared.SheetError.{SheetError}
use Rattle.sheets.specs.declared.SheetError.TheVariants.{NotAnIndex, Ragged, NoRoom}

-- the first comma, semicolon or tab of a text stands between its cells; a comma where there is none
unfoldable pub is_separator : ℕ → Bool
is_separator x = eqb x 44 || (eqb x 59 || eqb x 9)

unfoldable pub separator_of : List ℕ → ℕ
separator_of [] = 44
separator_of (x ∷ xs) = cond (is_separator x) x (separator_of xs)

-- without a byte order mark in front
unfoldable pub without_mark : List ℕ → List ℕ
without_mark text = cond (alike (take 3 text) (0xEF ∷ 0xBB ∷ 0xBF ∷ [])) (drop 3 text) text

-- a line ends with LF or CR LF; the last one may end with the text
unfoldable pub lines_of : List ℕ → List (List ℕ)
lines_of = pieces 10 []

unfoldable pub without_return : List ℕ → List ℕ
without_return line = cond (eqb (get_or line (length line - 1) 0) 13) (take (length line - 1) line) line

-- blanks before a number do not count
unfoldable pub after_blanks : List ℕ → List ℕ
after_blanks [] = []
after_blanks (x ∷ xs) = cond (eqb x 32) (after_blanks xs) (x ∷ xs)

-- a cell's index, over every index where it is no number
unfoldable pub index_of : List ℕ → ℕ
index_of cell = unwrap_or (number_of (after_blanks cell)) (2 ^ 60)

unfoldable pub row_of : ℕ → List ℕ → List ℕ
row_of separator line = map index_of (items_of separator (without_return line))

unfoldable pub rows_of : ℕ → List ℕ → List (List ℕ)
rows_of separator text = map (row_of separator) (lines_of text)

-- a sheet's rows
unfoldable pub sheet_rows : List ℕ → List (List ℕ)
sheet_rows text = rows_of (separator_of text) (without_mark text)

-- the first row's cells; 0 where there is no row
unfoldable pub width_of : List (List ℕ) → ℕ
width_of [] = 0
width_of (row ∷ rows) = length row

-- whether all of a row's cells are indices up to the largest
unfoldable pub are_indices : ℕ → List ℕ → Bool
are_indices most [] = true
are_indices most (v ∷ vs) = leb v most && are_indices most vs

-- whether rows are a grid: all of one width, and every cell an index
unfoldable pub is_grid : ℕ → ℕ → List (List ℕ) → Bool
is_grid most width [] = true
is_grid most width (row ∷ rows) = eqb (length row) width && (are_indices most row && is_grid most width rows)

-- the cells row by row
unfoldable pub cells_of : List (List ℕ) → List ℕ
cells_of [] = []
cells_of (row ∷ rows) = row ++ cells_of rows

-- what reading a sheet's rows promises: the size and the cells of a grid, and a trouble of any other sheet; which cell or row it names is free, and so
-- is the memory behind it
abbrev pub SheetRead : Result Grid SheetError → ℕ → List (List ℕ) → List ℕ → List ℕ → Type 0
SheetRead (Ok grid) most rows was later =
    (is_grid most grid.width rows ≡ true) × (grid.width ≡ width_of rows) × (grid.height ≡ length rows) × (grid.cells ≡ length (cells_of rows)) × (grid.cells ≤ length was) × (later ≡ put was 0 (cells_of rows))
SheetRead (Err (NotAnIndex row column from to)) most rows was later = is_grid most (width_of rows) rows ≡ false
SheetRead (Err (Ragged row cells width)) most rows was later = is_grid most (width_of rows) rows ≡ false
SheetRead (Err NoRoom) most rows was later = length was < length rows * width_of rows

-- a row's cells up to the first that is no index: what the code has read of a row
unfoldable pub up_to_bad : ℕ → List ℕ → List ℕ
up_to_bad most [] = []
up_to_bad most (v ∷ vs) = cond (leb v most) (v ∷ up_to_bad most vs) []
