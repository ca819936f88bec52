-- What a reading gives: the cells of what is shown as numbers, and the parts of the file that go into lent buffers (document 02, A.1).
use Rattle.std.specs.Prelude.{ℕ, ◌+◌, ◌*◌, Bool, cond, ◌&&◌, ◌||◌, List, [], ◌∷◌, ◌++◌, leb, eqb, take, drop}
use Rattle.format.specs.Readers.{Fields, fields_of, dword_at, shown_height, table_count}
use Rattle.format.specs.Shown.{Cell, index, rgb, rgba}

-- ---- cells

-- "u32 numbers: an index, or red, green, blue and alpha, alpha 0 but for compression 6", which alone is shown with alpha
abbrev pub cell_numbers : Cell → List ℕ
cell_numbers (index i) = i ∷ []
cell_numbers (rgb r g b) = r ∷ g ∷ b ∷ 0 ∷ []
cell_numbers (rgba r g b a) = r ∷ g ∷ b ∷ a ∷ []

unfoldable pub row_numbers : List Cell → List ℕ
row_numbers [] = []
row_numbers (cell ∷ cells) = cell_numbers cell ++ row_numbers cells

-- "row by row from the top"
unfoldable pub numbers_of : List (List Cell) → List ℕ
numbers_of [] = []
numbers_of (row ∷ rows) = row_numbers row ++ numbers_of rows

-- how many numbers a cell has: one for an index
abbrev pub numbers_each : Fields → ℕ
numbers_each t = cond (leb t.depth 8) 1 4

abbrev pub cell_count : Fields → ℕ
cell_count t = t.width * shown_height t * numbers_each t

-- ---- head and table

-- "head (14 + header size bytes)"
abbrev pub head_bytes_of : Fields → ℕ
head_bytes_of t = 14 + t.header_size_of

unfoldable pub head_in : List ℕ → List ℕ
head_in file = take (head_bytes_of (fields_of file)) file

-- "table (4 bytes an entry, as filed)", behind the header
abbrev pub table_bytes_of : Fields → ℕ
table_bytes_of t = 4 * table_count t

unfoldable pub table_in : List ℕ → List ℕ
table_in file = take (table_bytes_of (fields_of file)) (drop (head_bytes_of (fields_of file)) file)

-- ---- the profile

-- "the header has 124 bytes and one of the two profile colour spaces": bV5CSType, LINK or MBED
unfoldable pub has_profile : List ℕ → Bool
has_profile file = eqb (fields_of file).header_size_of 124 && (eqb (dword_at file 70) 0x4C494E4B || eqb (dword_at file 70) 0x4D424544)

-- bV5ProfileSize
unfoldable pub profile_bytes_of : List ℕ → ℕ
profile_bytes_of file = cond (has_profile file) (dword_at file 130) 0

-- bV5ProfileData counts from the header's start; an empty part is the file's first no bytes
unfoldable pub profile_at_of : List ℕ → ℕ
profile_at_of file = cond (eqb (profile_bytes_of file) 0) 0 (14 + dword_at file 126)

-- "the profile comes back as the part of the file that holds it"
unfoldable pub profile_in : List ℕ → List ℕ
profile_in file = take (profile_bytes_of file) (drop (profile_at_of file) file)
