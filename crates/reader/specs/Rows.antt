-- The numbers of rows as they are filled in: of stored rows, and of a stream's cells.
use Rattle.std.specs.Prelude.{ℕ, ◌+◌, ◌-◌, ◌*◌, ◌≡◌, true, false, cond, ◌||◌, List, eqb, get_or}
use Rattle.leaves.specs.Lists.{tab, cat}
use Rattle.leaves.specs.Sizes.{has_table}
use Rattle.format.specs.Readers.{Fields, shown_height, stored_at, row_from, cell_word, rgb_cell, mask_cell}
use Rattle.format.specs.Shown.{Cell}
use Rattle.reader.specs.Numbers.{cell_numbers}
use Rattle.reader.specs.Refusals.{written_pair, is_coded}

-- a cell of a row that is not coded, from the row's bytes on
unfoldable pub cell_in : List ℕ → Fields → List ℕ → ℕ → Cell
cell_in file t row x = cond (eqb t.compression 0) (rgb_cell t.depth row x) (mask_cell file t.compression (cell_word t.depth row x))

-- its row
unfoldable pub numbers_in : List ℕ → Fields → List ℕ → List ℕ
numbers_in file t row = cat (λ x. cell_numbers (cell_in file t row x)) t.width

-- all rows from the top
unfoldable pub plain_numbers : List ℕ → Fields → List ℕ
plain_numbers file t = cat (λ y. numbers_in file t (row_from file t (stored_at t y))) (shown_height t)

-- and those of a stream, which gives the bottom row's cells first
unfoldable pub stream_numbers : ℕ → ℕ → List ℕ → List ℕ
stream_numbers w h cells = cat (λ y. tab (λ x. get_or cells ((h - 1 - y) * w + x) 0) w) h

-- a depth and a compression that are written together, and no stream
pub record WrittenKind (t : Fields) : Type 0 where
  pub depth : (has_table t.depth || eqb t.depth 16 || eqb t.depth 24 || eqb t.depth 32) ≡ true
  pub pair : written_pair t.compression t.depth ≡ true
  pub rows : is_coded t.compression ≡ false
