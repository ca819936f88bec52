-- What is taken from a reading of codes, as the code has it.
use Rattle.std.specs.Prelude.{ℕ, zero, suc, ◌+◌, Bool, true, false, List, [], ◌∷◌, ◌++◌, ◌≡◌, length, Option, None, Some}
use Rattle.leaves.specs.Put.{put}
use Rattle.format.specs.Decode.{Decoded, filled, refused}
use Rattle.cells.specs.declared.stream.Code.{Code}

-- whether it is refused
abbrev pub is_refused : Decoded → Bool
is_refused (filled cells taken) = false
is_refused (refused cause) = true

-- the cells, and the bytes that they take; a refusal has none
abbrev pub cells_in : Decoded → List ℕ
cells_in (filled cells taken) = cells
cells_in (refused cause) = []

abbrev pub bytes_in : Decoded → ℕ
bytes_in (filled cells taken) = taken
bytes_in (refused cause) = 0

-- of one code
abbrev pub code_of : Decoded → Option Code
code_of (filled cells taken) = Some (record { cells = length cells; bytes = taken })
code_of (refused cause) = None

-- where a row that begins at `at` ends
abbrev pub row_end : ℕ → Decoded → Option ℕ
row_end at (filled cells taken) = Some (at + taken)
row_end at (refused cause) = None

-- 00 00, the end of a row
abbrev pub marks_end : List ℕ → Bool
marks_end [] = false
marks_end (a ∷ []) = false
marks_end (zero ∷ zero ∷ bytes) = true
marks_end (zero ∷ suc b ∷ bytes) = false
marks_end (suc a ∷ b ∷ bytes) = false

-- cells put at a place, in a row with room for more: the rest of the room may hold anything, since whoever fills it in as well has put all of it
pub record PutWithin (was : List ℕ) (to : ℕ) (cells : List ℕ) (room : ℕ) (is : List ℕ) : Type 0 where
  pub long : length is ≡ length was
  pub filled_in : (rest : List ℕ) → length cells + length rest ≡ room → put is (to + length cells) rest ≡ put was to (cells ++ rest)
