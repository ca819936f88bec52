-- The text of a sheet that is written: lines of numbers in decimal.
use Rattle.std.specs.Prelude.{cond, List, [], ◌∷◌, ◌++◌, ℕ, ◌+◌, ◌%◌, eqb, length, get_or}
use Rattle.leaves.specs.Lists.{cat}
use Rattle.messages.specs.Messages.{decimal}

-- a newline behind the last number of a line, and a comma behind the others
unfoldable pub mark_behind : ℕ → ℕ → ℕ
mark_behind width k = cond (eqb ((k + 1) % width) 0) 10 44

-- a number in decimal, with its mark
unfoldable pub entry_text : ℕ → List ℕ → ℕ → List ℕ
entry_text width cells k = decimal (get_or cells k 0) ++ (mark_behind width k ∷ [])

-- lines of `width` numbers
unfoldable pub sheet_text : ℕ → List ℕ → List ℕ
sheet_text width cells = cat (entry_text width cells) (length cells)
