-- The stream: the rows' codes in stored order, each row with its end.
use Rattle.std.specs.Prelude.{◌≡◌, ℕ, ◌+◌, Bool, true, false, Option, Some, None, cond, List, [], ◌∷◌, ◌++◌, length, ◌==◌, nat_lt}
use Rattle.leaves.specs.Lists.{cat}
use Rattle.rows.specs.StoredRows.{row_of, source_row}
use Rattle.rows.specs.RleCodes.{row_codes}

-- document 01, Cells: "Rows end 00 00, the last 00 01": the second byte, of the stored row s of h
abbrev pub end_mark : ℕ → ℕ → ℕ
end_mark h s = cond (s + 1 == h) 1 0

-- the stored row s with its end; a stream is bottom-up
unfoldable pub stream_row : ℕ → ℕ → ℕ → List ℕ → ℕ → ℕ → List ℕ
stream_row d w h plane stride s = row_codes d (source_row plane stride w (row_of false h s)) ++ (0 ∷ end_mark h s ∷ [])

-- the stream of a plane of one index byte a pixel
unfoldable pub stream : ℕ → ℕ → ℕ → List ℕ → ℕ → List ℕ
stream d w h plane stride = cat (stream_row d w h plane stride) h

-- where the codes of the stored row s begin in it (document 02, A.7: "each stored row's first byte"): behind the rows before
unfoldable pub stream_start : ℕ → ℕ → ℕ → List ℕ → ℕ → ℕ → ℕ
stream_start d w h plane stride s = length (cat (stream_row d w h plane stride) s)

-- ---- what a count answers

-- whether the stream is under the budget
abbrev pub is_under : Option ℕ → Bool
is_under (Some bytes) = true
is_under None = false

-- its length; over budget there is none
abbrev pub counted_bytes : Option ℕ → ℕ
counted_bytes (Some bytes) = bytes
counted_bytes None = 0

-- the promise of a count, of a stream of this length. Document 01, Cells: "The stream is used exactly if its whole counted length is under the
-- budget, and "over budget" means that this count is at least the budget"
pub record Counted (length budget : ℕ) (answer : Option ℕ) : Type 0 where
  pub under : is_under answer ≡ nat_lt length budget
  pub bytes : counted_bytes answer ≡ cond (nat_lt length budget) length 0
