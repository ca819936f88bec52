-- What a lent list of row starts holds after rows were written (document 02, A.7: "a lent list of u64, in stored order, with the place in the file of each
-- stored row's first byte").
use Rattle.std.specs.Prelude.{ℕ, zero, suc, List, slice_set}

-- the starts of the first n stored rows, each in its entry; an entry that the list does not have is not stored, so that an empty list stays empty
unfoldable pub noted : (ℕ → ℕ) → List ℕ → ℕ → List ℕ
noted start was zero = was
noted start was (suc n) = slice_set (noted start was n) n (start n)
