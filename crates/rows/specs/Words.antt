-- Cells taken several at a time: bytes as one number, and how many from a place on pass a test.
use Rattle.std.specs.Prelude.{ℕ, zero, suc, ◌+◌, ◌*◌, Bool, cond}

-- the number whose bytes are f k, f (k + 1), .., the first one lowest, n of them
unfoldable pub word : (ℕ → ℕ) → ℕ → ℕ → ℕ
word f k zero = 0
word f k (suc n) = word f (k + 1) n * 256 + f k

-- the number with the n digits f 0, f 1, .. to the base b, the first one lowest: lanes of a word, where b is a power of 2
unfoldable pub lanes : ℕ → (ℕ → ℕ) → ℕ → ℕ
lanes b f zero = 0
lanes b f (suc n) = lanes b (λ i. f (suc i)) n * b + f 0

-- how many of the n places from k on pass a test before the first that does not
unfoldable pub leading : (ℕ → Bool) → ℕ → ℕ → ℕ
leading t k zero = 0
leading t k (suc n) = cond (t k) (suc (leading t (k + 1) n)) 0
