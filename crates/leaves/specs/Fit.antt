-- A sample fitted to a channel's bits.
use Rattle.std.specs.Prelude.{ℕ, zero, suc, ◌+◌, ◌-◌, ◌*◌, ◌/◌, ◌%◌, ◌^◌, cond, nat_le}

-- n bits, counted from the top, as a number
unfoldable pub from_top : (ℕ → ℕ) → ℕ → ℕ
from_top bit zero = 0
from_top bit (suc n) = from_top bit n * 2 + bit n

-- bit k of a sample of 8 bits, counted from the top
abbrev pub sample_bit : ℕ → ℕ → ℕ
sample_bit sample k = sample / 2 ^ (7 - k) % 2

-- document 02, A.4: "For more than 16 bits the sample's bits are repeated from the top down until n bits are full":
-- bit k of the n, counted from the top, is bit k mod 8 of the sample
unfoldable pub repeated : ℕ → ℕ → ℕ
repeated n sample = from_top (λ k. sample_bit sample (k % 8)) n

-- document 01, Cells: "A sample of 8 bits goes to n bits: n at most 8, the top n; n of 9 to 15, sample × 2^(n−8) plus the sample's
-- top n−8 bits; n of 16 or more, sample × 2^(n−8) plus the sample", of which document 02, A.4, leaves 16
unfoldable pub fit : ℕ → ℕ → ℕ
fit n sample =
    cond (nat_le n 8) (sample / 2 ^ (8 - n))
    (cond (nat_le n 15) (sample * 2 ^ (n - 8) + sample / 2 ^ (8 - (n - 8)))
    (cond (nat_le n 16) (sample * 2 ^ (n - 8) + sample) (repeated n sample)))
