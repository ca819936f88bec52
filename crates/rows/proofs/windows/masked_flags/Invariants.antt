use Rattle.std.proofs.Common.{◌≡◌, ℕ, ◌+◌, ◌<◌, Bool, eqb, List, length, get_or}
use lib.Bits.{bit_and}
use Rattle.rows.specs.Windows.{bit}
use Rattle.rows.proofs.windows.masked_flags.Given as goal

-- whether the cell k after a place is equal to the one after it, under a mask
abbrev pub alike : List ℕ → ℕ → ℕ → ℕ → Bool
alike row mask at k = eqb (bit_and (get_or row (at + k) 0) mask) (bit_and (get_or row (at + k + 1) 0) mask)

abbrev pub invariant-loop-k : goal.invariant-loop-k
invariant-loop-k l = (length l.flags ≡ 64) × ((j : ℕ) → j < l.k → get_or l.flags j 0 ≡ bit (alike l.row l.mask l.at j))
