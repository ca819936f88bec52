use Rattle.std.proofs.Common.{◌≡◌, ℕ, ◌+◌, List, length, take}
use Rattle.leaves.specs.Lists.{tab}
use Rattle.rows.specs.StoredRows.{exchanged_byte}
use Rattle.rows.proofs.exchange.exchange_sixteen.Given as goal

-- byte i + k of the cells
abbrev pub byte : List ℕ → ℕ → ℕ → ℕ
byte src i k = exchanged_byte src (i + k)

abbrev pub invariant-loop-j : goal.invariant-loop-j
invariant-loop-j l = (length l.bytes ≡ 48) × (take l.j l.bytes ≡ tab (byte l.src l.i) l.j)
