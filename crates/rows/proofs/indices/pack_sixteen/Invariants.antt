use Rattle.std.proofs.Common.{◌≡◌, ℕ, ◌+◌, List, length, get_or, take}
use Rattle.leaves.specs.Lists.{tab}
use Rattle.rows.specs.Packing.{packed_byte_of}
use Rattle.rows.proofs.indices.pack_sixteen.Given as goal

-- byte i + k of the packed row
abbrev pub byte : List ℕ → ℕ → ℕ → ℕ
byte src i k = packed_byte_of 4 (λ x. get_or src x 0) (i + k)

abbrev pub invariant-loop-j : goal.invariant-loop-j
invariant-loop-j l = (length l.bytes ≡ 16) × (take l.j l.bytes ≡ tab (byte l.src l.i) l.j)
