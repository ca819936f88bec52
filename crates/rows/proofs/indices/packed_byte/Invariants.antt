use Rattle.std.proofs.Common.{◌≡◌, ℕ, ◌+◌, ◌*◌, ◌/◌, ◌^◌, List, get_or}
use Rattle.rows.specs.Packing.{digits}
use Rattle.rows.proofs.indices.packed_byte.Given as goal

-- the cells of byte i of a row
abbrev pub cell : List ℕ → ℕ → ℕ → ℕ → ℕ
cell cells d i k = get_or cells (i * (8 / d) + k) 0

abbrev pub invariant-loop-j : goal.invariant-loop-j
invariant-loop-j l = l.byte ≡ digits (2 ^ l.bpp) (cell l.src l.bpp l.i) l.j
