use Rattle.std.proofs.Common.{◌≡◌, ℕ, ◌/◌, ◌%◌, Bool, true, false}
use mathlib.Core.Bool.{not, ◌&&◌}
use borrow.Author.Tests.{eq-eqb, ne_eqb}
use lib.Dec.{T, eqb}
use lib.Ieee.{binary64, nan_bits}
use Rattle.command_lines.proofs.double.Goals as goal

-- a pattern whose exponent is not that of a NaN, and one that has no digits
finite : (bits : ℕ) → (bits % 0x8000000000000000 / 0x10000000000000 ≡ 2047 → ⊥) → T (not (nan_bits binary64 bits))
unfolding nan_bits
finite bits n = rw (ne_eqb (bits % 0x8000000000000000 / 0x10000000000000) 2047 n) tt

infinite : (bits : ℕ) → bits % 0x10000000000000 ≡ 0 → T (not (nan_bits binary64 bits))
unfolding nan_bits
infinite bits e = rw (eq-eqb (bits % 0x10000000000000) 0 e) (go (eqb (bits % 0x8000000000000000 / 0x10000000000000) 2047))
  where
    go : (b : Bool) → T (not (b && not true))
    go true = tt
    go false = tt

pub float_from_bits-result : goal.float_from_bits-result
float_from_bits-result c = finite c.args.bits c.if-bits-ne2047.true

pub float_from_bits-result-then-bits-eq0 : goal.float_from_bits-result-then-bits-eq0
float_from_bits-result-then-bits-eq0 c = infinite c.args.bits c.if-bits-eq0.true
