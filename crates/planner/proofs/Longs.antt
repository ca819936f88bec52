-- A LONG's 32 bits.
use mathlib.Core.Path.{◌≡◌, refl, ap, ◌∙◌}
use Prim.Native.Nat.{ℕ, ◌<◌}
use lib.IntN.{ℤ}
use lib.Signed.{mag}
use mir.Syntax.{w32}
use mir.Val.{of_z, to_z}
use Rattle.leaves.proofs.Signs.{read_back}

-- what is computed of the machine's form of a number
pub long_of : (z : ℤ) (r : ℕ) → mag z < 2147483648 → r ≡ of_z w32 (to_z w32 (of_z w32 z)) → r ≡ of_z w32 z
long_of z r h e = e ∙ ap (of_z w32) (read_back z z h refl)
