-- A signed number, read back from its bits.
use Rattle.std.proofs.Common.{◌≡◌, ◌^◌, ◌<◌, ℤ, ◌∙◌, to_z-of_z, w32, to_z, of_z}
use lib.Signed.{mag}

pub read_back : (n z : ℤ) → mag n < 2 ^ 31 → n ≡ z → to_z w32 (of_z w32 n) ≡ z
read_back n z h e = to_z-of_z {w = w32} {z = n} (record { sfits = h }) ∙ e
