use mathlib.Core.List.{List, [], ◌∷◌, ◌++◌}
use mathlib.Core.Path.{refl, ◌≡◌}
use Prim.Native.Nat.{ℕ, ◌-◌}
use lib.ListN.{length}
use Rattle.messages.specs.Checksum.{crc_byte, crc_of, bytes_in, cksum}
use Rattle.messages.proofs.checksum.checksum.Goals as goal

joined : (r : ℕ) (xs ys : List ℕ) → crc_of (crc_of r xs) ys ≡ crc_of r (xs ++ ys)
unfolding crc_of
joined r [] ys = refl
joined r (x ∷ xs) ys = joined (crc_byte r x) xs ys

inverted : (bytes : List ℕ) (sum whole : ℕ) → sum ≡ crc_of 0 bytes → whole ≡ crc_of sum (bytes_in 8 (length bytes)) → 0xFFFFFFFF - whole ≡ cksum bytes
unfolding cksum
inverted bytes sum whole e f = rw (f, e, joined 0 bytes (bytes_in 8 (length bytes)))

pub returns : goal.returns
returns c = inverted c.args.bytes.now c.of_bytes.result c.with_number.result c.of_bytes.ensures c.with_number.ensures
