use mathlib.Core.Path.{◌≡◌}
use Prim.Native.Nat.{ℕ, ◌<◌, ◌^◌}
use Rattle.messages.specs.Checksum.{crc_of, bytes_in}
use Rattle.messages.proofs.checksum.with_number.Given as goal

abbrev pub invariant-loop-left : goal.invariant-loop-left
invariant-loop-left l = (k : ℕ) × (l.left < 256 ^ k) × (crc_of l.sum (bytes_in k l.left) ≡ crc_of l.before (bytes_in 8 l.n))

abbrev pub decreases-loop-left : goal.decreases-loop-left
decreases-loop-left l = l.left
