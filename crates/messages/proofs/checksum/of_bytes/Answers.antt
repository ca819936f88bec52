use mathlib.Core.List.{List}
use mathlib.Core.Path.{◌∙◌, ◌≡◌}
use Prim.Native.Nat.{ℕ, ◌+◌, ◌≤◌, ◌<◌}
use native.Mathlib.Omega.{arith}
use lib.ListN.{drop_of_length-le, length, get_or, drop}
use Rattle.messages.specs.Checksum.{crc_byte, crc_of}
use Rattle.arguments.proofs.Pieces.{split}
use Rattle.messages.proofs.checksum.of_bytes.Goals as goal

more : (bytes : List ℕ) (sum i r : ℕ) → i < length bytes → r ≡ crc_byte sum (get_or bytes i 0) → crc_of r (drop (i + 1) bytes) ≡ crc_of sum (drop i bytes)
unfolding crc_of
more bytes sum i r h e = rw (split bytes i h, e)

done : (bytes : List ℕ) (sum i : ℕ) → length bytes ≤ i → sum ≡ crc_of sum (drop i bytes)
unfolding crc_of
done bytes sum i h = rw (drop_of_length-le bytes h)

pub loop-byte-preserved : goal.loop-byte-preserved
loop-byte-preserved c =
    let l = c.loop-byte in
    more c.args.bytes.now l.sum l.byte-index c.with_byte-sum.result (omega arith) c.with_byte-sum.ensures ∙ l.invariant

pub returns : goal.returns
returns c = done c.args.bytes.now c.loop-byte.sum c.loop-byte.byte-index c.loop-byte-test.false ∙ c.loop-byte.invariant
