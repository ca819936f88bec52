use mathlib.Core.Path.{refl, ap, ◌∙◌, ◌≡◌}
use Prim.Native.Nat.{ℕ, ◌^◌, ◌%◌, ◌+◌, ◌*◌, ◌≤◌, ◌<◌}
use native.Mathlib.Nat.{le_antisymm}
use native.Mathlib.Numerals.{add-one}
use native.Mathlib.Omega.{arith}
use borrow.Author.Tests.{lt-ltb, le-ltb}
use lib.Bits.{bit_xor}
use Rattle.messages.specs.Checksum.{crc_bit, crc_byte, crc_bits}
use Rattle.messages.proofs.checksum.with_byte.Goals.{else-r-lt2147483648, then-r-lt2147483648}
use Rattle.messages.proofs.checksum.with_byte.Goals as goal

-- one bit further
module _ (i start r : ℕ) (is : r ≡ crc_bits i start) (s : ℕ) where
  next : s ≡ crc_bit r → s ≡ crc_bits (i + 1) start
  unfolding crc_bits
  next e = rw (add-one i) (e ∙ ap crc_bit is)

  low : r < 2 ^ 31 → s ≡ r * 2 % 2 ^ 32 → s ≡ crc_bits (i + 1) start
  unfolding crc_bit
  low h e = next (rw (lt-ltb r (2 ^ 31) h) e)

  high : 2 ^ 31 ≤ r → s ≡ bit_xor (r * 2 % 2 ^ 32) 0x04C11DB7 → s ≡ crc_bits (i + 1) start
  unfolding crc_bit
  high h e = next (rw (le-ltb r (2 ^ 31) h) e)

done : (sum byte i r : ℕ) → byte < 256 → i ≤ 8 → 8 ≤ i → r ≡ crc_bits i (bit_xor sum (byte * 2 ^ 24 % 2 ^ 32)) → r ≡ crc_byte sum byte
unfolding crc_byte
done sum byte i r b h k e =
    let fits : byte * 2 ^ 24 % 2 ^ 32 ≡ byte * 2 ^ 24 = omega arith in
    rw (le_antisymm h k, fits) at e

pub loop-bit-init : goal.loop-bit-init
unfolding crc_bits
loop-bit-init c = refl

pub loop-bit-preserved : goal.loop-bit-preserved
loop-bit-preserved c =
    let l = c.loop-bit in
    let start = bit_xor c.args.sum (c.args.byte * 2 ^ 24 % 2 ^ 32) in
    elim (c.if-r-lt2147483648.branch) [ then-r-lt2147483648 w ↦ low l._bit start l.r l.invariant c.if-r-lt2147483648.r w.if-r-lt2147483648.true w.r-is | else-r-lt2147483648 w ↦ high l._bit start l.r l.invariant c.if-r-lt2147483648.r w.if-r-lt2147483648.false w.r-is ]

pub returns : goal.returns
returns c =
    let a = c.args in
    let l = c.loop-bit in
    done a.sum a.byte l._bit l.r c.ranges.byte.fits (omega arith) c.loop-bit-test.false l.invariant
