-- The checksum of POSIX's cksum: the bytes and then their number are the coefficients of a polynomial, and the remainder of its
-- division is inverted.
use Rattle.std.specs.Prelude.{cond, List, [], ◌∷◌, ◌++◌, ℕ, zero, suc, ◌-◌, ◌*◌, ◌/◌, ◌%◌, ◌^◌, eqb, ltb, length}
use Rattle.std.specs.Int.Bits.{bit_xor}

-- a remainder, one coefficient further: it moves up, and where the highest was 1 the divisor is taken off
unfoldable pub crc_bit : ℕ → ℕ
crc_bit r = let moved = r * 2 % 2 ^ 32 in cond (ltb r (2 ^ 31)) moved (bit_xor moved 0x04C11DB7)

unfoldable pub crc_bits : ℕ → ℕ → ℕ
crc_bits zero r = r
crc_bits (suc n) r = crc_bit (crc_bits n r)

-- a byte, its high bit first
unfoldable pub crc_byte : ℕ → ℕ → ℕ
crc_byte r byte = crc_bits 8 (bit_xor r (byte * 2 ^ 24))

unfoldable pub crc_of : ℕ → List ℕ → ℕ
crc_of r [] = r
crc_of r (x ∷ xs) = crc_of (crc_byte r x) xs

-- a number's bytes, k at most and as few as it needs, the low byte first
unfoldable pub bytes_in : ℕ → ℕ → List ℕ
bytes_in zero n = []
bytes_in (suc k) n = cond (eqb n 0) [] (n % 256 ∷ bytes_in k (n / 256))

unfoldable pub cksum : List ℕ → ℕ
cksum bytes = 0xFFFFFFFF - crc_of 0 (bytes ++ bytes_in 8 (length bytes))
