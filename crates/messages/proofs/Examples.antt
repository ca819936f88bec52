-- Numbers, a line and checksums, by computation; the checksums are those that `cksum` prints.
use mathlib.Core.List.{[], ◌∷◌, map}
use mathlib.Core.Path.{◌≡◌, refl}
use Rattle.leaves.specs.Texts.{bytes_of}
use Rattle.messages.specs.Checksum.{crc_bit, crc_bits, crc_byte, crc_of, bytes_in, cksum}
use Rattle.messages.specs.Messages.{decimal_in, decimal, piece_for, filled}

pub decimals_hold : map decimal (0 ∷ 7 ∷ 10 ∷ 4294967295 ∷ 18446744073709551615 ∷ []) ≡ map bytes_of ("0" ∷ "7" ∷ "10" ∷ "4294967295" ∷ "18446744073709551615" ∷ [])
unfolding decimal_in decimal bytes_of
decimals_hold = refl

pub line_holds : filled (bytes_of "grid.bmp") (bytes_of "Rle8") (bytes_of "62") (bytes_of "1") (bytes_of "@: #, % bytes, cksum &") ≡ bytes_of "grid.bmp: Rle8, 62 bytes, cksum 1"
unfolding piece_for filled bytes_of
line_holds = refl

pub checksums_hold : map cksum (bytes_of "" ∷ bytes_of "123456789" ∷ []) ≡ 4294967295 ∷ 930766865 ∷ []
unfolding crc_bit crc_bits crc_byte crc_of bytes_in cksum bytes_of
checksums_hold = refl
