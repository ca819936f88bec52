use mathlib.Core.Path.{◌≡◌}
use lib.ListN.{drop}
use Rattle.messages.specs.Checksum.{crc_of}
use Rattle.messages.proofs.checksum.of_bytes.Given as goal

abbrev pub invariant-loop-byte : goal.invariant-loop-byte
invariant-loop-byte l = crc_of l.sum (drop l.byte-index l.bytes) ≡ crc_of 0 l.bytes
