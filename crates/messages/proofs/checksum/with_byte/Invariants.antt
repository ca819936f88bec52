use mathlib.Core.Path.{◌≡◌}
use Rattle.messages.specs.Checksum.{crc_bits}
use Rattle.messages.proofs.checksum.with_byte.Given as goal

abbrev pub invariant-loop-bit : goal.invariant-loop-bit
invariant-loop-bit l = l.r ≡ crc_bits l._bit l.initial.r
