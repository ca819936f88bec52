use Rattle.std.proofs.Common.{◌<◌}
use Rattle.examples.proofs.hashed.Given as goal

abbrev pub invariant-loop-byte : goal.invariant-loop-byte
invariant-loop-byte l = l.h < 4294967291
