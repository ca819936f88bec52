use Rattle.std.proofs.Common.{◌≡◌, ◌<◌, length}
use Rattle.examples.proofs.rows_hash.Given as goal

abbrev pub invariant-loop-n : goal.invariant-loop-n
invariant-loop-n l = (l.h < 4294967291) × (length l.buf ≡ length l.initial.buf)
