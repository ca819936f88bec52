use Rattle.std.proofs.Common.{◌≡◌, ◌<◌, length}
use Rattle.examples.proofs.all_rows.Given as goal

abbrev pub invariant-loop-width : goal.invariant-loop-width
invariant-loop-width g l = (l.h < 4294967291) × (length l.buf ≡ 512)
