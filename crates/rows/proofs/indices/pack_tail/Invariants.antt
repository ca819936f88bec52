use Rattle.std.proofs.Common.{◌≡◌, ◌+◌, drop}
use Rattle.leaves.specs.Put.{put}
use Rattle.rows.specs.Packing.{packed}
use Rattle.rows.proofs.indices.pack_tail.Given as goal

abbrev pub invariant-loop-i : goal.invariant-loop-i
invariant-loop-i l = put l.dst (l.at + l.i) (drop l.i (packed l.bpp l.src l.n)) ≡ put l.initial.dst (l.at + l.from) (drop l.from (packed l.bpp l.src l.n))
