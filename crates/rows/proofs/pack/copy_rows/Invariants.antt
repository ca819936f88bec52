use Rattle.rows.proofs.AllRows.{copy_at, SoFar}
use Rattle.rows.proofs.pack.copy_rows.Given as goal

abbrev pub invariant-loop-s : goal.invariant-loop-s
invariant-loop-s l = SoFar (copy_at l.stored l.bytes l.height l.top_down l.plane l.stride) l.stored l.at l.origin l.initial.dst l.initial.starts l.dst l.starts l.s
