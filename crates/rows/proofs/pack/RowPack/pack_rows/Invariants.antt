use Rattle.leaves.specs.Sizes.{row_stride}
use Rattle.rows.specs.StoredRows.{pack_bits}
use Rattle.rows.proofs.AllRows.{row_at, SoFar}
use Rattle.rows.proofs.pack.RowPack.pack_rows.Given as goal

abbrev pub invariant-loop-s : goal.invariant-loop-s
invariant-loop-s l = SoFar (row_at l.self l.width l.height l.top_down l.plane l.stride) (row_stride l.width (pack_bits l.self)) l.at l.origin l.initial.dst l.initial.starts l.dst l.starts l.s
