use Rattle.std.proofs.Common.{◌≡◌, false}
use Rattle.leaves.specs.Lists.{cat}
use Rattle.leaves.specs.Put.{put}
use Rattle.rows.specs.StoredRows.{mask_cell}
use Rattle.rows.proofs.masks.MaskLayout.short_cells.Given as goal

abbrev pub invariant-loop-x : goal.invariant-loop-x
invariant-loop-x g l = l.dst ≡ put l.initial.dst l.at (cat (mask_cell l.self 4 false l.src) l.x)
