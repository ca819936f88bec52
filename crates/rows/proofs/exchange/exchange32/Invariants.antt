use Rattle.std.proofs.Common.{◌≡◌, false}
use Rattle.leaves.specs.Lists.{cat}
use Rattle.leaves.specs.Put.{put}
use Rattle.rows.specs.StoredRows.{cell32}
use Rattle.rows.proofs.exchange.exchange32.Given as goal

abbrev pub invariant-loop-x : goal.invariant-loop-x
invariant-loop-x l = l.dst ≡ put l.initial.dst l.at (cat (cell32 false l.src) l.x)
