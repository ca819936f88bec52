use mathlib.Core.Path.{◌≡◌}
use Prim.Native.Nat.{◌-◌, ◌≤◌}
use lib.ListN.{length}
use Rattle.leaves.specs.Lists.{cat}
use Rattle.leaves.specs.Put.{put}
use Rattle.format.specs.File.{table_entry}
use Rattle.planner.proofs.heads.write_color_table.Given as goal

abbrev pub invariant-loop-k : goal.invariant-loop-k
invariant-loop-k l = (length l.buf ≡ length l.initial.buf) × (l.buf ≡ put l.initial.buf l.at (cat (table_entry l.palette) l.k))
