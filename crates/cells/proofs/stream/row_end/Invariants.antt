use Rattle.cells.specs.Streams.{row_end}
use Rattle.format.specs.Decode.{read_row}
use lib.ListN.{drop}
use Prim.Native.Nat.{◌+◌, ◌*◌, ◌≤◌}
use mathlib.Core.Path.{◌≡◌}
use Rattle.cells.proofs.stream.row_end.Given as goal

abbrev pub invariant-loop-room : goal.invariant-loop-room
invariant-loop-room l = (l.room ≤ l.width) × (l.at + 258 * l.room ≤ l.start + 258 * l.width) × (row_end l.start (read_row l.depth l.width (drop l.start l.file)) ≡ row_end l.at (read_row l.depth l.room (drop l.at l.file)))

abbrev pub decreases-loop-room : goal.decreases-loop-room
decreases-loop-room l = l.room
