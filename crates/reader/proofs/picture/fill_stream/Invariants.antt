use Rattle.cells.specs.Streams.{is_refused}
use Rattle.format.specs.Decode.{decode}
use mathlib.Core.Bool.{false}
use Rattle.reader.proofs.StreamRows.{Rising}
use lib.ListN.{drop}
use Prim.Native.Nat.{◌-◌, ◌<◌}
use mathlib.Core.Path.{◌≡◌}
use Rattle.reader.proofs.picture.fill_stream.Given as goal

abbrev pub invariant-loop-above : goal.invariant-loop-above
invariant-loop-above l = (some : 0 < l.height) (good : is_refused (decode l.depth l.width (drop l.offset l.file) (l.height - 1)) ≡ false) → Rising l.file l.depth l.width l.offset l.height some good l.initial.cells l.cells l.above l.at

abbrev pub decreases-loop-above : goal.decreases-loop-above
decreases-loop-above l = l.above
