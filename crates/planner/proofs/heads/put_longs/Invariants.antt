use mathlib.Core.Path.{◌≡◌}
use Prim.Native.Nat.{◌-◌, ◌≤◌}
use lib.ListN.{length, take}
use Rattle.leaves.specs.Put.{put}
use Rattle.format.specs.Headers.{dwords, longs}
use Rattle.planner.proofs.heads.put_longs.Given as goal

abbrev pub invariant-loop-i : goal.invariant-loop-i
invariant-loop-i l = (length l.buf ≡ length l.initial.buf) × (l.buf ≡ put l.initial.buf l.at (dwords (take l.i (longs l.src))))
