use Rattle.std.proofs.Common.{◌≡◌, ◌+◌, ◌-◌, ◌≤◌, length, drop}
use Rattle.leaves.specs.Put.{put}
use Rattle.leaves.proofs.buffer.put_slice.Given as goal

abbrev pub invariant-loop-done : goal.invariant-loop-done
invariant-loop-done l = (l.done ≤ l.n) × (length l.buf ≡ length l.initial.buf) × (put l.buf (l.at + l.done) (drop l.done l.src) ≡ put l.initial.buf l.at l.src)

abbrev pub decreases-loop-done : goal.decreases-loop-done
decreases-loop-done l = l.n - l.done
