use Rattle.cells.proofs.Loops.{SoFar}
use Rattle.cells.specs.Quads.{bytes_quad}
use Rattle.leaves.specs.Lists.{cat}
use lib.ListN.{length}
use Prim.Native.Nat.{ℕ, ◌+◌, ◌-◌, ◌*◌, ◌≤◌}
use mathlib.Core.List.{List}
use mathlib.Core.Path.{◌≡◌}
use Rattle.cells.proofs.colours.put_bytes.Given as goal

abbrev pub invariant-loop-x : goal.invariant-loop-x
invariant-loop-x l = (2 ≤ l.x)
    × (l.x ≤ l.n)
    × (l.p ≡ l.from + l.x * l.size)
    × (l.q ≡ l.to + l.x * 4)
    × (length l.cells ≡ length l.initial.cells)
    × ((was : List ℕ) → SoFar was l.to (cat (bytes_quad l.file l.from l.size) 2) l.initial.cells → SoFar was l.to (cat (bytes_quad l.file l.from l.size) l.x) l.cells)

abbrev pub decreases-loop-x : goal.decreases-loop-x
decreases-loop-x l = l.n - l.x
