use lib.Dec.{eqb}
use mathlib.Core.Bool.{cond}
use Rattle.leaves.specs.Lists.{tab}
use Rattle.cells.proofs.Loops.{SoFar}
use Prim.Native.Nat.{◌%◌}
use Rattle.cells.proofs.indices.alternate.Given as goal

abbrev pub invariant-loop-j : goal.invariant-loop-j
invariant-loop-j l = SoFar l.initial.cells l.to (tab (λ k. cond (eqb (k % 2) 0) l.high l.low) l.j) l.cells
