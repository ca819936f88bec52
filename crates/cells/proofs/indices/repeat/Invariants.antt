use Rattle.leaves.specs.Lists.{tab}
use Rattle.cells.proofs.Loops.{SoFar}
use Rattle.cells.proofs.indices.repeat.Given as goal

abbrev pub invariant-loop-j : goal.invariant-loop-j
invariant-loop-j l = SoFar l.initial.cells l.to (tab (λ k. l.value) l.j) l.cells
