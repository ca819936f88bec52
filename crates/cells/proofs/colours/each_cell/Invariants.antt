use Rattle.cells.specs.Quads.{bytes_quad}
use Rattle.leaves.specs.Lists.{cat}
use Rattle.cells.proofs.Loops.{SoFar}
use Rattle.cells.proofs.colours.each_cell.Given as goal

abbrev pub invariant-loop-x : goal.invariant-loop-x
invariant-loop-x l = SoFar l.initial.cells l.to (cat (bytes_quad l.file l.from l.size) l.x) l.cells
