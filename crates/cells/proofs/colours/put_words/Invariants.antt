use Rattle.format.specs.Readers.{cell_word}
use Rattle.cells.specs.Quads.{quad_under}
use Rattle.leaves.specs.Lists.{cat}
use Rattle.cells.proofs.Loops.{SoFar}
use lib.ListN.{drop}
use Rattle.cells.proofs.colours.put_words.Given as goal

abbrev pub invariant-loop-x : goal.invariant-loop-x
invariant-loop-x l = SoFar l.initial.cells l.to (cat (λ k. quad_under l.channels (cell_word l.depth (drop l.from l.file) k)) l.x) l.cells
