use Rattle.format.specs.Readers.{cell_word}
use Rattle.cells.specs.Quads.{quad_under}
use Rattle.cells.proofs.CellLaws.{words_turn}
use Rattle.cells.proofs.Loops.{cat_start, cat_turn, cat_end, inside}
use lib.ListN.{drop}
use Prim.Native.Nat.{◌+◌, ◌*◌, ◌/◌}
use mathlib.Core.Path.{refl}
use native.Mathlib.Omega.{arith}
use Rattle.cells.proofs.colours.put_words.Goals as goal

pub loop-x-init : goal.loop-x-init
loop-x-init c = let a = c.args in cat_start (λ x. quad_under a.channels (cell_word a.depth (drop a.from a.file.now) x)) 4 (λ x. refl)

pub loop-x-preserved : goal.loop-x-preserved
loop-x-preserved c =
    let a = c.args in
    let l = c.loop-x in
    cat_turn (λ x. quad_under a.channels (cell_word a.depth (drop a.from a.file.now) x)) 4 (λ x. refl) l.x _ l.invariant (omega (arith, inside a.to 4 a.n l.x (omega arith))) (words_turn a.file.now l.cells _ a.channels a.from a.depth l.x a.to (a.from + l.x * (a.depth / 8)) (a.to + 4 * l.x) _ _ _ _ _ c.requires.known_depth refl (omega arith) c.cell_word-word.ensures c.value_under.ensures c.value_under-in-loop-x.ensures c.value_under-in-loop-x-2.ensures c.value_under-in-loop-x-3.ensures c.put_quad.ensures)

pub returns : goal.returns
returns c = let a = c.args in cat_end (λ x. quad_under a.channels (cell_word a.depth (drop a.from a.file.now) x)) 4 (λ x. refl) c.loop-x.invariant (omega arith)
