use Rattle.cells.specs.Quads.{bytes_quad}
use Rattle.cells.proofs.CellLaws.{bytes-length, bytes_turn}
use Rattle.cells.proofs.Loops.{cat_start, cat_turn, cat_end, inside}
use Prim.Native.Nat.{◌+◌, ◌*◌}
use mathlib.Core.Path.{refl}
use native.Mathlib.Omega.{arith}
use Rattle.cells.proofs.colours.each_cell.Goals as goal

pub loop-x-init : goal.loop-x-init
loop-x-init c = let a = c.args in cat_start (bytes_quad a.file.now a.from a.size) 4 (bytes-length a.file.now a.from a.size)

pub loop-x-preserved : goal.loop-x-preserved
loop-x-preserved c =
    let a = c.args in
    let l = c.loop-x in
    cat_turn (bytes_quad a.file.now a.from a.size) 4 (bytes-length a.file.now a.from a.size) l.x _ l.invariant (omega (arith, inside a.to 4 a.n l.x (omega arith))) (bytes_turn a.file.now l.cells _ a.from a.size l.x a.to (a.from + l.x * a.size) (a.to + 4 * l.x) _ _ _ refl (omega arith) c.byte.ensures.0 c.byte-in-loop-x.ensures.0 c.byte-in-loop-x-2.ensures.0 c.put_quad.ensures)

pub returns : goal.returns
returns c = let a = c.args in cat_end (bytes_quad a.file.now a.from a.size) 4 (bytes-length a.file.now a.from a.size) c.loop-x.invariant (omega arith)
