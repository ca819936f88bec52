use lib.Dec.{eqb}
use mathlib.Core.Bool.{cond}
use Rattle.cells.proofs.Loops.{tab_start, tab_turn, tab_end}
use Prim.Native.Nat.{◌%◌}
use native.Mathlib.Omega.{arith}
use Rattle.cells.proofs.indices.alternate.Goals as goal

pub loop-j-init : goal.loop-j-init
loop-j-init c = let a = c.args in (tab_start (λ j. cond (eqb (j % 2) 0) a.high a.low))

pub overflow_add-cells : goal.overflow_add-cells
overflow_add-cells c = omega (arith, c.loop-j.invariant.long)

pub offset_bounds-cells-to : goal.offset_bounds-cells-to
offset_bounds-cells-to c = omega (arith, c.loop-j.invariant.long)

pub bounds-cells-to : goal.bounds-cells-to
bounds-cells-to c = omega (arith, c.loop-j.invariant.long)

pub loop-j-preserved : goal.loop-j-preserved
loop-j-preserved c = let a = c.args in let l = c.loop-j in (tab_turn (λ j. cond (eqb (j % 2) 0) a.high a.low) l.j _ l.invariant c.first_if.ensures (omega arith))

pub shape_of-cells : goal.shape_of-cells
shape_of-cells c = c.loop-j.invariant.long

pub returns : goal.returns
returns c = let a = c.args in tab_end (λ j. cond (eqb (j % 2) 0) a.high a.low) c.loop-j.invariant (omega arith)
