use Rattle.cells.proofs.Loops.{tab_start, tab_turn, tab_end}
use mathlib.Core.Path.{refl}
use native.Mathlib.Omega.{arith}
use Rattle.cells.proofs.indices.repeat.Goals as goal

pub loop-j-init : goal.loop-j-init
loop-j-init c = let a = c.args in tab_start (λ j. a.value)

pub loop-j-preserved : goal.loop-j-preserved
loop-j-preserved c = let a = c.args in let l = c.loop-j in tab_turn (λ j. a.value) l.j _ l.invariant refl (omega arith)

pub returns : goal.returns
returns c = let a = c.args in tab_end (λ j. a.value) c.loop-j.invariant (omega arith)
