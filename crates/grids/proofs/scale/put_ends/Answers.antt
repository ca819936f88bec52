use native.Mathlib.Omega.{arith}
use mathlib.Core.Path.{refl}
use Rattle.grids.proofs.Placing.{placed_none, placed_turn}
use Rattle.grids.proofs.scale.put_ends.Goals as goal

pub loop-i-init : goal.loop-i-init
loop-i-init c = placed_none _ 16 _ c.requires.1

pub loop-i-preserved : goal.loop-i-preserved
loop-i-preserved c = placed_turn _ c.loop-i.invariant (omega arith) refl

pub returns : goal.returns
returns c i h = c.loop-i.invariant.each i (omega arith)
