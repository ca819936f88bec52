use mathlib.Core.Path.{refl, sym, ◌∙◌}
use native.Mathlib.Omega.{arith}
use lib.Ieee.{nan, binary64, div, of_bits}
use lib.ListN.{get_or, get_or-eq_default}
use Rattle.grids.proofs.Placing.{placed_none, placed_turn, nan_is}
use Rattle.grids.proofs.scale.put_edges.Goals.{else-k-edges, then-k-edges}
use Rattle.grids.proofs.scale.put_edges.Goals as goal

pub loop-k-init : goal.loop-k-init
loop-k-init c = placed_none _ 256 _ c.requires

pub loop-k-preserved : goal.loop-k-preserved
unfolding of_bits div
loop-k-preserved c =
    let edges = c.args.edges.now in
    let l = c.loop-k in
    placed_turn c.if-k-edges.all l.invariant (omega arith) (elim (c.if-k-edges.branch) [ then-k-edges w ↦ w.all-is | else-k-edges w ↦ w.all-is ∙ nan_is ∙ sym (get_or-eq_default edges nan {n = l.k} w.if-k-edges.false) ])

pub returns : goal.returns
returns c = record { long = c.loop-k.invariant.long; each = λ k h. c.loop-k.invariant.each k (omega arith) }
