use mathlib.Core.Path.{sym, ◌∙◌}
use native.Mathlib.Omega.{arith}
use lib.ListN.{length, length-set}
use Rattle.grids.specs.Levels.{Spread}
use Rattle.grids.specs.Scale.{quote_at}
use Rattle.grids.proofs.Placing.{paint_turn, paint_end}
use Rattle.grids.proofs.Scales.{each_quote}
use Rattle.grids.proofs.Shades.{levels, same_index}
use Rattle.grids.proofs.scale.fill.Goals as goal

pub invariant_of-blocks : goal.invariant_of-blocks
invariant_of-blocks c =
    let spread : Spread c.args.edges.now c.put_ends.new.ends c.put_edges.new.all = record { padded = c.put_edges.ensures; block_ends = c.put_ends.ensures } in
    record { levels = levels c.args.edges.now c.put_ends.new.ends c.put_edges.new.all c.requires.edges_rise spread; all_ends = c.put_ends.array_long }

pub index-requires : goal.index-requires
unfolding quote_at
index-requires c =
    let a = c.args in
    each_quote a.lows.now a.highs.now (length a.lows.now) c.loop-k.k c.requires.all_quotes (omega arith)

pub loop-k-preserved : goal.loop-k-preserved
unfolding quote_at
loop-k-preserved c =
    let a = c.args in
    let p = c.requires in
    let l = c.loop-k in (
      simp length-set l.invariant.0,
      paint_turn a.edges.now a.lows.now a.highs.now l.plane l.k c.index.result (omega arith) (omega arith) (c.index.ensures ∙ same_index a.edges.now c.put_ends.new.ends c.put_edges.new.all p.edges_rise (record { padded = c.put_edges.ensures; block_ends = c.put_ends.ensures }) (quote_at a.lows.now a.highs.now l.k)) ∙ l.invariant.1,
    )

pub returns : goal.returns
returns c =
    let a = c.args in
    let l = c.loop-k in
    sym (paint_end a.edges.now a.lows.now a.highs.now l.plane l.k (omega arith)) ∙ l.invariant.1
