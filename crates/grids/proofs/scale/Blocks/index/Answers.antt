use native.Mathlib.Omega.{arith}
use Rattle.grids.proofs.Shades.{next_small, index_hatch, index_shade}
use Rattle.grids.proofs.scale.Blocks.index.Goals as goal

pub offset_bounds-edges-low : goal.offset_bounds-edges-low
offset_bounds-edges-low c =
    let s = c.args.self.now in
    omega (arith, next_small s.full s.ends.now s.edges.now s.levels c.args.quote c.shade-low.result c.shade-low.ensures)

pub bounds-edges-low : goal.bounds-edges-low
bounds-edges-low c =
    let s = c.args.self.now in
    next_small s.full s.ends.now s.edges.now s.levels c.args.quote c.shade-low.result c.shade-low.ensures

pub overflow_cast-result : goal.overflow_cast-result
overflow_cast-result c =
    let s = c.args.self.now in
    omega (arith, next_small s.full s.ends.now s.edges.now s.levels c.args.quote c.shade-low.result c.shade-low.ensures)

pub returns-then-next-quote : goal.returns-then-next-quote
returns-then-next-quote c =
    let s = c.args.self.now in
    index_hatch s.full s.ends.now s.edges.now s.levels c.args.quote c.shade-low.result c.shade-low.ensures c.if-next-quote.true

pub returns-else-next-quote : goal.returns-else-next-quote
returns-else-next-quote c =
    let s = c.args.self.now in
    index_shade s.full s.ends.now s.edges.now s.levels c.args.quote c.shade-low.result c.shade-low.ensures c.requires c.if-next-quote.false
