use Rattle.std.proofs.Common.{rules, ◌≡◌, ◌*◌, ◌+◌, ◌-◌, ℕ, ap, ◌∙◌}
use native.Mathlib.Omega.{arith}
use lib.Ieee.{le}
use lib.ListN.{take, drop}
use Rattle.std.specs.List.{count_by}
use Rattle.std.proofs.lemmas.List.{take_all}
use Rattle.grids.proofs.Shades.{shade_found}
use Rattle.grids.proofs.scale.Blocks.shade.Goals as goal

pub returns : goal.returns
returns c =
    let a = c.args in
    let s = a.self.now in
    let base = 16 * c.loop-end.whole in
    let w : c.loop-end.whole ≡ count_by (λ edge. le edge a.price) (take s.full s.ends.now) = c.loop-end.invariant ∙ ap (count_by (λ edge. le edge a.price)) (take_all c.loop-end.end-index (take s.full s.ends.now) (omega arith)) in
    let size : base + 16 - base ≡ 16 = omega arith in
    let n : c.loop-edge.count ≡ count_by (λ edge. le edge a.price) (take 16 (drop base s.edges.now)) = c.loop-edge.invariant ∙ ap (count_by (λ edge. le edge a.price)) (take_all c.loop-edge.edge-index (take (base + 16 - base) (drop base s.edges.now)) (omega arith) ∙ ap (λ (k : ℕ). take k (drop base s.edges.now)) size) in
    shade_found s.full s.ends.now s.edges.now s.levels a.price s.all_ends c.loop-end.whole c.loop-edge.count w n
