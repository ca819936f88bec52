use mathlib.Core.Path.{ap, ◌∙◌}
use mathlib.Core.Bool.{cond}
use mathlib.Core.List.{List}
use Prim.Native.Nat.{ℕ}
use lib.Dec.{eqb, ltb}
use Rattle.std.proofs.Common.{rules, tests}
use Rattle.std.proofs.lemmas.Iterator.Search.{all_from_yields_List}
use Rattle.std.proofs.lemmas.Iterator.Splits.{YieldsList-from_slice_split}
use Rattle.std.proofs.lemmas.Iterator.Consumers.{YieldsList-at, YieldsList-from_enumerate}
use Rattle.arguments.specs.Numbers.{is_number32, is_signed32, numbers_from}
use Rattle.arguments.proofs.Pieces.{items_split}
use Rattle.arguments.proofs.NumberLaws.{items_from, miscounted, counted}
use Rattle.arguments.proofs.numbers.are_numbers.Goals as goal

pub returns-then-items-count : goal.returns-then-items-count
returns-then-items-count c =
    let a = c.args in
    let e = c.split.ensures in
    all_from_yields_List (λ (p : ℕ × List ℕ). cond (ltb (p.0) a.signed) (is_signed32 (p.1)) (is_number32 (p.1))) c.all.new.self _ c.all.result c.all.ensures.ran
    (YieldsList-from_enumerate (YieldsList-at c.enumerate.ensures.source (YieldsList-from_slice_split _ (λ (b : ℕ). eqb b 44) a.list.now e.rest e.done e.closure (λ x b q k. search (rules, tests)))) c.enumerate.ensures.count) (λ x b q k. search (rules, tests))
    ∙ items_from a.signed 0 _ ∙ ap (numbers_from a.signed 0) (items_split 44 a.list.now) ∙ counted a.count a.signed a.list.now c.items.result c.items.ensures.0 c.if-items-count.true

pub returns-else-items-count : goal.returns-else-items-count
returns-else-items-count c =
    let a = c.args in
    miscounted a.count a.signed a.list.now c.items.result c.items.ensures.0 c.if-items-count.false
