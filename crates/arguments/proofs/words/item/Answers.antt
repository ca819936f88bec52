use mathlib.Core.Path.{refl, ap, ◌∙◌}
use mathlib.Core.List.{List}
use Prim.Native.Nat.{ℕ}
use lib.Dec.{eqb}
use Rattle.std.proofs.Common.{rules, tests}
use Rattle.std.specs.List.{slice_get}
use Rattle.std.proofs.lemmas.Iterator.Splits.{YieldsList-from_slice_split}
use Rattle.std.proofs.lemmas.Iterator.Consumers.{nth_from_yields_List}
use Rattle.arguments.proofs.Pieces.{items_split, item_got}
use Rattle.arguments.proofs.words.item.Goals as goal

pub returns : goal.returns
returns c =
    let a = c.args in
    let e = c.split.ensures in
    let is = nth_from_yields_List c.nth.result _ a.k c.nth.ensures.ran (YieldsList-from_slice_split _ (λ (b : ℕ). eqb b a.mark) a.list.now e.rest e.done e.closure (λ x b q k. search (rules, tests))) ∙ ap (λ (ps : List (List ℕ)). slice_get ps a.k) (items_split a.mark a.list.now) in
    item_got c.nth.result c.unwrap_or.result _ c.unwrap_or.ensures refl a.mark a.list.now a.k is
