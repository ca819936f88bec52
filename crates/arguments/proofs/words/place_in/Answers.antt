use mathlib.Core.List.{List}
use Prim.Native.Nat.{ℕ}
use lib.Dec.{eqb}
use Rattle.std.proofs.Common.{rules, tests}
use Rattle.std.proofs.lemmas.Iterator.Splits.{YieldsList-from_slice_split}
use Rattle.std.proofs.lemmas.Iterator.Search.{position_from_yields_List}
use Rattle.arguments.specs.Words.{alike, in_case}
use Rattle.arguments.proofs.Pieces.{place_found}
use Rattle.arguments.proofs.words.place_in.Goals as goal

pub returns : goal.returns
returns c =
    let a = c.args in
    let e = c.split.ensures in
    let name = in_case a.any_case a.name.now in
    let is = position_from_yields_List (λ (p : List ℕ). alike p name) _ _ c.position.result c.position.ensures.ran (YieldsList-from_slice_split _ (λ (b : ℕ). eqb b 44) a.list.now e.rest e.done e.closure (λ x b q k. search (rules, tests))) (λ x b q k. search (rules, tests)) in
    place_found name a.list.now c.position.result is
