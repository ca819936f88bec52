use mathlib.Core.Path.{◌∙◌, ap}
use Prim.Native.Nat.{ℕ}
use native.Mathlib.Omega.{arith}
use lib.Dec.{eqb}
use lib.ListN.{length}
use Rattle.std.proofs.Common.{rules, tests}
use Rattle.std.proofs.lemmas.Iterator.Splits.{YieldsList-from_slice_split}
use Rattle.std.proofs.lemmas.Iterator.Consumers.{count_from_yields_List}
use Rattle.arguments.proofs.Pieces.{items_split, items_most}
use Rattle.arguments.proofs.words.items.Goals as goal

pub returns : goal.returns
returns c =
    let a = c.args in
    let e = c.split.ensures in
    let is = count_from_yields_List c.split.result c.count.result c.count.ensures.ran (YieldsList-from_slice_split _ (λ (b : ℕ). eqb b a.mark) a.list.now e.rest e.done e.closure (λ x b q k. search (rules, tests))) ∙ ap length (items_split a.mark a.list.now) in
    (is, omega (arith, is, items_most a.mark a.list.now))
