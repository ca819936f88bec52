use mathlib.Core.Path.{sym, ◌∙◌}
use Prim.Native.Nat.{ℕ}
use lib.Dec.{eqb}
use native.Mathlib.Omega.{arith}
use lib.ListN.{length, drop}
use Rattle.std.proofs.Common.{rules, tests}
use Rattle.std.proofs.lemmas.Iterator.{YieldsList-from_slice}
use Rattle.std.proofs.lemmas.Iterator.Search.{position_from_yields_List}
use Rattle.std.proofs.lemmas.Slice.{between_to_end}
use Rattle.arguments.proofs.Pieces.{end_found, end_missed}
use Rattle.arguments.proofs.words.end_of.Goals as goal

pub returns-in-Some : goal.returns-in-Some
returns-in-Some c =
    let a = c.args in
    let is = position_from_yields_List (λ (b : ℕ). eqb b a.mark) _ _ c.position.result c.position.ensures.ran (YieldsList-from_slice (drop a.at a.text.now) (c.iter.ensures.rest ∙ between_to_end a.text.now a.at (length a.text.now) (omega arith))) (λ x b q k. search (rules, tests)) in
    end_found a.mark a.text.now a.at c.requires c.in-Some.n (sym is ∙ c.in-Some.is)

pub returns-in-None : goal.returns-in-None
returns-in-None c =
    let a = c.args in
    let is = position_from_yields_List (λ (b : ℕ). eqb b a.mark) _ _ c.position.result c.position.ensures.ran (YieldsList-from_slice (drop a.at a.text.now) (c.iter.ensures.rest ∙ between_to_end a.text.now a.at (length a.text.now) (omega arith))) (λ x b q k. search (rules, tests)) in
    end_missed a.mark a.text.now a.at c.requires (sym is ∙ c.in-None.is)
