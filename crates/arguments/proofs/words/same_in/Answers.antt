use mathlib.Core.Path.{◌∙◌}
use Prim.Native.Nat.{ℕ}
use borrow.Author.Tests.{ne_eqb}
use lib.Dec.{eqb}
use lib.ListN.{length}
use Rattle.std.proofs.Common.{rules, tests}
use Rattle.std.proofs.lemmas.Iterator.{YieldsList-from_slice, YieldsList-from_zip}
use Rattle.std.proofs.lemmas.Iterator.Search.{all_from_yields_List}
use Rattle.arguments.specs.Words.{byte_in}
use Rattle.arguments.proofs.Pieces.{alike_in, unlike_case}
use Rattle.arguments.proofs.words.same_in.Goals as goal

pub returns-then-text-name : goal.returns-then-text-name
returns-then-text-name c =
    let a = c.args in
    all_from_yields_List (λ (p : ℕ × ℕ). eqb (p.0) (byte_in a.any_case (p.1))) c.all.new.self _ c.all.result c.all.ensures.ran (YieldsList-from_zip (YieldsList-from_slice a.text.now cc) (YieldsList-from_slice a.name.now cc)) (λ x b q k. search (rules, tests))
    ∙ alike_in a.any_case a.text.now a.name.now c.if-text-name.true

pub returns-else-text-name : goal.returns-else-text-name
returns-else-text-name c =
    ne_eqb (length c.args.text.now) (length c.args.name.now) c.if-text-name.false ∙ unlike_case c.args.any_case c.args.text.now c.args.name.now c.if-text-name.false
