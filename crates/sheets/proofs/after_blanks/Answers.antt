use mathlib.Core.Path.{sym, ◌∙◌}
use native.Mathlib.Omega.{arith}
use lib.ListN.{length}
use Rattle.std.proofs.Common.{rules, tests}
use Rattle.std.proofs.lemmas.Iterator.{YieldsList-from_slice}
use Rattle.std.proofs.lemmas.Iterator.Search.{position_from_yields_List}
use Rattle.std.proofs.lemmas.Slice.{between_to_end}
use Rattle.sheets.proofs.SheetLaws.{no_blank, blanks_before, blanks_alone}
use Rattle.sheets.proofs.after_blanks.Goals as goal

pub returns-in-Some : goal.returns-in-Some
returns-in-Some c =
    let cell = c.args.cell.now in
    let is = position_from_yields_List no_blank _ _ c.position.result c.position.ensures.ran (YieldsList-from_slice cell c.iter.ensures.rest) (λ x b q k. search (rules, tests)) in
    between_to_end cell c.in-Some.from (length cell) (omega arith) ∙ blanks_before cell c.in-Some.from (sym is ∙ c.in-Some.is)

pub returns-in-None : goal.returns-in-None
returns-in-None c =
    let cell = c.args.cell.now in
    let is = position_from_yields_List no_blank _ _ c.position.result c.position.ensures.ran (YieldsList-from_slice cell c.iter.ensures.rest) (λ x b q k. search (rules, tests)) in
    blanks_alone cell (sym is ∙ c.in-None.is)
