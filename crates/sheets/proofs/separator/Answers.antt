use mathlib.Core.Path.{ap, ◌∙◌}
use Prim.Native.Nat.{ℕ}
use Rattle.std.proofs.Common.{rules, tests}
use Rattle.std.specs.Prelude.{Option}
use Rattle.std.specs.Option.{unwrap_or}
use Rattle.std.proofs.lemmas.Iterator.{YieldsList-from_slice}
use Rattle.std.proofs.lemmas.Iterator.Consumers.{YieldsList-from_copied}
use Rattle.std.proofs.lemmas.Iterator.Search.{find_from_yields_List}
use Rattle.sheets.specs.Sheets.{is_separator}
use Rattle.sheets.proofs.SheetLaws.{as_found, first_separator}
use Rattle.sheets.proofs.separator.Goals as goal

pub returns : goal.returns
returns c =
    let text = c.args.text.now in
    c.unwrap_or.ensures
    ∙ ap (λ (x : Option ℕ). unwrap_or x 44) (as_found c.find.result ∙ find_from_yields_List is_separator _ _ c.find.result c.find.ensures.ran (YieldsList-from_copied (YieldsList-from_slice text cc)) (λ x b q k. search (rules, tests)))
    ∙ first_separator text
