use mathlib.Core.List.{List, [], ◌∷◌}
use mathlib.Core.Path.{sym, ◌∙◌}
use Prim.Native.Nat.{ℕ}
use native.Mathlib.Omega.{arith}
use lib.ListN.{take}
use Rattle.sheets.specs.Sheets.{without_mark}
use Rattle.sheets.proofs.SheetLaws.{same_turned}
use Rattle.sheets.proofs.start.Goals as goal

abbrev mark : List ℕ
mark = 0xEF ∷ 0xBB ∷ 0xBF ∷ []

pub returns-then-starts_with : goal.returns-then-starts_with
unfolding without_mark
returns-then-starts_with c =
    let text = c.args.text.now in
    let e = sym (same_turned mark (take 3 text)) ∙ sym c.starts_with.ensures.value ∙ c.if-starts_with.true in
    (rw e, c.starts_with.ensures.bound c.if-starts_with.true)

pub returns-else-starts_with : goal.returns-else-starts_with
unfolding without_mark
returns-else-starts_with c =
    let text = c.args.text.now in
    let e = sym (same_turned mark (take 3 text)) ∙ sym c.starts_with.ensures.value ∙ c.if-starts_with.false in
    (rw e, omega arith)
