use mathlib.Core.List.{List}
use mathlib.Core.Path.{subst, ◌≡◌}
use Prim.Native.Nat.{ℕ}
use lib.ListN.{drop}
use Rattle.std.specs.Prelude.{Result}
use Rattle.sheets.specs.declared.Grid.{Grid}
use Rattle.sheets.specs.declared.SheetError.{SheetError}
use Rattle.sheets.specs.Sheets.{separator_of, without_mark, rows_of, sheet_rows, SheetRead}
use Rattle.sheets.proofs.read_sheet.Goals as goal

rows_are : (text : List ℕ) (start separator : ℕ) → drop start text ≡ without_mark text → separator ≡ separator_of text → rows_of separator (drop start text) ≡ sheet_rows text
unfolding sheet_rows
rows_are text start separator e f = rw (e, f)

as-sheet : (r : Result Grid SheetError) (most : ℕ) (rows sheet : List (List ℕ)) (was later : List ℕ) → rows ≡ sheet → SheetRead r most rows was later → SheetRead r most sheet was later
as-sheet r most rows sheet was later e h = subst (λ (x : List (List ℕ)). SheetRead r most x was later) e h

pub returns : goal.returns
returns c =
    let a = c.args in
    let start = c.start in
    let separator = c.separator in
    let rows = rows_are a.text.now start.result separator.result start.ensures.0 separator.ensures in
    as-sheet c.read_rows.result a.most (rows_of separator.result (drop start.result a.text.now)) (sheet_rows a.text.now) a.cells.now c.read_rows.new.cells rows c.read_rows.ensures
