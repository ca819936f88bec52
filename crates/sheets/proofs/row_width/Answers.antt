use mathlib.Core.List.{List}
use mathlib.Core.Path.{sym, ap, ◌∙◌, ◌≡◌}
use Prim.Native.Nat.{ℕ, ◌+◌, ◌≤◌, ◌<◌}
use lib.ListN.{length, drop}
use Rattle.arguments.specs.Words.{up_to, items_of}
use Rattle.arguments.proofs.Pieces.{part_up}
use Rattle.sheets.specs.Sheets.{without_return, rows_of, width_of}
use Rattle.sheets.proofs.SheetLaws.{rows_end, rows_at, no_width_lem, width-first, length_row}
use Rattle.sheets.proofs.row_width.Goals as goal

none : (separator : ℕ) (text : List ℕ) (at : ℕ) → length text ≤ at → 0 ≡ width_of (rows_of separator (drop at text))
none separator text at h = sym (ap width_of (rows_end separator text at h) ∙ no_width_lem)

here : (separator : ℕ) (text : List ℕ) (at to : ℕ) → at < length text → to ≡ at + length (up_to 10 (drop at text))
    → length (items_of separator (without_return (up_to 10 (drop at text)))) ≡ width_of (rows_of separator (drop at text))
here separator text at to h e =
    sym (ap width_of (rows_at separator text at h to e) ∙ width-first _ _ ∙ length_row separator (up_to 10 (drop at text)))

pub returns-then-at-text : goal.returns-then-at-text
returns-then-at-text c = let a = c.args in none a.separator a.text.now a.at c.if-at-text.true

pub returns : goal.returns
returns c =
    let a = c.args in
    let to = c.end_of-to in
    let line = part_up 10 a.text.now a.at to.result c.part.result.now c.part.ensures to.ensures.0 to.ensures.1 in
    c.items.ensures.0 ∙ ap (λ (l : List ℕ). length (items_of a.separator l)) (c.without_return.ensures ∙ ap without_return line)
    ∙ here a.separator a.text.now a.at to.result c.if-at-text.false to.ensures.0
