use mathlib.Core.List.{List}
use mathlib.Core.Path.{ap, ◌∙◌, ◌≡◌}
use Prim.Native.Nat.{ℕ}
use Rattle.arguments.specs.Words.{items_of, item_at}
use Rattle.sheets.specs.Sheets.{without_return}
use Rattle.sheets.proofs.cell_text.Goals as goal

same_item : {m n : ℕ} {l k : List ℕ} (column : ℕ) → m ≡ n → l ≡ k → item_at (items_of m l) column ≡ item_at (items_of n k) column
same_item column e f = rw (e, f)

pub returns : goal.returns
returns c =
    c.item.ensures
    ∙ same_item c.args.column c.separator.ensures (c.without_return.ensures ∙ ap without_return c.part.ensures)
