use mathlib.Core.Path.{◌≡◌, refl, ap, ap₂, ◌∙◌}
use mathlib.Core.List.{List, []}
use Prim.Native.Nat.{ℕ}
use lib.ListN.{get_or}
use Rattle.leaves.specs.declared.encoder.EncodedBmpFormat.{EncodedBmpFormat}
use Rattle.leaves.specs.Formats.{format_number, written_names, written_name}
use Rattle.leaves.specs.Texts.{bytes_of, joined}
use Rattle.arguments.specs.Words.{onto, pieces, items_of, item_at}
use Rattle.arguments.proofs.formats.written_name.Goals as goal

names_apart : items_of 44 (joined 44 written_names) ≡ written_names
unfolding joined written_names bytes_of items_of pieces onto
names_apart = refl

named : (names : List ℕ) (n : ℕ) (f : EncodedBmpFormat) → names ≡ joined 44 written_names → n ≡ format_number f → item_at (items_of 44 names) n ≡ written_name f
unfolding item_at written_name
named names n f e k = ap₂ (λ (ps : List (List ℕ)) (m : ℕ). get_or ps m []) (ap (items_of 44) e ∙ names_apart) k

pub returns : goal.returns
returns c =
    let n = c.number in
    c.item.ensures ∙ named c.args.names.now n.result c.args.format c.requires n.ensures
