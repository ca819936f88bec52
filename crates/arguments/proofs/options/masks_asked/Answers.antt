use mathlib.Core.List.{List, [], ◌∷◌}
use mathlib.Core.Path.{ap, ◌∙◌, ◌≡◌}
use Prim.Native.Nat.{ℕ}
use Rattle.std.specs.Prelude.{Option}
use Rattle.std.specs.Option.{unwrap_or}
use Rattle.leaves.specs.declared.bitfields.BmpBitfields.{BmpBitfields}
use Rattle.arguments.specs.Options.{masks_asked}
use Rattle.arguments.specs.Numbers.{number16, number32}
use Rattle.arguments.specs.Words.{items_of, item_at}
use Rattle.arguments.proofs.options.masks_asked.Goals as goal

module _ (list : List ℕ) where
  abbrev part : ℕ → List ℕ
  part = item_at (items_of 44 list)

  abbrev mask : ℕ → ℕ
  mask k = unwrap_or (number32 (part k)) 0

  made : (depth red green blue alpha : ℕ) → depth ≡ unwrap_or (number16 (part 0)) 0 → red ≡ mask 1 → green ≡ mask 2 → blue ≡ mask 3 → alpha ≡ mask 4
      → ◌≡◌ {A = BmpBitfields} (record { bpp = depth; masks = red ∷ green ∷ blue ∷ alpha ∷ [] }) (masks_asked list)
  unfolding masks_asked
  made depth red green blue alpha d r g b a = rw (d, r, g, b, a)

pub returns : goal.returns
returns c =
    made c.args.list.now c.unwrap_or.result c.mask-red.result c.mask-green.result c.mask-blue.result c.mask-alpha.result
    (c.unwrap_or.ensures ∙ ap (λ (n : Option ℕ). unwrap_or n 0) (c.number16.ensures ∙ ap number16 c.item.ensures)) c.mask-red.ensures c.mask-green.ensures c.mask-blue.ensures c.mask-alpha.ensures
