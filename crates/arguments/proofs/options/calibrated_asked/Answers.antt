use mathlib.Core.List.{List, [], ◌∷◌}
use mathlib.Core.Path.{◌≡◌}
use Prim.Native.Nat.{ℕ}
use lib.IntN.{ℤ, pos}
use Rattle.std.specs.Option.{unwrap_or}
use mir.Val.{to_z, of_z}
use mir.Syntax.{w32}
use Rattle.leaves.specs.declared.options.CalibratedRgb.{CalibratedRgb}
use Rattle.arguments.specs.Options.{calibrated_asked}
use Rattle.arguments.specs.Numbers.{number32, signed32}
use Rattle.arguments.specs.Words.{items_of, item_at}
use Rattle.leaves.proofs.Signs.{read_back}
use Rattle.arguments.proofs.options.calibrated_asked.Goals as goal

module _ (list : List ℕ) where
  abbrev part : ℕ → List ℕ
  part = item_at (items_of 44 list)

  abbrev signed : ℕ → ℤ
  signed k = unwrap_or (signed32 (part k)) (pos 0)

  abbrev mask : ℕ → ℕ
  mask k = unwrap_or (number32 (part k)) 0

  made : (a b c d e f g h i : ℤ) (j k l : ℕ)
      → a ≡ signed 0 → b ≡ signed 1 → c ≡ signed 2 → d ≡ signed 3 → e ≡ signed 4 → f ≡ signed 5
      → g ≡ signed 6 → h ≡ signed 7 → i ≡ signed 8 → j ≡ mask 9 → k ≡ mask 10 → l ≡ mask 11
      → ◌≡◌ {A = CalibratedRgb} (record { endpoints = a ∷ b ∷ c ∷ d ∷ e ∷ f ∷ g ∷ h ∷ i ∷ []; gamma = j ∷ k ∷ l ∷ [] }) (calibrated_asked list)
  unfolding calibrated_asked
  made a b c d e f g h i j k l p q r s t u v w x y z m = rw (p, q, r, s, t, u, v, w, x, y, z, m)

pub returns : goal.returns
returns c =
    let list = c.args.list.now in
    let e0 = c.endpoint-red_x in
    let e1 = c.endpoint-red_y in
    let e2 = c.endpoint-red_z in
    let e3 = c.endpoint-green_x in
    let e4 = c.endpoint-green_y in
    let e5 = c.endpoint-green_z in
    let e6 = c.endpoint-blue_x in
    let e7 = c.endpoint-blue_y in
    let e8 = c.endpoint-blue_z in
    made list (to_z w32 (of_z w32 e0.result))
    (to_z w32 (of_z w32 e1.result)) (to_z w32 (of_z w32 e2.result)) (to_z w32 (of_z w32 e3.result))
    (to_z w32 (of_z w32 e4.result)) (to_z w32 (of_z w32 e5.result)) (to_z w32 (of_z w32 e6.result))
    (to_z w32 (of_z w32 e7.result)) (to_z w32 (of_z w32 e8.result)) c.mask-red.result c.mask-green.result c.mask-blue.result
    (read_back e0.result (signed list 0) e0.type_inv e0.ensures) (read_back e1.result (signed list 1) e1.type_inv e1.ensures) (read_back e2.result (signed list 2) e2.type_inv e2.ensures)
    (read_back e3.result (signed list 3) e3.type_inv e3.ensures) (read_back e4.result (signed list 4) e4.type_inv e4.ensures) (read_back e5.result (signed list 5) e5.type_inv e5.ensures)
    (read_back e6.result (signed list 6) e6.type_inv e6.ensures) (read_back e7.result (signed list 7) e7.type_inv e7.ensures) (read_back e8.result (signed list 8) e8.type_inv e8.ensures)
    c.mask-red.ensures c.mask-green.ensures c.mask-blue.ensures
