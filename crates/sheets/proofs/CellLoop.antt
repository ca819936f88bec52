-- The loop over a line's cells: those that are left, put into the present memory, give the final one.
use mathlib.Core.Path.{◌≡◌, refl, sym, ap, ◌∙◌}
use mathlib.Core.List.{List, [], ◌∷◌, map}
use Prim.Native.Nat.{ℕ, ◌+◌, ◌≤◌, ◌<◌}
use native.Mathlib.Nat.{add-zero}
use native.Mathlib.Omega.{arith}
use lib.ListN.{length, get_or, set, drop, drop_of_length-le, length-set}
use Rattle.leaves.specs.Put.{put}
use Rattle.leaves.proofs.Puts.{put-nil, put-cons}
use Rattle.std.proofs.lemmas.List.{get_or-map}
use Rattle.arguments.specs.Words.{items_of}
use Rattle.arguments.proofs.Pieces.{split}
use Rattle.sheets.specs.Sheets.{index_of, up_to_bad}
use Rattle.sheets.proofs.SheetLaws.{bad_here, good_here, bad_end, length-map}

-- a line's indices
abbrev pub line_of : ℕ → List ℕ → List ℕ
line_of separator line = map index_of (items_of separator line)

-- n of a line's indices have been stored
pub record Left (row : List ℕ) (most at : ℕ) (was cells : List ℕ) (n : ℕ) : Type 0 where
  pub long : length cells ≡ length was
  pub room : at + length row ≤ length was
  pub within : n ≤ length row
  pub count : n + length (up_to_bad most (drop n row)) ≡ length (up_to_bad most row)
  pub later : put cells (at + n) (up_to_bad most (drop n row)) ≡ put was at (up_to_bad most row)

-- item k of a line, as an index
pub index_at : (ps : List (List ℕ)) (k : ℕ) (cell : List ℕ) → (k < length ps) × (cell ≡ get_or ps k cell) → (k < length (map index_of ps)) × (index_of cell ≡ get_or (map index_of ps) k 0)
index_at ps k cell h = let l = h.0 in (omega (arith, length-map index_of ps), ap index_of h.1 ∙ sym (get_or-map index_of ps k cell 0 l))

module _ {row : List ℕ} {most at : ℕ} {was : List ℕ} where
  pub left_start : at + length row ≤ length was → Left row most at was was 0
  left_start h = record { long = refl; room = h; within = omega arith; count = omega arith; later = rw (add-zero at) }

  module _ {cells : List ℕ} {n : ℕ} (l : Left row most at was cells n) where
    -- nothing more is stored
    stops : up_to_bad most (drop n row) ≡ [] → (n ≡ length (up_to_bad most row)) × (cells ≡ put was at (up_to_bad most row))
    stops b = (omega (arith, l.count, ap length b), sym (put-nil cells (at + n)) ∙ ap (put cells (at + n)) (sym b) ∙ l.later)

    pub left_end : length row ≤ n → (n ≡ length (up_to_bad most row)) × (cells ≡ put was at (up_to_bad most row))
    left_end h = stops (ap (up_to_bad most) (drop_of_length-le row h) ∙ bad_end most)

    module _ (v : ℕ) (is : (n < length row) × (v ≡ get_or row n 0)) where
      cells_here : drop n row ≡ v ∷ drop (n + 1) row
      cells_here = split row n is.0 ∙ ap (λ (x : ℕ). x ∷ drop (n + 1) row) (sym is.1)

      pub left_room : at + n < length cells
      left_room = let h = is.0 in omega (arith, l.room, l.long)

      pub left_bad : most < v → (n ≡ length (up_to_bad most row)) × (cells ≡ put was at (up_to_bad most row))
      left_bad h = stops (ap (up_to_bad most) cells_here ∙ bad_here most v (drop (n + 1) row) h)

      pub left_turn : v ≤ most → Left row most at was (set cells (at + n) v) (n + 1)
      left_turn h =
          let g : up_to_bad most (drop n row) ≡ v ∷ up_to_bad most (drop (n + 1) row) = ap (up_to_bad most) cells_here ∙ good_here most v (drop (n + 1) row) h in
          let p : at + (n + 1) ≡ at + n + 1 = omega arith in
          let inside = is.0 in
          record {
            long = length-set cells (at + n) v ∙ l.long;
            room = l.room;
            within = omega arith;
            count = omega (arith, l.count, ap length g);
            later =
                ap (λ (k : ℕ). put (set cells (at + n) v) k (up_to_bad most (drop (n + 1) row))) p
                ∙ sym (put-cons cells (at + n) v (up_to_bad most (drop (n + 1) row)) left_room)
                ∙ ap (put cells (at + n)) (sym g)
                ∙ l.later;
          }
