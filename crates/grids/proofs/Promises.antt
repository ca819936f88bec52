-- What the promise amounts to: it determines number and plane, a refusal changes nothing, bytes past the lows stay, and where nothing is refused each byte
-- before them is its quote's index.
use mathlib.Core.Path.{◌≡◌, refl, sym, ap, ◌∙◌}
use mathlib.Core.Bool.{Bool, true, false, cond}
use mathlib.Core.List.{List}
use Prim.Native.Nat.{ℕ, zero, suc, ◌+◌, ◌<◌}
use native.Mathlib.Omega.{arith}
use lib.Dec.{eqb}
use lib.Ieee.{Float}
use lib.ListN.{length, get_or, drop, get_or-append}
use Rattle.leaves.specs.Put.{put}
use Rattle.leaves.proofs.ListLaws.{get_or-tab}
use Rattle.leaves.proofs.Puts.{after_put}
use Rattle.std.specs.Prelude.{⊤, Result, Ok, Err}
use Rattle.grids.specs.declared.scale.Quote.{Quote}
use Rattle.grids.specs.declared.scale.ShadeRefusal.{ShadeRefusal}
use Rattle.grids.specs.declared.scale.ShadeRefusal.TheVariants.{ListsTooShort, NotScale, NotQuote}
use Rattle.grids.specs.Scale.{number_of, answer_number, shade_of, index_of, quote_at, indices_of, lists_too_short, not_scale, some_not_quote, quote_rows, later_plane, Shaded}
use Rattle.grids.proofs.Placing.{length_indices}
use Rattle.grids.proofs.Scales.{few_edges}
use Rattle.grids.proofs.Shades.{shade_few}

-- an index is a byte
pub index_small : (edges : List Float) → not_scale edges ≡ false → (quoted : Quote) → index_of edges quoted < 256
unfolding index_of
index_small edges scale quoted = go (eqb (shade_of edges quoted.low) (shade_of edges quoted.high))
  where
    go : (b : Bool) → cond b (shade_of edges quoted.low) 255 < 256
    go true = omega (arith, shade_few edges quoted.low, few_edges edges scale)
    go false = omega arith

-- the number determines the answer of the call
by_number_of : ℕ → Result ⊤ ShadeRefusal
by_number_of n = cond (eqb n 0) (Ok tt) (Err (cond (eqb n 15) ListsTooShort (cond (eqb n 22) NotScale NotQuote)))

by_number : (r : Result ⊤ ShadeRefusal) → by_number_of (answer_number r) ≡ r
unfolding by_number_of
by_number (Ok painted) = refl
by_number (Err ListsTooShort) = refl
by_number (Err NotScale) = refl
by_number (Err NotQuote) = refl

pub number_determined : (r s : Result ⊤ ShadeRefusal) → answer_number r ≡ answer_number s → r ≡ s
number_determined r s e = sym (by_number r) ∙ ap by_number_of e ∙ by_number s

module _ (edges lows highs : List Float) (was : List ℕ) where
  -- two answers of which the promise holds are one, and so are the planes
  pub shaded_determined : (later other : List ℕ) (m n : ℕ) → Shaded edges lows highs was later m → Shaded edges lows highs was other n → (m ≡ n) × (later ≡ other)
  shaded_determined later other m n p q =
      let same : m ≡ n = p.first ∙ sym q.first in
      (same, p.plane ∙ ap (λ (k : ℕ). later_plane k edges lows highs was) same ∙ sym q.plane)

  -- the answer of the call itself, and the plane
  pub call_determined : (later other : List ℕ) (r s : Result ⊤ ShadeRefusal) → Shaded edges lows highs was later (answer_number r) → Shaded edges lows highs was other (answer_number s)
      → (r ≡ s) × (later ≡ other)
  call_determined later other r s p q = let same = shaded_determined later other (answer_number r) (answer_number s) p q in (number_determined r s same.0, same.1)

  -- a refusal leaves the plane as it was
  pub refusal_changes_nothing : (later : List ℕ) (n : ℕ) → Shaded edges lows highs was later (suc n) → later ≡ was
  refusal_changes_nothing later n p = p.plane

  -- bytes past the count of lows are as they were
  pub others_stay : (later : List ℕ) (n : ℕ) → Shaded edges lows highs was later n → drop (length lows) later ≡ drop (length lows) was
  others_stay later zero p =
      let e : 0 + length (indices_of edges lows highs) ≡ length lows = omega (arith, length_indices edges lows highs) in
      ap (drop (length lows)) p.plane ∙ (rw e at (after_put was 0 (indices_of edges lows highs) (omega arith)))
  others_stay later (suc n) p = ap (drop (length lows)) p.plane

  -- nothing is refused: no row applies
  passed : (a b c : Bool) → ◌≡◌ {A = ℕ} 0 (cond a 15 (cond b 22 (cond c 23 0))) → (a ≡ false) × (b ≡ false) × (c ≡ false)
  passed true b c e = absurd (omega arith)
  passed false true c e = absurd (omega arith)
  passed false false true e = absurd (omega arith)
  passed false false false e = (refl, refl, refl)

  pub none_applies : (later : List ℕ) → Shaded edges lows highs was later 0
      → (lists_too_short (length lows) (length highs) (length was) ≡ false) × (not_scale edges ≡ false) × (some_not_quote lows highs (length lows) ≡ false)
  unfolding quote_rows
  none_applies later p = passed (lists_too_short (length lows) (length highs) (length was)) (not_scale edges) (some_not_quote lows highs (length lows)) p.first

  -- each byte before them is its quote's
  pub painted_at : (later : List ℕ) (k : ℕ) → Shaded edges lows highs was later 0 → k < length lows → get_or later k 0 ≡ index_of edges (quote_at lows highs k)
  unfolding put indices_of
  painted_at later k p h =
      ap (λ (l : List ℕ). get_or l k 0) p.plane
      ∙ get_or-append (indices_of edges lows highs) (drop (0 + length (indices_of edges lows highs)) was) 0 k (omega (arith, length_indices edges lows highs))
      ∙ get_or-tab (λ j. index_of edges (quote_at lows highs j)) (length lows) k 0 h
