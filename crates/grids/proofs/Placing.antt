-- A loop that fills a list of prices from its start, and the call's number and plane.
use mathlib.Core.Path.{◌≡◌, refl, sym, ◌∙◌}
use mathlib.Core.Bool.{Bool, true, false, not, cond}
use mathlib.Core.List.{List}
use Prim.Native.Nat.{ℕ, ◌+◌, ◌≤◌, ◌<◌}
use native.Mathlib.Decide.{dec_lt}
use native.Mathlib.Nat.{zero-add}
use native.Mathlib.Omega.{arith}
use borrow.Author.Tests.{lt-ltb, le-ltb, not-true, not-false}
use lib.Dec.{ltb}
use lib.Ieee.{Float, nan, binary64, div, of_bits, of_fields, odd}
use lib.ListN.{length, get_or, drop, set, length-set}
use lib.Seq.{get_or-set_same, get_or-set_other}
use Rattle.leaves.specs.Put.{put}
use Rattle.leaves.specs.Refusals.{first_applying}
use Rattle.leaves.proofs.ListLaws.{length-tab, get_or-tab}
use Rattle.leaves.proofs.Puts.{put_step, put_done}
use Rattle.leaves.proofs.Tests.{or-first, or-second}
use Rattle.grids.specs.Scale.{index_of, quote_at, indices_of, lists_too_short, not_scale, some_not_quote, quote_rows, Shaded}

-- ---- of n prices the first k are f's

pub record Placed (f : ℕ → Float) (n k : ℕ) (prices : List Float) : Type 0 where
  pub long : length prices ≡ n
  pub each : (j : ℕ) → j < k → get_or prices j nan ≡ f j

pub placed_none : (f : ℕ → Float) (n : ℕ) (prices : List Float) → length prices ≡ n → Placed f n 0 prices
placed_none f n prices e = record { long = e; each = λ j h. absurd (omega arith) }

pub placed_turn : {f : ℕ → Float} {n k : ℕ} {prices : List Float} (price : Float) → Placed f n k prices → k < n → price ≡ f k → Placed f n (k + 1) (set prices k price)
placed_turn {f} {n} {k} {prices} price p h e = record {
  long = length-set prices k price ∙ p.long;
  each = λ j l.
      elim (dec_lt j k) [
        | yes q ↦ get_or-set_other prices k j price nan (λ z. omega (arith, z)) ∙ p.each j q
        | no q ↦ let z : j ≡ k = omega arith in rw z (get_or-set_same prices k price nan (omega (arith, p.long)) ∙ e)
      ];
}

-- the NaN of the code
pub nan_is : div binary64 (of_bits binary64 0) (of_bits binary64 0) ≡ nan
unfolding div of_bits of_fields odd
nan_is = refl

-- ---- the plane: what is left of the indices, put into the present plane, gives the later one

module _ (edges lows highs : List Float) where
  pub length_indices : length (indices_of edges lows highs) ≡ length lows
  unfolding indices_of
  length_indices = length-tab (λ k. index_of edges (quote_at lows highs k)) (length lows)

  pub paint_turn : (plane : List ℕ) (k index : ℕ) → k < length lows → k < length plane → index ≡ index_of edges (quote_at lows highs k)
      → put (set plane k index) (k + 1) (drop (k + 1) (indices_of edges lows highs)) ≡ put plane k (drop k (indices_of edges lows highs))
  unfolding indices_of
  paint_turn plane k index h l e =
      simp zero-add at
      (put_step plane 0 (indices_of edges lows highs) k index (e ∙ sym (get_or-tab (λ j. index_of edges (quote_at lows highs j)) (length lows) k 0 h)) (omega (arith, length_indices)) (omega arith))

  pub paint_end : (plane : List ℕ) (k : ℕ) → length lows ≤ k → put plane k (drop k (indices_of edges lows highs)) ≡ plane
  paint_end plane k h = simp zero-add at (put_done plane 0 (indices_of edges lows highs) k (omega (arith, length_indices)))

-- ---- what the call answers, from the tests that led there

-- a check's answer is that its number does not apply
pub passes : (passed applies : Bool) → passed ≡ not applies → passed ≡ true → applies ≡ false
passes passed applies e h = not-true applies (sym e ∙ h)

pub fails : (passed applies : Bool) → passed ≡ not applies → passed ≡ false → applies ≡ true
fails passed applies e h = not-false applies (sym e ∙ h)

module _ (edges lows highs : List Float) (was : List ℕ) where
  rows_are : (a b c : Bool) → lists_too_short (length lows) (length highs) (length was) ≡ a → not_scale edges ≡ b → some_not_quote lows highs (length lows) ≡ c
      → first_applying (quote_rows edges lows highs (length was)) ≡ cond a 15 (cond b 22 (cond c 23 0))
  unfolding quote_rows
  rows_are a b c p q r = rw (p, q, r)

  too_short : lists_too_short (length lows) (length highs) (length was) ≡ true → Shaded edges lows highs was was 15
  too_short p = record { first = sym (rows_are true (not_scale edges) (some_not_quote lows highs (length lows)) p refl refl); plane = refl }

  pub says_highs : length highs < length lows → Shaded edges lows highs was was 15
  says_highs h = too_short (or-first (ltb (length highs) (length lows)) (ltb (length was) (length lows)) (lt-ltb (length highs) (length lows) h))

  pub says_plane : length was < length lows → Shaded edges lows highs was was 15
  says_plane h = too_short (or-second (ltb (length highs) (length lows)) (ltb (length was) (length lows)) (lt-ltb (length was) (length lows) h))

  long_enough : length lows ≤ length highs → length lows ≤ length was → lists_too_short (length lows) (length highs) (length was) ≡ false
  long_enough h k = rw (le-ltb (length highs) (length lows) h, le-ltb (length was) (length lows) k)

  module _ (h : length lows ≤ length highs) (k : length lows ≤ length was) (scale : Bool) (p : scale ≡ not (not_scale edges)) where
    pub says_scale : scale ≡ false → Shaded edges lows highs was was 22
    says_scale e =
        record { first = sym (rows_are false true (some_not_quote lows highs (length lows)) (long_enough h k) (fails scale (not_scale edges) p e) refl); plane = refl }

    module _ (e : scale ≡ true) (good : Bool) (q : good ≡ not (some_not_quote lows highs (length lows))) where
      pub says_quote : good ≡ false → Shaded edges lows highs was was 23
      says_quote f = record {
        first = sym (rows_are false false true (long_enough h k) (passes scale (not_scale edges) p e) (fails good (some_not_quote lows highs (length lows)) q f));
        plane = refl;
      }

      pub says_painted : (later : List ℕ) → good ≡ true → later ≡ put was 0 (indices_of edges lows highs) → Shaded edges lows highs was later 0
      says_painted later f painted = record {
        first = sym (rows_are false false false (long_enough h k) (passes scale (not_scale edges) p e) (passes good (some_not_quote lows highs (length lows)) q f));
        plane = painted;
      }
