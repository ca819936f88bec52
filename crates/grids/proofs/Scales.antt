-- Scales and quotes: the loops that check them, and what is known of those that pass.
use mathlib.Core.Path.{◌≡◌, refl, sym, ap, ◌∙◌}
use mathlib.Core.Logic.{◌⊎◌, inl, inr}
use mathlib.Core.Bool.{Bool, true, false, not, ◌&&◌, ◌||◌}
use mathlib.Core.List.{List, [], ◌∷◌}
use Prim.Native.Nat.{ℕ, zero, suc, ◌+◌, ◌≤◌, ◌<◌}
use native.Mathlib.Nat.{not-suc-le-zero, le_of_suc-le-suc, eq-or-lt_of_le}
use native.Mathlib.Omega.{arith}
use borrow.Author.Tests.{ltb-false, le-ltb, lt-ltb, not-false}
use lib.Dec.{T, ltb}
use lib.Ieee.{Float, nan, is_nan, lt, le}
use lib.ListN.{length, get_or, drop}
use mathlib.Core.Bool.{not-not}
use Rattle.std.specs.List.{AllAdjacentBelow, IsAllAdjacentAnswer, AllWithin, HoldsAt}
use Rattle.std.specs.Bool.{MatchBool}
use Rattle.std.proofs.lemmas.Slice.Zip.{length-zip, get_or-zip}
use Rattle.std.specs.List.{zip}
use Rattle.grids.specs.Scale.{some_nan, rises_from, rises, not_scale, quote_at, not_quote, some_not_quote}
use Rattle.leaves.proofs.Tests.{or-first, or-second}
use Rattle.format.proofs.Modes.{both}
use Rattle.format.proofs.Passing.{or_false}
use Rattle.grids.specs.declared.scale.Quote.{Quote}
use Rattle.grids.proofs.FloatOrder.{truth, holds, le_trans, lt-le, lt_trans, lt_number, le_is}

-- ---- the check of a scale

-- what rises from something is numbers
numbers_above : (before : Float) (edges : List Float) → rises_from before edges ≡ true → some_nan edges ≡ false
unfolding some_nan rises_from
numbers_above before [] h = refl
numbers_above before (edge ∷ edges) h =
    rw (lt_number before edge (holds (both (lt before edge) (rises_from edge edges) h).0)).1
    (numbers_above edge edges (both (lt before edge) (rises_from edge edges) h).1)

-- so of edges that rise only the first can be a NaN
absorb : (p q : Bool) → (q ≡ true → p ≡ false) → p || not q ≡ not q
absorb false q f = refl
absorb true false f = refl
absorb true true f = f refl

first_and_rest : (first : Float) (edges : List Float) → is_nan first ≡ false → some_nan (first ∷ edges) || not (rises (first ∷ edges)) ≡ not (rises_from first edges)
unfolding some_nan rises
first_and_rest first edges e = rw e (absorb (some_nan edges) (rises_from first edges) (numbers_above first edges))

module _ (edges : List Float) where
  -- refused before the loop
  pub no_edge : length edges < 1 → not_scale edges ≡ true
  unfolding not_scale
  no_edge h = rw (lt-ltb (length edges) 1 h)

  pub many_edges : 1 ≤ length edges → 254 < length edges → not_scale edges ≡ true
  unfolding not_scale
  many_edges h k = rw (le-ltb (length edges) 1 h, lt-ltb 254 (length edges) k)

pub first_nan : (edges : List Float) → 1 ≤ length edges → length edges ≤ 254 → is_nan (get_or edges 0 nan) ≡ true → not_scale edges ≡ true
unfolding not_scale some_nan
first_nan [] h k f = absurd (omega arith)
first_nan (edge ∷ edges) h k f = rw (le-ltb (length (edge ∷ edges)) 1 h, le-ltb 254 (length (edge ∷ edges)) k, f)

-- refused or not by what follows the first edge
scale_start : (edges : List Float) → 1 ≤ length edges → length edges ≤ 254 → is_nan (get_or edges 0 nan) ≡ false
    → not_scale edges ≡ not (rises_from (get_or edges 0 nan) (drop 1 edges))
unfolding not_scale
scale_start [] h k f = absurd (omega arith)
scale_start (edge ∷ edges) h k f = rw (le-ltb (length (edge ∷ edges)) 1 h, le-ltb 254 (length (edge ∷ edges)) k) (first_and_rest edge edges f)

no_and : (b : Bool) → b && false ≡ false
no_and true = refl
no_and false = refl

-- neighbours that all rise, and two that do not
all_rise : (before : Float) (edges : List Float) → AllAdjacentBelow (λ x y. true ≡ lt x y) (before ∷ edges) (length (before ∷ edges)) → rises_from before edges ≡ true
unfolding rises_from
all_rise before [] h = refl
all_rise before (edge ∷ edges) h =
    rw (sym (h 0 nan (omega arith)))
    (all_rise edge edges (λ k d l. let n : suc k + 1 ≡ suc (k + 1) = omega arith in rw n at (h (suc k) d (omega arith))))

some_falls : (before : Float) (edges : List Float) (k : ℕ) → k + 1 < length (before ∷ edges)
    → ((d : Float) → false ≡ lt (get_or (before ∷ edges) k d) (get_or (before ∷ edges) (k + 1) d)) → rises_from before edges ≡ false
unfolding rises_from
some_falls before [] k l h = absurd (omega arith)
some_falls before (edge ∷ edges) zero l h = rw (sym (h nan)) refl
some_falls before (edge ∷ edges) (suc k) l h =
    let n : suc k + 1 ≡ suc (k + 1) = omega arith in
    ap (λ (b : Bool). lt before edge && b) (some_falls edge edges k (omega arith) (λ d. rw n at (h d))) ∙ no_and (lt before edge)

-- what `is_sorted_by` says, as the check of a scale
pub scale_by_neighbours : (edges : List Float) (sorted : Bool) → 1 ≤ length edges → length edges ≤ 254 → is_nan (get_or edges 0 nan) ≡ false
    → IsAllAdjacentAnswer (λ x y b. b ≡ lt x y) edges sorted → sorted ≡ not (not_scale edges)
scale_by_neighbours [] sorted h k f a = absurd (omega arith)
scale_by_neighbours (edge ∷ edges) true h k f a = sym (ap not (scale_start (edge ∷ edges) h k f) ∙ not-not (rises_from edge edges) ∙ all_rise edge edges a)
scale_by_neighbours (edge ∷ edges) false h k f a =
    sym (ap not (scale_start (edge ∷ edges) h k f) ∙ not-not (rises_from edge edges) ∙ some_falls edge edges a.0 a.1 a.2)

-- ---- what a scale is

module _ (edges : List Float) (scale : not_scale edges ≡ false) where
  parts : ((ltb (length edges) 1 || ltb 254 (length edges)) ≡ false) × ((some_nan edges || not (rises edges)) ≡ false)
  unfolding not_scale
  parts = or_false (ltb (length edges) 1 || ltb 254 (length edges)) (some_nan edges || not (rises edges)) scale

  pub few_edges : length edges ≤ 254
  few_edges = ltb-false 254 (length edges) (or_false (ltb (length edges) 1) (ltb 254 (length edges)) parts.0).1

  pub scale_rises : rises edges ≡ true
  scale_rises = not-false (rises edges) (or_false (some_nan edges) (not (rises edges)) parts.1).1

-- an edge at or below a price has all before it at or below it
under : (before : Float) (edges : List Float) (price : Float) (k : ℕ) → rises_from before edges ≡ true → k < length edges
    → le (get_or edges k nan) price ≡ true → le before price ≡ true
unfolding rises_from
under before [] price k r h l = absurd (not-suc-le-zero h)
under before (edge ∷ edges) price zero r h l =
    truth (le_trans before edge price (lt-le before edge (holds (both (lt before edge) (rises_from edge edges) r).0)) (holds l))
under before (edge ∷ edges) price (suc k) r h l =
    truth
    (le_trans before edge price (lt-le before edge (holds (both (lt before edge) (rises_from edge edges) r).0))
    (holds (under edge edges price k (both (lt before edge) (rises_from edge edges) r).1 (le_of_suc-le-suc h) l)))

tail-rises : (first : Float) (edges : List Float) → rises_from first edges ≡ true → rises edges ≡ true
unfolding rises rises_from
tail-rises first [] r = refl
tail-rises first (edge ∷ edges) r = (both (lt first edge) (rises_from edge edges) r).1

pub earlier : (edges : List Float) (price : Float) (j k : ℕ) → rises edges ≡ true → j ≤ k → k < length edges
    → le (get_or edges k nan) price ≡ true → le (get_or edges j nan) price ≡ true
unfolding rises
earlier [] price j k r h l e = absurd (not-suc-le-zero l)
earlier (edge ∷ edges) price zero zero r h l e = e
earlier (edge ∷ edges) price zero (suc k) r h l e = under edge edges price k r (le_of_suc-le-suc l) e
earlier (edge ∷ edges) price (suc j) zero r h l e = absurd (not-suc-le-zero h)
earlier (edge ∷ edges) price (suc j) (suc k) r h l e = earlier edges price j k (tail-rises edge edges r) (le_of_suc-le-suc h) (le_of_suc-le-suc l) e

-- strictly rising: each edge is below all later ones
below_all : (before : Float) (edges : List Float) (k : ℕ) → rises_from before edges ≡ true → k < length edges → T (lt before (get_or edges k nan))
unfolding rises_from
below_all before [] k r h = absurd (not-suc-le-zero h)
below_all before (edge ∷ edges) zero r h = holds (both (lt before edge) (rises_from edge edges) r).0
below_all before (edge ∷ edges) (suc k) r h =
    lt_trans before edge (get_or edges k nan) (holds (both (lt before edge) (rises_from edge edges) r).0)
    (below_all edge edges k (both (lt before edge) (rises_from edge edges) r).1 (le_of_suc-le-suc h))

pub edges_apart : (edges : List Float) (j k : ℕ) → rises edges ≡ true → j < k → k < length edges → lt (get_or edges j nan) (get_or edges k nan) ≡ true
unfolding rises
edges_apart [] j k r h l = absurd (not-suc-le-zero l)
edges_apart (edge ∷ edges) j zero r h l = absurd (not-suc-le-zero h)
edges_apart (edge ∷ edges) zero (suc k) r h l = truth (below_all edge edges k r (le_of_suc-le-suc l))
edges_apart (edge ∷ edges) (suc j) (suc k) r h l = edges_apart edges j k (tail-rises edge edges r) (le_of_suc-le-suc h) (le_of_suc-le-suc l)

-- ---- the check of quotes

-- one comparison is the whole test
pub quote_test : (quoted : Quote) → le quoted.low quoted.high ≡ not (not_quote quoted)
unfolding not_quote
quote_test quoted = le_is quoted.low quoted.high

pub quote_le : (quoted : Quote) → not_quote quoted ≡ false → le quoted.low quoted.high ≡ true
quote_le quoted e = quote_test quoted ∙ ap not e

module _ (lows highs : List Float) where
  none_refused : (n : ℕ) → ((k : ℕ) → k < n → not_quote (quote_at lows highs k) ≡ false) → some_not_quote lows highs n ≡ false
  unfolding some_not_quote
  none_refused zero f = refl
  none_refused (suc n) f = rw (none_refused n (λ k h. f k (omega arith)), f n (omega arith)) refl

  one_of : (n k : ℕ) → not_quote (quote_at lows highs k) ≡ true → (k ≡ n) ⊎ (k < n) → (k < n → some_not_quote lows highs n ≡ true)
      → some_not_quote lows highs n || not_quote (quote_at lows highs n) ≡ true
  one_of n k e (inl q) h = or-second (some_not_quote lows highs n) (not_quote (quote_at lows highs n)) (ap (λ (j : ℕ). not_quote (quote_at lows highs j)) (sym q) ∙ e)
  one_of n k e (inr l) h = or-first (some_not_quote lows highs n) (not_quote (quote_at lows highs n)) (h l)

  quotes_stop : (n k : ℕ) → k < n → not_quote (quote_at lows highs k) ≡ true → some_not_quote lows highs n ≡ true
  unfolding some_not_quote
  quotes_stop zero k h e = absurd (not-suc-le-zero h)
  quotes_stop (suc n) k h e = one_of n k e (eq-or-lt_of_le (le_of_suc-le-suc h)) (λ l. quotes_stop n k l e)

  each_of : (n k : ℕ) → some_not_quote lows highs n || not_quote (quote_at lows highs n) ≡ false → (k ≡ n) ⊎ (k < n)
      → (k < n → not_quote (quote_at lows highs k) ≡ false) → not_quote (quote_at lows highs k) ≡ false
  each_of n k e (inl q) h = rw q (or_false (some_not_quote lows highs n) (not_quote (quote_at lows highs n)) e).1
  each_of n k e (inr l) h = h l

  -- where none of n is refused, each is a quote
  pub each_quote : (n k : ℕ) → some_not_quote lows highs n ≡ false → k < n → not_quote (quote_at lows highs k) ≡ false
  unfolding some_not_quote
  each_quote zero k e h = absurd (not-suc-le-zero h)
  each_quote (suc n) k e h =
      each_of n k e (eq-or-lt_of_le (le_of_suc-le-suc h)) (λ l. each_quote n k (or_false (some_not_quote lows highs n) (not_quote (quote_at lows highs n)) e).0 l)

  -- what `all` says of the pairs
  pub quotes_by_pairs : length lows ≤ length highs → (good : Bool)
      → MatchBool good
      (AllWithin (λ (p : Float × Float). not_quote (record { low = p.0; high = p.1 }) ≡ false) (zip lows highs) 0 (length (zip lows highs)))
      ((k : ℕ) × (k < length (zip lows highs)) × HoldsAt (λ (p : Float × Float). not_quote (record { low = p.0; high = p.1 }) ≡ true) (zip lows highs) k)
      → good ≡ not (some_not_quote lows highs (length lows))
  unfolding quote_at
  quotes_by_pairs l true a =
      ap not (sym (none_refused (length lows) (λ k h. rw (get_or-zip lows highs k (nan, nan) h (omega arith)) at (a k (nan, nan) (omega arith) (omega (arith, length-zip lows highs))))))
  quotes_by_pairs l false (k, h, a) =
      let i : k < length lows = omega (arith, length-zip lows highs) in
      ap not (sym (quotes_stop (length lows) k i (rw (get_or-zip lows highs k (nan, nan) i (omega arith)) at (a (nan, nan)))))
