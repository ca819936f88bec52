-- Loops that put numbers into a lent buffer, one after the other.
use mathlib.Core.Path.{◌≡◌, refl, sym, ap, ◌∙◌}
use mathlib.Core.List.{List, [], ◌∷◌, ◌++◌}
use Prim.Native.Nat.{ℕ, ◌+◌, ◌*◌, ◌≤◌, ◌<◌}
use native.Mathlib.Nat.{suc-mul, mul-le-mul_right}
use native.Mathlib.Numerals.{add-one}
use native.Mathlib.Omega.{arith}
use lib.ListN.{length, get_or, set, length-set}
use Rattle.leaves.specs.Lists.{tab, cat}
use Rattle.leaves.specs.Put.{put}
use Rattle.leaves.proofs.ListLaws.{length-tab, length-cat}
use Rattle.leaves.proofs.Puts.{length-put, put-nil, put-cons, put-append}

-- the buffer is `was` with `done` put at `to`
pub record SoFar (was : List ℕ) (to : ℕ) (done is : List ℕ) : Type 0 where
  pub long : length is ≡ length was
  pub same : is ≡ put was to done

module _ {was : List ℕ} {to : ℕ} where
  pub start : SoFar was to [] was
  start = record { long = refl; same = sym (put-nil was to) }

  -- a list more
  pub more : {done is : List ℕ} (xs later : List ℕ) → SoFar was to done is → to + length done + length xs ≤ length was → later ≡ put is (to + length done) xs → SoFar was to (done ++ xs) later
  more {done} {is} xs later r h e =
      let room : to + length done ≤ length was = omega arith in
      let k : to + length done + length xs ≤ length is = omega (arith, r.long) in
      record {
        long = ap length e ∙ length-put is (to + length done) xs k ∙ r.long;
        same = e ∙ ap (λ (l : List ℕ). put l (to + length done) xs) r.same ∙ put-append was to done xs room;
      }

  -- by places: nothing yet, one more, and all
  module _ (f : ℕ → ℕ) where
    pub tab_start : SoFar was to (tab f 0) was
    unfolding tab
    tab_start = start

    pub tab_turn : (x : ℕ) {is : List ℕ} (v : ℕ) → SoFar was to (tab f x) is → v ≡ f x → to + x < length was → SoFar was to (tab f (x + 1)) (set is (to + x) v)
    unfolding tab
    tab_turn x {is} v r e h =
        let n : length (tab f x) ≡ x = length-tab f x in
        let k : to + x < length is = omega (arith, r.long) in
        let one : set is (to + x) v ≡ put is (to + length (tab f x)) (v ∷ []) =
        sym (put-nil (set is (to + x) v) (to + x + 1)) ∙ sym (put-cons is (to + x) v [] k) ∙ ap (λ (j : ℕ). put is (to + j) (v ∷ [])) (sym n) in
        rw (add-one x, ← e) (more (v ∷ []) (set is (to + x) v) r (omega arith) one)

    pub tab_end : {x n : ℕ} {is : List ℕ} → SoFar was to (tab f x) is → x ≡ n → is ≡ put was to (tab f n)
    tab_end r e = rw (← e) r.same

  -- the same of lists of one length k
  module _ (f : ℕ → List ℕ) (k : ℕ) (all : (x : ℕ) → length (f x) ≡ k) where
    pub cat_start : SoFar was to (cat f 0) was
    unfolding cat
    cat_start = start

    pub cat_turn : (x : ℕ) {is : List ℕ} (later : List ℕ) → SoFar was to (cat f x) is → to + x * k + k ≤ length was → later ≡ put is (to + x * k) (f x) → SoFar was to (cat f (x + 1)) later
    unfolding cat
    cat_turn x {is} later r h e =
        let n : length (cat f x) ≡ x * k = length-cat f k x (λ i l. all i) in
        rw (add-one x) (more (f x) later r (omega (arith, n, all x)) (e ∙ ap (λ (j : ℕ). put is (to + j) (f x)) (sym n)))

    pub cat_end : {x n : ℕ} {is : List ℕ} → SoFar was to (cat f x) is → x ≡ n → is ≡ put was to (cat f n)
    cat_end r e = rw (← e) r.same

-- element x of n of one size is inside them all
pub inside : (from size n x : ℕ) → x < n → from + x * size + size ≤ from + n * size
inside from size n x h = omega (arith, mul-le-mul_right size h, suc-mul x size)

pub next : (from size x p : ℕ) → p ≡ from + x * size → p + size ≡ from + (x + 1) * size
next from size x p e = omega (arith, e)

-- four stores
pub put_four_is : (d : List ℕ) (at r g b a : ℕ) → at + 4 ≤ length d
    → set (set (set (set d at r) (at + 1) g) (at + 2) b) (at + 3) a ≡ put d at (r ∷ g ∷ b ∷ a ∷ [])
put_four_is d at r g b a h =
    let two : at + 1 + 1 ≡ at + 2 = omega arith in
    let three : at + 2 + 1 ≡ at + 3 = omega arith in
    let d1 = set d at r in
    let d2 = set d1 (at + 1) g in
    let d3 = set d2 (at + 2) b in
    let l1 : at + 1 < length d1 = rw length-set (omega arith) in
    let l2 : at + 2 < length d2 = rw (length-set, length-set) (omega arith) in
    let l3 : at + 3 < length d3 = rw (length-set, length-set, length-set) (omega arith) in
    sym (put-cons d at r (g ∷ b ∷ a ∷ []) (omega arith)
    ∙ put-cons d1 (at + 1) g (b ∷ a ∷ []) l1
    ∙ ap (λ (k : ℕ). put d2 k (b ∷ a ∷ [])) two
    ∙ put-cons d2 (at + 2) b (a ∷ []) l2
    ∙ ap (λ (k : ℕ). put d3 k (a ∷ [])) three
    ∙ put-cons d3 (at + 3) a [] l3
    ∙ put-nil (set d3 (at + 3) a) (at + 3 + 1))

pub quad_is : (q : List ℕ) → length q ≡ 4 → get_or q 0 0 ∷ get_or q 1 0 ∷ get_or q 2 0 ∷ get_or q 3 0 ∷ [] ≡ q
quad_is [] e = absurd (omega arith)
quad_is (r ∷ []) e = absurd (omega arith)
quad_is (r ∷ g ∷ []) e = absurd (omega arith)
quad_is (r ∷ g ∷ b ∷ []) e = absurd (omega arith)
quad_is (r ∷ g ∷ b ∷ a ∷ []) e = refl
quad_is (r ∷ g ∷ b ∷ a ∷ c ∷ l) e = absurd (omega arith)

-- no elements
pub no_elements : (l : List ℕ) → length l ≡ 0 → [] ≡ l
no_elements [] e = refl
no_elements (x ∷ l) e = absurd (omega arith)
