-- The order of prices, from the kit's definitions: at or below, and below, are transitive; between numbers at or below is the same as not
-- above; what compares is a number.
use mathlib.Core.Path.{◌≡◌, refl, sym, ap, subst, ◌∙◌}
use mathlib.Core.Logic.{inl, inr}
use mathlib.Core.Bool.{Bool, true, false, true≢false, not, ◌&&◌, ◌||◌}
use Prim.Native.Nat.{ℕ, ◌+◌, ◌*◌, ◌≤◌, ◌<◌}
use native.Mathlib.Nat.{le_of_lt, le_of_eq, mul-le-mul_right, le_of_mul-le-mul_right, eq-or-lt_of_le}
use native.Mathlib.Omega.{arith}
use borrow.Author.Tests.{ltb-false, le-ltb, eq-eqb}
use lib.Dec.{T, ltb, eqb, ltb→lt, lt→ltb, eqb→eq, eqb_refl}
use lib.Ieee.{Float, nan, inf, fin, up, down, lt, eq, le, ne, below, level, is_nan}
use lib.Ieee.Fits.{down_pos}

-- ---- tests as facts

pub truth : {b : Bool} → T b → b ≡ true
truth {b} t = go b t
  where
    go : (x : Bool) → T x → x ≡ true
    go true t = refl
    go false t = absurd t

pub holds : {b : Bool} → b ≡ true → T b
holds e = subst T (sym e) tt

either : {A : Type 0} (p q : Bool) → (T p → A) → (T q → A) → T (p || (q && true)) → A
either true q f g t = f tt
either false true f g t = g tt
either false false f g t = absurd t

first_of : (p q : Bool) → T p → T (p || q)
first_of true q t = tt
first_of false q t = absurd t

second_of : (p q : Bool) → T q → T (p || (q && true))
second_of true q t = tt
second_of false true t = tt
second_of false false t = t

same_test : (p q : Bool) → (T p → T q) → (T q → T p) → p ≡ q
same_test true true f g = refl
same_test true false f g = absurd (f tt)
same_test false true f g = absurd (g tt)
same_test false false f g = refl

-- ---- magnitudes: at or below is below or level

at_most_lem : (a b : ℕ) → T (ltb a b || (eqb a b && true)) → a ≤ b
at_most_lem a b t = either (ltb a b) (eqb a b) (λ h. le_of_lt (ltb→lt a b h)) (λ h. le_of_eq (eqb→eq a b h)) t

to_at_most : (a b : ℕ) → a ≤ b → T (ltb a b || (eqb a b && true))
to_at_most a b h = elim (eq-or-lt_of_le h) [
  | inl e ↦ second_of (ltb a b) (eqb a b) (subst (λ (z : ℕ). T (eqb a z)) e (eqb_refl a))
  | inr l ↦ first_of (ltb a b) (eqb a b && true) (lt→ltb a b l)
]

-- the same of two negative numbers, whose magnitudes go the other way
turned : (a b : ℕ) → T (ltb b a || (eqb a b && true)) → b ≤ a
turned a b t = either (ltb b a) (eqb a b) (λ h. le_of_lt (ltb→lt b a h)) (λ h. le_of_eq (sym (eqb→eq a b h))) t

to_turned : (a b : ℕ) → b ≤ a → T (ltb b a || (eqb a b && true))
to_turned a b h = elim (eq-or-lt_of_le h) [
  | inl e ↦ second_of (ltb b a) (eqb a b) (subst (λ (z : ℕ). T (eqb z b)) e (eqb_refl b))
  | inr l ↦ first_of (ltb b a) (eqb a b && true) (lt→ltb b a l)
]

-- a number that is not negative is at or below one that is not positive where both are zero
both_zero : (a b : ℕ) → T (eqb a b && eqb a 0) → (a ≡ 0) × (b ≡ 0)
both_zero a b t = go (eqb a b) (eqb a 0) (eqb→eq a b) (eqb→eq a 0) t
  where
    go : (p q : Bool) → (T p → a ≡ b) → (T q → a ≡ 0) → T (p && q) → (a ≡ 0) × (b ≡ 0)
    go true true f g t = (g tt, sym (f tt) ∙ g tt)
    go true false f g t = absurd t
    go false q f g t = absurd t

to_both_zero : (a b : ℕ) → a ≡ 0 → b ≡ 0 → T (eqb a b && eqb a 0)
to_both_zero a b p q = rw (p, q) tt

-- a number that is not positive is at or below one that is not negative
through_zero : (a b : ℕ) → T (ltb 0 (a + b) || (eqb a b && eqb a 0))
through_zero a b = go (ltb 0 (a + b)) refl
  where
    go : (c : Bool) → ltb 0 (a + b) ≡ c → T (c || (eqb a b && eqb a 0))
    go true e = tt
    go false e = to_both_zero a b (omega (arith, ltb-false 0 (a + b) e)) (omega (arith, ltb-false 0 (a + b) e))

-- ---- fractions, a / p, b / q and c / r, by their cross products

no_factor : (b r : ℕ) → 0 < r → b * r ≡ 0 → b ≡ 0
no_factor b r h e = let k : b * r ≤ 0 * r = omega arith in let l : b ≤ 0 = le_of_mul-le-mul_right k h in omega arith

no_product : (b r : ℕ) → b ≡ 0 → b * r ≡ 0
no_product b r e = rw e (omega arith)

across : (a b c p q r : ℕ) → 0 < q → a * q ≤ b * p → b * r ≤ c * q → a * r ≤ c * p
across a b c p q r Q h k =
    let m : a * r * q ≤ c * p * q = omega (arith, mul-le-mul_right r h, mul-le-mul_right p k) in
    le_of_mul-le-mul_right m Q

-- ---- at or below, of signed fractions

abbrev at_most : Bool → ℕ → Bool → ℕ → Bool
at_most s a t b = below s a t b || level s a t b

module _ (a b c p q r : ℕ) (P : 0 < p) (Q : 0 < q) (R : 0 < r) where
  fractions : (s t u : Bool) → T (at_most s (a * q) t (b * p)) → T (at_most t (b * r) u (c * q)) → T (at_most s (a * r) u (c * p))
  fractions false false false h k = to_at_most (a * r) (c * p) (across a b c p q r Q (at_most_lem (a * q) (b * p) h) (at_most_lem (b * r) (c * q) k))
  fractions false false true h k =
      let z = both_zero (b * r) (c * q) k in
      let l : a * q ≤ b * p = at_most_lem (a * q) (b * p) h in
      let m : b * p ≡ 0 = no_product b p (no_factor b r R z.0) in
      let n : a ≡ 0 = no_factor a q Q (omega arith) in
      to_both_zero (a * r) (c * p) (no_product a r n) (no_product c p (no_factor c q Q z.1))
  fractions false true false h k =
      let z = both_zero (a * q) (b * p) h in
      let m : a * r ≡ 0 = no_product a r (no_factor a q Q z.0) in
      to_at_most (a * r) (c * p) (omega arith)
  fractions false true true h k =
      let z = both_zero (a * q) (b * p) h in
      let l : c * q ≤ b * r = turned (b * r) (c * q) k in
      let m : b * r ≡ 0 = no_product b r (no_factor b p P z.1) in
      let n : c ≡ 0 = no_factor c q Q (omega arith) in
      to_both_zero (a * r) (c * p) (no_product a r (no_factor a q Q z.0)) (no_product c p n)
  fractions true false false h k = through_zero (a * r) (c * p)
  fractions true false true h k =
      let z = both_zero (b * r) (c * q) k in
      let m : c * p ≡ 0 = no_product c p (no_factor c q Q z.1) in
      to_turned (a * r) (c * p) (omega arith)
  fractions true true false h k = through_zero (a * r) (c * p)
  fractions true true true h k =
      to_turned (a * r) (c * p) (across c b a r q p Q (turned (b * r) (c * q) k) (turned (a * q) (b * p) h))

-- ---- at or below, then at or below

pub le_trans : (x y z : Float) → T (le x y) → T (le y z) → T (le x z)
unfolding lt eq le
le_trans nan y z h k = absurd h
le_trans (inf true) nan z h k = absurd h
le_trans (inf false) nan z h k = absurd h
le_trans (fin s m e) nan z h k = absurd h
le_trans (inf true) (inf true) z h k = k
le_trans (inf true) (inf false) nan h k = absurd k
le_trans (inf true) (inf false) (inf true) h k = absurd k
le_trans (inf true) (inf false) (inf false) h k = tt
le_trans (inf true) (inf false) (fin u l f) h k = absurd k
le_trans (inf false) (inf true) z h k = absurd h
le_trans (inf false) (inf false) z h k = k
le_trans (inf false) (fin t n d) z h k = absurd h
le_trans (inf true) (fin t n d) nan h k = absurd k
le_trans (inf true) (fin t n d) (inf true) h k = absurd k
le_trans (inf true) (fin t n d) (inf false) h k = tt
le_trans (inf true) (fin t n d) (fin u l f) h k = tt
le_trans (fin s m e) (inf true) z h k = absurd h
le_trans (fin s m e) (inf false) nan h k = absurd k
le_trans (fin s m e) (inf false) (inf true) h k = absurd k
le_trans (fin s m e) (inf false) (inf false) h k = tt
le_trans (fin s m e) (inf false) (fin u l f) h k = absurd k
le_trans (fin s m e) (fin t n d) nan h k = absurd k
le_trans (fin s m e) (fin t n d) (inf true) h k = absurd k
le_trans (fin s m e) (fin t n d) (inf false) h k = tt
le_trans (fin s m e) (fin t n d) (fin u l f) h k =
    fractions (m * up e) (n * up d) (l * up f) (down e) (down d) (down f) (down_pos e) (down_pos d) (down_pos f) s t u h k

-- below is at or below
pub lt-le : (x y : Float) → T (lt x y) → T (le x y)
unfolding le
lt-le x y h = first_of (lt x y) (eq x y) h

-- ---- at or below is: both are numbers, and the second is not below the first

not_less : (a b : ℕ) → T (not (ltb b a)) → a ≤ b
not_less a b t = ltb-false b a (flip (ltb b a) t)
  where
    flip : (x : Bool) → T (not x) → x ≡ false
    flip true t = absurd t
    flip false t = refl

to_not_less : (a b : ℕ) → a ≤ b → T (not (ltb b a))
to_not_less a b h = rw (le-ltb b a h) tt

not_above : (s t : Bool) (a b : ℕ) → at_most s a t b ≡ not (below t b s a)
not_above false false a b =
    same_test (ltb a b || (eqb a b && true)) (not (ltb b a)) (λ t. to_not_less a b (at_most_lem a b t)) (λ t. to_at_most a b (not_less a b t))
not_above false true a b =
    same_test (eqb a b && eqb a 0) (not (ltb 0 (b + a)))
    (λ t. let z = both_zero a b t in to_not_less (b + a) 0 (omega arith))
    (λ t. let h : b + a ≤ 0 = not_less (b + a) 0 t in to_both_zero a b (omega arith) (omega arith))
not_above true false a b = truth (through_zero a b)
not_above true true a b =
    same_test (ltb b a || (eqb a b && true)) (not (ltb a b)) (λ t. to_not_less b a (turned a b t)) (λ t. to_turned a b (not_less b a t))

pub le_is : (x y : Float) → le x y ≡ not ((is_nan x || is_nan y) || lt y x)
unfolding lt eq le is_nan
le_is nan y = refl
le_is (inf true) nan = refl
le_is (inf false) nan = refl
le_is (inf true) (inf true) = refl
le_is (inf true) (inf false) = refl
le_is (inf false) (inf true) = refl
le_is (inf false) (inf false) = refl
le_is (inf true) (fin t n d) = refl
le_is (inf false) (fin t n d) = refl
le_is (fin s m e) nan = refl
le_is (fin s m e) (inf true) = refl
le_is (fin s m e) (inf false) = refl
le_is (fin s m e) (fin t n d) = not_above s t (m * up e * down d) (n * up d * down e)

-- what compares is a number
pub lt_number : (x y : Float) → T (lt x y) → (is_nan x ≡ false) × (is_nan y ≡ false)
unfolding lt is_nan
lt_number nan y h = absurd h
lt_number (inf s) nan h = absurd h
lt_number (inf s) (inf t) h = (refl, refl)
lt_number (inf s) (fin t n d) h = (refl, refl)
lt_number (fin s m e) nan h = absurd h
lt_number (fin s m e) (inf t) h = (refl, refl)
lt_number (fin s m e) (fin t n d) h = (refl, refl)

-- below, then below: else the third would be at or below the first, and so at or below the second
pub lt_trans : (x y z : Float) → T (lt x y) → T (lt y z) → T (lt x z)
lt_trans x y z h k = go (lt x z) refl
  where
    go : (b : Bool) → lt x z ≡ b → T b
    go true e = tt
    go false e =
        let below : lt y z ≡ true = truth k in
        let back : T (le z x) = holds (le_is z x ∙ rw ((lt_number y z k).1, (lt_number x y h).0, e)) in
        let over : le z y ≡ true = truth (le_trans z x y back (lt-le x y h)) in
        absurd (true≢false (sym over ∙ le_is z y ∙ rw ((lt_number y z k).1, (lt_number y z k).0, below)))

-- the code's test for a NaN
pub ne_self : (x : Float) → ne x x ≡ is_nan x
unfolding ne eq is_nan
ne_self nan = refl
ne_self (inf true) = refl
ne_self (inf false) = refl
ne_self (fin true m e) = rw (eq-eqb (m * up e * down e) (m * up e * down e) refl)
ne_self (fin false m e) = rw (eq-eqb (m * up e * down e) (m * up e * down e) refl)

-- a NaN is at or below nothing
pub nan_le : (x y : Float) → is_nan x ≡ true → le x y ≡ false
nan_le x y e = le_is x y ∙ ap (λ (b : Bool). not ((b || is_nan y) || lt y x)) e
