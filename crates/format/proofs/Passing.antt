-- A call that no row of the table refuses: what each row's test then says.
use mathlib.Core.Path.{◌≡◌, refl, sym, ◌∙◌}
use mathlib.Core.Logic.{◌⊎◌, inl, inr}
use mathlib.Core.Bool.{Bool, true, false, cond, ◌&&◌, ◌||◌}
use mathlib.Core.List.{List, ◌++◌}
use Prim.Native.Nat.{ℕ, zero, suc, ◌<◌}
use native.Mathlib.Nat.{not-suc-le-zero, le_of_suc-le-suc, eq-or-lt_of_le}
use Rattle.std.proofs.Common.{Ok, Err}
use Rattle.leaves.specs.declared.error.Refusal.{Refusal}
use Rattle.leaves.specs.Lists.{cat}
use Rattle.leaves.specs.Refusals.{first_of, Check}
use Rattle.leaves.proofs.FirstOf.{first_pass, first_stop}

-- rows in a row are passed only where both parts are
pub first_parts : (xs ys : List (Bool × Refusal)) → first_of (xs ++ ys) ≡ Ok tt → (first_of xs ≡ Ok tt) × (first_of ys ≡ Ok tt)
first_parts xs ys e = go (first_of xs) refl
  where
    go : (c : Check) → first_of xs ≡ c → (first_of xs ≡ Ok tt) × (first_of ys ≡ Ok tt)
    go (Ok passed) q = (q, sym (first_pass xs ys q) ∙ e)
    go (Err why) q = let z : Err why ≡ Ok tt = sym (first_stop xs ys why q) ∙ e in (cc, cc)

-- a row is passed only where its test does not hold
pub row_parts : (t : Bool) (why : Refusal) (rest : Check) → cond t (Err why) rest ≡ Ok tt → (t ≡ false) × (rest ≡ Ok tt)
row_parts true why rest e = (cc, cc)
row_parts false why rest e = (refl, e)

-- groups of rows, one for each place below n
pub cat_parts : (f : ℕ → List (Bool × Refusal)) (n k : ℕ) → first_of (cat f n) ≡ Ok tt → k < n → first_of (f k) ≡ Ok tt
unfolding cat
cat_parts f zero k e h = absurd (not-suc-le-zero h)
cat_parts f (suc n) k e h = go (eq-or-lt_of_le (le_of_suc-le-suc h)) (first_parts (cat f n) (f n) e) (cat_parts f n k)
  where
    go : (k ≡ n) ⊎ (k < n) → (first_of (cat f n) ≡ Ok tt) × (first_of (f n) ≡ Ok tt) → (first_of (cat f n) ≡ Ok tt → k < n → first_of (f k) ≡ Ok tt) → first_of (f k) ≡ Ok tt
    go (inl q) p rest = rw q p.1
    go (inr l) p rest = rest p.0 l

-- tests of several parts
pub or_false : (a b : Bool) → (a || b) ≡ false → (a ≡ false) × (b ≡ false)
or_false true b e = (e, let z : true ≡ false = e in cc)
or_false false b e = (refl, e)

pub and_false : (a b : Bool) → (a && b) ≡ false → a ≡ true → b ≡ false
and_false true b e h = e
and_false false b e h = cc
