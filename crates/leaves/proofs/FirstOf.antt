-- The first row that applies, of rows in a row; and a check's number determines the check.
use Rattle.std.proofs.Common.{◌≡◌, ℕ, zero, suc, ◌<◌, Bool, true, false, cond, ◌⊎◌, List, [], ◌∷◌, ◌++◌, get_or, sym, refl, ap, ◌∙◌, inl, inr, le_of_suc-le-suc, not-suc-le-zero, eq-or-lt_of_le, Ok, Err, is_err, not, eqb, ne_eqb}
use Rattle.leaves.specs.declared.error.Refusal.{Refusal}
use Rattle.leaves.specs.declared.error.Refusal.TheVariants.{ZeroDimension, DimensionTooLarge, PaletteMissing, PaletteNotQuads, SeveralModes, MaskDepth, MaskAboveDepth, MaskNotOneRun, MaskOverlap, NoColourMask, MaskSource, PlaneTooShort, StrideTooShort, FileTooLarge, BufferTooShort, StreamOverBudget, LimitTooLarge, NegativeResolution, StartsTooShort}
use Rattle.leaves.specs.Lists.{cat}
use Rattle.leaves.specs.Refusals.{number_of, check_number, first_of, or_else, Check}

-- ---- the number determines the check

-- 17 to 19, 22 and 23 are the reader's and the painter's, and no check's here
by_number_of : ℕ → Check
by_number_of n =
    get_or (
    (Ok tt)
    ∷ Err ZeroDimension
    ∷ Err DimensionTooLarge
    ∷ Err PaletteMissing
    ∷ Err PaletteNotQuads
    ∷ Err SeveralModes
    ∷ Err MaskDepth
    ∷ Err MaskAboveDepth
    ∷ Err MaskNotOneRun
    ∷ Err MaskOverlap
    ∷ Err NoColourMask
    ∷ Err MaskSource
    ∷ Err PlaneTooShort
    ∷ Err StrideTooShort
    ∷ Err FileTooLarge
    ∷ Err BufferTooShort
    ∷ Err StreamOverBudget
    ∷ Ok tt
    ∷ Ok tt
    ∷ Ok tt
    ∷ Err LimitTooLarge
    ∷ Err NegativeResolution
    ∷ Ok tt
    ∷ Ok tt
    ∷ Err StartsTooShort
    ∷ []
    ) n (Ok tt)

by_number : (c : Check) → by_number_of (check_number c) ≡ c
unfolding by_number_of
by_number (Ok passed) = refl
by_number (Err ZeroDimension) = refl
by_number (Err DimensionTooLarge) = refl
by_number (Err PaletteMissing) = refl
by_number (Err PaletteNotQuads) = refl
by_number (Err SeveralModes) = refl
by_number (Err MaskDepth) = refl
by_number (Err MaskAboveDepth) = refl
by_number (Err MaskNotOneRun) = refl
by_number (Err MaskOverlap) = refl
by_number (Err NoColourMask) = refl
by_number (Err MaskSource) = refl
by_number (Err PlaneTooShort) = refl
by_number (Err StrideTooShort) = refl
by_number (Err FileTooLarge) = refl
by_number (Err BufferTooShort) = refl
by_number (Err StreamOverBudget) = refl
by_number (Err LimitTooLarge) = refl
by_number (Err NegativeResolution) = refl
by_number (Err StartsTooShort) = refl

pub check_determined : (a b : Check) → check_number a ≡ check_number b → a ≡ b
check_determined a b e = sym (by_number a) ∙ ap by_number_of e ∙ by_number b

-- a check refuses where its number is not 0
pub refuses : (c : Check) → is_err c ≡ not (eqb (check_number c) 0)
refuses (Ok passed) = refl
refuses (Err why) = sym (ap not (ne_eqb (number_of why) 0 (λ e. let z : ◌≡◌ {A = Check} (Err why) (Ok tt) = check_determined (Err why) (Ok tt) e in cc)))

-- ---- rows in a row

-- one group of rows after the other is one check after the other
pub first-or : (xs ys : List (Bool × Refusal)) → first_of (xs ++ ys) ≡ or_else (first_of xs) (first_of ys)
first-or [] ys = refl
first-or (x ∷ xs) ys = go x.0 (first-or xs ys)
  where
    go : (b : Bool) → first_of (xs ++ ys) ≡ or_else (first_of xs) (first_of ys) → cond b (Err x.1) (first_of (xs ++ ys)) ≡ or_else (cond b (Err x.1) (first_of xs)) (first_of ys)
    go true rest = refl
    go false rest = rest

-- so checks in a row answer for rows in a row
pub first_next : (xs ys : List (Bool × Refusal)) (a b r : Check) → a ≡ first_of xs → b ≡ first_of ys → r ≡ or_else a b → r ≡ first_of (xs ++ ys)
first_next xs ys a b r ea eb e = e ∙ (λ z. or_else (ea z) (eb z)) ∙ sym (first-or xs ys)

-- rows of which none applies leave it to those after them
pub first_pass : (xs ys : List (Bool × Refusal)) → first_of xs ≡ Ok tt → first_of (xs ++ ys) ≡ first_of ys
first_pass xs ys e = first-or xs ys ∙ ap (λ (c : Check). or_else c (first_of ys)) e

-- rows of which one applies decide
pub first_stop : (xs ys : List (Bool × Refusal)) (why : Refusal) → first_of xs ≡ Err why → first_of (xs ++ ys) ≡ Err why
first_stop xs ys why e = first-or xs ys ∙ ap (λ (c : Check). or_else c (first_of ys)) e

-- groups of rows, one for each place below n
pub cat_stop : (f : ℕ → List (Bool × Refusal)) (n k : ℕ) (why : Refusal) → k < n → first_of (cat f k) ≡ Ok tt → first_of (f k) ≡ Err why → first_of (cat f n) ≡ Err why
unfolding cat
cat_stop f zero k why h p e = absurd (not-suc-le-zero h)
cat_stop f (suc n) k why h p e = go (eq-or-lt_of_le (le_of_suc-le-suc h)) (λ l. cat_stop f n k why l p e)
  where
    go : (k ≡ n) ⊎ (k < n) → (k < n → first_of (cat f n) ≡ Err why) → first_of (cat f n ++ f n) ≡ Err why
    go (inl q) before = first_pass (cat f n) (f n) (rw q at p) ∙ rw q at e
    go (inr l) before = first_stop (cat f n) (f n) why (before l)

pub cat_pass : (f : ℕ → List (Bool × Refusal)) (k : ℕ) → first_of (cat f k) ≡ Ok tt → first_of (f k) ≡ Ok tt → first_of (cat f (suc k)) ≡ Ok tt
unfolding cat
cat_pass f k p e = first_pass (cat f k) (f k) p ∙ e
