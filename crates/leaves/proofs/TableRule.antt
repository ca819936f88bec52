-- The widening table's rule: one test that is computed over all entries, and what it says of each.
use Rattle.std.proofs.Common.{◌≡◌, ℕ, zero, suc, ◌+◌, ◌-◌, ◌*◌, ◌/◌, ◌%◌, ◌<◌, ◌≤◌, Bool, true, false, cond, T, eqb, List, [], ◌∷◌, length, get_or, sym, ap, ◌∙◌, subst, le_of_suc-le-suc, not-suc-le-zero, add-zero, add-suc, suc-add, zero-add, arith, eqb→eq, ext_get_or}
use Rattle.leaves.specs.Fit.{fit}
use Rattle.leaves.specs.Widening.{Widens}

-- the test passes at each entry and its place, counted from i
abbrev every : (ℕ → ℕ → Bool) → ℕ → List ℕ → Bool
every test i [] = true
every test i (x ∷ xs) = cond (test i x) (every test (suc i) xs) false

first_passes : (a b : Bool) → T (cond a b false) → T a
first_passes true b t = tt
first_passes false b t = t

rest_passes : (a b : Bool) → T (cond a b false) → T b
rest_passes true b t = t
rest_passes false b t = absurd t

passes : (test : ℕ → ℕ → Bool) (xs : List ℕ) (i : ℕ) → T (every test i xs) → (k : ℕ) → k < length xs → T (test (i + k) (get_or xs k 0))
passes test [] i t k h = absurd (not-suc-le-zero h)
passes test (x ∷ xs) i t zero h = subst (λ (m : ℕ). T (test m x)) (sym (add-zero i)) (first_passes (test i x) (every test (suc i) xs) t)
passes test (x ∷ xs) i t (suc k) h =
    subst (λ (m : ℕ). T (test m (get_or xs k 0))) (suc-add i k ∙ sym (add-suc i k))
    (passes test xs (suc i) (rest_passes (test i x) (every test (suc i) xs) t) k (le_of_suc-le-suc h))

-- the entry at place k is the sample k % 256, fitted to 9 + k / 256 bits
abbrev fitted : ℕ → ℕ → Bool
fitted k x = eqb x (fit (9 + k / 256) (k % 256))

abbrev pub all_fitted : List ℕ → Bool
all_fitted table = every fitted 0 table

-- a table that passes the test holds each sample fitted to each width
pub widens : (table : List ℕ) → length table ≡ 2048 → T (all_fitted table) → Widens table
widens table l t = record { count = l; entry = entry }
  where
    entry : (n sample : ℕ) → 9 ≤ n → n ≤ 16 → sample < 256 → get_or table ((n - 9) * 256 + sample) 0 ≡ fit n sample
    entry n sample h k s =
        let p : ℕ = (n - 9) * 256 + sample in
        let width : 9 + p / 256 ≡ n = omega arith in
        let column : p % 256 ≡ sample = omega arith in
        eqb→eq (get_or table p 0) (fit (9 + p / 256) (p % 256)) (subst (λ (m : ℕ). T (fitted m (get_or table p 0))) (zero-add p) (passes fitted table 0 t p (omega arith)))
        ∙ ap (λ (z : ℕ). fit z (p % 256)) width
        ∙ ap (fit n) column

-- and no other table does
pub one_table : (t u : List ℕ) → Widens t → Widens u → t ≡ u
one_table t u a b = ext_get_or 0 t u (a.count ∙ sym b.count) (λ k h. at t a k (omega (arith, a.count)) ∙ sym (at u b k (omega (arith, a.count))))
  where
    at : (table : List ℕ) → Widens table → (k : ℕ) → k < 2048 → get_or table k 0 ≡ fit (9 + k / 256) (k % 256)
    at table w k h =
        let place : k ≡ (9 + k / 256 - 9) * 256 + k % 256 = omega arith in
        ap (λ (i : ℕ). get_or table i 0) place ∙ w.entry (9 + k / 256) (k % 256) (omega arith) (omega arith) (omega arith)
