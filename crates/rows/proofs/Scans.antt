-- Laws of a row's cells and of a scan, at a place of the row.
use Rattle.std.proofs.Common.{◌≡◌, ℕ, zero, suc, ◌+◌, ◌-◌, ◌%◌, ◌^◌, ◌<◌, ◌≤◌, min, Bool, true, false, cond, not, eqb, ltb, List, [], ◌∷◌, map, length, get_or, drop, sym, refl, ap, ◌∙◌, ap₂, not-suc-le-zero, add-one, arith, drop_of_length-le, drop-cons, ltb-false, ltb-true, le-ltb, lt-ltb, eq-eqb, ne_eqb, eqb-true}
use native.Mathlib.Nat.{zero-mod}
use lib.ListN.{length-map, get_or-map}
use Rattle.rows.specs.RleCodes.{cells, scan, twin, lone, run_length, gather_length}
pub use Rattle.rows.specs.Runs.{Running}
use Rattle.rows.specs.Words.{leading}
use Rattle.rows.proofs.WordLaws.{leading-first, leading_all}

pub scan_full : (on : ℕ → List ℕ → Bool) (n : ℕ) (xs : List ℕ) → 255 ≤ n → scan on n xs ≡ n
unfolding scan
scan_full on n [] h = refl
scan_full on n (x ∷ xs) h = rw (le-ltb n 255 h)

pub length-cells : (d : ℕ) (row : List ℕ) → length (cells d row) ≡ length row
unfolding cells
length-cells d row = length-map row (λ x. x % 2 ^ d)

pub cell_at : (d : ℕ) (row : List ℕ) (k : ℕ) → get_or (cells d row) k 0 ≡ get_or row k 0 % 2 ^ d
unfolding cells
cell_at d row k = ap (λ (z : ℕ). get_or (map (λ x. x % 2 ^ d) row) k z) (sym (zero-mod (2 ^ d))) ∙ get_or-map (λ x. x % 2 ^ d) row k 0

-- a scan of a row's cells from p on, where q is the place after p
module _ (on : ℕ → List ℕ → Bool) (d : ℕ) (row : List ℕ) (n p : ℕ) where
  pub scan_end : length row ≤ p → scan on n (drop p (cells d row)) ≡ n
  unfolding scan
  scan_end h = rw (drop_of_length-le (cells d row) {i = p} (rw length-cells h))

  module _ (q : ℕ) (e : q ≡ p + 1) (h : p < length row) where
    next : drop p (cells d row) ≡ get_or (cells d row) p 0 ∷ drop q (cells d row)
    next = rw (e, add-one p) (drop-cons (cells d row) p 0 (rw length-cells h))

    pub scan_stop : on (get_or (cells d row) p 0) (drop q (cells d row)) ≡ false → scan on n (drop p (cells d row)) ≡ n
    unfolding scan
    scan_stop t = rw (next, t) (both (ltb n 255))
      where
        both : (b : Bool) → cond b n n ≡ n
        both true = refl
        both false = refl

    pub scan_step : n < 255 → on (get_or (cells d row) p 0) (drop q (cells d row)) ≡ true
        → scan on n (drop p (cells d row)) ≡ scan on (n + 1) (drop q (cells d row))
    unfolding scan
    scan_step k t = rw (next, lt-ltb n 255 k, t)

-- a scan of n cells from at on is at its end, where it may have m
pub scan_most : (on : ℕ → List ℕ → Bool) (d : ℕ) (row : List ℕ) (at n m : ℕ) → m ≡ min (length row - at) 255 → m ≤ n → scan on n (drop (at + n) (cells d row)) ≡ n
scan_most on d row at n m e h = go (ltb n 255) refl
  where
    go : (b : Bool) → ltb n 255 ≡ b → scan on n (drop (at + n) (cells d row)) ≡ n
    go true l = scan_end on d row n (at + n) (omega (arith, ltb-true n 255 l))
    go false l = scan_full on n _ (ltb-false n 255 l)

-- m cells at a time from p on: t is the test at a place
module _ (on : ℕ → List ℕ → Bool) (d : ℕ) (row : List ℕ) (t : ℕ → Bool) where
  moved : (n n' p p' : ℕ) → n ≡ n' → p ≡ p' → scan on n (drop p (cells d row)) ≡ scan on n' (drop p' (cells d row))
  moved n n' p p' e f = ap₂ (λ (x y : ℕ). scan on x (drop y (cells d row))) e f

  leap_stop : (m n p : ℕ) → ((i : ℕ) → p ≤ i → i < p + m → on (get_or (cells d row) i 0) (drop (i + 1) (cells d row)) ≡ t i) → p + m ≤ length row → n + m ≤ 255
      → leading t p m < m → scan on n (drop p (cells d row)) ≡ n + leading t p m
  unfolding leading
  leap_stop zero n p h k l r = absurd (not-suc-le-zero r)
  leap_stop (suc m) n p h k l r =
      go (t p) refl r (λ r. leap_stop m (n + 1) (p + 1) (λ i a b. h i (omega arith) (omega arith)) (omega arith) (omega arith) r)
    where
      go : (b : Bool) → t p ≡ b → cond b (suc (leading t (p + 1) m)) 0 < suc m
          → (leading t (p + 1) m < m → scan on (n + 1) (drop (p + 1) (cells d row)) ≡ n + 1 + leading t (p + 1) m)
          → scan on n (drop p (cells d row)) ≡ n + cond b (suc (leading t (p + 1) m)) 0
      go true e r i = scan_step on d row n p (p + 1) refl (omega arith) (omega arith) (h p (omega arith) (omega arith) ∙ e) ∙ i (omega arith) ∙ omega arith
      go false e r i = scan_stop on d row n p (p + 1) refl (omega arith) (h p (omega arith) (omega arith) ∙ e) ∙ omega arith

  leap_on : (m n p : ℕ) → ((i : ℕ) → p ≤ i → i < p + m → on (get_or (cells d row) i 0) (drop (i + 1) (cells d row)) ≡ t i) → p + m ≤ length row → n + m ≤ 255
      → m ≤ leading t p m → scan on n (drop p (cells d row)) ≡ scan on (n + m) (drop (p + m) (cells d row))
  unfolding leading
  leap_on zero n p h k l r = moved n (n + 0) p (p + 0) (omega arith) (omega arith)
  leap_on (suc m) n p h k l r =
      go (t p) refl r (λ r. leap_on m (n + 1) (p + 1) (λ i a b. h i (omega arith) (omega arith)) (omega arith) (omega arith) r)
    where
      go : (b : Bool) → t p ≡ b → suc m ≤ cond b (suc (leading t (p + 1) m)) 0
          → (m ≤ leading t (p + 1) m → scan on (n + 1) (drop (p + 1) (cells d row)) ≡ scan on (n + 1 + m) (drop (p + 1 + m) (cells d row)))
          → scan on n (drop p (cells d row)) ≡ scan on (n + suc m) (drop (p + suc m) (cells d row))
      go true e r i =
          scan_step on d row n p (p + 1) refl (omega arith) (omega arith) (h p (omega arith) (omega arith) ∙ e) ∙ i (omega arith)
          ∙ moved (n + 1 + m) (n + suc m) (p + 1 + m) (p + suc m) (omega arith) (omega arith)
      go false e r i = absurd (not-suc-le-zero r)

-- the test of the next cell, at its place
module _ (d : ℕ) (row : List ℕ) (x q : ℕ) where
  pub twin-at : q < length row → twin x (drop q (cells d row)) ≡ eqb x (get_or (cells d row) q 0)
  twin-at h = rw (drop-cons (cells d row) q 0 (rw length-cells h))

  pub twin_end : length row ≤ q → twin x (drop q (cells d row)) ≡ false
  twin_end h = rw (drop_of_length-le (cells d row) {i = q} (rw length-cells h))

-- eight cells as a word shows them: gathering goes on as far as each differs from the next
module _ (d : ℕ) (row : List ℕ) (n p r : ℕ) (e : r ≡ leading (λ i. not (eqb (get_or (cells d row) i 0) (get_or (cells d row) (i + 1) 0))) p 8)
    (fits : p + 8 < length row) (few : n + 8 ≤ 255) where
  lone-at : (i : ℕ) → p ≤ i → i < p + 8 → lone (get_or (cells d row) i 0) (drop (i + 1) (cells d row)) ≡ not (eqb (get_or (cells d row) i 0) (get_or (cells d row) (i + 1) 0))
  lone-at i a b = ap not (twin-at d row (get_or (cells d row) i 0) (i + 1) (omega arith))

  pub lone_stop : r < 8 → scan lone n (drop p (cells d row)) ≡ n + r
  lone_stop h = leap_stop lone d row _ 8 n p lone-at (omega arith) few (rw e at h) ∙ rw e

  pub lone_on : 8 ≤ r → scan lone n (drop p (cells d row)) ≡ scan lone (n + 8) (drop (p + 8) (cells d row))
  lone_on h = leap_on lone d row _ 8 n p lone-at (omega arith) few (rw e at h)

-- of eight cells the first, which differs from the next, is gathered already
module _ (d : ℕ) (row : List ℕ) (at r : ℕ) (e : r ≡ leading (λ i. not (eqb (get_or (cells d row) i 0) (get_or (cells d row) (i + 1) 0))) at 8)
    (fits : at + 8 < length row) (first : not (eqb (get_or (cells d row) at 0) (get_or (cells d row) (at + 1) 0)) ≡ true) where
  after : r ≡ suc (leading (λ i. not (eqb (get_or (cells d row) i 0) (get_or (cells d row) (i + 1) 0))) (at + 1) 7)
  after = e ∙ leading-first _ at 7 first

  seven : (i : ℕ) → at + 1 ≤ i → i < at + 1 + 7 → lone (get_or (cells d row) i 0) (drop (i + 1) (cells d row)) ≡ not (eqb (get_or (cells d row) i 0) (get_or (cells d row) (i + 1) 0))
  seven i a b = lone-at d row 1 at r e fits (omega arith) i (omega arith) (omega arith)

  pub first_stop : r < 8 → r ≡ gather_length (drop (at + 1) (cells d row))
  first_stop h = after ∙ sym (leap_stop lone d row _ 7 1 (at + 1) seven (omega arith) (omega arith) (omega (arith, after)) ∙ omega arith)

  pub first_on : 8 ≤ r → gather_length (drop (at + 1) (cells d row)) ≡ scan lone 8 (drop (at + 8) (cells d row))
  first_on h =
      let q : at + 1 + 7 ≡ at + 8 = omega arith in
      rw q at (leap_on lone d row _ 7 1 (at + 1) seven (omega arith) (omega arith) (omega (arith, after)))

-- as far as each is the same as the one before, where the one before is v: as far as each is v
same-before : (xs : List ℕ) (v m k : ℕ) → get_or xs k 0 ≡ v → leading (λ i. eqb (get_or xs (i + 1) 0) (get_or xs i 0)) k m ≡ leading (λ i. eqb (get_or xs i 0) v) (k + 1) m
unfolding leading
same-before xs v zero k e = refl
same-before xs v (suc m) k e = rw e (go (eqb (get_or xs (k + 1) 0) v) refl (λ e. same-before xs v m (k + 1) e))
  where
    go : (b : Bool) → eqb (get_or xs (k + 1) 0) v ≡ b
        → (get_or xs (k + 1) 0 ≡ v → leading (λ i. eqb (get_or xs (i + 1) 0) (get_or xs i 0)) (k + 1) m ≡ leading (λ i. eqb (get_or xs i 0) v) (k + 1 + 1) m)
        → cond b (suc (leading (λ i. eqb (get_or xs (i + 1) 0) (get_or xs i 0)) (k + 1) m)) 0 ≡ cond b (suc (leading (λ i. eqb (get_or xs i 0) v) (k + 1 + 1) m)) 0
    go true q f = ap suc (f (eqb-true _ _ q))
    go false q f = refl

-- ---- a run's scan, as a loop has it: n cells from at on are equal, and the scan goes on

pub run_start : (d : ℕ) (row : List ℕ) (at : ℕ) → at < length row → Running d row at 1
run_start d row at h = record { within = omega arith; some = omega arith; most = omega arith; last = ap (λ (k : ℕ). get_or (cells d row) k 0) (omega arith); rest = refl }

module _ (d : ℕ) (row : List ℕ) (at n : ℕ) (s : Running d row at n) where
  pub run_end : (m : ℕ) → m ≡ min (length row - at) 255 → m ≤ n → n ≡ run_length (get_or (cells d row) at 0) (drop (at + 1) (cells d row))
  run_end m e h = sym (s.rest ∙ scan_most _ d row at n m e h)

  -- the next cell is w, and the run's is v
  module _ (h : at + n < length row) (v w : ℕ) (ev : v ≡ get_or (cells d row) at 0) (ew : w ≡ get_or (cells d row) (at + n) 0) where
    pub run_stop : (w ≡ v → ⊥) → n ≡ run_length (get_or (cells d row) at 0) (drop (at + 1) (cells d row))
    run_stop other = sym (s.rest ∙ scan_stop _ d row n (at + n) (at + n + 1) refl h (ne_eqb _ _ (λ e. other (ew ∙ e ∙ sym ev))))

    pub run_on : n < 255 → w ≡ v → Running d row at (n + 1)
    run_on k e =
        let p : at + (n + 1) - 1 ≡ at + n = omega arith in
        record {
          within = omega arith;
          some = omega arith;
          most = omega arith;
          last = ap (λ (k : ℕ). get_or (cells d row) k 0) p ∙ sym ew ∙ e ∙ ev;
          rest = s.rest ∙ scan_step _ d row n (at + n) (at + (n + 1)) (omega arith) h k (eq-eqb _ _ (sym ew ∙ e ∙ ev));
        }

  -- of the next eight cells the first r are the same as the one before each
  module _ (r : ℕ) (e : r ≡ leading (λ i. eqb (get_or (cells d row) (i + 1) 0) (get_or (cells d row) i 0)) (at + n - 1) 8)
      (fits : at + n + 8 ≤ length row) (few : n + 8 ≤ 255) where
    same_eight : r ≡ leading (λ i. eqb (get_or (cells d row) i 0) (get_or (cells d row) at 0)) (at + n) 8
    same_eight =
        let p : at + n - 1 + 1 ≡ at + n = omega (arith, s.some) in
        rw p at (e ∙ same-before (cells d row) (get_or (cells d row) at 0) 8 (at + n - 1) s.last)

    pub run_eight_stop : r < 8 → n + r ≡ run_length (get_or (cells d row) at 0) (drop (at + 1) (cells d row))
    run_eight_stop h = sym (s.rest ∙ leap_stop _ d row _ 8 n (at + n) (λ i a b. refl) fits few (rw same_eight at h) ∙ rw same_eight)

    pub run_eight_on : 8 ≤ r → Running d row at (n + 8)
    run_eight_on h =
        let p : at + (n + 8) ≡ at + n + 8 = omega arith in
        record {
          within = omega arith;
          some = omega arith;
          most = omega arith;
          last = eqb-true _ _ (leading_all _ (at + n) 8 (rw same_eight at h) (at + (n + 8) - 1) (omega arith) (omega arith));
          rest = s.rest ∙ leap_on _ d row _ 8 n (at + n) (λ i a b. refl) fits few (rw same_eight at h) ∙ rw p;
        }

-- so from the start on
module _ (d : ℕ) (row : List ℕ) (at r : ℕ) (e : r ≡ leading (λ i. eqb (get_or (cells d row) (i + 1) 0) (get_or (cells d row) i 0)) at 8) (fits : at + 8 < length row) where
  here : r ≡ leading (λ i. eqb (get_or (cells d row) (i + 1) 0) (get_or (cells d row) i 0)) (at + 1 - 1) 8
  here = let p : at + 1 - 1 ≡ at = omega arith in rw p e

  pub run_first_stop : r < 8 → 1 + r ≡ run_length (get_or (cells d row) at 0) (drop (at + 1) (cells d row))
  run_first_stop = run_eight_stop d row at 1 (run_start d row at (omega arith)) r here (omega arith) (omega arith)

  pub run_first_on : 8 ≤ r → Running d row at 9
  run_first_on = run_eight_on d row at 1 (run_start d row at (omega arith)) r here (omega arith) (omega arith)
