-- What the cells of a window take: the codes up to a run's end are two bytes for each cell that is charged.
use Rattle.std.proofs.Common.{◌≡◌, ℕ, zero, suc, ◌+◌, ◌-◌, ◌*◌, ◌%◌, ◌<◌, ◌≤◌, Bool, true, false, not, ◌&&◌, ◌||◌, T, ltb, ◌⊎◌, List, length, get_or, drop, sym, refl, ap, ◌∙◌, subst, inl, inr, add-zero, add-suc, mod-eq_of_lt, arith, ltb-false, ltb-true, lt-ltb}
use Rattle.rows.specs.RleCodes.{cells, codes}
use Rattle.rows.specs.Windows.{bit, total, twins, flags_at, before, lone, first, even_place, charged, Coding}
use Rattle.rows.proofs.Charges.{even}
use Rattle.rows.proofs.Scans.{cell_at}
use Rattle.rows.proofs.WindowBlocks.{flag, half, run-codes, lone-codes}

-- ---- where a test changes

other : (b : Bool) → b ≡ not b → ⊥
other true e = subst T e tt
other false e = subst T (sym e) tt

either : (x b : Bool) → (x ≡ b) ⊎ (x ≡ not b)
either true true = inl refl
either true false = inr refl
either false true = inr refl
either false false = inl refl

-- from k on, b for steps 0 to j and then not, within n steps
record Change (f : ℕ → Bool) (b : Bool) (k n : ℕ) : Type 0 where
  j : ℕ
  inside : (i : ℕ) → i ≤ j → f (k + i) ≡ b
  out : f (k + j + 1) ≡ not b
  within : j + 1 ≤ n

change : (f : ℕ → Bool) (b : Bool) (n k : ℕ) → f k ≡ b → f (k + n) ≡ not b → Change f b k n
change f b zero k h t = absurd (other b (sym h ∙ ap f (sym (add-zero k)) ∙ t))
change f b (suc n) k h t = go (either (f (k + 1)) b) (λ e u. change f b n (k + 1) e u)
  where
    step : Change f b (k + 1) n → Change f b k (suc n)
    step c =
        let e : k + 1 + c.j + 1 ≡ k + (c.j + 1) + 1 = omega arith in
        let inside : (i : ℕ) → i ≤ c.j + 1 → f (k + i) ≡ b = λ i l. at i l in
        record { j = c.j + 1; inside = inside; out = ap f (sym e) ∙ c.out; within = omega (arith, c.within) }
      where
        at : (i : ℕ) → i ≤ c.j + 1 → f (k + i) ≡ b
        at zero l = ap f (add-zero k) ∙ h
        at (suc i) l = let e : k + suc i ≡ k + 1 + i = omega arith in ap f e ∙ c.inside i (omega arith)

    go : (f (k + 1) ≡ b) ⊎ (f (k + 1) ≡ not b) → (f (k + 1) ≡ b → f (k + 1 + n) ≡ not b → Change f b (k + 1) n) → Change f b k (suc n)
    go (inl e) c = let m : k + suc n ≡ k + 1 + n = omega arith in step (c e (ap f (sym m) ∙ t))
    go (inr e) c =
        let m : k + 0 + 1 ≡ k + 1 = omega arith in
        record { j = 0; inside = λ i l. let z : k + i ≡ k = omega arith in ap f z ∙ h; out = ap f m ∙ e; within = omega arith }

-- ---- totals

total_none : (f : ℕ → Bool) (k m : ℕ) → ((i : ℕ) → i < m → f (k + i) ≡ false) → total f (k + m) ≡ total f k
unfolding total
total_none f k zero h = ap (total f) (add-zero k)
total_none f k (suc m) h = rw (add-suc k m, h m (omega arith)) (omega (arith, total_none f k m (λ i l. h i (omega arith))))

-- ---- a run

and_false : (b : Bool) → b && false ≡ false
and_false true = refl
and_false false = refl

module _ (e : ℕ → Bool) where
  -- a cell after an equal one is not charged
  going_on : (m : ℕ) → before e m ≡ true → charged e m ≡ false
  unfolding charged lone
  going_on m h = rw h (go (e m))
    where
      go : (b : Bool) → (b && false) || (not (b || true) && (even_place e m || before (first e) m)) ≡ false
      go true = refl
      go false = refl

  run_start : (m : ℕ) → e m ≡ true → before e m ≡ false → charged e m ≡ true
  unfolding charged
  run_start m h k = rw (h, k)

  -- a run of n + 2 cells takes two bytes
  run-total : (k n : ℕ) → before e k ≡ false → ((i : ℕ) → i ≤ n → e (k + i) ≡ true) → total (charged e) (k + (n + 2)) ≡ total (charged e) k + 1
  unfolding total
  run-total k n h f =
      let z : (i : ℕ) → i < n + 1 → charged e (suc k + i) ≡ false =
      λ i l. going_on (suc k + i) (let q : suc k + i ≡ suc (k + i) = omega arith in ap (before e) q ∙ f i (omega arith)) in
      let q : k + (n + 2) ≡ suc k + (n + 1) = omega arith in
      let s : charged e k ≡ true = run_start k (ap e (sym (add-zero k)) ∙ f 0 (omega arith)) h in
      ap (total (charged e)) q ∙ total_none (charged e) (suc k) (n + 1) z ∙ rw s

-- ---- a stretch of lone cells

even_bit : (n : ℕ) → bit (even n) + n % 2 ≡ 1
unfolding even
even_bit zero = refl
even_bit (suc n) = go (even n) (even_bit n)
  where
    go : (b : Bool) → bit b + n % 2 ≡ 1 → bit (not b) + suc n % 2 ≡ 1
    go true h = omega arith
    go false h = omega arith

-- the places in a stretch that are charged
mark : ℕ → Bool
unfolding even
mark zero = true
mark (suc zero) = true
mark (suc (suc n)) = even n

half_next : (i : ℕ) → half (suc i) ≡ half i + bit (mark i)
unfolding mark even
half_next zero = refl
half_next (suc zero) = refl
half_next (suc (suc n)) = omega (arith, even_bit n)

or_true : (b : Bool) → b || true ≡ true
or_true true = refl
or_true false = refl

or_false : (b : Bool) → b || false ≡ b
or_false true = refl
or_false false = refl

not-not : (b : Bool) → not (not b) ≡ b
not-not true = refl
not-not false = refl

module _ (e : ℕ → Bool) where
  is_lone : (m : ℕ) → e m ≡ false → before e m ≡ false → lone e m ≡ true
  unfolding lone
  is_lone m h k = rw (h, k)

  even_start : (k : ℕ) → before (lone e) k ≡ false → even_place e k ≡ true
  unfolding even_place
  even_start zero h = refl
  even_start (suc k) h = rw h

  even_next : (m : ℕ) → lone e m ≡ true → even_place e (suc m) ≡ not (even_place e m)
  unfolding even_place
  even_next m h = rw h

  not_first : (m : ℕ) → lone e m ≡ true → first e (suc m) ≡ false
  unfolding first
  not_first m h = rw h (and_false (lone e (suc m)))

  is_first : (m : ℕ) → lone e m ≡ true → before (lone e) m ≡ false → first e m ≡ true
  unfolding first
  is_first m h k = rw (h, k)

  charged-lone : (m : ℕ) → e m ≡ false → lone e m ≡ true → charged e m ≡ even_place e m || before (first e) m
  unfolding charged
  charged-lone m h k = rw (h, k)

  -- lone cells from k on, the first of their stretch
  module _ (k j : ℕ) (h : before e k ≡ false) (l : before (lone e) k ≡ false) (f : (i : ℕ) → i ≤ j → e (k + i) ≡ false) where
    lone_in : (i : ℕ) → i ≤ j → lone e (k + i) ≡ true
    lone_in zero b = rw (add-zero k) (is_lone k (rw (add-zero k) at (f 0 b)) h)
    lone_in (suc i) b = is_lone (k + suc i) (f (suc i) b) (rw (add-suc k i) (f i (omega arith)))

    even_in : (i : ℕ) → i ≤ j → even_place e (k + i) ≡ even i
    unfolding even
    even_in zero b = rw (add-zero k) (even_start k l)
    even_in (suc i) b = rw (add-suc k i) (even_next (k + i) (lone_in i (omega arith)) ∙ ap not (even_in i (omega arith)))

    charged_in : (i : ℕ) → i ≤ j → charged e (k + i) ≡ mark i
    unfolding mark even
    charged_in zero b = charged-lone (k + 0) (f 0 b) (lone_in 0 b) ∙ rw (even_in 0 b)
    charged_in (suc zero) b =
        let s : before (first e) (k + 1) ≡ true = rw (add-suc k 0, add-zero k) (is_first k (rw (add-zero k) at (lone_in 0 (omega arith))) l) in
        charged-lone (k + 1) (f 1 b) (lone_in 1 b) ∙ rw s (or_true (even_place e (k + 1)))
    charged_in (suc (suc i)) b =
        let s : before (first e) (k + suc (suc i)) ≡ false = rw (add-suc k (suc i), add-suc k i) (not_first (k + i) (lone_in i (omega arith))) in
        charged-lone (k + suc (suc i)) (f (suc (suc i)) b) (lone_in (suc (suc i)) b) ∙ rw s (or_false (even_place e (k + suc (suc i)))) ∙ even_in (suc (suc i)) b ∙ not-not (even i)

    lone-total : (i : ℕ) → i ≤ j + 1 → total (charged e) (k + i) ≡ total (charged e) k + half i
    unfolding total
    lone-total zero b = ap (total (charged e)) (add-zero k) ∙ sym (add-zero (total (charged e) k))
    lone-total (suc i) b = rw (add-suc k i, charged_in i (omega arith)) (omega (arith, lone-total i (omega arith), half_next i))

-- ---- the window

-- a window's flags e at `at`, of which a run ends at cell u + 1: there another cell or the row's end follows
module _ (row : List ℕ) (at : ℕ) (e : ℕ → Bool) (u : ℕ) (most : u + 2 ≤ 64) (within : at + u + 2 ≤ length row) (same : (k : ℕ) → k ≤ u → flag 8 row (at + k) ≡ e k)
    (on : e u ≡ true) (off : e (u + 1) ≡ false) (end : ((at + u + 2 < length row) × (flag 8 row (at + u + 1) ≡ false)) ⊎ (length row ≤ at + u + 2)) where
  rest : ℕ → ℕ
  rest k = length (codes 8 0 (drop (at + k) (cells 8 row)))

  -- what is left at k, and what was charged before k
  Balanced : ℕ → Type 0
  unfolding rest
  Balanced k = rest k + 2 * total (charged e) k ≡ rest (u + 2) + 2 * total (charged e) (u + 2)

  -- the block at k starts a run or a stretch of lone cells
  record Fresh (k : ℕ) : Type 0 where
    starts : before e k ≡ false
    stretch : e k ≡ false → before (lone e) k ≡ false

  flag_at : (k i p : ℕ) → k + i ≤ u → p ≡ at + k + i → flag 8 row p ≡ e (k + i)
  flag_at k i p h q = let z : p ≡ at + (k + i) = omega arith in rw z (same (k + i) h)

  past_run : (k : ℕ) (c : Change e true k (u + 1 - k)) → k ≤ u + 1 → Fresh k → (Fresh (k + (c.j + 2)) → Balanced (k + (c.j + 2))) → Balanced k
  unfolding Balanced rest lone
  past_run k c h f ih =
      let j = c.j in
      let w = c.within in
      let a = run-codes 8 row (at + k) (omega arith) j (omega arith) (omega arith)
      (λ i l. flag_at k i (at + k + i) (omega arith) refl ∙ c.inside i l)
      (after (ltb (k + j) u) refl) in
      let p : at + k + (j + 2) ≡ at + (k + (j + 2)) = omega arith in
      let t = run-total e k j f.starts c.inside in
      let q : k + (j + 2) ≡ suc (k + j + 1) = omega arith in
      let r : k + j + 1 ≡ suc (k + j) = omega arith in
      let s : before e (k + (j + 2)) ≡ false = rw q c.out in
      let l : before (lone e) (k + (j + 2)) ≡ false = rw (q, c.out, r, c.inside j (omega arith)) in
      let b = ih (record { starts = s; stretch = λ z. l }) in
      omega (arith, rw p at a)
    where
      after : (b : Bool) → ltb (k + c.j) u ≡ b
          → ((at + k + c.j + 2 < length row) × (flag 8 row (at + k + c.j + 1) ≡ false)) ⊎ (length row ≤ at + k + c.j + 2)
      after true b =
          let l = ltb-true (k + c.j) u b in
          let q : k + (c.j + 1) ≡ k + c.j + 1 = omega arith in
          inl (omega arith, flag_at k (c.j + 1) (at + k + c.j + 1) (omega arith) (omega arith) ∙ ap e q ∙ c.out)
      after false b =
          let l = ltb-false (k + c.j) u b in
          let w = c.within in
          let x : at + k + c.j + 1 ≡ at + u + 1 = omega arith in
          let y : at + k + c.j + 2 ≡ at + u + 2 = omega arith in
          rw (x, y) end

  past_lone : (k : ℕ) (c : Change e false k (u - k)) → k ≤ u → e k ≡ false → Fresh k → (Fresh (k + (c.j + 1)) → Balanced (k + (c.j + 1))) → Balanced k
  unfolding Balanced rest
  past_lone k c h z f ih =
      let j = c.j in
      let w = c.within in
      let q : k + (j + 1) ≡ k + j + 1 = omega arith in
      let a = lone-codes row (at + k) (j + 1) (omega arith) (omega arith) (omega arith)
      (λ i l. flag_at k i (at + k + i) (omega arith) refl ∙ c.inside i (omega arith))
      (flag_at k (j + 1) (at + k + (j + 1)) (omega arith) refl ∙ ap e q ∙ c.out) in
      let p : at + k + (j + 1) ≡ at + (k + (j + 1)) = omega arith in
      let t = lone-total e k j f.starts (f.stretch z) c.inside (j + 1) (omega arith) in
      let r : k + (j + 1) ≡ suc (k + j) = omega arith in
      let s : before e (k + (j + 1)) ≡ false = rw r (c.inside j (omega arith)) in
      let o : e (k + (j + 1)) ≡ true = ap e q ∙ c.out in
      let b = ih (record { starts = s; stretch = λ y. absurd (subst T (sym o ∙ y) tt) }) in
      omega (arith, rw p at a)

  balanced : (n k : ℕ) → u + 2 ≤ k + n → k ≤ u + 2 → Fresh k → Balanced k
  unfolding Balanced
  balanced zero k far h f = let q : k ≡ u + 2 = omega arith in rw q
  balanced (suc n) k far h f = go (ltb k (u + 2)) refl (either (e k) true) (λ m i l g. balanced n m i l g)
    where
      go : (b : Bool) → ltb k (u + 2) ≡ b → (e k ≡ true) ⊎ (e k ≡ false)
          → ((m : ℕ) → u + 2 ≤ m + n → m ≤ u + 2 → Fresh m → Balanced m) → Balanced k
      go false q x ih = let z : k ≡ u + 2 = omega (arith, ltb-false k (u + 2) q) in rw z
      go true q (inl x) ih =
          let l = ltb-true k (u + 2) q in
          let z : k + (u + 1 - k) ≡ u + 1 = omega arith in
          let c = change e true (u + 1 - k) k x (ap e z ∙ off) in
          let w = c.within in
          past_run k c (omega arith) f (λ g. ih (k + (c.j + 2)) (omega arith) (omega arith) g)
      go true q (inr x) ih =
          let l = ltb-true k (u + 2) q in
          let d : (k ≡ u + 1 → ⊥) = λ y. subst T (sym on ∙ ap (before e) (let v : suc u ≡ k = omega arith in v) ∙ f.starts) tt in
          let i : k ≤ u = omega (arith, d) in
          let z : k + (u - k) ≡ u = omega arith in
          let c = change e false (u - k) k x (ap e z ∙ on) in
          let w = c.within in
          past_lone k c i x f (λ g. ih (k + (c.j + 1)) (omega arith) (omega arith) g)

  -- the codes up to that run's end are two bytes for each cell that is charged
  pub window_codes : length (codes 8 0 (drop at (cells 8 row))) ≡ 2 * total (charged e) (u + 2) + length (codes 8 0 (drop (at + (u + 2)) (cells 8 row)))
  unfolding Balanced rest total
  window_codes =
      let b = balanced (u + 2) 0 (omega arith) (omega arith) (record { starts = refl; stretch = λ z. refl }) in
      let q : at + 0 ≡ at = add-zero at in
      omega (arith, rw q at b)

-- ---- as the code has it

module _ (row : List ℕ) (at : ℕ) where
  -- a flag that is set is one of two cells of the row
  pub set_inside : (k : ℕ) → flags_at row at k ≡ true → at + k + 1 < length row
  set_inside k h = go (ltb (at + k + 1) (length row)) refl h
    where
      go : (b : Bool) → ltb (at + k + 1) (length row) ≡ b → b && twins row at k ≡ true → at + k + 1 < length row
      go true e h = ltb-true _ _ e
      go false e h = absurd (subst T (sym h) tt)

  pub unset : (k : ℕ) → flags_at row at k ≡ false → ((at + k + 1 < length row) × (twins row at k ≡ false)) ⊎ (length row ≤ at + k + 1)
  unset k h = go (ltb (at + k + 1) (length row)) refl h
    where
      go : (b : Bool) → ltb (at + k + 1) (length row) ≡ b → b && twins row at k ≡ false → ((at + k + 1 < length row) × (twins row at k ≡ false)) ⊎ (length row ≤ at + k + 1)
      go true e h = inl (ltb-true _ _ e, h)
      go false e h = inr (ltb-false _ _ e)

module _ (row : List ℕ) (at : ℕ) (bytes : (i : ℕ) → get_or row i 0 < 256) where
  cell_byte : (k : ℕ) → get_or (cells 8 row) k 0 ≡ get_or row k 0
  cell_byte k = cell_at 8 row k ∙ mod-eq_of_lt (bytes k)

  pub flag_is : (k : ℕ) → flag 8 row (at + k) ≡ twins row at k
  flag_is k = rw (cell_byte (at + k), cell_byte (at + k + 1))

  -- as cells they are alike where they are alike as bytes
  pub twins_cells : (k : ℕ) → twins (cells 8 row) at k ≡ twins row at k
  twins_cells k = rw (cell_byte (at + k), cell_byte (at + k + 1))

  module _ (u : ℕ) (most : u + 2 ≤ 64) (on : flags_at row at u ≡ true) (off : flags_at row at (u + 1) ≡ false) where
    end_is : ((at + u + 2 < length row) × (flag 8 row (at + u + 1) ≡ false)) ⊎ (length row ≤ at + u + 2)
    end_is =
        let p : at + (u + 1) + 1 ≡ at + u + 2 = omega arith in
        let q : at + (u + 1) ≡ at + u + 1 = omega arith in
        go p q (unset row at (u + 1) off)
      where
        go : at + (u + 1) + 1 ≡ at + u + 2 → at + (u + 1) ≡ at + u + 1
            → ((at + (u + 1) + 1 < length row) × (twins row at (u + 1) ≡ false)) ⊎ (length row ≤ at + (u + 1) + 1)
            → ((at + u + 2 < length row) × (flag 8 row (at + u + 1) ≡ false)) ⊎ (length row ≤ at + u + 2)
        go p q (inl h) = inl (omega (arith, h.0), ap (flag 8 row) (sym q) ∙ flag_is (u + 1) ∙ h.1)
        go p q (inr h) = inr (omega arith)

    same_is : (k : ℕ) → k ≤ u → flag 8 row (at + k) ≡ flags_at row at k
    same_is k h = let i = set_inside row at u on in flag_is k ∙ rw (lt-ltb (at + k + 1) (length row) (omega arith))

    window_coding : Coding 8 row at (u + 2) (2 * total (charged (flags_at row at)) (u + 2))
    window_coding =
        let i = set_inside row at u on in
        (omega arith, omega arith, window_codes row at (flags_at row at) u most (omega arith) same_is on off end_is)

  pub coded : (v n : ℕ) → (v ≡ 0) ⊎ ((2 ≤ v) × (v ≤ 64) × (flags_at row at (v - 2) ≡ true) × (flags_at row at (v - 1) ≡ false)) → (v ≡ 0 → ⊥)
      → n ≡ 2 * total (charged (flags_at row at)) v → (v ≡ 0) ⊎ Coding 8 row at v n
  coded v n (inl z) some e = absurd (some z)
  coded v n (inr w) some e =
      let a = w.0 in
      let p : v - 2 + 1 ≡ v - 1 = omega arith in
      let q : v - 2 + 2 ≡ v = omega arith in
      inr (rw e (rw q at (window_coding (v - 2) (omega (arith, w.1)) w.2 (ap (flags_at row at) p ∙ w.3))))
