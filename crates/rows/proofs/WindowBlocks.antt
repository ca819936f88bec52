-- The block at a place of a row, from the flags of the cells there: of each cell whether the next one is equal.
use Rattle.std.proofs.Common.{◌≡◌, ℕ, zero, suc, ◌+◌, ◌-◌, ◌*◌, ◌/◌, ◌<◌, ◌≤◌, min, Bool, true, false, not, eqb, ◌⊎◌, List, length, get_or, drop, sym, refl, ap, ◌∙◌, subst, ap₂, inl, inr, arith, eqb-true}
use borrow.Author.Tests.{eqb-false}
use Rattle.rows.specs.declared.blocks.Block.TheVariants.{Pair, Absolute}
use Rattle.rows.specs.RleCodes.{cells, scan, lone, run_length, gather_length, codes, data_bytes}
use Rattle.rows.proofs.RleBlocks.{block_run, block_absolute, block_single, turn}
use Rattle.rows.proofs.Scans.{scan_stop, scan_step, twin-at, Running, run_start, run_end, run_stop, run_on}

abbrev pub flag : ℕ → List ℕ → ℕ → Bool
flag d row p = eqb (get_or (cells d row) p 0) (get_or (cells d row) (p + 1) 0)

module _ (d : ℕ) (row : List ℕ) (p : ℕ) where
  -- ---- a run

  -- n cells after the first are equal to it
  pub ran : (n : ℕ) → p + n < length row → n < 255 → ((i : ℕ) → i < n → flag d row (p + i) ≡ true) → Running d row p (n + 1)
  ran zero h k f = run_start d row p (omega arith)
  ran (suc n) h k f =
      let xs = cells d row in
      let s = ran n (omega arith) (omega arith) (λ i l. f i (omega arith)) in
      let l : get_or xs (p + (n + 1)) 0 ≡ get_or xs p 0 =
      ap (λ (z : ℕ). get_or xs z 0) (omega arith) ∙ sym (eqb-true _ _ (f n (omega arith))) ∙ ap (λ (z : ℕ). get_or xs z 0) (omega arith) ∙ s.last in
      let e : n + 1 + 1 ≡ suc n + 1 = omega arith in
      subst (λ (z : ℕ). Running d row p z) e (run_on d row p (n + 1) s (omega arith) (get_or xs p 0) (get_or xs (p + (n + 1)) 0) refl refl (omega arith) l)

  -- n + 1 cells are equal, which another cell or the row's end follows
  pub run_ends : (n : ℕ) → Running d row p (n + 1) → ((p + n + 1 < length row) × (flag d row (p + n) ≡ false)) ⊎ (length row ≤ p + n + 1)
      → n + 1 ≡ run_length (get_or (cells d row) p 0) (drop (p + 1) (cells d row))
  run_ends n s (inr e) = run_end d row p (n + 1) s (min (length row - p) 255) refl (omega arith)
  run_ends n s (inl e) =
      let xs = cells d row in
      let v = get_or xs p 0 in
      let o : (get_or xs (p + (n + 1)) 0 ≡ v → ⊥) =
      λ q. eqb-false _ _ e.1 (ap (λ (z : ℕ). get_or xs z 0) (omega arith) ∙ s.last ∙ sym q ∙ ap (λ (z : ℕ). get_or xs z 0) (omega arith)) in
      let y = e.0 in
      run_stop d row p (n + 1) s (omega arith) v (get_or xs (p + (n + 1)) 0) refl refl o

  -- so a run of n + 2 cells
  pub run-codes : d ≤ 8 → (n : ℕ) → p + n + 2 ≤ length row → n + 2 ≤ 255 → ((i : ℕ) → i ≤ n → flag d row (p + i) ≡ true)
      → ((p + n + 2 < length row) × (flag d row (p + n + 1) ≡ false)) ⊎ (length row ≤ p + n + 2)
      → length (codes d 0 (drop p (cells d row))) ≡ 2 + length (codes d 0 (drop (p + (n + 2)) (cells d row)))
  run-codes deep n h k f t =
      let xs = cells d row in
      let v = get_or xs p 0 in
      let m : n + 1 + 1 ≡ n + 2 = omega arith in
      let s : Running d row p (n + 1 + 1) = ran (n + 1) (omega arith) (omega arith) (λ i l. f i (omega arith)) in
      let e : n + 2 ≡ run_length v (drop (p + 1) xs) = sym m ∙ run_ends (n + 1) s (follows t) in
      (turn d deep row p (omega arith) (Pair (n + 2) v v) (block_run xs p (n + 2) v e refl (omega arith)) (n + 2) 2 refl refl).split
    where
      follows : ((p + n + 2 < length row) × (flag d row (p + n + 1) ≡ false)) ⊎ (length row ≤ p + n + 2)
          → ((p + (n + 1) + 1 < length row) × (flag d row (p + (n + 1)) ≡ false)) ⊎ (length row ≤ p + (n + 1) + 1)
      follows (inl e) = let y = e.0 in inl (omega arith, ap (flag d row) (omega arith) ∙ e.1)
      follows (inr e) = inr (omega arith)

  -- ---- lone cells

  -- gathering has come to n cells
  gathered : (n : ℕ) → 1 ≤ n → p + n < length row → n ≤ 255 → ((i : ℕ) → i < n → flag d row (p + i) ≡ false)
      → gather_length (drop (p + 1) (cells d row)) ≡ scan lone n (drop (p + n) (cells d row))
  gathered zero some h k f = absurd (omega arith)
  gathered (suc zero) some h k f = refl
  gathered (suc (suc n)) some h k f =
      let e : p + (suc n + 1) ≡ p + suc n + 1 = omega arith in
      let s = gathered (suc n) (omega arith) (omega arith) (omega arith) (λ i l. f i (omega arith)) in
      let u = scan_step lone d row (suc n) (p + suc n) (p + (suc n + 1)) e (omega arith) (omega arith)
      (rw e (ap not (twin-at d row (get_or (cells d row) (p + suc n) 0) (p + suc n + 1) (omega arith) ∙ f (suc n) (omega arith)))) in
      let a : suc n + 1 ≡ suc (suc n) = omega arith in
      let b : p + (suc n + 1) ≡ p + suc (suc n) = omega arith in
      s ∙ u ∙ ap₂ (λ (x y : ℕ). scan lone x (drop y (cells d row))) a b

  module _ (g : ℕ) (some : 1 ≤ g) (h : p + g + 1 < length row) (k : g ≤ 255) (f : (i : ℕ) → i < g → flag d row (p + i) ≡ false) (t : flag d row (p + g) ≡ true) where
    pub gather_is : g ≡ gather_length (drop (p + 1) (cells d row))
    gather_is =
        sym
        (gathered g some (omega arith) k f
        ∙ scan_stop lone d row g (p + g) (p + g + 1) refl (omega arith)
        (ap not (twin-at d row (get_or (cells d row) (p + g) 0) (p + g + 1) (omega arith) ∙ t)))

    pub run_is : 1 ≡ run_length (get_or (cells d row) p 0) (drop (p + 1) (cells d row))
    run_is = let e : p + 0 ≡ p = omega arith in run_ends 0 (run_start d row p (omega arith)) (inl (omega arith, f 0 (omega arith)))

    absolute_codes : d ≤ 8 → 2 < g → length (codes d 0 (drop p (cells d row))) ≡ 2 + data_bytes d g + length (codes d 0 (drop (p + g) (cells d row)))
    absolute_codes deep m =
        (turn d deep row p (omega arith) (Absolute g) (block_absolute (cells d row) p 1 (get_or (cells d row) p 0) run_is refl g gather_is (omega arith) m) g (2 + data_bytes d g) refl refl).split

    single_codes : d ≤ 8 → g ≤ 2 → length (codes d 0 (drop p (cells d row))) ≡ 2 + length (codes d 0 (drop (p + 1) (cells d row)))
    single_codes deep m =
        let w = get_or (drop (p + 1) (cells d row)) 0 0 in
        (turn d deep row p (omega arith) (Pair 1 (get_or (cells d row) p 0) w) (block_single (cells d row) p 1 (get_or (cells d row) p 0) run_is refl g gather_is (omega arith) w refl m) 1 2 refl refl).split

-- ---- a stretch of lone cells at depth 8

-- half the bytes that g lone cells take before a run
abbrev pub half : ℕ → ℕ
half zero = 0
half (suc zero) = 1
half (suc (suc g)) = (g + 3) / 2 + 1

module _ (row : List ℕ) where
  last_lone : (p : ℕ) → p + 2 < length row → flag 8 row p ≡ false → flag 8 row (p + 1) ≡ true
      → length (codes 8 0 (drop p (cells 8 row))) ≡ 2 + length (codes 8 0 (drop (p + 1) (cells 8 row)))
  last_lone p h f t =
      let z : (i : ℕ) → i < 1 → flag 8 row (p + i) ≡ false = λ i l. let e : p + i ≡ p = omega arith in rw e f in
      single_codes 8 row p 1 (omega arith) (omega arith) (omega arith) z t (omega arith) (omega arith)

  pub lone-codes : (p g : ℕ) → 1 ≤ g → p + g + 1 < length row → g ≤ 255 → ((i : ℕ) → i < g → flag 8 row (p + i) ≡ false) → flag 8 row (p + g) ≡ true
      → length (codes 8 0 (drop p (cells 8 row))) ≡ 2 * half g + length (codes 8 0 (drop (p + g) (cells 8 row)))
  lone-codes p zero some h k f t = absurd (omega arith)
  lone-codes p (suc zero) some h k f t = let e : p + 0 ≡ p = omega arith in last_lone p (omega arith) (rw e at (f 0 (omega arith))) t
  lone-codes p (suc (suc zero)) some h k f t =
      let e : p + 1 + 1 ≡ p + 2 = omega arith in
      let a = single_codes 8 row p 2 some h k f t (omega arith) (omega arith) in
      let b = last_lone (p + 1) (omega arith) (f 1 (omega arith)) (rw e t) in
      omega (arith, rw e at b)
  lone-codes p (suc (suc (suc g))) some h k f t =
      let a = absolute_codes 8 row p (suc (suc (suc g))) some h k f t (omega arith) (omega arith) in
      omega arith
