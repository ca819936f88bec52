-- Blocks that a word of flags shows whole.
use Rattle.std.proofs.Common.{◌≡◌, ℕ, zero, suc, ◌+◌, ◌-◌, ◌/◌, ◌^◌, ◌<◌, ◌≤◌, Bool, true, false, cond, not, ◌&&◌, eqb, ltb, ◌⊎◌, List, length, get_or, drop, sym, refl, ap, ◌∙◌, inl, inr, le_of_suc-le-suc, not-suc-le-zero, add-zero, zero-add, add-one, arith, le-ltb, lt-ltb}
use mathlib.Core.Bool.{false≢true}
use lib.Arith.{digits_div, digits_mod}
use lib.Count.{count_trailing_zeros, under}
use Rattle.rows.specs.RleCodes.{cells, run_length, gather_length}
use Rattle.rows.specs.Windows.{bit, from_bits, twins, flags_at}
use Rattle.rows.specs.Words.{leading}
use Rattle.rows.proofs.FromBits.{bit-lt, bits_not, bits_down}
use Rattle.rows.proofs.WindowBlocks.{flag, ran, run_ends, gather_is}
use Rattle.rows.proofs.Scans.{length-cells}
use Rattle.rows.proofs.WindowCharges.{set_inside, unset}
use Rattle.rows.proofs.WordLaws.{leading_ext}

-- ---- how many flags are alike, from the lowest on

leading_moved : (t : ℕ → Bool) (k n : ℕ) → leading t (k + 1) n ≡ leading (λ i. t (suc i)) k n
unfolding leading
leading_moved t k zero = refl
leading_moved t k (suc n) = rw (leading_moved t (k + 1) n, add-one k)

bits_clear : (f : ℕ → Bool) (n : ℕ) → count_trailing_zeros n (from_bits f n) ≡ leading (λ k. not (f k)) 0 n
unfolding count_trailing_zeros from_bits leading
bits_clear f zero = refl
bits_clear f (suc n) =
    let x = from_bits (λ k. f (suc k)) n in
    rw (digits_mod x (bit-lt (f 0)), digits_div x (bit-lt (f 0)))
    (go (f 0) (bits_clear (λ k. f (suc k)) n ∙ sym (leading_moved (λ k. not (f k)) 0 n)))
  where
    go : (b : Bool) {z l : ℕ} → z ≡ l → under (bit b) z ≡ cond (not b) (suc l) 0
    go true e = refl
    go false e = ap suc e

pub clear_law : (e : ℕ) (f : ℕ → Bool) → e ≡ from_bits f 64 → count_trailing_zeros 64 e ≡ leading (λ k. not (f k)) 0 64
clear_law e f h = ap (count_trailing_zeros 64) h ∙ bits_clear f 64

not-not : (b : Bool) → not (not b) ≡ b
not-not true = refl
not-not false = refl

pub set_law : (e : ℕ) (f : ℕ → Bool) → e ≡ from_bits f 64 → count_trailing_zeros 64 (18446744073709551615 - e) ≡ leading f 0 64
set_law e f h =
    clear_law (18446744073709551615 - e) (λ k. not (f k)) (ap (λ (z : ℕ). 18446744073709551615 - z) h ∙ bits_not f 64)
    ∙ leading_ext _ _ (λ k. not-not (f k)) 0 64

leading_below : (t : ℕ → Bool) (k n i : ℕ) → i < leading t k n → t (k + i) ≡ true
unfolding leading
leading_below t k zero i h = absurd (not-suc-le-zero h)
leading_below t k (suc n) i h = go (t k) refl i h (λ j l. leading_below t (k + 1) n j l)
  where
    go : (b : Bool) → t k ≡ b → (i : ℕ) → i < cond b (suc (leading t (k + 1) n)) 0 → ((j : ℕ) → j < leading t (k + 1) n → t (k + 1 + j) ≡ true) → t (k + i) ≡ true
    go false e i h r = absurd (not-suc-le-zero h)
    go true e zero h r = ap t (add-zero k) ∙ e
    go true e (suc j) h r = ap t (omega arith) ∙ r j (le_of_suc-le-suc h)

leading_at : (t : ℕ → Bool) (k n : ℕ) → leading t k n < n → t (k + leading t k n) ≡ false
unfolding leading
leading_at t k zero h = absurd (not-suc-le-zero h)
leading_at t k (suc n) h = go (t k) refl h (leading_at t (k + 1) n)
  where
    go : (b : Bool) → t k ≡ b → cond b (suc (leading t (k + 1) n)) 0 < suc n → (leading t (k + 1) n < n → t (k + 1 + leading t (k + 1) n) ≡ false)
        → t (k + cond b (suc (leading t (k + 1) n)) 0) ≡ false
    go false e h r = ap t (add-zero k) ∙ e
    go true e h r = ap t (omega arith) ∙ r (le_of_suc-le-suc h)

-- ---- a word of flags on its way through a row

-- the lowest n flags of e are those of the cells from a place on
pub record Shows (xs : List ℕ) (at e n : ℕ) : Type 0 where
  pub flags : ℕ → Bool
  pub word : e ≡ from_bits flags 64
  pub right : (k : ℕ) → k < n → flags k ≡ flags_at xs at k
  pub few : n ≤ 64

pub shows_start : (xs : List ℕ) (at e : ℕ) → e ≡ from_bits (flags_at xs at) 64 → Shows xs at e 64
shows_start xs at e h = record { flags = flags_at xs at; word = h; right = λ k l. refl; few = omega arith }

-- the flags from w on, with none behind the last
abbrev rest : (ℕ → Bool) → ℕ → ℕ → Bool
rest f w k = ltb k (64 - w) && f (w + k)

-- w cells further
pub shows_on : (xs : List ℕ) (at e n w q : ℕ) → Shows xs at e n → w < n → q ≡ at + w → Shows xs q (e / 2 ^ w) (n - w)
shows_on xs at e n w q s h p =
    let few = s.few in
    record { flags = rest s.flags w; word = ap (λ (z : ℕ). z / 2 ^ w) s.word ∙ moved; right = λ k l. kept k (omega arith) ∙ s.right (w + k) (omega arith) ∙ there k; few = omega arith }
  where
    kept : (k : ℕ) → k < 64 - w → rest s.flags w k ≡ s.flags (w + k)
    kept k l = rw (lt-ltb k (64 - w) l)

    lost : (k : ℕ) → k < w → rest s.flags w (64 - w + k) ≡ false
    lost k l = rw (le-ltb (64 - w + k) (64 - w) (omega arith))

    moved : from_bits s.flags 64 / 2 ^ w ≡ from_bits (rest s.flags w) 64
    moved =
        let few = s.few in
        let a : w + (64 - w) ≡ 64 = omega arith in
        let b : 64 - w + w ≡ 64 = omega arith in
        ap (λ (z : ℕ). from_bits s.flags z / 2 ^ w) (sym a) ∙ bits_down s.flags (rest s.flags w) w (64 - w) w kept lost ∙ ap (from_bits (rest s.flags w)) b

    there : (k : ℕ) → flags_at xs at (w + k) ≡ flags_at xs q k
    there k = ap (λ (z : ℕ). ltb (z + 1) (length xs) && eqb (get_or xs z 0) (get_or xs (z + 1) 0)) (omega arith)

-- ---- the block there, where m flags are set, or l are not, and the one behind them is shown too

module _ (d : ℕ) (row : List ℕ) (at e n : ℕ) (s : Shows (cells d row) at e n) (m l : ℕ)
    (em : m ≡ leading s.flags 0 64) (el : l ≡ leading (λ k. not (s.flags k)) 0 64) (fits : m + l + 2 ≤ n) where
  few : n ≤ 64
  few = s.few

  set_below : (i : ℕ) → i < m → flags_at (cells d row) at i ≡ true
  set_below i h = sym (s.right i (omega arith)) ∙ ap s.flags (sym (zero-add i)) ∙ leading_below s.flags 0 64 i (rw em at h)

  clear_behind : flags_at (cells d row) at m ≡ false
  clear_behind =
      let f : leading s.flags 0 64 < 64 = omega (arith, few, em) in
      sym (s.right m (omega arith)) ∙ ap s.flags (em ∙ sym (zero-add _)) ∙ leading_at s.flags 0 64 f

  clear_below : (i : ℕ) → i < l → flags_at (cells d row) at i ≡ false
  clear_below i h = sym (s.right i (omega arith)) ∙ ap s.flags (sym (zero-add i)) ∙ opposite _ _ (leading_below (λ k. not (s.flags k)) 0 64 i (rw el at h))
    where
      opposite : (a b : Bool) → not a ≡ b → a ≡ not b
      opposite true b e = ap not e
      opposite false b e = ap not e

  set-behind : flags_at (cells d row) at l ≡ true
  set-behind =
      let f : leading (λ k. not (s.flags k)) 0 64 < 64 = omega (arith, few, el) in
      sym (s.right l (omega arith)) ∙ ap s.flags (el ∙ sym (zero-add _)) ∙ opposite _ (leading_at (λ k. not (s.flags k)) 0 64 f)
    where
      opposite : (a : Bool) → not a ≡ false → a ≡ true
      opposite true e = refl
      opposite false e = sym e

  -- a flag that is set is one of two cells of the row
  inside_at : (k : ℕ) → flags_at (cells d row) at k ≡ true → at + k + 1 < length row
  inside_at k h = let e = length-cells d row in rw e at (set_inside (cells d row) at k h)

  clear_at : (k : ℕ) → flags_at (cells d row) at k ≡ false → ((at + k + 1 < length row) × (twins (cells d row) at k ≡ false)) ⊎ (length row ≤ at + k + 1)
  clear_at k h = let e = length-cells d row in rw e at (unset (cells d row) at k h)

  pub shown_inside : at + l + 1 < length row
  shown_inside = inside_at l set-behind

  flag_set : (k : ℕ) → flags_at (cells d row) at k ≡ true → flag d row (at + k) ≡ true
  flag_set k h = rw (lt-ltb (at + k + 1) (length (cells d row)) (set_inside (cells d row) at k h)) at h

  pub shown_run : m + 1 ≡ run_length (get_or (cells d row) at 0) (drop (at + 1) (cells d row))
  shown_run = run_ends d row at m (ran d row at m (inside m set_below) (omega (arith, few)) (λ i h. flag_set i (set_below i h))) (clear_at m clear_behind)
    where
      inside : (k : ℕ) → ((i : ℕ) → i < k → flags_at (cells d row) at i ≡ true) → at + k < length row
      inside zero h = let i = shown_inside in omega arith
      inside (suc k) h = let i = inside_at k (h k (omega arith)) in omega arith

  pub shown_gathered : m ≡ 0 → l ≡ gather_length (drop (at + 1) (cells d row))
  shown_gathered z =
      let i = shown_inside in
      gather_is d row at l (some l set-behind) i (omega (arith, few)) (λ k h. apart k h (clear_at k (clear_below k h))) (flag_set l set-behind)
    where
      some : (k : ℕ) → flags_at (cells d row) at k ≡ true → 1 ≤ k
      some zero h = absurd (false≢true (sym clear_behind ∙ ap (flags_at (cells d row) at) z ∙ h))
      some (suc k) h = omega arith

      apart : (k : ℕ) → k < l → ((at + k + 1 < length row) × (twins (cells d row) at k ≡ false)) ⊎ (length row ≤ at + k + 1) → flag d row (at + k) ≡ false
      apart k h (inl u) = u.1
      apart k h (inr u) = let i = shown_inside in absurd (not_both i)
        where
          not_both : at + l + 1 < length row → ⊥
          not_both i = omega arith
