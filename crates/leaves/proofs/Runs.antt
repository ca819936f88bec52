-- Masks whose ones are one run: the computed test is the statement, the Rust's test is the computed test, and where such a mask starts and ends.
use Rattle.std.proofs.Common.{◌≡◌, ℕ, zero, suc, ◌+◌, ◌-◌, ◌*◌, ◌/◌, ◌%◌, ◌^◌, ◌<◌, ◌≤◌, min, Bool, true, false, eqb, ltb, sym, refl, ap, ◌∙◌, subst, ap₂, true≢false, lt_of_lt_of_le, not-suc-le-zero, add-zero, mul-le-mul_right, mod-eq_of_lt, mul_assoc, mul_comm, suc-add, zero-add, zero-mul, mul-one, div-one, add-one, arith, pow_pos, pow_mono, pow-add, shl_lt, ltb-false, ltb-true, eq-eqb, ne_eqb, eqb-true}
use native.Mathlib.Nat.{div-div-eq-div-mul, pow-succ'}
use borrow.Author.Tests.{eqb-false}
use lib.Arith.{bin_ind, lt-one}
use lib.Pow.{pow-lt, shl-shr, shr_le, ones_lt}
use lib.Bits.{bit_and, and_step, and_self, and_comm, and_zero_r, and_shifted, shifted_even, shifted_half}
use lib.Count.{ones_in, ones, ones_step, ones_cat, ones-ones, ones-le, count_leading_zeros, leading_unique, leading_length, count_trailing_zeros, under}
use Rattle.leaves.specs.Masks.{run, OneRun, count, lowest, is_one_run}

-- ---- the counts of a run

ones_in_lem : (k n : ℕ) → n < 2 ^ k → ones_in k n ≡ ones n
unfolding ones_in ones
ones_in_lem zero n h = rw (lt-one h)
ones_in_lem (suc k) n h = ap (λ (x : ℕ). n % 2 + x) (ones_in_lem k (n / 2) (omega arith)) ∙ sym (ones_step n)

ones_run : (s n : ℕ) → ones (run s n) ≡ n
unfolding ones ones_in
ones_run s n = ap ones (sym (add-zero (run s n))) ∙ ones_cat s (2 ^ n - 1) 0 (pow_pos s) ∙ ap (λ (z : ℕ). z + 0) (ones-ones n) ∙ add-zero n

-- an odd number, moved up by s bits, has s zeros below
trailing_shifted : (s k a : ℕ) → a % 2 ≡ 1 → count_trailing_zeros (s + suc k) (a * 2 ^ s) ≡ s
unfolding count_trailing_zeros
trailing_shifted zero k a o = rw (zero-add, mul-one, o)
trailing_shifted (suc s) k a o = rw (suc-add, shifted_even a s, shifted_half a s) (ap suc (trailing_shifted s k a o))

ones_odd : (n : ℕ) → (2 ^ suc n - 1) % 2 ≡ 1
ones_odd n = omega (arith, pow_pos n)

-- a run below 2^32 ends within 32 bits
run-within : (s n : ℕ) → run s (suc n) < 2 ^ 32 → suc n + s ≤ 32
run-within s n h = go (ltb (n + s) 32) refl
  where
    go : (b : Bool) → ltb (n + s) 32 ≡ b → suc n + s ≤ 32
    go true e = omega (arith, ltb-true (n + s) 32 e)
    go false e =
        let a : 2 ^ n ≤ 2 ^ suc n - 1 = omega (arith, pow_pos n) in
        let b : 2 ^ n * 2 ^ s ≤ run s (suc n) = mul-le-mul_right (2 ^ s) a in
        let c : 2 ^ 32 ≤ 2 ^ (n + s) = pow_mono {i = 32} (ltb-false (n + s) 32 e) in
        omega (arith, pow-add 2 n s)

pub count-run : (s n : ℕ) → run s n < 2 ^ 32 → count (run s n) ≡ n
unfolding count
count-run s n h = ones_in_lem 32 (run s n) h ∙ ones_run s n

pub lowest-run : (s n : ℕ) → run s (suc n) < 2 ^ 32 → lowest (run s (suc n)) ≡ s
unfolding lowest
lowest-run s n h =
    let w : suc n + s ≤ 32 = run-within s n h in
    let e : s + suc (31 - s) ≡ 32 = omega arith in
    rw e at (trailing_shifted s (31 - s) (2 ^ suc n - 1) (ones_odd n))

-- a number of k bits has at most k ones
pub count-le : (k m : ℕ) → k ≤ 32 → m < 2 ^ k → count m ≤ k
unfolding count
count-le k m u h = rw (ones_in_lem 32 m (lt_of_lt_of_le h (pow_mono u))) (ones-le k m h)

pub count-zero : count 0 ≡ 0
unfolding count ones_in
count-zero = refl

-- ---- the test is the statement

-- what the test accepts is one run
pub one-run : (m : ℕ) → is_one_run m ≡ true → OneRun m
unfolding is_one_run
one-run m e = record { from = lowest m; count = count m; is = eqb-true m (run (lowest m) (count m)) e }

pub run_is : (m : ℕ) → is_one_run m ≡ true → m ≡ run (lowest m) (count m)
unfolding is_one_run
run_is m e = eqb-true m (run (lowest m) (count m)) e

-- and it accepts each
pub is_one_run_lem : (m : ℕ) → m < 2 ^ 32 → OneRun m → is_one_run m ≡ true
unfolding is_one_run
is_one_run_lem m h r = go r.from r.count r.is
  where
    go : (s n : ℕ) → m ≡ run s n → eqb m (run (lowest m) (count m)) ≡ true
    go s zero e =
        let z : m ≡ 0 = e ∙ zero-mul (2 ^ s) in
        eq-eqb m (run (lowest m) (count m)) (z ∙ sym (ap (λ (k : ℕ). (2 ^ k - 1) * 2 ^ lowest m) (ap count z ∙ count-zero) ∙ zero-mul (2 ^ lowest m)))
    go s (suc n) e =
        let f : run s (suc n) < 2 ^ 32 = subst (λ (z : ℕ). z < 2 ^ 32) e h in
        eq-eqb m (run (lowest m) (count m)) (e ∙ sym (ap₂ run (ap lowest e ∙ lowest-run s n f) (ap count e ∙ count-run s (suc n) f)))

-- ---- the Rust's test: n & (n + 1) is 0, where n is the mask without its trailing zeros

-- a number is its part above the trailing zeros, moved up again
pub trailing_whole : (k m : ℕ) → m ≡ m / 2 ^ count_trailing_zeros k m * 2 ^ count_trailing_zeros k m
unfolding count_trailing_zeros
trailing_whole zero m = omega (arith, div-one m)
trailing_whole (suc k) m = go (m % 2) refl (trailing_whole k (m / 2))
  where
    go : (d : ℕ) → m % 2 ≡ d → m / 2 ≡ m / 2 / 2 ^ count_trailing_zeros k (m / 2) * 2 ^ count_trailing_zeros k (m / 2)
        → m ≡ m / 2 ^ under d (count_trailing_zeros k (m / 2)) * 2 ^ under d (count_trailing_zeros k (m / 2))
    go zero e ih =
        let t : ℕ = count_trailing_zeros k (m / 2) in
        let q : ℕ = m / 2 / 2 ^ t in
        let a : q * (2 * 2 ^ t) ≡ 2 * (q * 2 ^ t) = omega (arith, mul_assoc q 2 (2 ^ t), mul_comm q 2, mul_assoc 2 q (2 ^ t)) in
        rw (pow-succ' 2 t, ← div-div-eq-div-mul) (omega arith)
    go (suc d) e ih = omega (arith, div-one m)

-- n & (n + 1) is 0 only for ones
ones_of : (n : ℕ) → bit_and n (suc n) ≡ 0 → (j : ℕ) × (n ≡ 2 ^ j - 1)
ones_of = bin_ind (λ (n : ℕ). bit_and n (suc n) ≡ 0 → (j : ℕ) × (n ≡ 2 ^ j - 1)) (λ e. (0, refl)) (λ n ih e. go n ih e (eqb (n % 2) 0) refl)
  where
    go : (n : ℕ) → (bit_and (n / 2) (suc (n / 2)) ≡ 0 → (j : ℕ) × (n / 2 ≡ 2 ^ j - 1)) → bit_and n (suc n) ≡ 0 → (b : Bool) → eqb (n % 2) 0 ≡ b → (j : ℕ) × (n ≡ 2 ^ j - 1)
    go n ih e true p =
        let z : n % 2 ≡ 0 = eqb-true (n % 2) 0 p in
        let h : suc n / 2 ≡ n / 2 = omega arith in
        let s : bit_and n (suc n) ≡ bit_and (n / 2) (n / 2) * 2 + min (n % 2) (suc n % 2) = and_step n (suc n) ∙ ap (λ (z : ℕ). bit_and (n / 2) z * 2 + min (n % 2) (suc n % 2)) h in
        (0, omega (arith, and_self (n / 2)))
    go n ih e false p =
        let z : n % 2 ≡ 1 = omega (arith, eqb-false (n % 2) 0 p) in
        let h : suc n / 2 ≡ suc (n / 2) = omega arith in
        let s : bit_and n (suc n) ≡ bit_and (n / 2) (suc (n / 2)) * 2 + min (n % 2) (suc n % 2) = and_step n (suc n) ∙ ap (λ (z : ℕ). bit_and (n / 2) z * 2 + min (n % 2) (suc n % 2)) h in
        let r = ih (omega arith) in
        (suc r.0, omega (arith, r.1, pow_pos r.0))

-- at a 32-bit mask; the sum wraps where all 32 bits are ones
pub contiguous : (m : ℕ) → m < 2 ^ 32
    → eqb (bit_and (m / 2 ^ count_trailing_zeros 32 m) ((m / 2 ^ count_trailing_zeros 32 m + 1) % 2 ^ 32)) 0 ≡ is_one_run m
unfolding lowest
contiguous m h = go (is_one_run m) refl
  where
    s : ℕ
    s = count_trailing_zeros 32 m

    n : ℕ
    n = m / 2 ^ count_trailing_zeros 32 m

    of_ones : (j : ℕ) → n ≡ 2 ^ j - 1 → j ≤ 32 → bit_and n ((n + 1) % 2 ^ 32) ≡ 0
    of_ones j e l = wide (ltb j 32) refl
      where
        next : n + 1 ≡ 2 ^ j
        next = omega (arith, pow_pos j)

        wide : (b : Bool) → ltb j 32 ≡ b → bit_and n ((n + 1) % 2 ^ 32) ≡ 0
        wide true q =
            ap (bit_and n) (ap (λ (z : ℕ). z % 2 ^ 32) next ∙ mod-eq_of_lt (pow-lt {i = j} {j = 32} (ltb-true j 32 q)) ∙ omega arith)
            ∙ and_comm n (1 * 2 ^ j) ∙ and_shifted 1 j n (omega (arith, pow_pos j))
        wide false q =
            let w : j ≡ 32 = omega (arith, ltb-false j 32 q) in
            ap (bit_and n) (ap (λ (z : ℕ). z % 2 ^ 32) (next ∙ ap (λ (z : ℕ). 2 ^ z) w)) ∙ and_zero_r n

    of_run : m ≡ run (lowest m) (count m) → n ≡ 2 ^ count m - 1
    of_run e = ap (λ (z : ℕ). z / 2 ^ count_trailing_zeros 32 m) e ∙ shl-shr (2 ^ count m - 1) (count_trailing_zeros 32 m)

    back : bit_and n ((n + 1) % 2 ^ 32) ≡ 0 → (b : Bool) → ltb n 4294967295 ≡ b → OneRun m
    back z true q =
        let r = ones_of n (sym (ap (bit_and n) (mod-eq_of_lt (omega (arith, ltb-true n 4294967295 q)) ∙ add-one n)) ∙ z) in
        record { from = s; count = r.0; is = trailing_whole 32 m ∙ ap (λ (z : ℕ). z * 2 ^ s) r.1 }
    back z false q =
        let top : n ≤ m = shr_le m s in
        let f : n ≡ 2 ^ 32 - 1 = omega (arith, ltb-false n 4294967295 q) in
        record { from = s; count = 32; is = trailing_whole 32 m ∙ ap (λ (z : ℕ). z * 2 ^ s) f }

    go : (b : Bool) → is_one_run m ≡ b → eqb (bit_and n ((n + 1) % 2 ^ 32)) 0 ≡ b
    go true e = eq-eqb (bit_and n ((n + 1) % 2 ^ 32)) 0 (of_ones (count m) (of_run (run_is m e)) (count-le 32 m (omega arith) h))
    go false e = ne_eqb (bit_and n ((n + 1) % 2 ^ 32)) 0 (λ z. true≢false (sym (is_one_run_lem m h (back z (ltb n 4294967295) refl)) ∙ e))

-- ---- the ends of a mask

-- a mask that is not 0 has fewer trailing and leading zeros than bits
pub ends_within : (m : ℕ) → 0 < m → m < 2 ^ 32 → count_trailing_zeros 32 m + count_leading_zeros 32 m < 32
ends_within m p h = go (leading_length 32 m h)
  where
    t : ℕ
    t = count_trailing_zeros 32 m

    low : (q : ℕ) → m ≡ q * 2 ^ t → 2 ^ t ≤ m
    low zero e = let z : m ≡ 0 = e ∙ zero-mul (2 ^ t) in absurd (not-suc-le-zero {n = 0} (omega arith))
    low (suc q) e = omega (arith, mul-le-mul_right {m = 1} {n = suc q} (2 ^ t) (omega arith), e)

    go : (k : ℕ) × (count_leading_zeros 32 m + k ≡ 32) × (m < 2 ^ k) × (2 ^ k ≤ 2 * m + 1) → count_trailing_zeros 32 m + count_leading_zeros 32 m < 32
    go r = less (ltb t r.0) refl
      where
        less : (b : Bool) → ltb t r.0 ≡ b → count_trailing_zeros 32 m + count_leading_zeros 32 m < 32
        less true e = omega (arith, ltb-true t r.0 e, r.1)
        less false e = omega (arith, pow_mono {i = r.0} {j = t} (ltb-false t r.0 e), low (m / 2 ^ t) (trailing_whole 32 m), r.2)

-- of one run, what lies between its ends is its ones
pub len_run : (m : ℕ) → 0 < m → m < 2 ^ 32 → is_one_run m ≡ true → 32 - count_leading_zeros 32 m - count_trailing_zeros 32 m ≡ count m
unfolding lowest
len_run m p h e = go (count m) refl
  where
    is : m ≡ run (count_trailing_zeros 32 m) (count m)
    is = run_is m e

    go : (c : ℕ) → count m ≡ c → 32 - count_leading_zeros 32 m - count_trailing_zeros 32 m ≡ c
    go zero q = let z : m ≡ 0 = is ∙ ap (run (count_trailing_zeros 32 m)) q ∙ zero-mul (2 ^ count_trailing_zeros 32 m) in absurd (not-suc-le-zero {n = 0} (omega arith))
    go (suc c) q =
        let s : ℕ = count_trailing_zeros 32 m in
        let f : m ≡ run s (suc c) = is ∙ ap (run s) q in
        let w : suc c + s ≤ 32 = run-within s c (subst (λ (z : ℕ). z < 2 ^ 32) f h) in
        let below : m < 2 ^ (suc c + s) = subst (λ (z : ℕ). z < 2 ^ (suc c + s)) (sym f) (shl_lt (suc c) s (ones_lt (suc c))) in
        let a : 2 ^ suc c ≤ 2 * (2 ^ suc c - 1) = omega (arith, pow_pos c) in
        let b : 2 ^ suc c * 2 ^ s ≤ 2 * (2 ^ suc c - 1) * 2 ^ s = mul-le-mul_right (2 ^ s) a in
        let twice : 2 ^ (suc c + s) ≤ 2 * m + 1 = omega (arith, pow-add 2 (suc c) s, mul_assoc 2 (2 ^ suc c - 1) (2 ^ s)) in
        let l : 32 - (suc c + s) ≡ count_leading_zeros 32 m = leading_unique 32 m (32 - (suc c + s)) (suc c + s) (omega arith) below twice in
        omega arith
