-- Bits repeated from the top down (document 02, A.4): what the sentence says of each bit, and the product and shift that give the number.
use Rattle.std.proofs.Common.{◌≡◌, ℕ, zero, suc, ◌+◌, ◌-◌, ◌*◌, ◌/◌, ◌%◌, ◌^◌, ◌<◌, ◌≤◌, sym, ap, ◌∙◌, add-zero, add-suc, div-one, arith, shr-shr}
use lib.Arith.{digits_div, digits_mod}
use lib.Bits.{shifted_half, shifted_even}
use Rattle.leaves.specs.Fit.{from_top, sample_bit, repeated}

-- ---- bits counted from the top

module _ (bit : ℕ → ℕ) (small : (k : ℕ) → bit k < 2) where
  -- n bits suffice
  pub top_small : (n : ℕ) → from_top bit n < 2 ^ n
  unfolding from_top
  top_small zero = omega arith
  top_small (suc n) = omega (arith, top_small n, small n)

  -- without its lowest j bits it is the first n
  pub top_shr : (n j : ℕ) → from_top bit (n + j) / 2 ^ j ≡ from_top bit n
  unfolding from_top
  top_shr n zero = rw (add-zero n) (div-one (from_top bit n))
  top_shr n (suc j) =
      let o : suc j ≡ 1 + j = omega arith in
      rw (add-suc n j, o)
      (sym (shr-shr (from_top bit (n + j) * 2 + bit (n + j)) 1 j)
      ∙ ap (λ (z : ℕ). z / 2 ^ j) (digits_div (from_top bit (n + j)) (small (n + j)))
      ∙ top_shr n j)

  -- bit k of it, counted from the top
  pub top_bit : (n k : ℕ) → k < n → from_top bit n / 2 ^ (n - 1 - k) % 2 ≡ bit k
  unfolding from_top
  top_bit n k h =
      let p : suc k + (n - 1 - k) ≡ n = omega arith in
      let q : from_top bit n / 2 ^ (n - 1 - k) ≡ from_top bit k * 2 + bit k = ap (λ (z : ℕ). from_top bit z / 2 ^ (n - 1 - k)) (sym p) ∙ top_shr (suc k) (n - 1 - k) in
      rw q (digits_mod (from_top bit k) (small k))

  -- and no other number of n bits has these
  pub top_only : (n v : ℕ) → v < 2 ^ n → ((k : ℕ) → k < n → v / 2 ^ (n - 1 - k) % 2 ≡ bit k) → v ≡ from_top bit n
  unfolding from_top
  top_only zero v h each = omega arith
  top_only (suc n) v h each =
      let none : suc n - 1 - n ≡ 0 = omega arith in
      let last : v % 2 ≡ bit n = sym (ap (λ (z : ℕ). v / 2 ^ z % 2) none ∙ ap (λ (z : ℕ). z % 2) (div-one v)) ∙ each n (omega arith) in
      let before : v / 2 ≡ from_top bit n =
      top_only n (v / 2) (omega arith)
      (λ k l.
      let e : 1 + (n - 1 - k) ≡ suc n - 1 - k = omega arith in
      ap (λ (z : ℕ). z % 2) (shr-shr v 1 (n - 1 - k) ∙ ap (λ (z : ℕ). v / 2 ^ z) e) ∙ each k (omega arith))
      in
      omega (arith, last, before)

-- ---- the sample's bits

bit_small : (sample k : ℕ) → sample_bit sample k < 2
bit_small sample k = omega arith

-- bit k of the result is bit k mod 8 of the sample, both counted from the top
pub repeated-bit : (n sample k : ℕ) → k < n → repeated n sample / 2 ^ (n - 1 - k) % 2 ≡ sample_bit sample (k % 8)
unfolding repeated
repeated-bit n sample k h = top_bit (λ (j : ℕ). sample_bit sample (j % 8)) (λ j. bit_small sample (j % 8)) n k h

pub repeated_only : (n sample v : ℕ) → v < 2 ^ n → ((k : ℕ) → k < n → v / 2 ^ (n - 1 - k) % 2 ≡ sample_bit sample (k % 8)) → v ≡ repeated n sample
unfolding repeated
repeated_only n sample v h each = top_only (λ (j : ℕ). sample_bit sample (j % 8)) (λ j. bit_small sample (j % 8)) n v h each

pub repeated_lt : (n sample : ℕ) → repeated n sample < 2 ^ n
unfolding repeated
repeated_lt n sample = top_small (λ (j : ℕ). sample_bit sample (j % 8)) (λ j. bit_small sample (j % 8)) n

pub repeated-shr : (n j sample : ℕ) → repeated (n + j) sample / 2 ^ j ≡ repeated n sample
unfolding repeated
repeated-shr n j sample = top_shr (λ (i : ℕ). sample_bit sample (i % 8)) (λ i. bit_small sample (i % 8)) n j

-- the first n of them, up to 8
pub repeated-first : (n sample : ℕ) → n ≤ 8 → sample < 256 → repeated n sample ≡ sample / 2 ^ (8 - n)
unfolding repeated from_top
repeated-first zero sample h s = omega arith
repeated-first (suc n) sample h s =
    let m : n % 8 ≡ n = omega arith in
    let d : 8 - suc n ≡ 7 - n = omega arith in
    let e : 7 - n + 1 ≡ 8 - n = omega arith in
    let half : sample / 2 ^ (8 - n) ≡ sample / 2 ^ (7 - n) / 2 = ap (λ (z : ℕ). sample / 2 ^ z) (sym e) ∙ sym (shr-shr sample (7 - n) 1) in
    let before = repeated-first n sample (omega arith) s in
    rw (m, before, half, d) (omega arith)

-- after 8 they begin again
pub repeated_again : (n sample : ℕ) → sample < 256 → repeated (8 + n) sample ≡ sample * 2 ^ n + repeated n sample
unfolding repeated from_top
repeated_again zero sample s = repeated-first 8 sample (omega arith) s ∙ omega arith
repeated_again (suc n) sample s =
    let m : (8 + n) % 8 ≡ n % 8 = omega arith in
    rw (add-suc 8 n, m, repeated_again n sample s) (omega (arith, shifted_half sample n, shifted_even sample n))

-- four times the sample
four_times : (sample : ℕ) → sample < 256 → repeated 32 sample ≡ sample * 16843009
four_times sample s =
    omega (arith, repeated_again 24 sample s, repeated_again 16 sample s, repeated_again 8 sample s, repeated-first 8 sample (omega arith) s)

-- and the top n bits of that
pub repeated_product : (n sample : ℕ) → n ≤ 32 → sample < 256 → sample * 16843009 / 2 ^ (32 - n) ≡ repeated n sample
repeated_product n sample h s =
    let p : n + (32 - n) ≡ 32 = omega arith in
    ap (λ (z : ℕ). z / 2 ^ (32 - n)) (sym (four_times sample s)) ∙ ap (λ (z : ℕ). repeated z sample / 2 ^ (32 - n)) (sym p) ∙ repeated-shr n (32 - n) sample
