-- Laws of `fit`.
use Rattle.std.proofs.Common.{◌≡◌, ℕ, ◌+◌, ◌-◌, ◌*◌, ◌/◌, ◌%◌, ◌^◌, ◌<◌, ◌≤◌, Bool, true, false, cond, leb, sym, refl, ap, ◌∙◌, lt_of_lt_of_le, div-one, arith, pow_mono, shl_exact, w32, Fits, le-leb, leb-false, leb-true}
use native.Mathlib.Nat.{zero-div}
use lib.Arith.{digits_div}
use lib.Pow.{ones_split, ones_lt}
use Rattle.leaves.specs.Fit.{sample_bit, repeated, fit}
use Rattle.leaves.proofs.Repeating.{repeated-bit, repeated_only, repeated_lt, repeated-first, repeated_again, repeated-shr, repeated_product}

-- document 01's formula for 9 to 16 bits repeats the sample's bits too
formula_repeated : (n sample : ℕ) → 8 ≤ n → n ≤ 16 → sample < 256 → sample * 2 ^ (n - 8) + sample / 2 ^ (8 - (n - 8)) ≡ repeated n sample
formula_repeated n sample h k s =
    let p : 8 + (n - 8) ≡ n = omega arith in
    ap (λ (z : ℕ). sample * 2 ^ (n - 8) + z) (sym (repeated-first (n - 8) sample (omega arith) s)) ∙ sym (repeated_again (n - 8) sample s) ∙ ap (λ (z : ℕ). repeated z sample) p

-- so a sample is fitted by repeating its bits, whatever the width
pub fit-repeated : (n sample : ℕ) → sample < 256 → fit n sample ≡ repeated n sample
unfolding fit
fit-repeated n sample s = go (leb n 8) (leb n 15) (leb n 16) refl refl refl
  where
    go : (a b c : Bool) → leb n 8 ≡ a → leb n 15 ≡ b → leb n 16 ≡ c
        → cond a (sample / 2 ^ (8 - n)) (cond b (sample * 2 ^ (n - 8) + sample / 2 ^ (8 - (n - 8))) (cond c (sample * 2 ^ (n - 8) + sample) (repeated n sample)))
        ≡ repeated n sample
    go true b c e f g = sym (repeated-first n sample (leb-true n 8 e) s)
    go false true c e f g = formula_repeated n sample (omega (arith, leb-false n 8 e)) (omega (arith, leb-true n 15 f)) s
    go false false true e f g =
        let z : 8 - (n - 8) ≡ 0 = omega (arith, leb-false n 15 f, leb-true n 16 g) in
        ap (λ (x : ℕ). sample * 2 ^ (n - 8) + x) (sym (ap (λ (x : ℕ). sample / 2 ^ x) z ∙ div-one sample)) ∙ formula_repeated n sample (omega (arith, leb-false n 8 e)) (leb-true n 16 g) s
    go false false false e f g = refl

-- n bits suffice
pub fit-lt : (n sample : ℕ) → sample < 256 → fit n sample < 2 ^ n
fit-lt n sample s = rw (fit-repeated n sample s) (repeated_lt n sample)

-- a sample fitted to at most 32 bits is a word
pub fits_word : (n sample r : ℕ) → n ≤ 32 → sample < 256 → r ≡ fit n sample → Fits w32 r
fits_word n sample r h s e = record { fits = rw e (lt_of_lt_of_le (fit-lt n sample s) (pow_mono h)) }

-- ---- the three cases, as code computes them

pub narrow : (n sample : ℕ) → n ≤ 8 → sample / 2 ^ (8 - n) ≡ fit n sample
unfolding fit
narrow n sample h = rw (le-leb n 8 h)

pub middle : (n sample : ℕ) → 8 < n → n ≤ 16 → sample < 256 → sample * 2 ^ (n - 8) % 4294967296 + sample / 2 ^ (16 - n) ≡ fit n sample
middle n sample h k s =
    let q : 16 - n ≡ 8 - (n - 8) = omega arith in
    rw (shl_exact 8 (n - 8) 32 s (omega arith), q) (formula_repeated n sample (omega arith) k s ∙ sym (fit-repeated n sample s))

-- the sample four times, and the top n bits of that
pub wide : (n sample : ℕ) → n ≤ 32 → sample < 256 → sample * 16843009 / 2 ^ (32 - n) ≡ fit n sample
wide n sample h s = repeated_product n sample h s ∙ sym (fit-repeated n sample s)

-- ---- what A.4 is for

-- white fills every mask to its top value
pub fit_white : (n : ℕ) → n ≤ 32 → fit n 255 ≡ 2 ^ n - 1
fit_white n h =
    let p : n + (32 - n) ≡ 32 = omega arith in
    sym (wide n 255 h (omega arith))
    ∙ ap (λ (z : ℕ). z / 2 ^ (32 - n)) (ap (λ (z : ℕ). 2 ^ z - 1) (sym p) ∙ ones_split n (32 - n))
    ∙ digits_div (2 ^ n - 1) (ones_lt (32 - n))

-- and black none
pub fit_black : (n : ℕ) → n ≤ 32 → fit n 0 ≡ 0
fit_black n h = sym (wide n 0 h (omega arith)) ∙ zero-div (2 ^ (32 - n))

-- the top 8 bits are the sample
pub fit_top : (n sample : ℕ) → 8 ≤ n → sample < 256 → fit n sample / 2 ^ (n - 8) ≡ sample
fit_top n sample h s =
    let p : 8 + (n - 8) ≡ n = omega arith in
    rw (fit-repeated n sample s)
    (ap (λ (z : ℕ). repeated z sample / 2 ^ (n - 8)) (sym p) ∙ repeated-shr 8 (n - 8) sample ∙ repeated-first 8 sample (omega arith) s ∙ div-one sample)

-- bit k, counted from the top, is bit k mod 8 of the sample
pub fit-bit : (n sample k : ℕ) → sample < 256 → k < n → fit n sample / 2 ^ (n - 1 - k) % 2 ≡ sample_bit sample (k % 8)
fit-bit n sample k s h = rw (fit-repeated n sample s) (repeated-bit n sample k h)

-- and no other number of n bits has these
pub fit_only : (n sample v : ℕ) → sample < 256 → v < 2 ^ n → ((k : ℕ) → k < n → v / 2 ^ (n - 1 - k) % 2 ≡ sample_bit sample (k % 8)) → v ≡ fit n sample
fit_only n sample v s h each = repeated_only n sample v h each ∙ sym (fit-repeated n sample s)
