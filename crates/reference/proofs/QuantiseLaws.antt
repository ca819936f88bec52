-- A sample fitted to a channel, the place of a channel's mask, and a field of a word.
use mathlib.Core.Path.{◌≡◌, refl, sym, ap, ◌∙◌, subst}
use mathlib.Core.Bool.{Bool, true, false, cond}
use Prim.Native.Nat.{ℕ, ◌+◌, ◌-◌, ◌*◌, ◌/◌, ◌%◌, ◌^◌, ◌≤◌, ◌<◌}
use native.Mathlib.Nat.{lt_of_lt_of_le, mod-eq_of_lt, div-one}
use native.Mathlib.Omega.{arith}
use borrow.Author.Tests.{ltb-true, ltb-false, leb-true, leb-false, eqb-true, eqb-false, le-leb, lt-leb}
use lib.Arith.{digits_lt, digits_div}
use lib.Bits.{bit_and, bit_or, or_shifted, or_zero_r, and_mask}
use lib.Count.{count_leading_zeros, count_trailing_zeros, leading_le}
use lib.Dec.{ltb, leb, eqb}
use lib.Pow.{pow-lt, pow_pos, pow-add, pow_mono, shr_lt, shl_exact}
use Rattle.leaves.specs.declared.bitfields.MaskShiftLen.{MaskShiftLen}
use Rattle.leaves.specs.Masks.{is_one_run, lowest, count}
use Rattle.leaves.proofs.Runs.{count-zero, ends_within, len_run}
use Rattle.reference.specs.Rust.{done, ◌>>=◌, u32, sub, shl, shr}
use Rattle.reference.specs.Bitfields.{mask_shift_len, quantise}
use Rattle.reference.specs.Packing.{or_field}
use Rattle.reference.proofs.Original.{original_fit, original_field}
use Rattle.reference.proofs.RunLaws.{sub_is, shl_is, shr_is}

-- the mask of n ones
mask_is : (n : ℕ) → n ≤ 32 → cond (leb 32 n) (done 0xFFFFFFFF) (shl u32 1 n >>= λ x. sub x 1) ≡ done (2 ^ n - 1)
mask_is n h = go (leb 32 n) refl
  where
    go : (b : Bool) → leb 32 n ≡ b → cond b (done 0xFFFFFFFF) (shl u32 1 n >>= λ x. sub x 1) ≡ done (2 ^ n - 1)
    go true e = let p : 32 ≡ n = omega (arith, leb-true 32 n e) in ap (λ (z : ℕ). done (2 ^ z - 1)) p
    go false e =
        let l : n < 32 = leb-false 32 n e in
        let p : 1 * 2 ^ n % 2 ^ 32 ≡ 2 ^ n = ap (λ (z : ℕ). z % 2 ^ 32) (omega arith) ∙ mod-eq_of_lt (pow-lt {i = n} {j = 32} l) in
        rw (shl_is 32 1 n l, p, sub_is (2 ^ n) 1 (pow_pos n))

-- a sample moved up by n - 8 bits, with fewer than that below it, is in n bits
joined-lt : (n sample low : ℕ) → 8 ≤ n → sample < 256 → low < 2 ^ (n - 8) → sample * 2 ^ (n - 8) + low < 2 ^ n
joined-lt n sample low h s l =
    let p : 8 + (n - 8) ≡ n = omega arith in
    subst (λ (z : ℕ). sample * 2 ^ (n - 8) + low < z) (sym (pow-add 2 8 (n - 8)) ∙ ap (λ (z : ℕ). 2 ^ z) p) (digits_lt {m = 256} s l)

-- the freed bits' fill, for 9 to 15 bits and for more
top_lt : (n sample : ℕ) → 8 ≤ n → n ≤ 16 → sample < 256 → sample / 2 ^ (8 - (n - 8)) < 2 ^ (n - 8)
top_lt n sample h k s = shr_lt (n - 8) (8 - (n - 8)) (lt_of_lt_of_le s (pow_mono {i = 8} (omega arith)))

whole_lt : (n sample : ℕ) → 16 ≤ n → sample < 256 → sample < 2 ^ (n - 8)
whole_lt n sample h s = lt_of_lt_of_le s (pow_mono {i = 8} (omega arith))

-- a sample moved up to n bits, with the freed bits filled
wide_is : (s n low : ℕ) → s < 256 → 8 < n → n ≤ 32 → low < 2 ^ (n - 8)
    → (shl u32 s (n - 8) >>= λ high. done (bit_and (bit_or high low) (2 ^ n - 1))) ≡ done (s * 2 ^ (n - 8) + low)
wide_is s n low h l u t =
    rw (
      shl_is 32 s (n - 8) (omega arith),
      shl_exact 8 (n - 8) 32 h (omega arith),
      or_shifted s (n - 8) low t,
      and_mask (s * 2 ^ (n - 8) + low) n,
      mod-eq_of_lt (joined-lt n s low (omega arith) h t),
    )

-- quantise is document 01's fit
pub quantise_is : (s n : ℕ) → s < 256 → n ≤ 32 → quantise s n ≡ done (original_fit n s)
unfolding quantise original_fit
quantise_is s n h u = go (eqb n 8) (ltb n 8) refl refl
  where
    go : (a b : Bool) → eqb n 8 ≡ a → ltb n 8 ≡ b → quantise s n ≡ done (original_fit n s)
    go true b e f = let p : n ≡ 8 = eqb-true n 8 e in rw p (ap done (sym (div-one s)))
    go false true e f =
        let l : n < 8 = ltb-true n 8 f in
        rw (e, f, sub_is 8 n (omega arith), shr_is 32 s (8 - n) (omega arith), le-leb n 8 (omega arith))
    go false false e f = rw (e, f, sub_is n 8 (omega (arith, l)), mask_is n u, lt-leb n 8 l) (fill (leb 8 (n - 8)) refl)
      where
        l : 8 < n
        l = omega (arith, eqb-false n 8 e, ltb-false n 8 f)

        fill : (c : Bool) → leb 8 (n - 8) ≡ c
            → (cond (leb 8 (n - 8)) (done s) (sub 8 (n - 8) >>= shr u32 s) >>= λ low. shl u32 s (n - 8) >>= λ high. done (bit_and (bit_or high low) (2 ^ n - 1)))
            ≡ done (cond (leb n 15) (s * 2 ^ (n - 8) + s / 2 ^ (8 - (n - 8))) (s * 2 ^ (n - 8) + s))
        fill true c =
            let k : 16 ≤ n = omega (arith, leb-true 8 (n - 8) c) in
            rw (c, lt-leb n 15 k) (wide_is s n s h l u (whole_lt n s k h))
        fill false c =
            let k : n ≤ 15 = omega (arith, leb-false 8 (n - 8) c) in
            rw (c, sub_is 8 (n - 8) (omega arith), shr_is 32 s (8 - (n - 8)) (omega arith), le-leb n 15 k)
            (wide_is s n (s / 2 ^ (8 - (n - 8))) h l u (top_lt n s (omega (arith, l)) (omega arith) h))

-- over 16 bits the whole sample stands above and below
over_16 : (n sample : ℕ) → 16 < n → original_fit n sample ≡ sample * 2 ^ (n - 8) + sample
unfolding original_fit
over_16 n sample h = rw (lt-leb n 8 (omega arith), lt-leb n 15 (omega arith))

pub wide_lt : (n sample : ℕ) → 16 < n → sample < 256 → original_fit n sample < 2 ^ n
wide_lt n sample h s = rw (over_16 n sample h) (joined-lt n sample sample (omega arith) s (whole_lt n sample (omega arith) s))

-- so its top 8 bits are the sample
pub wide_top : (n sample : ℕ) → 16 < n → sample < 256 → original_fit n sample / 2 ^ (n - 8) ≡ sample
wide_top n sample h s = rw (over_16 n sample h) (digits_div sample (whole_lt n sample (omega arith) s))

-- mask_shift_len of one run: its place and its count of ones
pub shift_len_is : (mask : ℕ) → mask < 2 ^ 32 → is_one_run mask ≡ true → mask_shift_len mask ≡ done (cond (eqb mask 0) 0 (lowest mask), count mask)
unfolding mask_shift_len lowest
shift_len_is mask h e = go (eqb mask 0) refl
  where
    go : (b : Bool) → eqb mask 0 ≡ b → mask_shift_len mask ≡ done (cond (eqb mask 0) 0 (count_trailing_zeros 32 mask), count mask)
    go true f = let z : mask ≡ 0 = eqb-true mask 0 f in rw z (ap (λ (n : ℕ). done (0, n)) (sym count-zero))
    go false f =
        let p : 0 < mask = omega (arith, eqb-false mask 0 f) in
        rw (f, sub_is 32 (count_leading_zeros 32 mask) (leading_le 32 mask), sub_is (32 - count_leading_zeros 32 mask) (count_trailing_zeros 32 mask) (omega (arith, ends_within mask p h)), len_run mask p h e)

-- a channel of no bits leaves the word as it is, and its field is 0
pub field_is : (channel : MaskShiftLen) (sample word : ℕ) → sample < 256 → channel.shift + channel.len ≤ 32
    → or_field sample (channel.shift, channel.len) word ≡ done (bit_or word (original_field channel sample))
unfolding or_field original_field
field_is channel sample word h u = go (ltb 0 channel.len) refl
  where
    go : (b : Bool) → ltb 0 channel.len ≡ b → or_field sample (channel.shift, channel.len) word ≡ done (bit_or word (original_field channel sample))
    go true e =
        let l : 0 < channel.len = ltb-true 0 channel.len e in
        rw (e, quantise_is sample channel.len h (omega arith), shl_is 32 (original_fit channel.len sample) channel.shift (omega arith))
    go false e = rw e (ap done (sym (or_zero_r word)))
