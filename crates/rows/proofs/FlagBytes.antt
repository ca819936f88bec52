-- Words from bytes that are each 0 or 1.
use Rattle.std.proofs.Common.{◌≡◌, ℕ, zero, suc, ◌+◌, ◌*◌, ◌/◌, ◌%◌, ◌^◌, ◌<◌, ◌≤◌, Bool, true, false, cond, eqb, ltb, List, length, get_or, set, sym, refl, ap, ◌∙◌, subst, ap₂, arith, length-set, get_or-set_other, get_or-set_same, shl_exact, ltb-false, ltb-true, eqb-true}
use mathlib.Core.Bool.{false≢true}
use lib.Bits.{bit_and, bit_or, or_shifted_r}
use Rattle.rows.specs.Words.{word}
use Rattle.rows.specs.Windows.{bit, from_bits}
use Rattle.rows.proofs.FromBits.{bits_append, bits_lt}

-- the lowest bit of each byte, brought into the lowest byte
abbrev or₁ : ℕ → ℕ
or₁ w = bit_or w (w / 2 ^ 7)

abbrev or₂ : ℕ → ℕ
or₂ x = bit_or x (x / 2 ^ 14)

abbrev or₃ : ℕ → ℕ
or₃ y = bit_or y (y / 2 ^ 28)

abbrev pub gather : ℕ → ℕ
gather w = or₃ (or₂ (or₁ w))

either : (Bool → Bool) → Bool
either p = cond (p true) (p false) false

either_at : (p : Bool → Bool) → either p ≡ true → (b : Bool) → p b ≡ true
unfolding either
either_at p e true = go (p true) refl e
  where
    go : (a : Bool) → p true ≡ a → cond a (p false) false ≡ true → p true ≡ true
    go true i e = i
    go false i e = absurd (false≢true e)
either_at p e false = go (p true) e
  where
    go : (a : Bool) → cond a (p false) false ≡ true → p false ≡ true
    go true e = e
    go false e = absurd (false≢true e)

-- eight flags, the first lowest
flags : Bool → Bool → Bool → Bool → Bool → Bool → Bool → Bool → ℕ → Bool
flags a b c d e f g h zero = a
flags a b c d e f g h (suc zero) = b
flags a b c d e f g h (suc (suc zero)) = c
flags a b c d e f g h (suc (suc (suc zero))) = d
flags a b c d e f g h (suc (suc (suc (suc zero)))) = e
flags a b c d e f g h (suc (suc (suc (suc (suc zero))))) = f
flags a b c d e f g h (suc (suc (suc (suc (suc (suc zero)))))) = g
flags a b c d e f g h (suc (suc (suc (suc (suc (suc (suc k))))))) = h

right : (ℕ → Bool) → Bool
right f = eqb (bit_and (gather (word (λ k. bit (f k)) 0 8)) 255) (from_bits f 8)

all_right : either (λ a. either (λ b. either (λ c. either (λ d. either (λ e. either (λ f. either (λ g. either (λ h. right (flags a b c d e f g h)))))))))
    ≡ true
unfolding either right flags word from_bits
all_right = refl

at_flags : (a b c d e f g h : Bool) → right (flags a b c d e f g h) ≡ true
at_flags a b c d e f g h =
    either_at _ (either_at _ (either_at _ (either_at _ (either_at _ (either_at _ (either_at _ (either_at _ all_right a) b) c) d) e) f) g) h

pub low_law : (w : ℕ) (f : ℕ → Bool) → w ≡ word (λ k. bit (f k)) 0 8 → bit_and (gather w) 255 ≡ from_bits f 8
unfolding right flags word from_bits
low_law w f h = ap (λ (z : ℕ). bit_and (gather z) 255) h ∙ eqb-true _ _ (at_flags (f 0) (f 1) (f 2) (f 3) (f 4) (f 5) (f 6) (f 7))

-- ---- eight words of eight bits

-- y above the n lowest bits, which are x
abbrev above : ℕ → ℕ → ℕ → ℕ
above n x y = bit_or x (y * 2 ^ n % 2 ^ 64)

pub above_law : (f : ℕ → Bool) (m n x y : ℕ) → m + n ≤ 64 → x ≡ from_bits f m → y ≡ from_bits (λ k. f (m + k)) n → above m x y ≡ from_bits f (m + n)
above_law f m n x y l p q =
    let z = from_bits (λ k. f (m + k)) n in
    ap₂ (above m) p q ∙ ap (bit_or (from_bits f m)) (shl_exact n m 64 (bits_lt (λ k. f (m + k)) n) (omega arith))
    ∙ or_shifted_r z m (from_bits f m) (bits_lt f m) ∙ sym (bits_append f m n)

-- ---- the bytes written so far

module _ (f : ℕ → Bool) (flags : List ℕ) (k v : ℕ) where
  pub flags_turn : k < 64 → length flags ≡ 64 → ((j : ℕ) → j < k → get_or flags j 0 ≡ bit (f j)) → v ≡ bit (f k)
      → (length (set flags k v) ≡ 64) × ((j : ℕ) → j < k + 1 → get_or (set flags k v) j 0 ≡ bit (f j))
  flags_turn l e h p = (length-set flags k v ∙ e, λ j m. go j m (ltb j k) refl)
    where
      go : (j : ℕ) → j < k + 1 → (b : Bool) → ltb j k ≡ b → get_or (set flags k v) j 0 ≡ bit (f j)
      go j m true i = get_or-set_other flags k j v 0 (omega (arith, ltb-true j k i)) ∙ h j (ltb-true j k i)
      go j m false i =
          let z : k ≡ j = omega (arith, ltb-false j k i) in
          subst (λ (y : ℕ). get_or (set flags k v) y 0 ≡ bit (f y)) z (get_or-set_same flags k v 0 (omega arith) ∙ p)
