-- Laws of bytes taken as one number, and of the places that pass a test.
use Rattle.std.proofs.Common.{◌≡◌, ℕ, zero, suc, ◌+◌, ◌*◌, ◌/◌, ◌%◌, ◌^◌, ◌<◌, ◌≤◌, Bool, true, false, cond, not, T, eqb, ltb, sym, refl, ap, ◌∙◌, subst, suc-le-suc, zero-le, lt_of_lt_of_le, not-suc-le-zero, add-zero, pow-suc, arith, lit<, ltb-false, ltb-true, eq-eqb, ne_eqb, eqb-true, [], ◌∷◌}
use borrow.Author.Tests.{eqb-false}
use lib.Arith.{lt-one}
use lib.Bits.{bit_and, bit_or, bit_xor, and_block, or_block, xor_block, or_lt, xor_lt, xor_self, xor_add_and, and_le_l, and_le_r, block_half, block_odd}
use lib.Count.{count_trailing_zeros, under}
use Rattle.std.specs.Int.{w64, from_le_bytes}
use Rattle.rows.specs.Words.{word, leading}

-- ---- places

pub leading_le : (t : ℕ → Bool) (k n : ℕ) → leading t k n ≤ n
unfolding leading
leading_le t k zero = omega arith
leading_le t k (suc n) = go (t k) (leading_le t (k + 1) n)
  where
    go : (b : Bool) → leading t (k + 1) n ≤ n → cond b (suc (leading t (k + 1) n)) 0 ≤ suc n
    go true h = omega arith
    go false h = omega arith

pub leading_ext : (t u : ℕ → Bool) → ((i : ℕ) → t i ≡ u i) → (k n : ℕ) → leading t k n ≡ leading u k n
unfolding leading
leading_ext t u h k zero = refl
leading_ext t u h k (suc n) = rw (h k, leading_ext t u h (k + 1) n)

pub leading-first : (t : ℕ → Bool) (k n : ℕ) → t k ≡ true → leading t k (suc n) ≡ suc (leading t (k + 1) n)
unfolding leading
leading-first t k n h = rw h

-- where all pass, each does
pub leading_all : (t : ℕ → Bool) (k n : ℕ) → n ≤ leading t k n → (i : ℕ) → k ≤ i → i < k + n → t i ≡ true
unfolding leading
leading_all t k zero h i a b = absurd (not-suc-le-zero (lt_of_lt_of_le b (omega arith)))
leading_all t k (suc n) h i a b = go (t k) refl h (λ h c. leading_all t (k + 1) n h i c (omega arith))
  where
    go : (p : Bool) → t k ≡ p → suc n ≤ cond p (suc (leading t (k + 1) n)) 0 → (n ≤ leading t (k + 1) n → k + 1 ≤ i → t i ≡ true) → t i ≡ true
    go false e h f = absurd (not-suc-le-zero h)
    go true e h f = here (ltb k i) refl
      where
        here : (b : Bool) → ltb k i ≡ b → t i ≡ true
        here true l = f (omega arith) (omega (arith, ltb-true k i l))
        here false l = let z : i ≡ k = omega (arith, ltb-false k i l) in ap t z ∙ e

-- ---- bytes

pub word_ext : (f g : ℕ → ℕ) → ((i : ℕ) → f i ≡ g i) → (k n : ℕ) → word f k n ≡ word g k n
unfolding word
word_ext f g h k zero = refl
word_ext f g h k (suc n) = rw (h k, word_ext f g h (k + 1) n)

-- bytes at other places
pub word_moved : (f g : ℕ → ℕ) (n k j : ℕ) → ((i : ℕ) → i < n → f (k + i) ≡ g (j + i)) → word f k n ≡ word g j n
unfolding word
word_moved f g zero k j h = refl
word_moved f g (suc n) k j h =
    let e : f k ≡ g j = ap f (sym (add-zero k)) ∙ h 0 (omega arith) ∙ ap g (add-zero j) in
    let m : (i : ℕ) → i < n → f (k + 1 + i) ≡ g (j + 1 + i) =
    λ i l. let p : k + 1 + i ≡ k + suc i = omega arith in let q : j + suc i ≡ j + 1 + i = omega arith in ap f p ∙ h (suc i) (omega arith) ∙ ap g q in
    rw (e, word_moved f g n (k + 1) (j + 1) m)

-- the bytes from the next place on
pub word_next : (f : ℕ → ℕ) (k n : ℕ) → word f (k + 1) n ≡ word (λ i. f (i + 1)) k n
unfolding word
word_next f k zero = refl
word_next f k (suc n) = rw (word_next f (k + 1) n)

-- eight bytes as std makes a number of them
pub word_8 : (f : ℕ → ℕ) (k : ℕ) → from_le_bytes w64 (f k ∷ f (k + 1) ∷ f (k + 2) ∷ f (k + 3) ∷ f (k + 4) ∷ f (k + 5) ∷ f (k + 6) ∷ f (k + 7) ∷ []) ≡ word f k 8
unfolding word
word_8 f k =
    let p2 : k + 1 + 1 ≡ k + 2 = omega arith in
    let p3 : k + 2 + 1 ≡ k + 3 = omega arith in
    let p4 : k + 3 + 1 ≡ k + 4 = omega arith in
    let p5 : k + 4 + 1 ≡ k + 5 = omega arith in
    let p6 : k + 5 + 1 ≡ k + 6 = omega arith in
    let p7 : k + 6 + 1 ≡ k + 7 = omega arith in
    rw (p2, p3, p4, p5, p6, p7) (omega arith)

-- numbers are taken together byte by byte
word-add : (f g : ℕ → ℕ) (k n : ℕ) → word f k n + word g k n ≡ word (λ i. f i + g i) k n
unfolding word
word-add f g k zero = refl
word-add f g k (suc n) = omega (arith, word-add f g (k + 1) n)

-- so by any operation that works on each digit apart
module _ (f g : ℕ → ℕ) (hf : (i : ℕ) → f i < 256) (hg : (i : ℕ) → g i < 256) where
  word_op : (op : ℕ → ℕ → ℕ) → op 0 0 ≡ 0 → ((a b r s : ℕ) → r < 256 → s < 256 → op (a * 256 + r) (b * 256 + s) ≡ op a b * 256 + op r s)
      → (k n : ℕ) → op (word f k n) (word g k n) ≡ word (λ i. op (f i) (g i)) k n
  unfolding word
  word_op op none block k zero = none
  word_op op none block k (suc n) = block (word f (k + 1) n) (word g (k + 1) n) (f k) (g k) (hf k) (hg k) ∙ ap (λ (z : ℕ). z * 256 + op (f k) (g k)) (word_op op none block (k + 1) n)

  pub word_and : (k n : ℕ) → bit_and (word f k n) (word g k n) ≡ word (λ i. bit_and (f i) (g i)) k n
  word_and = word_op bit_and refl (and_block 8)

  word-or : (k n : ℕ) → bit_or (word f k n) (word g k n) ≡ word (λ i. bit_or (f i) (g i)) k n
  word-or = word_op bit_or refl (or_block 8)

  pub word_xor : (k n : ℕ) → bit_xor (word f k n) (word g k n) ≡ word (λ i. bit_xor (f i) (g i)) k n
  word_xor = word_op bit_xor refl (xor_block 8)

-- bytes that are equal, and only they, have nothing that differs
xor_none : (a b : ℕ) → bit_xor a b ≡ 0 → a ≡ b
xor_none a b z = omega (arith, xor_add_and a b, and_le_l a b, and_le_r a b)

pub xor_test : (a b : ℕ) → eqb (bit_xor a b) 0 ≡ eqb a b
xor_test a b = go (eqb a b) refl
  where
    go : (t : Bool) → eqb a b ≡ t → eqb (bit_xor a b) 0 ≡ t
    go true e = eq-eqb _ _ (ap (λ (z : ℕ). bit_xor z b) (eqb-true a b e) ∙ xor_self b)
    go false e = ne_eqb _ _ (λ z. eqb-false a b e (xor_none a b z))

-- ---- the lowest byte that is not 0

-- m more than k
over : ℕ → ℕ → ℕ
over zero k = k
over (suc m) k = suc (over m k)

-- m digits of 0 below a number
zeros_below : (m k a : ℕ) → count_trailing_zeros (over m k) (a * 2 ^ m + 0) ≡ over m (count_trailing_zeros k a)
unfolding count_trailing_zeros over
zeros_below zero k a = ap (count_trailing_zeros k) (omega arith)
zeros_below (suc m) k a = rw (block_odd a m 0, block_half a m 0) (ap suc (zeros_below m k a))

-- m digits below a number, of which one is set
some_below : (m k a b : ℕ) → b < 2 ^ m → (b ≡ 0 → ⊥) → count_trailing_zeros (over m k) (a * 2 ^ m + b) < m
unfolding count_trailing_zeros over
some_below zero k a b h s = absurd (s (lt-one h))
some_below (suc m) k a b h s = rw (block_odd a m b, block_half a m b) (go (b % 2) refl (λ l z. some_below m k a (b / 2) l z))
  where
    go : (r : ℕ) → b % 2 ≡ r → (b / 2 < 2 ^ m → (b / 2 ≡ 0 → ⊥) → count_trailing_zeros (over m k) (a * 2 ^ m + b / 2) < m)
        → under r (count_trailing_zeros (over m k) (a * 2 ^ m + b / 2)) < suc m
    go zero e i =
        let l : b / 2 < 2 ^ m = omega (arith, pow-suc 2 m) in
        let z : (b / 2 ≡ 0 → ⊥) = λ y. s (omega (arith, y)) in
        suc-le-suc (i l z)
    go (suc r) e i = suc-le-suc zero-le

-- eight digits a byte
eights : ℕ → ℕ
unfolding over
eights zero = 0
eights (suc n) = over 8 (eights n)

zero-bytes : (f : ℕ → ℕ) → ((i : ℕ) → f i < 256) → (k n : ℕ) → count_trailing_zeros (eights n) (word f k n) / 8 ≡ leading (λ i. eqb (f i) 0) k n
unfolding word leading eights over count_trailing_zeros
zero-bytes f h k zero = refl
zero-bytes f h k (suc n) = go (eqb (f k) 0) refl (zero-bytes f h (k + 1) n)
  where
    go : (t : Bool) → eqb (f k) 0 ≡ t → count_trailing_zeros (eights n) (word f (k + 1) n) / 8 ≡ leading (λ i. eqb (f i) 0) (k + 1) n
        → count_trailing_zeros (over 8 (eights n)) (word f (k + 1) n * 256 + f k) / 8 ≡ cond t (suc (leading (λ i. eqb (f i) 0) (k + 1) n)) 0
    go true e r = let i = zeros_below 8 (eights n) (word f (k + 1) n) in rw (eqb-true (f k) 0 e) (omega arith)
    go false e r = let i = some_below 8 (eights n) (word f (k + 1) n) (f k) (h k) (eqb-false _ _ e) in omega arith

pub zero_bytes_8 : (f : ℕ → ℕ) → ((i : ℕ) → f i < 256) → (k : ℕ) → count_trailing_zeros 64 (word f k 8) / 8 ≡ leading (λ i. eqb (f i) 0) k 8
unfolding eights over
zero_bytes_8 f h k = zero-bytes f h k 8

-- ---- the lowest byte that is 0

-- 128 for the byte 0, and 0 for any other: adding 127 to the low seven digits sets the highest where one of them is set
abbrev flag : ℕ → ℕ
flag x = bit_xor (bit_and (bit_or (bit_and x 127 + 127) x) 128) 128

alike : Bool → Bool → Bool
alike true b = b
alike false b = not b

all : (ℕ → Bool) → ℕ → Bool
all p zero = true
all p (suc n) = cond (p n) (all p n) false

flags_fit : all (λ x. alike (eqb (flag x) 0) (not (eqb x 0))) 256 ≡ true
unfolding all alike
flags_fit = refl

both : (b c : Bool) → cond b c false ≡ true → (b ≡ true) × (c ≡ true)
both true c e = (refl, e)
both false c e = absurd (subst T (sym e) tt)

all_at : (p : ℕ → Bool) (n i : ℕ) → all p n ≡ true → i < n → p i ≡ true
unfolding all
all_at p zero i e h = absurd (not-suc-le-zero h)
all_at p (suc n) i e h = let s = both (p n) (all p n) e in go (ltb i n) refl s.0 (λ l. all_at p n i s.1 l)
  where
    go : (b : Bool) → ltb i n ≡ b → p n ≡ true → (i < n → p i ≡ true) → p i ≡ true
    go true l q r = r (ltb-true i n l)
    go false l q r = let z : i ≡ n = omega (arith, ltb-false i n l) in ap p z ∙ q

alike_same : (a b : Bool) → alike a b ≡ true → a ≡ b
unfolding alike
alike_same true true e = refl
alike_same true false e = absurd (subst T (sym e) tt)
alike_same false true e = absurd (subst T (sym e) tt)
alike_same false false e = refl

flag_test : (x : ℕ) → x < 256 → eqb (flag x) 0 ≡ not (eqb x 0)
flag_test x h = alike_same _ _ (all_at (λ x. alike (eqb (flag x) 0) (not (eqb x 0))) 256 x flags_fit h)

-- so of eight bytes
module _ (f : ℕ → ℕ) (h : (i : ℕ) → f i < 256) (k : ℕ) where
  pub flags : bit_xor (bit_and (bit_or (bit_and (word f k 8) 0x7F7F7F7F7F7F7F7F + 0x7F7F7F7F7F7F7F7F) (word f k 8)) 0x8080808080808080) 0x8080808080808080 ≡ word (λ i. flag (f i)) k 8
  unfolding word
  flags =
      let w = word f k 8 in
      let low : ℕ → ℕ = λ i. bit_and (f i) 127 in
      let any : ℕ → ℕ = λ i. bit_or (bit_and (f i) 127 + 127) (f i) in
      let top : ℕ → ℕ = λ i. bit_and (bit_or (bit_and (f i) 127 + 127) (f i)) 128 in
      let ha : (i : ℕ) → low i + 127 < 256 = λ i. omega (arith, and_le_r (f i) 127) in
      let hb : (i : ℕ) → any i < 256 = λ i. or_lt 8 (low i + 127) (f i) (ha i) (h i) in
      let hc : (i : ℕ) → top i < 256 = λ i. omega (arith, and_le_r (any i) 128) in
      let a : bit_and w 0x7F7F7F7F7F7F7F7F ≡ word low k 8 = word_and f (λ i. 127) h (λ i. lit< tt) k 8 in
      let b : word low k 8 + 0x7F7F7F7F7F7F7F7F ≡ word (λ i. low i + 127) k 8 = word-add low (λ i. 127) k 8 in
      let c : bit_or (word (λ i. low i + 127) k 8) w ≡ word any k 8 = word-or (λ i. low i + 127) f ha h k 8 in
      let d : bit_and (word any k 8) 0x8080808080808080 ≡ word top k 8 = word_and any (λ i. 128) hb (λ i. lit< tt) k 8 in
      let e : bit_xor (word top k 8) 0x8080808080808080 ≡ word (λ i. flag (f i)) k 8 = word_xor top (λ i. 128) hc (λ i. lit< tt) k 8 in
      ap (λ (z : ℕ). bit_xor (bit_and (bit_or (z + 0x7F7F7F7F7F7F7F7F) w) 0x8080808080808080) 0x8080808080808080) a
      ∙ ap (λ (z : ℕ). bit_xor (bit_and (bit_or z w) 0x8080808080808080) 0x8080808080808080) b
      ∙ ap (λ (z : ℕ). bit_xor (bit_and z 0x8080808080808080) 0x8080808080808080) c
      ∙ ap (λ (z : ℕ). bit_xor z 0x8080808080808080) d
      ∙ e

  pub lone_bytes_8 : count_trailing_zeros 64 (bit_xor (bit_and (bit_or (bit_and (word f k 8) 0x7F7F7F7F7F7F7F7F + 0x7F7F7F7F7F7F7F7F) (word f k 8)) 0x8080808080808080) 0x8080808080808080) / 8
      ≡ leading (λ i. not (eqb (f i) 0)) k 8
  lone_bytes_8 =
      let hf : (i : ℕ) → flag (f i) < 256 = λ i. xor_lt 8 (bit_and (bit_or (bit_and (f i) 127 + 127) (f i)) 128) 128 (omega (arith, and_le_r (bit_or (bit_and (f i) 127 + 127) (f i)) 128)) (lit< tt) in
      ap (λ (z : ℕ). count_trailing_zeros 64 z / 8) flags ∙ zero_bytes_8 (λ i. flag (f i)) hf k ∙ leading_ext _ _ (λ i. flag_test (f i) (h i)) k 8
