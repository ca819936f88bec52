-- The sum that finds, for each stretch of lone cells, whether it starts at an even place, and the cells charged by it.
use Rattle.std.proofs.Common.{◌≡◌, ℕ, zero, suc, ◌+◌, ◌-◌, ◌*◌, ◌/◌, ◌%◌, ◌^◌, ◌<◌, ◌≤◌, Bool, true, false, cond, not, ◌&&◌, ◌||◌, ◌⊎◌, List, length, sym, refl, ap, ◌∙◌, subst, ap₂, inl, inr, eq-zero-or-pos, div-le_self, add-one, arith, le-ltb, lt-ltb}
use mathlib.Core.Bool.{false≢true}
use lib.Pow.{ones_split, ones_lt, high}
use lib.Bits.{bit_and, bit_or, bit_xor, and_mask, and_le_r}
use lib.Count.{ones, ones-le, count_leading_zeros, leading_of_zero, leading_top, leading_length}
use Rattle.rows.specs.Windows.{from_bits, total, twins, flags_at, before, lone, first, even_place, charged}
use Rattle.rows.proofs.FromBits.{bits_ext, bits_down, bits_and, bits_or, bits_xor, bits_not, bits_up, bits_add, bits_mod, bits_ones, bits_lt, bits_top, bits_above, unlike, carry, summed}

unfoldable pub even : ℕ → Bool
even zero = true
even (suc k) = not (even k)

-- the first cells of stretches that are at even places of the window
abbrev even_first : (ℕ → Bool) → ℕ → Bool
even_first f k = first f k && even k

-- a carry runs through the stretches that start at even places, and through no other
abbrev after : Bool → Bool → Bool → Bool
after l p v = l && not (unlike p v)

carry_turn : (m l p v : Bool) → cond m (((m && not l) && not v) || after l p v) (((m && not l) && not v) && after l p v) ≡ after m (cond l (not p) true) (not v)
carry_turn true true true true = refl
carry_turn true true true false = refl
carry_turn true true false true = refl
carry_turn true true false false = refl
carry_turn true false p true = refl
carry_turn true false p false = refl
carry_turn false l p v = refl

carry_start : (m : Bool) → cond m (((m && true) && true) || false) (((m && true) && true) && false) ≡ m && true
carry_start true = refl
carry_start false = refl

carry_after : (f : ℕ → Bool) (k : ℕ) → carry (lone f) (even_first f) (suc k) ≡ after (lone f k) (even_place f k) (even k)
unfolding carry first even_place even
carry_after f zero = carry_start (lone f 0)
carry_after f (suc k) =
    ap (λ (z : Bool). cond (lone f (suc k)) (even_first f (suc k) || z) (even_first f (suc k) && z)) (carry_after f k)
    ∙ carry_turn (lone f (suc k)) (lone f k) (even_place f k) (even k)

evens : 0x5555555555555555 ≡ from_bits even 64
unfolding from_bits even
evens = refl

odds : 0xAAAAAAAAAAAAAAAA ≡ from_bits (λ k. not (even k)) 64
unfolding from_bits even
odds = refl

-- whether the stretch of the lone cell k starts at an even place
abbrev from_even : (ℕ → Bool) → ℕ → Bool
from_even f k = lone f k && not (summed (lone f) (even_first f) k)

place_turn : (m l p v : Bool)
    → m && unlike (m && not (unlike (unlike m ((m && not l) && not v)) (after l p v))) (not (not v)) ≡ m && cond l (not p) true
place_turn true true true true = refl
place_turn true true true false = refl
place_turn true true false true = refl
place_turn true true false false = refl
place_turn true false p true = refl
place_turn true false p false = refl
place_turn false l p v = refl

place_start : (m : Bool) → m && unlike (m && not (unlike (unlike m ((m && true) && true)) false)) false ≡ m && true
place_start true = refl
place_start false = refl

-- at a lone cell, that and the cell's own place say whether its place in the stretch is even
place : (f : ℕ → Bool) (k : ℕ) → lone f k && unlike (from_even f k) (not (even k)) ≡ lone f k && even_place f k
unfolding carry first even_place even
place f zero = place_start (lone f 0)
place f (suc k) =
    ap (λ (z : Bool). lone f (suc k) && unlike (lone f (suc k) && not (unlike (unlike (lone f (suc k)) (even_first f (suc k))) z)) (not (even (suc k)))) (carry_after f k)
    ∙ place_turn (lone f (suc k)) (lone f k) (even_place f k) (even k)

joined : (a l p q b : Bool) → l && q ≡ l && p → (a || (l && q)) || (l && b) ≡ a || (l && (p || b))
joined true l p q b e = refl
joined false false p q b e = refl
joined false true p q b e = ap (λ (z : Bool). z || b) e

charged_bits : (f : ℕ → Bool) (k : ℕ)
    → (((f k && not (before f k)) || (lone f k && unlike (from_even f k) (not (even k)))) || (lone f k && before (first f) k)) ≡ charged f k
unfolding charged
charged_bits f k = joined (f k && not (before f k)) (lone f k) (even_place f k) (unlike (from_even f k) (not (even k))) (before (first f) k) (place f k)

-- ---- the code's numbers

abbrev pub up : ℕ → ℕ
up x = x * 2 % 2 ^ 64

abbrev pub flip : ℕ → ℕ
flip x = 2 ^ 64 - 1 - x

module _ (f : ℕ → Bool) (e : ℕ) (h : e ≡ from_bits f 64) where
  ups : up e ≡ from_bits (before f) 64
  ups = ap up h ∙ bits_up f 64

  flips : flip e ≡ from_bits (λ k. not (f k)) 64
  flips = ap flip h ∙ bits_not f 64

module _ (f g : ℕ → Bool) (x y : ℕ) (h : x ≡ from_bits f 64) (i : y ≡ from_bits g 64) where
  ands : bit_and x y ≡ from_bits (λ k. f k && g k) 64
  ands = ap₂ bit_and h i ∙ bits_and f g 64

  ors : bit_or x y ≡ from_bits (λ k. f k || g k) 64
  ors = ap₂ bit_or h i ∙ bits_or f g 64

  xors : bit_xor x y ≡ from_bits (λ k. unlike (f k) (g k)) 64
  xors = ap₂ bit_xor h i ∙ bits_xor f g 64

  sums : (x + y) % 2 ^ 64 ≡ from_bits (summed f g) 64
  sums = ap₂ (λ (a b : ℕ). (a + b) % 2 ^ 64) h i ∙ bits_add f g 64

abbrev lones : ℕ → ℕ
lones e = flip (bit_or e (up e))

abbrev firsts : ℕ → ℕ
firsts l = bit_and l (flip (up l))

lone-word : (f : ℕ → Bool) (e : ℕ) → e ≡ from_bits f 64 → lones e ≡ from_bits (lone f) 64
unfolding lone
lone-word f e h = flips (λ k. f k || before f k) (bit_or e (up e)) (ors f (before f) e (up e) h (ups f e h))

first_word : (f : ℕ → Bool) (l : ℕ) → l ≡ from_bits (lone f) 64 → firsts l ≡ from_bits (first f) 64
unfolding first
first_word f l h = ands (lone f) (λ k. not (before (lone f) k)) l (flip (up l)) h (flips (before (lone f)) (up l) (ups (lone f) l h))

abbrev charge_word : (e l t : ℕ) → ℕ
charge_word e l t =
    bit_or (bit_or (bit_and e (flip (up e))) (bit_and l (bit_xor (bit_and l (flip t)) 0xAAAAAAAAAAAAAAAA))) (bit_and l (up (firsts l)))

pub charge_law : (e t : ℕ) → t ≡ (lones e + bit_and (firsts (lones e)) 0x5555555555555555) % 2 ^ 64
    → (f : ℕ → Bool) → e ≡ from_bits f 64 → charge_word e (lones e) t ≡ from_bits (charged f) 64
charge_law e t u f h =
    let hl = lone-word f e h in
    let hs = first_word f (lones e) hl in
    let ht = u ∙ sums (lone f) (even_first f) (lones e) (bit_and (firsts (lones e)) 0x5555555555555555) hl (ands (first f) even (firsts (lones e)) 0x5555555555555555 hs evens) in
    let hq = ands (lone f) (λ k. not (summed (lone f) (even_first f) k)) (lones e) (flip t) hl (flips (summed (lone f) (even_first f)) t ht) in
    let hx = xors (from_even f) (λ k. not (even k)) (bit_and (lones e) (flip t)) 0xAAAAAAAAAAAAAAAA hq odds in
    let hp = ands (lone f) (λ k. unlike (from_even f k) (not (even k))) (lones e) (bit_xor (bit_and (lones e) (flip t)) 0xAAAAAAAAAAAAAAAA) hl hx in
    let hr = ands f (λ k. not (before f k)) e (flip (up e)) h (flips (before f) (up e) (ups f e h)) in
    let hb = ands (lone f) (before (first f)) (lones e) (up (firsts (lones e))) hl (ups (first f) (firsts (lones e)) hs) in
    ors (λ k. (f k && not (before f k)) || (lone f k && unlike (from_even f k) (not (even k)))) (λ k. lone f k && before (first f) k) _ _
    (ors (λ k. f k && not (before f k)) (λ k. lone f k && unlike (from_even f k) (not (even k))) _ _ hr hp) hb
    ∙ bits_ext _ _ 64 (λ k _. charged_bits f k)

-- ---- the first v cells

mask : (v : ℕ) → v ≤ 64 → 18446744073709551615 / 2 ^ (64 - v) ≡ 2 ^ v - 1
mask v h =
    let e : v + (64 - v) ≡ 64 = omega arith in
    ap (λ (z : ℕ). (2 ^ z - 1) / 2 ^ (64 - v)) (sym e) ∙ ap (λ (z : ℕ). z / 2 ^ (64 - v)) (ones_split v (64 - v)) ∙ high (2 ^ v - 1) (64 - v) (ones_lt (64 - v))

pub below_law : (x v : ℕ) → v ≤ 64 → (g : ℕ → Bool) → x ≡ from_bits g 64 → ones (bit_and x (18446744073709551615 / 2 ^ (64 - v))) ≡ total g v
below_law x v h g i =
    let e : 64 ≡ v + (64 - v) = omega arith in
    ap₂ (λ (a b : ℕ). ones (bit_and a b)) (i ∙ ap (from_bits g) e) (mask v h) ∙ ap ones (and_mask (from_bits g (v + (64 - v))) v ∙ bits_mod g v (64 - v)) ∙ bits_ones g v

pub below_le : (x v : ℕ) → ones (bit_and x (18446744073709551615 / 2 ^ (64 - v))) ≤ 64
below_le x v =
    let m = 18446744073709551615 / 2 ^ (64 - v) in
    ones-le 64 (bit_and x m) (omega (arith, and_le_r x m, div-le_self 18446744073709551615 (2 ^ (64 - v))))

-- ---- the last cell that ends a run

abbrev ends : (ℕ → Bool) → ℕ → Bool
ends f k = before f k && not (f k)

abbrev pub Whole : (ℕ → Bool) → ℕ → Type 0
Whole f r = (r ≡ 0) ⊎ ((2 ≤ r) × (r ≤ 64) × (f (r - 2) ≡ true) × (f (r - 1) ≡ false))

ended : (a b : Bool) → a && not b ≡ true → (a ≡ true) × (b ≡ false)
ended true true e = absurd (false≢true e)
ended true false e = (refl, refl)
ended false b e = absurd (false≢true e)

whole_at : (f : ℕ → Bool) (r j : ℕ) → r ≡ suc j → r ≤ 64 → ends f j ≡ true → Whole f r
whole_at f r zero e l t = absurd (false≢true t)
whole_at f r (suc i) e l t =
    let p = ended (f i) (f (suc i)) t in
    let a : r - 2 ≡ i = omega arith in
    let b : r - 1 ≡ suc i = omega arith in
    inr (omega arith, l, ap f a ∙ p.0, ap f b ∙ p.1)

abbrev pub end_word : ℕ → ℕ
end_word e = bit_and (up e) (flip e)

pub whole_law : (e : ℕ) → (f : ℕ → Bool) → e ≡ from_bits f 64 → Whole f (64 - count_leading_zeros 64 (end_word e))
whole_law e f h = go (eq-zero-or-pos (end_word e))
  where
    w : end_word e ≡ from_bits (ends f) 64
    w = ands (before f) (λ k. not (f k)) (up e) (flip e) (ups f e h) (flips f e h)

    go : (end_word e ≡ 0) ⊎ (0 < end_word e) → Whole f (64 - count_leading_zeros 64 (end_word e))
    go (inl z) = inl (ap (λ (z : ℕ). 64 - count_leading_zeros 64 z) z ∙ ap (λ (z : ℕ). 64 - z) (leading_of_zero 64))
    go (inr p) =
        let t = leading_top 64 (end_word e) p (subst (λ (z : ℕ). z < 2 ^ 64) (sym w) (bits_lt (ends f) 64)) in
        let n = count_leading_zeros 64 (end_word e) in
        let s : suc t.0 + n ≡ 64 = omega (arith, t.1) in
        let v : from_bits (ends f) (suc t.0 + n) ≡ end_word e = ap (from_bits (ends f)) s ∙ sym w in
        let a : 2 ^ t.0 ≤ from_bits (ends f) (suc t.0 + n) = subst (λ (z : ℕ). 2 ^ t.0 ≤ z) (sym v) t.2 in
        let b : from_bits (ends f) (suc t.0 + n) < 2 ^ suc t.0 = subst (λ (z : ℕ). z < 2 ^ suc t.0) (sym v) t.3 in
        whole_at f (64 - n) t.0 (omega (arith, t.1)) (omega arith) (bits_top (ends f) t.0 n a b)

-- and behind it none does
pub last_law : (e : ℕ) → (f : ℕ → Bool) → e ≡ from_bits f 64 → (k : ℕ) → 64 - count_leading_zeros 64 (end_word e) ≤ k + 1 → k < 63 → f k ≡ true → f (k + 1) ≡ true
last_law e f h k past inside t =
    let w : end_word e ≡ from_bits (ends f) 64 = ands (before f) (λ k. not (f k)) (up e) (flip e) (ups f e h) (flips f e h) in
    let m = leading_length 64 (end_word e) (subst (λ (z : ℕ). z < 2 ^ 64) (sym w) (bits_lt (ends f) 64)) in
    let s : 64 ≡ m.0 + (64 - m.0) = omega (arith, m.1) in
    let v : end_word e ≡ from_bits (ends f) (m.0 + (64 - m.0)) = w ∙ ap (from_bits (ends f)) s in
    let none = bits_above (ends f) m.0 (64 - m.0) (subst (λ (z : ℕ). z < 2 ^ m.0) v m.2) (suc k - m.0) (omega (arith, m.1)) in
    let place : m.0 + (suc k - m.0) ≡ suc k = omega (arith, m.1) in
    ap f (add-one k) ∙ go (f k) (f (suc k)) t (sym (ap (ends f) place) ∙ none)
  where
    go : (a b : Bool) → a ≡ true → a && not b ≡ false → b ≡ true
    go true true p q = refl
    go true false p q = absurd (false≢true (sym q))
    go false b p q = absurd (false≢true p)

-- ---- the flags of a window at a place

-- a window within the row
pub full : (row : List ℕ) (at : ℕ) → at + 65 ≤ length row → from_bits (twins row at) 64 ≡ from_bits (flags_at row at) 64
full row at h = bits_ext (twins row at) (flags_at row at) 64 (λ k l. rw (lt-ltb (at + k + 1) (length row) (omega arith)))

-- and one past its end: the flags of the row's last 65 cells, from the place on
pub partial : (row : List ℕ) (at : ℕ) → 65 ≤ length row → length row - 65 < at → at + 2 ≤ length row
    → from_bits (twins row (length row - 65)) 64 / 2 ^ (at - (length row - 65)) ≡ from_bits (flags_at row at) 64
partial row at some past h =
    let last = length row - 65 in
    let s = at - last in
    let n = length row - 1 - at in
    let p : s + n ≡ 64 = omega arith in
    let q : n + s ≡ 64 = omega arith in
    let d = bits_down (twins row last) (flags_at row at) s n s
    (λ k l.
    let e : last + (s + k) ≡ at + k = omega arith in
    rw (e, lt-ltb (at + k + 1) (length row) (omega arith)))
    (λ k l. let z : length row ≤ at + (n + k) + 1 = omega arith in rw (le-ltb (at + (n + k) + 1) (length row) z)) in
    rw (p, q) at d
