-- Laws of words of flags: what the operations on numbers of n bits make of their bits.
use Rattle.std.proofs.Common.{◌≡◌, ℕ, zero, suc, ◌+◌, ◌-◌, ◌*◌, ◌/◌, ◌%◌, ◌^◌, ◌<◌, ◌≤◌, Bool, true, false, cond, not, ◌&&◌, ◌||◌, ◌⊎◌, sym, refl, ap, ◌∙◌, ap₂, inl, inr, le_of_suc-le-suc, not-suc-le-zero, mul-le-mul_right, mod-eq_of_lt, eq-zero-or-pos, suc-add, pow-suc, zero-add, arith, lit<}
use lib.Arith.{digits_div, digits_mod}
use lib.Bits.{bit_and, bit_or, bit_xor, and_block, or_block, xor_block}
use lib.Count.{ones, ones_in, ones_cat}
use Rattle.rows.specs.Windows.{bit, from_bits, total, before}

pub bit-lt : (b : Bool) → bit b < 2
bit-lt true = lit< tt
bit-lt false = lit< tt

pub bits_ext : (f g : ℕ → Bool) (n : ℕ) → ((k : ℕ) → k < n → f k ≡ g k) → from_bits f n ≡ from_bits g n
unfolding from_bits
bits_ext f g zero h = refl
bits_ext f g (suc n) h = rw (h 0 (omega arith), bits_ext (λ k. f (suc k)) (λ k. g (suc k)) n (λ k l. h (suc k) (omega arith)))

-- one more bit at the top
bits_snoc : (f : ℕ → Bool) (n : ℕ) → from_bits f (suc n) ≡ bit (f n) * 2 ^ n + from_bits f n
unfolding from_bits
bits_snoc f zero = omega arith
bits_snoc f (suc n) = omega (arith, bits_snoc (λ k. f (suc k)) n, ap (λ (z : ℕ). bit (f (suc n)) * z) (pow-suc 2 n))

pub bits_lt : (f : ℕ → Bool) (n : ℕ) → from_bits f n < 2 ^ n
unfolding from_bits
bits_lt f zero = lit< tt
bits_lt f (suc n) = omega (arith, bits_lt (λ k. f (suc k)) n, bit-lt (f 0), pow-suc 2 n)

-- m bits, and n more above them
pub bits_append : (f : ℕ → Bool) (m n : ℕ) → from_bits f (m + n) ≡ from_bits (λ k. f (m + k)) n * 2 ^ m + from_bits f m
unfolding from_bits
bits_append f zero n =
    ap (from_bits f) (zero-add n) ∙ bits_ext f (λ k. f (0 + k)) n (λ k l. ap f (sym (zero-add k))) ∙ omega arith
bits_append f (suc m) n =
    let e = bits_append (λ k. f (suc k)) m n in
    let w : from_bits (λ k. f (suc (m + k))) n ≡ from_bits (λ k. f (suc m + k)) n = bits_ext _ _ n (λ k l. ap f (sym (suc-add m k))) in
    ap (from_bits f) (suc-add m n) ∙ omega (arith, e, w, ap (λ (z : ℕ). from_bits (λ k. f (suc m + k)) n * z) (pow-suc 2 m), ap (λ (z : ℕ). z * 2 ^ m) w)

pub bits_mod : (f : ℕ → Bool) (v n : ℕ) → from_bits f (v + n) % 2 ^ v ≡ from_bits f v
bits_mod f v n = ap (λ (z : ℕ). z % 2 ^ v) (bits_append f v n) ∙ digits_mod (from_bits (λ k. f (v + k)) n) (bits_lt f v)

-- an operation that works on each bit apart
module _ (op : ℕ → ℕ → ℕ) (op₁ : Bool → Bool → Bool) (none : op 0 0 ≡ 0) (one : (a b : Bool) → op (bit a) (bit b) ≡ bit (op₁ a b))
    (block : (a b r s : ℕ) → r < 2 → s < 2 → op (a * 2 + r) (b * 2 + s) ≡ op a b * 2 + op r s) where
  bits_op : (f g : ℕ → Bool) (n : ℕ) → op (from_bits f n) (from_bits g n) ≡ from_bits (λ k. op₁ (f k) (g k)) n
  unfolding from_bits
  bits_op f g zero = none
  bits_op f g (suc n) =
      block (from_bits (λ k. f (suc k)) n) (from_bits (λ k. g (suc k)) n) (bit (f 0)) (bit (g 0)) (bit-lt (f 0)) (bit-lt (g 0))
      ∙ ap₂ (λ (x y : ℕ). x * 2 + y) (bits_op (λ k. f (suc k)) (λ k. g (suc k)) n) (one (f 0) (g 0))

pub bits_and : (f g : ℕ → Bool) (n : ℕ) → bit_and (from_bits f n) (from_bits g n) ≡ from_bits (λ k. f k && g k) n
bits_and = bits_op bit_and (λ a b. a && b) refl one (and_block 1)
  where
    one : (a b : Bool) → bit_and (bit a) (bit b) ≡ bit (a && b)
    one true true = refl
    one true false = refl
    one false b = refl

pub bits_or : (f g : ℕ → Bool) (n : ℕ) → bit_or (from_bits f n) (from_bits g n) ≡ from_bits (λ k. f k || g k) n
bits_or = bits_op bit_or (λ a b. a || b) refl one (or_block 1)
  where
    one : (a b : Bool) → bit_or (bit a) (bit b) ≡ bit (a || b)
    one true true = refl
    one true false = refl
    one false b = refl

-- whether two differ
abbrev pub unlike : Bool → Bool → Bool
unlike true b = not b
unlike false b = b

pub bits_xor : (f g : ℕ → Bool) (n : ℕ) → bit_xor (from_bits f n) (from_bits g n) ≡ from_bits (λ k. unlike (f k) (g k)) n
bits_xor = bits_op bit_xor unlike refl one (xor_block 1)
  where
    one : (a b : Bool) → bit_xor (bit a) (bit b) ≡ bit (unlike a b)
    one true true = refl
    one true false = refl
    one false b = refl

not_whole : (f : ℕ → Bool) (n : ℕ) → from_bits f n + from_bits (λ k. not (f k)) n + 1 ≡ 2 ^ n
unfolding from_bits
not_whole f zero = refl
not_whole f (suc n) = omega (arith, not_whole (λ k. f (suc k)) n, one (f 0), pow-suc 2 n)
  where
    one : (a : Bool) → bit a + bit (not a) ≡ 1
    one true = refl
    one false = refl

pub bits_not : (f : ℕ → Bool) (n : ℕ) → 2 ^ n - 1 - from_bits f n ≡ from_bits (λ k. not (f k)) n
bits_not f n = omega (arith, not_whole f n)

-- one place up, and what leaves the n bits is lost
twice : (f : ℕ → Bool) (n : ℕ) → from_bits f n * 2 ≡ from_bits (before f) (suc n)
unfolding from_bits
twice f n = omega arith

pub bits_up : (f : ℕ → Bool) (n : ℕ) → from_bits f n * 2 % 2 ^ n ≡ from_bits (before f) n
bits_up f n = ap (λ (z : ℕ). z % 2 ^ n) (twice f n ∙ bits_snoc (before f) n) ∙ digits_mod (bit (before f n)) (bits_lt (before f) n)

-- the sum's carry into bit k, and its bit k
unfoldable pub carry : (ℕ → Bool) → (ℕ → Bool) → ℕ → Bool
carry f g zero = false
carry f g (suc k) = cond (f k) (g k || carry f g k) (g k && carry f g k)

abbrev pub summed : (ℕ → Bool) → (ℕ → Bool) → ℕ → Bool
summed f g k = unlike (unlike (f k) (g k)) (carry f g k)

add-one-bit : (a b c : Bool) → bit a + bit b + bit c ≡ bit (cond a (b || c) (b && c)) * 2 + bit (unlike (unlike a b) c)
add-one-bit true true true = refl
add-one-bit true true false = refl
add-one-bit true false true = refl
add-one-bit true false false = refl
add-one-bit false true true = refl
add-one-bit false true false = refl
add-one-bit false false true = refl
add-one-bit false false false = refl

add_whole : (f g : ℕ → Bool) (n : ℕ) → from_bits f n + from_bits g n ≡ bit (carry f g n) * 2 ^ n + from_bits (summed f g) n
unfolding from_bits carry
add_whole f g zero = refl
add_whole f g (suc n) =
    omega (
      arith,
      add_whole f g n,
      bits_snoc f n,
      bits_snoc g n,
      bits_snoc (summed f g) n,
      ap (λ (z : ℕ). z * 2 ^ n) (add-one-bit (f n) (g n) (carry f g n)),
      ap (λ (z : ℕ). bit (carry f g (suc n)) * z) (pow-suc 2 n),
    )

pub bits_add : (f g : ℕ → Bool) (n : ℕ) → (from_bits f n + from_bits g n) % 2 ^ n ≡ from_bits (summed f g) n
bits_add f g n = ap (λ (z : ℕ). z % 2 ^ n) (add_whole f g n) ∙ digits_mod (bit (carry f g n)) (bits_lt (summed f g) n)

ones_bit : (b : Bool) → ones (bit b) ≡ bit b
unfolding ones ones_in
ones_bit true = refl
ones_bit false = refl

pub bits_ones : (f : ℕ → Bool) (n : ℕ) → ones (from_bits f n) ≡ total f n
unfolding from_bits total
bits_ones f zero = ones_bit false
bits_ones f (suc n) =
    ap ones (bits_snoc f n) ∙ ones_cat n (bit (f n)) (from_bits f n) (bits_lt f n) ∙ omega (arith, bits_ones f n, ones_bit (f n))

-- the highest bit of a from_bits between 2 ^ j and 2 ^ suc j is bit j
pub bits_top : (f : ℕ → Bool) (j n : ℕ) → 2 ^ j ≤ from_bits f (suc j + n) → from_bits f (suc j + n) < 2 ^ suc j → f j ≡ true
bits_top f j n a b = go (f j) refl
  where
    low : from_bits f (suc j + n) ≡ from_bits f (suc j)
    low = sym (mod-eq_of_lt b) ∙ bits_mod f (suc j) n

    go : (t : Bool) → f j ≡ t → f j ≡ true
    go true e = e
    go false e =
        let x : from_bits f (suc j) ≡ 0 * 2 ^ j + from_bits f j = bits_snoc f j ∙ ap (λ (z : Bool). bit z * 2 ^ j + from_bits f j) e in
        let z : ⊥ = omega (arith, bits_lt f j, low, x) in
        absurd z

bits_none : (f : ℕ → Bool) (n : ℕ) → ((k : ℕ) → k < n → f k ≡ false) → from_bits f n ≡ 0
unfolding from_bits
bits_none f zero h = refl
bits_none f (suc n) h = rw (h 0 (omega arith), bits_none (λ k. f (suc k)) n (λ k l. h (suc k) (omega arith)))

-- a number without bits has none that holds
bits_zero : (f : ℕ → Bool) (n : ℕ) → from_bits f n ≡ 0 → (k : ℕ) → k < n → f k ≡ false
unfolding from_bits
bits_zero f zero e k l = absurd (not-suc-le-zero l)
bits_zero f (suc n) e zero l = go (f 0) (omega (arith, e))
  where
    go : (b : Bool) → bit b ≡ 0 → b ≡ false
    go true q = let z : ⊥ = omega (arith, q) in absurd z
    go false q = refl
bits_zero f (suc n) e (suc k) l = bits_zero (λ k. f (suc k)) n (omega (arith, e)) k (le_of_suc-le-suc l)

-- below 2 ^ j no bit from j on holds
pub bits_above : (f : ℕ → Bool) (j n : ℕ) → from_bits f (j + n) < 2 ^ j → (k : ℕ) → k < n → f (j + k) ≡ false
bits_above f j n h = bits_zero (λ k. f (j + k)) n (go (eq-zero-or-pos (from_bits (λ k. f (j + k)) n)))
  where
    go : (from_bits (λ k. f (j + k)) n ≡ 0) ⊎ (0 < from_bits (λ k. f (j + k)) n) → from_bits (λ k. f (j + k)) n ≡ 0
    go (inl z) = z
    go (inr p) =
        let up : 1 * 2 ^ j ≤ from_bits (λ k. f (j + k)) n * 2 ^ j = mul-le-mul_right (2 ^ j) p in
        let z : ⊥ = omega (arith, h, up, bits_append f j n) in
        absurd z

-- the bits from s on, with none past the n-th, as m more bits
pub bits_down : (f g : ℕ → Bool) (s n m : ℕ) → ((k : ℕ) → k < n → g k ≡ f (s + k)) → ((k : ℕ) → k < m → g (n + k) ≡ false) → from_bits f (s + n) / 2 ^ s ≡ from_bits g (n + m)
bits_down f g s n m h z =
    ap (λ (x : ℕ). x / 2 ^ s) (bits_append f s n) ∙ digits_div (from_bits (λ k. f (s + k)) n) (bits_lt f s)
    ∙ sym (bits_append g n m ∙ ap (λ (x : ℕ). x * 2 ^ n + from_bits g n) (bits_none (λ k. g (n + k)) m z) ∙ omega (arith, bits_ext g (λ k. f (s + k)) n h))
