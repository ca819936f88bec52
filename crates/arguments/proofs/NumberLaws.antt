-- Laws of digits and numbers.
use mathlib.Core.Path.{◌≡◌, refl, sym, ap, ◌∙◌}
use mathlib.Core.Logic.{◌⊎◌, inl, inr}
use mathlib.Core.Bool.{Bool, true, false, cond, ◌&&◌}
use mathlib.Core.List.{List, [], ◌∷◌}
use Prim.Native.Nat.{ℕ, zero, suc, ◌+◌, ◌*◌, ◌^◌, ◌≤◌, ◌<◌}
use native.Mathlib.Nat.{not-suc-le-zero}
use native.Mathlib.Omega.{arith}
use borrow.Author.Tests.{eq-eqb, ne_eqb, eqb-true, eqb-false, lt-ltb, le-leb, lt-leb}
use lib.Dec.{eqb, ltb, leb}
use lib.ListN.{length, get_or, take, drop, drop_of_length-le}
use Rattle.std.specs.Prelude.{Option, Some, None, MatchOption, is_some, Result, Ok, Err}
use Rattle.std.specs.Result.{OkIff, result_ok}
use Rattle.std.specs.Cmp.Lexicographic.{pointwise}
use lib.IntN.{ℤ, pos, neg_ℤ, ◌-ℤ◌, +ℤ_idl}
use lib.Signed.{mag}
use mir.Val.{SFits, to_z, of_z}
use mir.Syntax.{w32, w64}
use mir.Facts.{to_z_pos, to_z-of_z}
use native.Mathlib.Numerals.{add-one}
use Rattle.std.specs.List.{list_all, enumerate_from}
use Rattle.std.specs.Char.{digit_value}
use Rattle.leaves.specs.Texts.{bytes_of}
use Rattle.arguments.specs.Numbers.{digit_of, with_digit, digits_from, digits_of_of, number_of, at_most, with_sign, is_negative, magnitude, signed32, is_signed32, is_number32, numbers_from, are_numbers}
use Rattle.arguments.specs.Words.{up_to, items_of, alike}
use Rattle.arguments.proofs.Pieces.{split, alike_is}

-- ---- a digit's value is that of a character of base 16

code : Option ℕ → ℕ
code None = 0
code (Some n) = suc n

coded : (a b : Option ℕ) → code a ≡ code b → a ≡ b
unfolding code
coded None None e = refl
coded None (Some n) e = let z : ⊥ = omega arith in absurd z
coded (Some m) None e = let z : ⊥ = omega arith in absurd z
coded (Some m) (Some n) e = let k : m ≡ n = omega arith in ap (λ (i : ℕ). Some i) k

abbrev in_base_16 : ℕ → Option ℕ
in_base_16 byte = cond (ltb (digit_value byte) 16) (Some (digit_value byte)) None

agrees : ℕ → Bool
agrees byte = eqb (code (digit_of byte)) (code (in_base_16 byte))

all_agree : ℕ → Bool
all_agree zero = true
all_agree (suc n) = agrees n && all_agree n

each_agrees : all_agree 256 ≡ true
unfolding all_agree agrees code digit_of bytes_of up_to
each_agrees = refl

both_true : (a r : Bool) → (a && r) ≡ true → (a ≡ true) × (r ≡ true)
both_true true r e = (refl, e)
both_true false r e = (e, cc)

one_agrees : (n byte : ℕ) → byte < n → all_agree n ≡ true → agrees byte ≡ true
unfolding all_agree
one_agrees zero byte h e = absurd (not-suc-le-zero h)
one_agrees (suc n) byte h e = go (eqb byte n) refl (one_agrees n byte)
  where
    both : (agrees n ≡ true) × (all_agree n ≡ true)
    both = both_true (agrees n) (all_agree n) e

    go : (b : Bool) → eqb byte n ≡ b → (byte < n → all_agree n ≡ true → agrees byte ≡ true) → agrees byte ≡ true
    go true q f = ap agrees (eqb-true byte n q) ∙ both.0
    go false q f = let other = eqb-false byte n q in f (omega arith) both.1

digit_is : (byte : ℕ) → byte < 256 → digit_of byte ≡ in_base_16 byte
unfolding agrees
digit_is byte h = coded (digit_of byte) (in_base_16 byte) (eqb-true (code (digit_of byte)) (code (in_base_16 byte)) (one_agrees 256 byte h each_agrees))

module _ (base n byte : ℕ) (known : (base ≡ 10) ⊎ (base ≡ 16)) (is_byte : byte < 256) where
  small : base ≤ 16
  small = go known
    where
      go : (base ≡ 10) ⊎ (base ≡ 16) → base ≤ 16
      go (inl e) = omega arith
      go (inr e) = omega arith

  pub no_digit : (digit_value byte < base → ⊥) → None ≡ with_digit base n (digit_of byte)
  unfolding with_digit
  no_digit h = go (ltb (digit_value byte) 16) refl
    where
      far : base ≤ digit_value byte
      far = omega arith

      go : (b : Bool) → ltb (digit_value byte) 16 ≡ b → None ≡ with_digit base n (digit_of byte)
      go true q = rw (digit_is byte is_byte, q, le-leb base (digit_value byte) far)
      go false q = rw (digit_is byte is_byte, q)

  module _ (d : ℕ) (inside : (digit_value byte < base) × (d ≡ digit_value byte)) where
    valued : digit_of byte ≡ Some d
    valued =
        let h = inside.0 in
        rw (digit_is byte is_byte, lt-ltb (digit_value byte) 16 (omega (arith, small)), inside.1)

    pub no_room : 2 ^ 56 ≤ n → None ≡ with_digit base n (digit_of byte)
    unfolding with_digit
    no_room h = let low = inside.0 in rw (valued, lt-leb base d (omega (arith, inside.1)), le-leb (2 ^ 56) n h)

    pub one_more : n < 2 ^ 56 → Some (n * base + d) ≡ with_digit base n (digit_of byte)
    unfolding with_digit
    one_more h = let low = inside.0 in rw (valued, lt-leb base d (omega (arith, inside.1)), lt-leb (2 ^ 56) n h)

-- ---- digits one after another

pub no_digits : (base : ℕ) (text : List ℕ) → length text ≡ 0 → None ≡ digits_of_of base text
unfolding digits_of_of
no_digits base [] e = refl
no_digits base (x ∷ xs) e = let z : ⊥ = omega arith in absurd z

pub some_digits : (base : ℕ) (text : List ℕ) → (length text ≡ 0 → ⊥) → digits_from base 0 text ≡ digits_of_of base text
unfolding digits_of_of
some_digits base [] n = absurd (n refl)
some_digits base (x ∷ xs) n = refl

module _ (base n : ℕ) (text : List ℕ) (i : ℕ) where
  pub digits_end : length text ≤ i → Some n ≡ digits_from base n (drop i text)
  unfolding digits_from
  digits_end h = rw (drop_of_length-le text h)

  module _ (inside : i < length text) where
    pub digits_stop : None ≡ with_digit base n (digit_of (get_or text i 0)) → None ≡ digits_from base n (drop i text)
    unfolding digits_from
    digits_stop e = rw (split text i inside, ← e)

    pub digits_more : (m : ℕ) → Some m ≡ with_digit base n (digit_of (get_or text i 0)) → digits_from base m (drop (i + 1) text) ≡ digits_from base n (drop i text)
    unfolding digits_from
    digits_more m e = rw (split text i inside, ← e)

-- ---- a number in base 10, or after 0x in base 16

module _ (text : List ℕ) (b : Bool) (e : pointwise eqb (take 2 text) (48 ∷ 120 ∷ []) ≡ b) where
  begins : alike (take 2 text) (bytes_of "0x") ≡ b
  unfolding bytes_of
  begins = sym (alike_is (take 2 text) (48 ∷ 120 ∷ [])) ∙ e

  pub hexadecimal : b ≡ true → digits_of_of 16 (drop 2 text) ≡ number_of text
  unfolding number_of
  hexadecimal t = rw (begins, t)

  pub decimal : b ≡ false → digits_of_of 10 text ≡ number_of text
  unfolding number_of
  decimal t = rw (begins, t)

-- ---- numbers of fewer bits

pub none_at_most : (most : ℕ) (n : Option ℕ) → None ≡ n → None ≡ at_most most n
unfolding at_most
none_at_most most n e = ap (at_most most) e

-- whether a number is one up to `most`
pub within : (most : ℕ) (n : Option ℕ) (r : Bool) (test : ℕ → Type 0) → MatchOption n (r ≡ false) test → ((k : ℕ) → test k → r ≡ leb k most) → r ≡ is_some (at_most most n)
unfolding at_most
within most None r test h is = h
within most (Some k) r test h is = is k h ∙ go (leb k most)
  where
    go : (b : Bool) → b ≡ is_some (cond b (Some k) None)
    go true = refl
    go false = refl

below : (k most n : ℕ) → (n < 2 ^ k → ⊥) → 2 ^ k ≡ most + 1 → most < n
below k most n h w = omega arith

room : (minus : Bool) (n : ℕ) → mag (cond minus (neg_ℤ (pos n)) (pos n)) < 2 ^ 31 → n ≤ cond minus 0x80000000 0x7FFFFFFF
room true zero h = omega arith
room true (suc n) h = omega arith
room false n h = omega arith

no_room_for : (minus : Bool) (n : ℕ) → (mag (cond minus (neg_ℤ (pos n)) (pos n)) < 2 ^ 31 → ⊥) → cond minus 0x80000000 0x7FFFFFFF < n
no_room_for true zero h = absurd (h (omega arith))
no_room_for true (suc n) h = let k : 2 ^ 31 ≤ n = omega arith in omega arith
no_room_for false n h = omega arith

none_signed : (minus : Bool) (most : ℕ) (n : Option ℕ) → None ≡ n → None ≡ with_sign minus (at_most most n)
unfolding at_most with_sign
none_signed minus most n e = ap (λ (o : Option ℕ). with_sign minus (at_most most o)) e

small_turned : (n : ℕ) → n < 2 ^ 60 → mag (neg_ℤ (pos n)) < 2 ^ 63
small_turned zero h = omega arith
small_turned (suc n) h = omega arith

-- 64 bits hold a number below 2^60 with its sign turned
pub sign_turned : (n : ℕ) → n < 2 ^ 60 → to_z w64 (of_z w64 (pos 0 -ℤ to_z w64 n)) ≡ neg_ℤ (pos n)
sign_turned n h =
    let number : pos 0 -ℤ to_z w64 n ≡ neg_ℤ (pos n) = ap (λ (z : ℤ). pos 0 -ℤ z) (to_z_pos w64 {n = n} (omega arith)) ∙ +ℤ_idl (neg_ℤ (pos n)) in
    ap (λ (z : ℤ). to_z w64 (of_z w64 z)) number ∙ to_z-of_z {w = w64} {z = neg_ℤ (pos n)} (record { sfits = small_turned n h })

module _ {E : Type 0} where
  pub low_bits : (k most n : ℕ) (r : Result ℕ E) → OkIff r (n < 2 ^ k) n → 2 ^ k ≡ most + 1 → (all : Option ℕ) → Some n ≡ all → result_ok r ≡ at_most most all
  unfolding at_most
  low_bits k most n (Ok x) h w all e = let low = h.0 in rw (← e, le-leb n most (omega (arith, w)), h.1)
  low_bits k most n (Err x) h w all e = rw (← e, lt-leb n most (below k most n h w))

  pub signed_bits : (minus : Bool) (n : ℕ) (z : ℤ) → z ≡ cond minus (neg_ℤ (pos n)) (pos n) → (r : Result ℤ E) → OkIff r (SFits w32 z) z → (all : Option ℕ) → Some n ≡ all
      → result_ok r ≡ with_sign minus (at_most (cond minus 0x80000000 0x7FFFFFFF) all)
  unfolding at_most with_sign
  signed_bits minus n z is (Ok x) h all e = rw (← e, le-leb n (cond minus 0x80000000 0x7FFFFFFF) (room minus n (rw is at h.0.sfits)), h.1, is)
  signed_bits minus n z is (Err x) h all e = rw (← e, lt-leb n (cond minus 0x80000000 0x7FFFFFFF) (no_room_for minus n (λ k. h (record { sfits = rw is k }))))

-- ---- a number with or without a sign

module _ (text : List ℕ) (minus : Bool) (e : pointwise eqb (take 1 text) (45 ∷ []) ≡ minus) where
  is_sign : is_negative text ≡ minus
  unfolding is_negative bytes_of
  is_sign = sym (alike_is (take 1 text) (45 ∷ [])) ∙ e

  pub behind_sign : minus ≡ true → magnitude text ≡ number_of (drop 1 text)
  unfolding magnitude
  behind_sign t = rw (is_sign, t)

  pub without_sign : minus ≡ false → magnitude text ≡ number_of text
  unfolding magnitude
  without_sign t = rw (is_sign, t)

  pub not_signed : None ≡ magnitude text → None ≡ signed32 text
  unfolding signed32
  not_signed n = none_signed (is_negative text) (cond (is_negative text) 0x80000000 0x7FFFFFFF) (magnitude text) n

  pub is_signed : {E : Type 0} (n : ℕ) (z : ℤ) → z ≡ cond minus (neg_ℤ (pos n)) (pos n) → (r : Result ℤ E) → OkIff r (SFits w32 z) z → Some n ≡ magnitude text → result_ok r ≡ signed32 text
  unfolding signed32
  is_signed n z is r h m = rw is_sign (signed_bits minus n z is r h (magnitude text) m)

-- ---- a list's numbers

pub items_from : (signed k : ℕ) (ps : List (List ℕ)) → list_all (λ (p : ℕ × List ℕ). cond (ltb (p.0) signed) (is_signed32 (p.1)) (is_number32 (p.1))) (enumerate_from k ps) ≡ numbers_from signed k ps
unfolding numbers_from
items_from signed k [] = refl
items_from signed k (p ∷ ps) = ap (λ (b : Bool). cond (ltb k signed) (is_signed32 p) (is_number32 p) && b) (rw (← add-one k) (items_from signed (k + 1) ps))

module _ (count signed : ℕ) (list : List ℕ) where
  pub miscounted : (n : ℕ) → n ≡ length (items_of 44 list) → (n ≡ count → ⊥) → eqb n count ≡ are_numbers count signed list
  unfolding are_numbers
  miscounted n e h = rw (← e, ne_eqb n count h)

  pub counted : (n : ℕ) → n ≡ length (items_of 44 list) → n ≡ count → numbers_from signed 0 (items_of 44 list) ≡ are_numbers count signed list
  unfolding are_numbers
  counted n e h = rw (← e, eq-eqb n count h)
