-- The numbers of a command: decimal, or after 0x hexadecimal; some with a sign.
use Rattle.std.specs.Prelude.{Bool, true, cond, ◌&&◌, ◌||◌, Option, Some, None, is_some, List, [], ◌∷◌, ℕ, suc, ◌+◌, ◌-◌, ◌*◌, ◌^◌, eqb, ltb, leb, ℤ, pos, neg_ℤ, length, take, drop}
use Rattle.std.specs.Option.{option_and_then}
use Rattle.leaves.specs.Texts.{bytes_of}
use Rattle.arguments.specs.Words.{up_to, items_of, alike}

-- a digit's value, its place among the digits; none for any other byte
unfoldable pub digit_of : ℕ → Option ℕ
digit_of byte = let place = length (up_to byte (bytes_of "0123456789abcdefABCDEF")) in cond (ltb place 22) (Some (cond (ltb place 16) place (place - 6))) None

-- a number with one more digit; none where that is no digit of the base, or the number has no room for it
unfoldable pub with_digit : ℕ → ℕ → Option ℕ → Option ℕ
with_digit base n None = None
with_digit base n (Some d) = cond (leb base d || leb (2 ^ 56) n) None (Some (n * base + d))

-- a number with the digits that are left
unfoldable pub digits_from : ℕ → ℕ → List ℕ → Option ℕ
digits_from base n [] = Some n
digits_from base n (x ∷ xs) = option_and_then (λ m. digits_from base m xs) (with_digit base n (digit_of x))

unfoldable pub digits_of_of : ℕ → List ℕ → Option ℕ
digits_of_of base [] = None
digits_of_of base (x ∷ xs) = digits_from base 0 (x ∷ xs)

unfoldable pub number_of : List ℕ → Option ℕ
number_of xs = cond (alike (take 2 xs) (bytes_of "0x")) (digits_of_of 16 (drop 2 xs)) (digits_of_of 10 xs)

unfoldable pub is_number : List ℕ → Bool
is_number xs = is_some (number_of xs)

-- a number up to `most`
unfoldable pub at_most : ℕ → Option ℕ → Option ℕ
at_most most None = None
at_most most (Some n) = cond (leb n most) (Some n) None

unfoldable pub number16 : List ℕ → Option ℕ
number16 xs = at_most 0xFFFF (number_of xs)

unfoldable pub number32 : List ℕ → Option ℕ
number32 xs = at_most 0xFFFFFFFF (number_of xs)

unfoldable pub is_number32 : List ℕ → Bool
is_number32 xs = is_some (number32 xs)

unfoldable pub is_negative : List ℕ → Bool
is_negative xs = alike (take 1 xs) (bytes_of "-")

-- the number behind a minus sign, or without one
unfoldable pub magnitude : List ℕ → Option ℕ
magnitude xs = cond (is_negative xs) (number_of (drop 1 xs)) (number_of xs)

-- a number behind a minus sign where there is one
unfoldable pub with_sign : Bool → Option ℕ → Option ℤ
with_sign minus None = None
with_sign minus (Some n) = Some (cond minus (neg_ℤ (pos n)) (pos n))

-- the number with or without a sign that a text is
unfoldable pub signed32 : List ℕ → Option ℤ
signed32 xs = with_sign (is_negative xs) (at_most (cond (is_negative xs) 0x80000000 0x7FFFFFFF) (magnitude xs))

unfoldable pub is_signed32 : List ℕ → Bool
is_signed32 xs = is_some (signed32 xs)

-- whether the items from k on are numbers, those before `signed` with or without a sign
unfoldable pub numbers_from : ℕ → ℕ → List (List ℕ) → Bool
numbers_from signed k [] = true
numbers_from signed k (p ∷ ps) = cond (ltb k signed) (is_signed32 p) (is_number32 p) && numbers_from signed (suc k) ps

-- whether a list has `count` numbers, of which the first `signed` may have a sign
unfoldable pub are_numbers : ℕ → ℕ → List ℕ → Bool
are_numbers count signed list = eqb (length (items_of 44 list)) count && numbers_from signed 0 (items_of 44 list)
