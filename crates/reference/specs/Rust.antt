-- Rust's statements on values. A function that may panic or return Err gives a `Run`; `e?` and the order of statements are the do block's.
use Rattle.std.specs.Prelude.{ℕ, zero, suc, ◌+◌, ◌-◌, ◌*◌, ◌/◌, ◌%◌, ◌^◌, min, Bool, true, false, cond, ◌&&◌, List, [], ◌∷◌, ◌++◌, ltb, leb, eqb, length, get_or, set, take, drop, replicate}

-- each Err of encoder.rs that `encode_source` can reach, by its text
pub data Error : Type 0 where
  zero_dimension requires_palette mutually_exclusive : Error
  bitfields_bpp mask_exceeds mask_not_contiguous mask_overlaps no_colour_mask bitfields_source : Error
  plane_truncated stride_below_row : Error
  pixel_array_overflows file_overflows over_limit not_addressable rle_over_limit : Error

-- the variants of `BmpError` that encoder.rs makes here
pub data Kind : Type 0 where
  InvalidData Unsupported : Kind

-- the constructor at each Err's site, `Error::invalid(..)` or `Error::unsupported(..)`
abbrev pub kind_of : Error → Kind
kind_of zero_dimension = InvalidData
kind_of requires_palette = InvalidData
kind_of mutually_exclusive = Unsupported
kind_of bitfields_bpp = InvalidData
kind_of mask_exceeds = InvalidData
kind_of mask_not_contiguous = InvalidData
kind_of mask_overlaps = InvalidData
kind_of no_colour_mask = InvalidData
kind_of bitfields_source = Unsupported
kind_of plane_truncated = InvalidData
kind_of stride_below_row = InvalidData
kind_of pixel_array_overflows = Unsupported
kind_of file_overflows = Unsupported
kind_of over_limit = Unsupported
kind_of not_addressable = Unsupported
kind_of rle_over_limit = Unsupported

-- what a run comes to: a value, an Err, or a panic; a loop whose count is used up counts as a panic too
pub data Run (A : Type 0) : Type 0 where
  done : A → Run A
  fails : Error → Run A
  panics : Run A

infixl 1 ◌>>=◌
abbrev pub ◌>>=◌ : {A B : Type 0} → Run A → (A → Run B) → Run B
done a >>= f = f a
fails e >>= f = fails e
panics >>= f = panics

infixl 1 ◌>>◌
abbrev pub ◌>>◌ : {A B : Type 0} → Run A → Run B → Run B
m >> n = m >>= λ _. n

pub data Option (A : Type 0) : Type 0 where
  some : A → Option A
  none : Option A

-- if b { return Err(e); }
abbrev pub fail_if : Bool → Error → Run (Unit {0})
fail_if b e = cond b (fails e) (done tt)

-- Option::ok_or
abbrev pub ok_or : {A : Type 0} → Option A → Error → Run A
ok_or (some a) e = done a
ok_or none e = fails e

abbrev pub is_some : {A : Type 0} → Option A → Bool
is_some (some a) = true
is_some none = false

-- a && b, where b is run only if a holds
abbrev pub and_then : Bool → Run Bool → Run Bool
and_then a b = cond a b (done false)

-- ---- numbers of w bits: an overflow panics

abbrev pub u8 : ℕ
u8 = 8

abbrev pub u32 : ℕ
u32 = 32

abbrev pub u64 : ℕ
u64 = 64

abbrev pub usize : ℕ
usize = 64

unfoldable pub add : ℕ → ℕ → ℕ → Run ℕ
add w a b = cond (ltb (a + b) (2 ^ w)) (done (a + b)) panics

unfoldable pub mul : ℕ → ℕ → ℕ → Run ℕ
mul w a b = cond (ltb (a * b) (2 ^ w)) (done (a * b)) panics

unfoldable pub sub : ℕ → ℕ → Run ℕ
sub a b = cond (leb b a) (done (a - b)) panics

unfoldable pub div : ℕ → ℕ → Run ℕ
div a b = cond (eqb b 0) panics (done (a / b))

-- a << k drops the bits above w; a shift by w or more panics
unfoldable pub shl : ℕ → ℕ → ℕ → Run ℕ
shl w a k = cond (ltb k w) (done (a * 2 ^ k % 2 ^ w)) panics

unfoldable pub shr : ℕ → ℕ → ℕ → Run ℕ
shr w a k = cond (ltb k w) (done (a / 2 ^ k)) panics

-- !a, a.wrapping_add(b), a.checked_add(b), a.checked_mul(b), a.saturating_mul(b), a.saturating_sub(b), a as uw
abbrev pub complement : ℕ → ℕ → ℕ
complement w a = 2 ^ w - 1 - a

abbrev pub wrapping_add : ℕ → ℕ → ℕ → ℕ
wrapping_add w a b = (a + b) % 2 ^ w

unfoldable pub checked_add : ℕ → ℕ → ℕ → Option ℕ
checked_add w a b = cond (ltb (a + b) (2 ^ w)) (some (a + b)) none

unfoldable pub checked_mul : ℕ → ℕ → ℕ → Option ℕ
checked_mul w a b = cond (ltb (a * b) (2 ^ w)) (some (a * b)) none

abbrev pub saturating_mul : ℕ → ℕ → ℕ → ℕ
saturating_mul w a b = min (a * b) (2 ^ w - 1)

abbrev pub saturating_sub : ℕ → ℕ → ℕ
saturating_sub a b = a - b

abbrev pub cast : ℕ → ℕ → ℕ
cast w a = a % 2 ^ w

-- a.clamp(least, most): Ord::clamp asserts least <= most
unfoldable pub clamp : ℕ → ℕ → ℕ → Run ℕ
clamp a least most = cond (leb least most) (done (cond (ltb a least) least (cond (ltb most a) most a))) panics

-- an i32 is its 32 bits: -a of one that is not negative, a.unsigned_abs()
unfoldable pub negated : ℕ → Run ℕ
negated a = cond (eqb a 0x80000000) panics (done ((2 ^ 32 - a) % 2 ^ 32))

abbrev pub unsigned_abs : ℕ → ℕ
unsigned_abs a = cond (ltb a 0x80000000) a (2 ^ 32 - a)

-- a.to_le_bytes(), of n bytes
unfoldable pub to_le_bytes : ℕ → ℕ → List ℕ
to_le_bytes zero a = []
to_le_bytes (suc n) a = a % 256 ∷ to_le_bytes n (a / 256)

-- ---- slices: an index or a range outside panics

-- xs[i]
unfoldable pub at : List ℕ → ℕ → Run ℕ
at xs i = cond (ltb i (length xs)) (done (get_or xs i 0)) panics

-- xs[i] = v
unfoldable pub store : List ℕ → ℕ → ℕ → Run (List ℕ)
store xs i v = cond (ltb i (length xs)) (done (set xs i v)) panics

-- &xs[a..b]
unfoldable pub range : List ℕ → ℕ → ℕ → Run (List ℕ)
range xs a b = cond (leb a b && leb b (length xs)) (done (take (b - a) (drop a xs))) panics

-- what `f` does to &mut xs[a..b]
unfoldable pub within : List ℕ → ℕ → ℕ → (List ℕ → Run (List ℕ)) → Run (List ℕ)
within xs a b f = cond (leb a b && leb b (length xs)) (f (take (b - a) (drop a xs)) >>= λ part. done (take a xs ++ part ++ drop b xs)) panics

-- xs.copy_from_slice(ys)
unfoldable pub copy_from_slice : List ℕ → List ℕ → Run (List ℕ)
copy_from_slice xs ys = cond (eqb (length xs) (length ys)) (done ys) panics

-- debug_assert_eq!(xs, ys)
unfoldable pub assert_equal : List ℕ → List ℕ → Run (Unit {0})
assert_equal [] [] = done tt
assert_equal [] (y ∷ ys) = panics
assert_equal (x ∷ xs) [] = panics
assert_equal (x ∷ xs) (y ∷ ys) = cond (eqb x y) (assert_equal xs ys) panics

-- ---- a Vec is a list

abbrev pub push : List ℕ → ℕ → List ℕ
push out a = out ++ (a ∷ [])

abbrev pub extend : List ℕ → List ℕ → List ℕ
extend out bytes = out ++ bytes

-- a capacity over isize::MAX panics
unfoldable pub reserve : List ℕ → ℕ → Run (List ℕ)
reserve out n = cond (ltb (length out + n) (2 ^ 63)) (done out) panics

abbrev pub truncate : List ℕ → ℕ → List ℕ
truncate out n = take n out

-- out.resize(n, 0), where n is no less than out.len()
abbrev pub resize : List ℕ → ℕ → List ℕ
resize out n = out ++ replicate (n - length out) 0

-- ---- loops

-- for x in 0..n { body }
unfoldable pub for : {S : Type 0} → ℕ → (ℕ → S → Run S) → S → Run S
for zero body s = done s
for (suc n) body s = for n body s >>= body n

-- for a in items { body }
unfoldable pub for_each : {A S : Type 0} → List A → (A → S → Run S) → S → Run S
for_each [] body s = done s
for_each (a ∷ rest) body s = body a s >>= for_each rest body

-- a turn of a loop goes on, or leaves it
pub data Turn (S : Type 0) : Type 0 where
  next : S → Turn S
  leave : S → Turn S

abbrev pub turned : {S : Type 0} → (S → Run S) → Turn S → Run S
turned again (next s) = again s
turned again (leave s) = done s

-- loop { body }, of at most `count` turns
unfoldable pub loop : {S : Type 0} → ℕ → (S → Run (Turn S)) → S → Run S
loop zero body s = panics
loop (suc count) body s = body s >>= turned (loop count body)

-- while test { body }
abbrev pub while : {S : Type 0} → ℕ → (S → Run Bool) → (S → Run S) → S → Run S
while count test body = loop count (λ s. test s >>= λ holds. cond holds (body s >>= λ t. done (next t)) (done (leave s)))
