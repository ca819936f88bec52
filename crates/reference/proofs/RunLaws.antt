-- Where Rust's operations give a value.
use mathlib.Core.Path.{◌≡◌, refl, ap, ◌∙◌}
use mathlib.Core.Bool.{true, false, ◌&&◌}
use mathlib.Core.List.{List, ◌++◌}
use Prim.Native.Nat.{ℕ, zero, suc, ◌+◌, ◌-◌, ◌*◌, ◌/◌, ◌%◌, ◌^◌, ◌≤◌, ◌<◌}
use native.Mathlib.Omega.{arith}
use borrow.Author.Tests.{lt-ltb, le-leb, eq-eqb, ne_eqb}
use lib.Dec.{leb, eqb}
use lib.ListN.{length, get_or, set, take, drop}
use Rattle.leaves.proofs.Tests.{and_both}
use Rattle.reference.specs.Rust.{Run, done, ◌>>=◌, add, sub, mul, div, shl, shr, at, store, range, within, copy_from_slice, reserve, for}

pub add_is : (w a b : ℕ) → a + b < 2 ^ w → add w a b ≡ done (a + b)
unfolding add
add_is w a b h = rw (lt-ltb (a + b) (2 ^ w) h)

pub mul_is : (w a b : ℕ) → a * b < 2 ^ w → mul w a b ≡ done (a * b)
unfolding mul
mul_is w a b h = rw (lt-ltb (a * b) (2 ^ w) h)

pub sub_is : (a b : ℕ) → b ≤ a → sub a b ≡ done (a - b)
unfolding sub
sub_is a b h = rw (le-leb b a h)

pub div_is : (a b : ℕ) → 0 < b → div a b ≡ done (a / b)
unfolding div
div_is a b h = let e : eqb b 0 ≡ false = ne_eqb b 0 (λ z. omega (arith, z, h)) in rw e

pub shl_is : (w a k : ℕ) → k < w → shl w a k ≡ done (a * 2 ^ k % 2 ^ w)
unfolding shl
shl_is w a k h = rw (lt-ltb k w h)

pub shr_is : (w a k : ℕ) → k < w → shr w a k ≡ done (a / 2 ^ k)
unfolding shr
shr_is w a k h = rw (lt-ltb k w h)

pub at_is : (xs : List ℕ) (i : ℕ) → i < length xs → at xs i ≡ done (get_or xs i 0)
unfolding at
at_is xs i h = rw (lt-ltb i (length xs) h)

pub store_is : (xs : List ℕ) (i v : ℕ) → i < length xs → store xs i v ≡ done (set xs i v)
unfolding store
store_is xs i v h = rw (lt-ltb i (length xs) h)

pub range_is : (xs : List ℕ) (a b : ℕ) → a ≤ b → b ≤ length xs → range xs a b ≡ done (take (b - a) (drop a xs))
unfolding range
range_is xs a b h k = let e : (leb a b && leb b (length xs)) ≡ true = and_both (leb a b) (leb b (length xs)) (le-leb a b h) (le-leb b (length xs) k) in rw e

-- a part that becomes `new`
pub within_is : (xs : List ℕ) (a b : ℕ) (f : List ℕ → Run (List ℕ)) (new : List ℕ) → a ≤ b → b ≤ length xs → f (take (b - a) (drop a xs)) ≡ done new
    → within xs a b f ≡ done (take a xs ++ new ++ drop b xs)
unfolding within
within_is xs a b f new h k e =
    let t : (leb a b && leb b (length xs)) ≡ true = and_both (leb a b) (leb b (length xs)) (le-leb a b h) (le-leb b (length xs) k) in
    rw (t, e)

pub copy_is : (xs ys : List ℕ) → length xs ≡ length ys → copy_from_slice xs ys ≡ done ys
unfolding copy_from_slice
copy_is xs ys h = rw (eq-eqb (length xs) (length ys) h)

pub reserve_is : (out : List ℕ) (n : ℕ) → length out + n < 2 ^ 63 → reserve out n ≡ done out
unfolding reserve
reserve_is out n h = rw (lt-ltb (length out + n) (2 ^ 63) h)

-- a loop whose turn k takes `state k` to `state (k + 1)`
pub for_is : {S : Type 0} (body : ℕ → S → Run S) (state : ℕ → S) (n : ℕ) → ((k : ℕ) → k < n → body k (state k) ≡ done (state (suc k)))
    → for n body (state zero) ≡ done (state n)
unfolding for
for_is body state zero h = refl
for_is body state (suc n) h =
    let e = for_is body state n (λ k l. h k (omega arith)) in
    ap (λ r. r >>= body n) e ∙ h n (omega arith)
