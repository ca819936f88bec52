-- Laws of packed indices, and of loops that append cells to a row.
use Rattle.std.proofs.Common.{◌≡◌, ℕ, zero, suc, ◌+◌, ◌-◌, ◌*◌, ◌/◌, ◌%◌, ◌^◌, ◌<◌, ◌≤◌, Bool, true, false, ◌||◌, eqb, List, [], ◌∷◌, ◌++◌, length, get_or, take, drop, set, replicate, sym, refl, ap, ◌∙◌, subst, append-nil, lt_of_lt_of_le, mod-lt, suc-mul, add_comm, pow-suc, zero-mul, add-one, arith, length-append, get_or-drop, ext_get_or, pow_pos, pow-add, eqb-true}
use mathlib.Core.Bool.{false≢true}
use native.Mathlib.Nat.{zero-mod, pow-zero, pow-succ', pow-le-pow_right}
use lib.Arith.{digits_lt}
use lib.ListN.{length-replicate, get_or-eq_default}
use Rattle.leaves.specs.Lists.{tab, cat}
use Rattle.leaves.specs.Put.{put}
use Rattle.leaves.specs.Sizes.{has_table}
use Rattle.rows.specs.Packing.{digits, packed_byte_of, packed}
use Rattle.rows.specs.StoredRows.{padded}
use Rattle.leaves.proofs.ListLaws.{length-tab, get_or-tab, length-cat}
use Rattle.leaves.proofs.Puts.{put-append, put_sets, length-put, add_two}

-- what holds of the depths with a colour table: a byte has a whole number of cells
pub record Depth (d : ℕ) : Type 0 where
  pub some : 0 < d
  pub small : d ≤ 8
  pub few : 8 / d ≤ 8
  pub whole : 8 / d * d ≡ 8

-- the test for a colour table gives them
pub depth : (d : ℕ) → has_table d ≡ true → Depth d
depth d t = go (eqb d 1) (eqb d 2) (eqb d 4) (eqb d 8) refl refl refl refl t
  where
    one : Depth 1
    one = record { some = omega arith; small = omega arith; few = omega arith; whole = refl }

    two : Depth 2
    two = record { some = omega arith; small = omega arith; few = omega arith; whole = refl }

    four : Depth 4
    four = record { some = omega arith; small = omega arith; few = omega arith; whole = refl }

    eight : Depth 8
    eight = record { some = omega arith; small = omega arith; few = omega arith; whole = refl }

    go : (p q r s : Bool) → eqb d 1 ≡ p → eqb d 2 ≡ q → eqb d 4 ≡ r → eqb d 8 ≡ s → (p || q || r || s) ≡ true → Depth d
    go true q r s e f g h t = subst Depth (sym (eqb-true d 1 e)) one
    go false true r s e f g h t = subst Depth (sym (eqb-true d 2 f)) two
    go false false true s e f g h t = subst Depth (sym (eqb-true d 4 g)) four
    go false false false true e f g h t = subst Depth (sym (eqb-true d 8 h)) eight
    go false false false false e f g h t = let z : false ≡ true = t in absurd (false≢true z)

-- n digits to the base b make a number below b ^ n
pub digits_below : (b : ℕ) (f : ℕ → ℕ) (n : ℕ) → 0 < b → digits b f n < b ^ n
unfolding digits
digits_below b f zero p = rw (pow-zero b) (omega arith)
digits_below b f (suc n) p = rw (pow-suc b n) (digits_lt (digits_below b f n p) (mod-lt (f n) p))

-- a power of a power
pub pow-pow : (a d k : ℕ) → (a ^ d) ^ k ≡ a ^ (k * d)
pow-pow a d zero = simp (pow-zero, zero-mul)
pow-pow a d (suc k) = rw (pow-succ' (a ^ d) k, pow-pow a d k, suc-mul k d, add_comm (k * d) d, pow-add a d (k * d))

-- the cells of one byte fit it
pub digits_byte : {d : ℕ} → Depth d → (f : ℕ → ℕ) (n : ℕ) → n ≤ 8 / d → digits (2 ^ d) f n < 256
digits_byte {d} q f n h =
    let e : (2 ^ d) ^ (8 / d) ≡ 256 = pow-pow 2 d (8 / d) ∙ ap (λ (z : ℕ). 2 ^ z) q.whole in
    lt_of_lt_of_le (digits_below (2 ^ d) f n (pow_pos d)) (subst (λ (z : ℕ). (2 ^ d) ^ n ≤ z) e (pow-le-pow_right (pow_pos d) h))

-- one digit more
pub digits_more : (b : ℕ) (f : ℕ → ℕ) (n : ℕ) → digits b f (n + 1) ≡ digits b f n * b + f n % b
unfolding digits
digits_more b f n = rw (add-one n)

-- numbers are equal where their digits are
pub digits_ext : (b : ℕ) (f g : ℕ → ℕ) (n : ℕ) → ((j : ℕ) → j < n → f j ≡ g j) → digits b f n ≡ digits b g n
unfolding digits
digits_ext b f g zero h = refl
digits_ext b f g (suc n) h = rw (h n (omega arith), digits_ext b f g n (λ j l. h j (omega arith)))

pub digits_none : (b : ℕ) (f : ℕ → ℕ) (n : ℕ) → ((j : ℕ) → f j ≡ 0) → digits b f n ≡ 0
unfolding digits
digits_none b f zero h = refl
digits_none b f (suc n) h = rw (h n, digits_none b f n h, zero-mul b) (omega (arith, zero-mod b))

-- a byte that starts after the last cell is 0
pub byte_none : (d i : ℕ) (cells : List ℕ) → length cells ≤ i * (8 / d) → packed_byte_of d (λ x. get_or cells x 0) i ≡ 0
unfolding packed_byte_of
byte_none d i cells h = digits_none (2 ^ d) _ (8 / d) (λ j. get_or-eq_default cells 0 (omega arith))

-- zeros after a list change no element
zeros_at : (k i : ℕ) → get_or {A = ℕ} (replicate k 0) i 0 ≡ 0
zeros_at zero i = refl
zeros_at (suc k) zero = refl
zeros_at (suc k) (suc i) = zeros_at k i

get_or_zeros : (bytes : List ℕ) (k i : ℕ) → get_or (bytes ++ replicate k 0) i 0 ≡ get_or bytes i 0
get_or_zeros [] k i = zeros_at k i
get_or_zeros (b ∷ bytes) k zero = refl
get_or_zeros (b ∷ bytes) k (suc i) = get_or_zeros bytes k i

-- a cell of 8 bits is a byte
byte_8 : (cell : ℕ → ℕ) (i : ℕ) → cell i < 256 → packed_byte_of 8 cell i ≡ cell i
unfolding packed_byte_of digits
byte_8 cell i h = let e : i * 1 + 0 ≡ i = omega arith in rw e (omega arith)

-- bytes packed to 8 bits are themselves
pub packed_8 : (bytes : List ℕ) (n : ℕ) → ((i : ℕ) → get_or bytes i 0 < 256) → length bytes ≤ n → packed 8 bytes n ≡ padded n bytes
unfolding packed padded
packed_8 bytes n small h =
    let f : ℕ → ℕ = packed_byte_of 8 (λ x. get_or bytes x 0) in
    let l : length (tab f n) ≡ n = length-tab f n in
    ext_get_or 0 (tab f n) (bytes ++ replicate (n - length bytes) 0) (simp (length-tab, length-append, length-replicate) (omega arith)) (λ i k.
    get_or-tab f n i 0 (omega arith) ∙ byte_8 (λ x. get_or bytes x 0) i (small i) ∙ sym (get_or_zeros bytes (n - length bytes) i))

-- what is true of all places of a list and of 0 is true of all places of its beginnings
take_small : (n : ℕ) (xs : List ℕ) (b : ℕ) → 0 < b → ((k : ℕ) → get_or xs k 0 < b) → (k : ℕ) → get_or (take n xs) k 0 < b
take_small zero xs b p h k = p
take_small (suc n) [] b p h k = p
take_small (suc n) (x ∷ xs) b p h zero = h 0
take_small (suc n) (x ∷ xs) b p h (suc k) = take_small n xs b p (λ j. h (suc j)) k

-- and of its parts
pub part_small : (xs : List ℕ) (i n b : ℕ) → 0 < b → ((k : ℕ) → get_or xs k 0 < b) → (k : ℕ) → get_or (take n (drop i xs)) k 0 < b
part_small xs i n b p h = take_small n (drop i xs) b p (λ k. rw (get_or-drop i xs k 0) (h (i + k)))

-- one cell more is in place
pub put_cell : (d₀ d e : List ℕ) (at k x y o : ℕ) (f : ℕ → List ℕ) → ((i : ℕ) → length (f i) ≡ k) → d ≡ put d₀ at (cat f x) → e ≡ put d o (f x)
    → o ≡ at + x * k → y ≡ x + 1 → at + x * k ≤ length d₀ → e ≡ put d₀ at (cat f y)
unfolding cat
put_cell d₀ d e at k x y o f len was is place next room =
    let l : length (cat f x) ≡ x * k = length-cat f k x (λ i h. len i) in
    let p : o ≡ at + length (cat f x) = omega arith in
    rw (is, was, p, next, add-one x) (put-append d₀ at (cat f x) (f x) (omega arith))

-- one byte more is in place
pub put_byte : (d₀ d : List ℕ) (at x v : ℕ) (f : ℕ → ℕ) → v ≡ f x → d ≡ put d₀ at (tab f x) → at + x < length d₀ → set d (at + x) v ≡ put d₀ at (tab f (x + 1))
unfolding tab
put_byte d₀ d at x v f value was room =
    let l : length (tab f x) ≡ x = length-tab f x in
    let p : at + x ≡ at + length (tab f x) = omega arith in
    rw (value, was, p, add-one x)
    (put_sets (put d₀ at (tab f x)) (at + length (tab f x)) (f x ∷ []) (simp (length-put d₀ at (tab f x) (omega arith)) (omega arith))
    ∙ put-append d₀ at (tab f x) (f x ∷ []) (omega arith))

-- a row's bytes and then zeros, up to the stride
pub put-padded : (d₀ d e bytes : List ℕ) (at o z stride : ℕ) → d ≡ put d₀ at bytes → e ≡ put d o (replicate z 0) → o ≡ at + length bytes
    → z ≡ stride - length bytes → at + length bytes ≤ length d₀ → e ≡ put d₀ at (padded stride bytes)
unfolding padded
put-padded d₀ d e bytes at o z stride was is place size room =
    rw (is, was, place, size) (put-append d₀ at bytes (replicate (stride - length bytes) 0) room)

-- a row that needs no zeros
pub padded_full : (n : ℕ) (bytes : List ℕ) → n ≡ length bytes → padded n bytes ≡ bytes
unfolding padded
padded_full n bytes e = let z : n - length bytes ≡ 0 = omega arith in rw z (append-nil bytes)

-- three stores in a row
pub stores3 : (d : List ℕ) (o p q r : ℕ) → o + 3 ≤ length d → set (set (set d o p) (o + 1) q) (o + 2) r ≡ put d o (p ∷ q ∷ r ∷ [])
stores3 d o p q r h = simp (add-one, add_two) (put_sets d o (p ∷ q ∷ r ∷ []) h)
