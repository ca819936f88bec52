-- pack_indices: the index of each pixel, ored into a zeroed row, gives the packed row.
use mathlib.Core.Path.{◌≡◌, refl, sym, ap, ap₂, ◌∙◌, subst}
use mathlib.Core.Bool.{Bool, true, false, cond, ◌||◌, false≢true}
use mathlib.Core.List.{List, [], ◌∷◌}
use Prim.Native.Nat.{ℕ, zero, suc, ◌+◌, ◌-◌, ◌*◌, ◌/◌, ◌%◌, ◌^◌, ◌≤◌, ◌<◌}
use native.Mathlib.Nat.{mod-lt, mod-eq_of_lt, mul-one, pow-zero, pow-suc, zero-mul, suc-mul, zero-add, add-zero, add-suc, mul_assoc, div-add-mod', div-lt_iff_lt-mul}
use native.Mathlib.Omega.{arith}
use borrow.Author.Tests.{eqb-true, eqb-false}
use lib.Arith.{digits_div}
use lib.Bits.{bit_and, bit_or, or_shifted, or_zero_l, or_zero_r, and_mask}
use lib.Dec.{eqb}
use lib.ListN.{length, get_or, set, take, replicate, length-set, length-take, length-replicate, get_or-replicate, get_or-eq_default}
use lib.Pow.{pow_pos, pow-add, shl_lt, shl_exact}
use lib.Seq.{ext_get_or, get_or-set_same, get_or-set_other, set-get_or, get_or-take, take-length}
use Rattle.leaves.specs.Lists.{tab}
use Rattle.leaves.specs.Sizes.{has_table}
use Rattle.rows.specs.Packing.{digits, packed_byte_of, packed}
use Rattle.leaves.proofs.ListLaws.{length-tab, get_or-tab}
use Rattle.rows.proofs.PackLaws.{Depth, depth, packed_8, pow-pow}
use Rattle.reference.specs.Rust.{Run, done, ◌>>=◌, u8, sub, shl, store, for}
use Rattle.reference.specs.Packing.{or_at, index4, index2, index1, pack_indices}
use Rattle.reference.proofs.RunLaws.{sub_is, mul_is, shl_is, at_is, store_is, for_is}
use Rattle.reference.proofs.Slices.{copied_in}

-- ---- digits of which the last are 0

-- numbers are equal where their digits are
digits_same : (b : ℕ) (f g : ℕ → ℕ) (n : ℕ) → ((j : ℕ) → j < n → f j ≡ g j) → digits b f n ≡ digits b g n
unfolding digits
digits_same b f g zero h = refl
digits_same b f g (suc n) h = rw (digits_same b f g n (λ j l. h j (omega arith)), h n (omega arith))

-- zeros at the end move the others up
digits-tail : (b : ℕ) (f : ℕ → ℕ) (m r : ℕ) → 0 < b → ((j : ℕ) → m ≤ j → f j ≡ 0) → digits b f (m + r) ≡ digits b f m * b ^ r
unfolding digits
digits-tail b f m zero p h = rw (add-zero m, pow-zero b, mul-one)
digits-tail b f m (suc r) p h =
    let D : ℕ = digits b f m in
    let z : 0 % b ≡ 0 = mod-eq_of_lt p in
    rw (add-suc m r, h (m + r) (omega arith), digits-tail b f m r p h, pow-suc b r, z) (add-zero (D * b ^ r * b) ∙ mul_assoc D (b ^ r) b)

digits_none : (b : ℕ) (f : ℕ → ℕ) (n : ℕ) → 0 < b → ((j : ℕ) → f j ≡ 0) → digits b f n ≡ 0
unfolding digits
digits_none b f n p h = ap (digits b f) (sym (zero-add n)) ∙ digits-tail b f 0 n p (λ j _. h j) ∙ zero-mul (b ^ n)

-- where a number has only zeros from place m on, the digit there can be ored in
digit_in : (d : ℕ) (f g : ℕ → ℕ) (m r : ℕ) → ((j : ℕ) → j < m → g j ≡ f j) → ((j : ℕ) → m ≤ j → f j ≡ 0) → ((j : ℕ) → m < j → g j ≡ 0)
    → digits (2 ^ d) g (suc m + r) ≡ bit_or (digits (2 ^ d) f (suc m + r)) (g m % 2 ^ d * 2 ^ (r * d))
unfolding digits
digit_in d f g m r same f0 g0 =
    let b : ℕ = 2 ^ d in
    let D : ℕ = digits b f m in
    let c : ℕ = g m % b in
    let one : suc m + r ≡ m + suc r = omega arith in
    let more : suc r * d ≡ d + r * d = omega (arith, suc-mul r d) in
    let up : digits b f (suc m + r) ≡ D * 2 ^ (d + r * d) =
    ap (digits b f) one ∙ digits-tail b f m (suc r) (pow_pos d) f0 ∙ ap (λ (z : ℕ). D * z) (pow-pow 2 d (suc r) ∙ ap (λ (z : ℕ). 2 ^ z) more) in
    digits-tail b g (suc m) r (pow_pos d) g0
    ∙ ap₂ (λ (x y : ℕ). (x * b + c) * y) (digits_same b g f m same) (pow-pow 2 d r)
    ∙ spread D b c (2 ^ (r * d))
    ∙ ap (λ (z : ℕ). D * z + c * 2 ^ (r * d)) (sym (pow-add 2 d (r * d)))
    ∙ sym (or_shifted D (d + r * d) (c * 2 ^ (r * d)) (shl_lt d (r * d) (mod-lt (g m) (pow_pos d))))
    ∙ ap (λ (z : ℕ). bit_or z (c * 2 ^ (r * d))) (sym up)
  where
    spread : (a b c e : ℕ) → (a * b + c) * e ≡ a * (b * e) + c * e
    spread a b c e = omega (arith, mul_assoc a b e)

-- ---- the row of which x pixels are in

-- one element more changes no other
take_other : (xs : List ℕ) (x j : ℕ) → (j ≡ x → ⊥) → get_or (take (suc x) xs) j 0 ≡ get_or (take x xs) j 0
take_other [] zero j ne = refl
take_other [] (suc x) j ne = refl
take_other (y ∷ ys) zero zero ne = absurd (ne refl)
take_other (y ∷ ys) zero (suc j) ne = refl
take_other (y ∷ ys) (suc x) zero ne = refl
take_other (y ∷ ys) (suc x) (suc j) ne = take_other ys x j (λ e. ne (ap suc e))

-- what is not in yet is 0
take_past : (xs : List ℕ) (x j : ℕ) → x ≤ j → get_or (take x xs) j 0 ≡ 0
take_past xs x j h = get_or-eq_default (take x xs) 0 (simp length-take (omega arith))

-- lists by places that differ in one byte
set-tab : (f g : ℕ → ℕ) (n at : ℕ) → ((i : ℕ) → (i ≡ at → ⊥) → g i ≡ f i) → set (tab f n) at (g at) ≡ tab g n
set-tab f g n at same =
    ext_get_or 0 (set (tab f n) at (g at)) (tab g n) (simp (length-set, length-tab)) (λ i l.
    let k : i < n = omega (arith, simp (length-set, length-tab) at l) in
    go i k (eqb i at) refl ∙ sym (get_or-tab g n i 0 k))
  where
    go : (i : ℕ) → i < n → (b : Bool) → eqb i at ≡ b → get_or (set (tab f n) at (g at)) i 0 ≡ g i
    go i k true q =
        let p : i ≡ at = eqb-true i at q in
        rw p (get_or-set_same (tab f n) at (g at) 0 (omega (arith, length-tab f n)))
    go i k false q = get_or-set_other (tab f n) at i (g at) 0 (eqb-false i at q) ∙ get_or-tab f n i 0 k ∙ sym (same i (eqb-false i at q))

-- index x of `src`, cut to d bits and ored into its place; the first of a byte's stands highest
abbrev ored : ℕ → List ℕ → ℕ → List ℕ → List ℕ
ored d src x dst = set dst (x / (8 / d)) (bit_or (get_or dst (x / (8 / d)) 0) (get_or src x 0 % 2 ^ d * 2 ^ ((8 / d - suc (x % (8 / d))) * d)))

module _ {d : ℕ} (q : Depth d) (src : List ℕ) where
  -- indices to a byte
  abbrev k : ℕ
  k = 8 / d

  some : 0 < k
  some = go k q.whole
    where
      go : (c : ℕ) → c * d ≡ 8 → 0 < c
      go zero e = let z : 0 * d ≡ 0 = zero-mul d in omega arith
      go (suc c) e = omega arith

  -- byte i of the first x pixels
  byte : ℕ → ℕ → ℕ
  byte x = packed_byte_of d (λ j. get_or (take x src) j 0)

  -- what pixel x adds to its byte
  moved : ℕ → ℕ
  moved x = get_or src x 0 % 2 ^ d * 2 ^ ((k - suc (x % k)) * d)

  -- its byte
  byte_next : (x : ℕ) → byte (suc x) (x / k) ≡ bit_or (byte x (x / k)) (moved x)
  unfolding packed_byte_of byte moved
  byte_next x =
      let m : ℕ = x % k in
      let i : ℕ = x / k in
      let below : m < k = mod-lt x some in
      let r : ℕ = k - suc m in
      let whole : suc m + r ≡ k = omega arith in
      let place : i * k + m ≡ x = div-add-mod' x k in
      let f : ℕ → ℕ = λ j. get_or (take x src) (i * k + j) 0 in
      let g : ℕ → ℕ = λ j. get_or (take (suc x) src) (i * k + j) 0 in
      let at : g m ≡ get_or src x 0 = ap (λ (z : ℕ). get_or (take (suc x) src) z 0) place ∙ get_or-take (suc x) src x 0 (omega arith) in
      let e : digits (2 ^ d) g (suc m + r) ≡ bit_or (digits (2 ^ d) f (suc m + r)) (g m % 2 ^ d * 2 ^ (r * d)) =
      digit_in d f g m r (λ j l. take_other src x (i * k + j) (λ z. omega arith)) (λ j l. take_past src x (i * k + j) (omega arith))
      (λ j l. take_past src (suc x) (i * k + j) (omega arith)) in
      ap (digits (2 ^ d) g) (sym whole) ∙ e ∙ ap₂ (λ (a b : ℕ). bit_or (digits (2 ^ d) f a) (b % 2 ^ d * 2 ^ (r * d))) whole at

  -- and the others
  byte_other : (x i : ℕ) → (i ≡ x / k → ⊥) → byte (suc x) i ≡ byte x i
  unfolding packed_byte_of byte
  byte_other x i ne =
      digits_same (2 ^ d) (λ j. get_or (take (suc x) src) (i * k + j) 0) (λ j. get_or (take x src) (i * k + j) 0) k (λ j l.
      take_other src x (i * k + j) (λ z. ne (sym (digits_div i l) ∙ ap (λ (y : ℕ). y / k) z)))

  -- before its first pixel a byte is 0
  fresh : (x : ℕ) → x % k ≡ 0 → byte x (x / k) ≡ 0
  unfolding packed_byte_of byte
  fresh x e =
      digits_none (2 ^ d) (λ j. get_or (take x src) (x / k * k + j) 0) k (pow_pos d) (λ j.
      take_past src x (x / k * k + j) (omega (arith, div-add-mod' x k)))

  -- before the first pixel all bytes are
  none_in : (n : ℕ) → replicate n 0 ≡ tab (byte 0) n
  unfolding packed_byte_of byte
  none_in n =
      ext_get_or 0 (replicate n 0) (tab (byte 0) n) (simp (length-replicate, length-tab)) (λ i l.
      let h : i < n = omega (arith, length-replicate {A = ℕ} n 0) in
      get_or-replicate n i 0 0 h ∙ sym (get_or-tab (byte 0) n i 0 h ∙ digits_none (2 ^ d) (λ j. get_or (take 0 src) (i * k + j) 0) k (pow_pos d) (λ j. refl)))

  -- a loop whose turn x ors pixel x into its byte; where that is the byte's first pixel, the turn may count on a zero
  indices_in : (n : ℕ) (body : ℕ → List ℕ → Run (List ℕ)) → length src ≤ n * k
      → ((x : ℕ) (dst : List ℕ) → x < length src → x / k < length dst → (x % k ≡ 0 → get_or dst (x / k) 0 ≡ 0) → body x dst ≡ done (ored d src x dst))
      → for (length src) body (replicate n 0) ≡ done (packed d src n)
  unfolding packed byte moved
  indices_in n body room turn =
      ap (for (length src) body) (none_in n)
      ∙ for_is body (λ x. tab (byte x) n) (length src) (λ x l.
      let row : List ℕ = tab (byte x) n in
      let small : x / k < n = (div-lt_iff_lt-mul some).1 (omega arith) in
      let at : get_or row (x / k) 0 ≡ byte x (x / k) = get_or-tab (byte x) n (x / k) 0 small in
      let now : bit_or (get_or row (x / k) 0) (moved x) ≡ byte (suc x) (x / k) = ap (λ (b : ℕ). bit_or b (moved x)) at ∙ sym (byte_next x) in
      turn x row l (rw (length-tab (byte x) n) small) (λ z. at ∙ fresh x z)
      ∙ ap done (ap (set row (x / k)) now ∙ set-tab (byte x) (byte (suc x)) n (x / k) (byte_other x)))
      ∙ ap (λ (row : List ℕ). done (packed d row n)) (take-length src)

-- ---- the turns of the three loops

or_at_is : (dst : List ℕ) (i v : ℕ) → i < length dst → or_at dst i v ≡ done (set dst i (bit_or (get_or dst i 0) v))
unfolding or_at
or_at_is dst i v h = rw (at_is dst i h, store_is dst i (bit_or (get_or dst i 0) v) h)

module _ (src dst : List ℕ) (x : ℕ) (h : x < length src) where
  -- the first nibble of a byte is stored over what was there
  turn4 : x / 2 < length dst → (x % 2 ≡ 0 → get_or dst (x / 2) 0 ≡ 0) → index4 src x dst ≡ done (ored 4 src x dst)
  unfolding index4
  turn4 l fresh = rw (at_is src x h, low) (go (eqb (bit_and x 1) 0) refl)
    where
      low : bit_and (get_or src x 0) 15 ≡ get_or src x 0 % 16
      low = and_mask (get_or src x 0) 4

      go : (b : Bool) → eqb (bit_and x 1) 0 ≡ b
          → cond (eqb (bit_and x 1) 0) (shl u8 (get_or src x 0 % 16) 4 >>= store dst (x / 2)) (or_at dst (x / 2) (get_or src x 0 % 16)) ≡ done (ored 4 src x dst)
      go true e =
          let p : x % 2 ≡ 0 = sym (and_mask x 1) ∙ eqb-true (bit_and x 1) 0 e in
          let v : get_or src x 0 % 16 * 2 ^ 4 % 2 ^ 8 ≡ get_or src x 0 % 16 * 16 = shl_exact 4 4 8 (mod-lt (get_or src x 0) (omega arith)) (omega arith) in
          rw (e, shl_is 8 (get_or src x 0 % 16) 4 (omega arith), v, store_is dst (x / 2) (get_or src x 0 % 16 * 16) l, fresh p, p, or_zero_l (get_or src x 0 % 16 * 16))
      go false e =
          let p : x % 2 ≡ 1 = omega (arith, and_mask x 1, eqb-false (bit_and x 1) 0 e) in
          rw (e, p) (or_at_is dst (x / 2) (get_or src x 0 % 16) l ∙ ap (λ (v : ℕ). done (set dst (x / 2) (bit_or (get_or dst (x / 2) 0) v))) (sym (mul-one (get_or src x 0 % 16))))

  turn2 : x / 4 < length dst → index2 src x dst ≡ done (ored 2 src x dst)
  unfolding index2
  turn2 l =
      let low : bit_and (get_or src x 0) 3 ≡ get_or src x 0 % 4 = and_mask (get_or src x 0) 2 in
      let s : 6 - 2 * (x % 4) ≡ (4 - suc (x % 4)) * 2 = omega arith in
      let v : get_or src x 0 % 4 * 2 ^ ((4 - suc (x % 4)) * 2) % 2 ^ 8 ≡ get_or src x 0 % 4 * 2 ^ ((4 - suc (x % 4)) * 2) =
      shl_exact 2 ((4 - suc (x % 4)) * 2) 8 (mod-lt (get_or src x 0) (omega arith)) (omega arith) in
      rw (at_is src x h, low, mul_is 64 2 (x % 4) (omega arith), sub_is 6 (2 * (x % 4)) (omega arith), s, shl_is 8 (get_or src x 0 % 4) ((4 - suc (x % 4)) * 2) (omega arith), v)
      (or_at_is dst (x / 4) (get_or src x 0 % 4 * 2 ^ ((4 - suc (x % 4)) * 2)) l)

  -- a bit that is 0 is left out
  turn1 : x / 8 < length dst → index1 src x dst ≡ done (ored 1 src x dst)
  unfolding index1
  turn1 l = rw (at_is src x h, low) (go (eqb (get_or src x 0 % 2) 0) refl)
    where
      low : bit_and (get_or src x 0) 1 ≡ get_or src x 0 % 2
      low = and_mask (get_or src x 0) 1

      go : (b : Bool) → eqb (get_or src x 0 % 2) 0 ≡ b
          → cond (eqb (get_or src x 0 % 2) 0) (done dst) (sub 7 (x % 8) >>= shl u8 1 >>= or_at dst (x / 8)) ≡ done (ored 1 src x dst)
      go true e =
          let p : get_or src x 0 % 2 ≡ 0 = eqb-true (get_or src x 0 % 2) 0 e in
          rw (e, p, zero-mul (2 ^ ((8 - suc (x % 8)) * 1)), or_zero_r (get_or dst (x / 8) 0)) (ap done (sym (set-get_or dst (x / 8) 0)))
      go false e =
          let p : get_or src x 0 % 2 ≡ 1 = omega (arith, eqb-false (get_or src x 0 % 2) 0 e) in
          let s : 7 - x % 8 ≡ (8 - suc (x % 8)) * 1 = omega arith in
          let v : 1 * 2 ^ ((8 - suc (x % 8)) * 1) % 2 ^ 8 ≡ 1 * 2 ^ ((8 - suc (x % 8)) * 1) = shl_exact 1 ((8 - suc (x % 8)) * 1) 8 (omega arith) (omega arith) in
          rw (e, sub_is 7 (x % 8) (omega arith), s, shl_is 8 1 ((8 - suc (x % 8)) * 1) (omega arith), v, p) (or_at_is dst (x / 8) (1 * 2 ^ ((8 - suc (x % 8)) * 1)) l)

-- what holds of 1, 2, 4 and 8 holds of each depth with a colour table
by_depth : (P : ℕ → Type 0) → P 1 → P 2 → P 4 → P 8 → (d : ℕ) → has_table d ≡ true → P d
by_depth P one two four eight d t = go (eqb d 1) (eqb d 2) (eqb d 4) (eqb d 8) refl refl refl refl t
  where
    go : (p q r s : Bool) → eqb d 1 ≡ p → eqb d 2 ≡ q → eqb d 4 ≡ r → eqb d 8 ≡ s → (p || q || r || s) ≡ true → P d
    go true q r s e f g h t = subst P (sym (eqb-true d 1 e)) one
    go false true r s e f g h t = subst P (sym (eqb-true d 2 f)) two
    go false false true s e f g h t = subst P (sym (eqb-true d 4 g)) four
    go false false false true e f g h t = subst P (sym (eqb-true d 8 h)) eight
    go false false false false e f g h t = let z : false ≡ true = t in absurd (false≢true z)

-- indices packed into zeros
pub indices_is : (src : List ℕ) (n d : ℕ) → has_table d ≡ true → ((k : ℕ) → get_or src k 0 < 256) → length src * d ≤ n * 8
    → pack_indices src d (replicate n 0) ≡ done (packed d src n)
unfolding pack_indices
indices_is src n d t small =
    by_depth (λ (d : ℕ). length src * d ≤ n * 8 → pack_indices src d (replicate n 0) ≡ done (packed d src n))
    (λ h. indices_in (depth 1 refl) src n (index1 src) (omega arith) (λ x dst l r _. turn1 src dst x l r))
    (λ h. indices_in (depth 2 refl) src n (index2 src) (omega arith) (λ x dst l r _. turn2 src dst x l r))
    (λ h. indices_in (depth 4 refl) src n (index4 src) (omega arith) (λ x dst l r z. turn4 src dst x l r z))
    (λ h. copied_in src n (omega arith) ∙ ap done (sym (packed_8 src n small (omega arith)))) d t
