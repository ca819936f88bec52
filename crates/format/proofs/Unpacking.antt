-- Packed cells are read back as the cells that they were packed from, cut to the depth: once for every depth with a colour table.
use mathlib.Core.Path.{◌≡◌, refl, sym, ap, ◌∙◌, subst}
use mathlib.Core.Logic.{◌⊎◌, inl, inr}
use mathlib.Core.Bool.{Bool, true, false, cond}
use mathlib.Core.List.{List, [], ◌∷◌, ◌++◌}
use Prim.Native.Nat.{ℕ, zero, suc, ◌+◌, ◌-◌, ◌*◌, ◌/◌, ◌%◌, ◌^◌, ◌≤◌, ◌<◌}
use native.Mathlib.Nat.{mod-lt, div-one, pow-zero, pow-succ', div-div-eq-div-mul, div-add-mod', div-lt_iff_lt-mul, mul-le-mul_right, lt_of_mul-lt-mul_right, add-zero, add-suc, zero-mul, zero-add}
use native.Mathlib.Omega.{arith}
use lib.Arith.{digits_div, digits_mod}
use lib.Dec.{eqb}
use lib.ListN.{length, get_or, take, get_or-append}
use lib.Pow.{pow_pos}
use lib.Seq.{ext_get_or, get_or-take, length-take-le}
use Rattle.leaves.specs.Lists.{tab}
use Rattle.rows.specs.Packing.{digits, packed_byte_of, packed}
use Rattle.rows.specs.RleCodes.{data_bytes}
use Rattle.format.specs.Decode.{cell_at, pair_cell, data_read}
use Rattle.leaves.proofs.ListLaws.{length-tab, get_or-tab}
use Rattle.rows.proofs.PackLaws.{pow-pow, Depth, depth}

-- ---- digits

-- the digit with k digits after it
digit_go : (b : ℕ) (f : ℕ → ℕ) (j k : ℕ) → 0 < b → digits b f (suc j + k) / b ^ k % b ≡ f j % b
unfolding digits
digit_go b f j zero p = rw (add-zero (suc j), pow-zero b, div-one) (digits_mod (digits b f j) (mod-lt (f j) p))
digit_go b f j (suc k) p =
    rw (add-suc (suc j) k, pow-succ' b k, ← div-div-eq-div-mul, digits_div (digits b f (suc j + k)) (mod-lt (f (suc j + k)) p)) (digit_go b f j k p)

-- digit j of n digits to the base b, k of them after it, is read back
pub digit_at : (b : ℕ) (f : ℕ → ℕ) (j k n : ℕ) → suc j + k ≡ n → 0 < b → digits b f n / b ^ k % b ≡ f j % b
digit_at b f j k n e p = rw e at (digit_go b f j k p)

-- ---- packed cells, k to a byte

module _ (d k : ℕ) (whole : k * d ≡ 8) (byte : 8 / d ≡ k) where
  cell_bits : (i j : ℕ) → (i * k + j) * d ≡ i * 8 + j * d
  cell_bits i j = omega (arith, ap (λ (z : ℕ). i * z) whole)

  in_byte : (j : ℕ) → j < k → j * d + d ≤ 8
  in_byte j h = omega (arith, mul-le-mul_right d h, whole)

  byte_cell : (cell : ℕ → ℕ) (i j : ℕ) → j < k → packed_byte_of d cell i / 2 ^ (8 - d - j * d) % 2 ^ d ≡ cell (i * k + j) % 2 ^ d
  unfolding packed_byte_of
  byte_cell cell i j h =
      let r : ℕ = k - suc j in
      let e : suc j + r ≡ k = omega arith in
      let p : 8 - d - j * d ≡ r * d = omega (arith, ap (λ (z : ℕ). z * d) e, whole) in
      rw (p, byte, ← pow-pow 2 d r) (digit_at (2 ^ d) (λ m. cell (i * k + m)) j r k e (pow_pos d))

  cell_go : (cell : ℕ → ℕ) (n i j : ℕ) → 0 < d → i < n → j < k → cell_at d (tab (packed_byte_of d cell) n) (i * k + j) ≡ cell (i * k + j) % 2 ^ d
  unfolding cell_at
  cell_go cell n i j s l h =
      let b : j * d < 8 = omega (arith, in_byte j h) in
      rw (cell_bits i j, digits_div i b, digits_mod i b, get_or-tab (packed_byte_of d cell) n i 0 l) (byte_cell cell i j h)

  packed_go : (cells : List ℕ) (n x : ℕ) → 0 < d → 0 < k → x < n * k → cell_at d (packed d cells n) x ≡ get_or cells x 0 % 2 ^ d
  unfolding packed
  packed_go cells n x s p h =
      subst (λ (z : ℕ). cell_at d (packed d cells n) z ≡ get_or cells z 0 % 2 ^ d) (div-add-mod' x k)
      (cell_go (λ z. get_or cells z 0) n (x / k) (x % k) s ((div-lt_iff_lt-mul p).1 h) (mod-lt x p))

some_cells : (d k : ℕ) → k * d ≡ 8 → 0 < k
some_cells d zero e = absurd (omega (arith, zero-mul d))
some_cells d (suc k) e = omega arith

-- cell x of n packed bytes is index x, cut to the depth
pub packed-at : {d : ℕ} → Depth d → (cells : List ℕ) (n x : ℕ) → x * d < n * 8 → cell_at d (packed d cells n) x ≡ get_or cells x 0 % 2 ^ d
packed-at {d} q cells n x h =
    packed_go d (8 / d) q.whole refl cells n x q.some (some_cells d (8 / d) q.whole)
    (lt_of_mul-lt-mul_right d (omega (arith, ap (λ (z : ℕ). n * z) q.whole)))

-- cells within the first bytes do not depend on what follows
pub cell_at-append : (d : ℕ) (xs bs : List ℕ) (x : ℕ) → x * d < length xs * 8 → cell_at d (xs ++ bs) x ≡ cell_at d xs x
unfolding cell_at
cell_at-append d xs bs x h = rw (get_or-append xs bs 0 (x * d / 8) (omega arith))

-- ---- what a reader needs of the depth: RLE4's and RLE8's have it

-- the byte of a pair of the indices v and w
abbrev pub pair_byte : ℕ → ℕ → ℕ → ℕ
pair_byte d v w = packed_byte_of d (λ j. get_or (v ∷ w ∷ []) j 0) 0

pub record Codable (d : ℕ) : Type 0 where
  pub packs : Depth d
  -- a run's cells are all v
  pub run : (v j : ℕ) → v < 2 ^ d → pair_cell d (pair_byte d v v) j ≡ v
  -- the first cell of any pair is its first index
  pub first : (v w : ℕ) → v < 2 ^ d → pair_cell d (pair_byte d v w) 0 ≡ v

halves : (b : Bool) (x y v : ℕ) → x ≡ v → y ≡ v → cond b x y ≡ v
halves true x y v e f = e
halves false x y v e f = f

run4 : (v j : ℕ) → v < 16 → pair_cell 4 (pair_byte 4 v v) j ≡ v
unfolding pair_cell packed_byte_of digits
run4 v j h =
    let e : v % 16 ≡ v = omega arith in
    let high : (v * 16 + v) / 16 ≡ v = omega arith in
    let low : (v * 16 + v) % 16 ≡ v = omega arith in
    rw (e, zero-add v) (halves (eqb (j % 2) 0) ((v * 16 + v) / 16) ((v * 16 + v) % 16) v high low)

first4 : (v w : ℕ) → v < 16 → pair_cell 4 (pair_byte 4 v w) 0 ≡ v
unfolding pair_cell packed_byte_of digits
first4 v w h = omega arith

first8 : (v w j : ℕ) → v < 256 → pair_cell 8 (pair_byte 8 v w) j ≡ v
unfolding pair_cell packed_byte_of digits
first8 v w j h = omega arith

codable4 : Codable 4
codable4 = record { packs = depth 4 refl; run = run4; first = first4 }

codable8 : Codable 8
codable8 = record { packs = depth 8 refl; run = λ v j h. first8 v v j h; first = λ v w h. first8 v w 0 h }

-- the depths of RLE
pub codable : {d : ℕ} → (d ≡ 4) ⊎ (d ≡ 8) → Codable d
codable (inl e) = subst Codable (sym e) codable4
codable (inr e) = subst Codable (sym e) codable8

-- the reader rounds up to an even count of bytes as the coder does
pub data_read_lem : (d n : ℕ) → data_read d n ≡ data_bytes d n
unfolding data_read
data_read_lem d n = omega arith

-- ---- lists

-- the first n elements, by their places
pub take-tab : (l : List ℕ) (n : ℕ) → n ≤ length l → take n l ≡ tab (λ i. get_or l i 0) n
take-tab l n h =
    ext_get_or 0 (take n l) (tab (λ i. get_or l i 0) n) (length-take-le n l h ∙ sym (length-tab (λ i. get_or l i 0) n))
    (λ i b. let c : i < n = omega (arith, length-take-le n l h) in get_or-take n l i 0 c ∙ sym (get_or-tab (λ i. get_or l i 0) n i 0 c))
