-- Laws of cells that are packed by folding neighbours in a word.
use Rattle.std.proofs.Common.{◌≡◌, ℕ, zero, suc, ◌+◌, ◌-◌, ◌*◌, ◌/◌, ◌%◌, ◌^◌, ◌<◌, ◌≤◌, true, List, [], ◌∷◌, sym, refl, ap, ◌∙◌, subst, ap₂, inl, inr, add-zero, add-suc, mod-lt, mod-eq_of_lt, mul_assoc, mul_comm, add-mul, pow-suc, div-add-mod', zero-mul, mul-one, mul_right_comm, arith, pow_pos, pow_mono, pow-add}
use native.Mathlib.Nat.{pow-zero}
use lib.Arith.{digits_lt, digits_div, digits_mod}
use lib.Bits.{bit_and, bit_or, and_block, or_block, or_lt, or_shifted, and_mask, and_zero_r}
use lib.Pow.{ones_lt}
use Rattle.leaves.specs.Lists.{tab}
use Rattle.leaves.specs.Put.{put}
use Rattle.leaves.specs.Sizes.{has_table}
use Rattle.rows.specs.Packing.{digits, packed_byte_of, FoldedDepth}
use Rattle.rows.specs.Words.{word, lanes}
use Rattle.leaves.proofs.ListLaws.{tab_ext}
use Rattle.rows.proofs.PackLaws.{Depth, depth, digits_below, digits_byte, digits_ext, pow-pow}
use Rattle.rows.proofs.WordLaws.{word_and}

-- ---- lanes

lanes_ext : (b : ℕ) (f g : ℕ → ℕ) (n : ℕ) → ((i : ℕ) → f i ≡ g i) → lanes b f n ≡ lanes b g n
unfolding lanes
lanes_ext b f g zero h = refl
lanes_ext b f g (suc n) h = rw (h 0, lanes_ext b (λ i. f (suc i)) (λ i. g (suc i)) n (λ i. h (suc i)))

lanes-lt : (b : ℕ) (f : ℕ → ℕ) (n : ℕ) → ((i : ℕ) → f i < b) → lanes b f n < b ^ n
unfolding lanes
lanes-lt b f zero h = rw (pow-zero b) (omega arith)
lanes-lt b f (suc n) h = rw (pow-suc b n) (digits_lt (lanes-lt b (λ i. f (suc i)) n (λ i. h (suc i))) (h 0))

lanes_scale : (b c : ℕ) (f : ℕ → ℕ) (n : ℕ) → lanes b f n * c ≡ lanes b (λ i. f i * c) n
unfolding lanes
lanes_scale b c f zero = zero-mul c
lanes_scale b c f (suc n) =
    rw (add-mul (lanes b (λ i. f (suc i)) n * b) (f 0) c, mul_right_comm (lanes b (λ i. f (suc i)) n) b c, lanes_scale b c (λ i. f (suc i)) n)

-- the bytes of a word
word_lanes : (f : ℕ → ℕ) (k n : ℕ) → word f k n ≡ lanes 256 (λ i. f (k + i)) n
unfolding word lanes
word_lanes f k zero = refl
word_lanes f k (suc n) =
    let e : word f (k + 1) n ≡ lanes 256 (λ i. f (k + suc i)) n =
    word_lanes f (k + 1) n ∙ lanes_ext 256 (λ i. f (k + 1 + i)) (λ i. f (k + suc i)) n (λ i. ap f (omega arith)) in
    rw (e, add-zero k)

-- ---- one step: what d bits of two neighbouring lanes of k bits hold stands side by side in a lane twice as wide

module _ (k d : ℕ) (room : d + d ≤ k) where
  pair_lt : (p q : ℕ) → p < 2 ^ d → q < 2 ^ d → p * 2 ^ d + q < 2 ^ (d + d)
  pair_lt p q l m = rw (pow-add 2 d d) (digits_lt l m)

  wide : 2 ^ (d + d) ≤ 2 ^ k
  wide = pow_mono room

  narrow : 2 ^ d ≤ 2 ^ k
  narrow = pow_mono {i = d} {j = k} (omega arith)

  -- the two lowest lanes, below R; the mask drops what was shifted into the second
  pair : (R M p q : ℕ) → p < 2 ^ d → q < 2 ^ d
      → bit_and (bit_or (((R * 2 ^ k + q) * 2 ^ k + p) * 2 ^ d) (((R * 2 ^ k + q) * 2 ^ k + p) / 2 ^ k)) ((M * 2 ^ k + 0) * 2 ^ k + (2 ^ (d + d) - 1))
      ≡ (bit_and (bit_or (R * 2 ^ d) (R / 2 ^ k)) M * 2 ^ k + 0) * 2 ^ k + (p * 2 ^ d + q)
  pair R M p q l m =
      let b = 2 ^ k in
      let w = 2 ^ d in
      let up : ((R * b + q) * b + p) * w ≡ (R * w * b + q * w) * b + p * w =
      rw (add-mul ((R * b + q) * b) p w, mul_right_comm (R * b + q) b w, add-mul (R * b) q w, mul_right_comm R b w) in
      let down : ((R * b + q) * b + p) / b ≡ (R / b * b + R % b) * b + q =
      digits_div (R * b + q) (omega (arith, narrow)) ∙ ap (λ (z : ℕ). z * b + q) (sym (div-add-mod' R b)) in
      let pw : p * w < b = omega (arith, pair_lt p 0 l (pow_pos d), wide) in
      let qw : q * w < b = omega (arith, pair_lt q 0 m (pow_pos d), wide) in
      let s : p * w + q < b = omega (arith, pair_lt p q l m, wide) in
      let one : bit_or ((R * w * b + q * w) * b + p * w) ((R / b * b + R % b) * b + q) ≡ (bit_or (R * w) (R / b) * b + bit_or (q * w) (R % b)) * b + (p * w + q) =
      or_block k (R * w * b + q * w) (R / b * b + R % b) (p * w) q pw (omega (arith, narrow))
      ∙ ap₂ (λ (y z : ℕ). y * b + z) (or_block k (R * w) (R / b) (q * w) (R % b) qw (mod-lt R (pow_pos k))) (or_shifted p d q m) in
      ap₂ (λ (y z : ℕ). bit_and (bit_or y z) ((M * b + 0) * b + (2 ^ (d + d) - 1))) up down
      ∙ ap (λ (y : ℕ). bit_and y ((M * b + 0) * b + (2 ^ (d + d) - 1))) one
      ∙ and_block k (bit_or (R * w) (R / b) * b + bit_or (q * w) (R % b)) (M * b + 0) (p * w + q) (2 ^ (d + d) - 1) s (omega (arith, ones_lt (d + d), wide))
      ∙ ap₂ (λ (y z : ℕ). y * b + z)
      (and_block k (bit_or (R * w) (R / b)) M (bit_or (q * w) (R % b)) 0 (or_lt k (q * w) (R % b) qw (mod-lt R (pow_pos k))) (pow_pos k)
      ∙ ap (λ (z : ℕ). bit_and (bit_or (R * w) (R / b)) M * b + z) (and_zero_r (bit_or (q * w) (R % b))))
      (and_mask (p * w + q) (d + d) ∙ mod-eq_of_lt (pair_lt p q l m))

  -- all lanes at once
  fold_lanes : (f : ℕ → ℕ) (n : ℕ) → ((i : ℕ) → f i < 2 ^ d)
      → bit_and (bit_or (lanes (2 ^ k) f (n * 2) * 2 ^ d) (lanes (2 ^ k) f (n * 2) / 2 ^ k)) (lanes (2 ^ (k + k)) (λ _. 2 ^ (d + d) - 1) n)
      ≡ lanes (2 ^ (k + k)) (λ i. f (i * 2) * 2 ^ d + f (i * 2 + 1)) n
  unfolding lanes
  fold_lanes f zero h = and_zero_r (bit_or (0 * 2 ^ d) (0 / 2 ^ k))
  fold_lanes f (suc n) h =
      let R = lanes (2 ^ k) (λ i. f (suc (suc i))) (n * 2) in
      let M = lanes (2 ^ (k + k)) (λ _. 2 ^ (d + d) - 1) n in
      let t : suc n * 2 ≡ suc (suc (n * 2)) = omega arith in
      let square : (z : ℕ) → z * 2 ^ (k + k) ≡ (z * 2 ^ k + 0) * 2 ^ k =
      λ z. ap (λ (y : ℕ). z * y) (pow-add 2 k k) ∙ sym (mul_assoc z (2 ^ k) (2 ^ k)) ∙ ap (λ (y : ℕ). y * 2 ^ k) (sym (add-zero (z * 2 ^ k))) in
      let more : (i : ℕ) → f (suc (suc (i * 2))) * 2 ^ d + f (suc (suc (i * 2 + 1))) ≡ f (suc i * 2) * 2 ^ d + f (suc i * 2 + 1) =
      λ i.
      let u : suc (suc (i * 2)) ≡ suc i * 2 = omega arith in
      let v : suc (suc (i * 2 + 1)) ≡ suc i * 2 + 1 = omega arith in
      ap₂ (λ (y z : ℕ). f y * 2 ^ d + f z) u v in
      let rest : bit_and (bit_or (R * 2 ^ d) (R / 2 ^ k)) M ≡ lanes (2 ^ (k + k)) (λ i. f (suc i * 2) * 2 ^ d + f (suc i * 2 + 1)) n =
      fold_lanes (λ i. f (suc (suc i))) n (λ i. h (suc (suc i))) ∙ lanes_ext (2 ^ (k + k)) _ _ n more in
      rw (t, square M, square (lanes (2 ^ (k + k)) (λ i. f (suc i * 2) * 2 ^ d + f (suc i * 2 + 1)) n), ← rest)
      (pair R M (f 0) (f 1) (h 0) (h 1))

-- ---- cells

-- g cells from place i * g on, each of d bits
abbrev pub group : ℕ → ℕ → (ℕ → ℕ) → ℕ → ℕ
group d g cell i = digits (2 ^ d) (λ j. cell (i * g + j)) g

digits_append : (b : ℕ) (f : ℕ → ℕ) (m n : ℕ) → digits b f m * b ^ n + digits b (λ j. f (m + j)) n ≡ digits b f (m + n)
unfolding digits
digits_append b f m zero = rw (pow-zero b, mul-one, add-zero (digits b f m), add-zero m)
digits_append b f m (suc n) =
    rw (add-suc m n, pow-suc b n, ← mul_assoc (digits b f m) (b ^ n) b, ← digits_append b f m n, add-mul (digits b f m * b ^ n) (digits b (λ j. f (m + j)) n) b) (omega arith)

-- two groups that are neighbours
join : (d g : ℕ) (cell : ℕ → ℕ) (i : ℕ) → group d g cell (i * 2) * 2 ^ (g * d) + group d g cell (i * 2 + 1) ≡ group d (g + g) cell i
join d g cell i =
    let f : ℕ → ℕ = λ j. cell (i * (g + g) + j) in
    let p : digits (2 ^ d) (λ j. cell (i * 2 * g + j)) g ≡ digits (2 ^ d) f g =
    digits_ext (2 ^ d) _ _ g (λ j _. ap (λ (z : ℕ). cell (z + j)) twice) in
    let q : digits (2 ^ d) (λ j. cell ((i * 2 + 1) * g + j)) g ≡ digits (2 ^ d) (λ j. f (g + j)) g =
    digits_ext (2 ^ d) _ _ g (λ j _. ap cell (next j)) in
    rw (p, q, ← pow-pow 2 d g) (digits_append (2 ^ d) f g g)
  where
    twice : i * 2 * g ≡ i * (g + g)
    twice = mul_assoc i 2 g ∙ ap (λ (z : ℕ). i * z) (omega arith)

    next : (j : ℕ) → (i * 2 + 1) * g + j ≡ i * (g + g) + (g + j)
    next j = rw (add-mul (i * 2) 1 g, twice) (omega arith)

-- one step for every depth d and every group of g cells, and what its factor up, its divisor down and its mask m must be; the shift up drops nothing
pub fold_law : (d g k n x up down m r : ℕ) (cell : ℕ → ℕ) → g * d + g * d ≤ k → n * 2 * k ≡ 64 → x ≡ lanes (2 ^ k) (group d g cell) (n * 2)
    → r ≡ bit_and (bit_or (x * up % 2 ^ 64) (x / down)) m → up ≡ 2 ^ (g * d) → down ≡ 2 ^ k → m ≡ lanes (2 ^ (k + k)) (λ _. 2 ^ (g * d + g * d) - 1) n
    → r ≡ lanes (2 ^ (k + k)) (group d (g + g) cell) n
fold_law d g k n x up down m r cell room all e is width lane mask =
    let small : (i : ℕ) → group d g cell i < 2 ^ (g * d) =
    λ i. rw (← pow-pow 2 d g) (digits_below (2 ^ d) (λ j. cell (i * g + j)) g (pow_pos d)) in
    let fits : lanes (2 ^ k) (group d g cell) (n * 2) * 2 ^ (g * d) < 2 ^ 64 =
    rw (lanes_scale (2 ^ k) (2 ^ (g * d)) (group d g cell) (n * 2))
    (subst
    (λ (z : ℕ). lanes (2 ^ k) (λ i. group d g cell i * 2 ^ (g * d)) (n * 2) < z)
    (pow-pow 2 k (n * 2) ∙ ap (λ (z : ℕ). 2 ^ z) all)
    (lanes-lt (2 ^ k) (λ i. group d g cell i * 2 ^ (g * d)) (n * 2) (λ i.
    omega (arith, pair_lt k (g * d) room (group d g cell i) 0 (small i) (pow_pos (g * d)), wide k (g * d) room)))) in
    rw (is, width, lane, mask, e, mod-eq_of_lt fits)
    (fold_lanes k (g * d) room (group d g cell) n small ∙ lanes_ext (2 ^ (k + k)) _ (group d (g + g) cell) n (join d g cell))

-- before the first step each cell is cut to its depth
alone : (d : ℕ) (cell : ℕ → ℕ) (i : ℕ) → cell i % 2 ^ d ≡ group d 1 cell i
unfolding digits
alone d cell i = let u : i * 1 + 0 ≡ i = omega arith in rw u (omega arith)

pub cut_law : (d x m k : ℕ) (cell : ℕ → ℕ) → 2 ^ d - 1 < 256 → ((i : ℕ) → cell i < 256) → x ≡ word cell k 8 → m ≡ word (λ _. 2 ^ d - 1) k 8
    → bit_and x m ≡ lanes 256 (group d 1 (λ i. cell (k + i))) 8
cut_law d x m k cell l h e f =
    rw (e, f)
    (word_and cell (λ _. 2 ^ d - 1) h (λ _. l) k 8 ∙ word_lanes (λ i. bit_and (cell i) (2 ^ d - 1)) k 8
    ∙ lanes_ext 256 _ (group d 1 (λ i. cell (k + i))) 8 (λ i. and_mask (cell (k + i)) d ∙ alone d (λ i. cell (k + i)) i))

-- ---- the depths that are folded

pub folded_table : (d : ℕ) → FoldedDepth d → has_table d ≡ true
folded_table d (inl e) = rw e
folded_table d (inr e) = rw e

pub folded_some : (d : ℕ) → FoldedDepth d → 0 < d
folded_some d t = (depth d (folded_table d t)).some

pub folded_one : (d : ℕ) → FoldedDepth d → (d ≡ 2 → ⊥) → d ≡ 1
folded_one d (inl e) f = e
folded_one d (inr e) f = absurd (f e)

-- ---- the bytes of the lanes

-- they are read back
read : (d : ℕ) → FoldedDepth d → (f : ℕ → ℕ) → ((i : ℕ) → f i < 256) → tab (λ j. lanes (2 ^ (64 / d)) f d / 2 ^ (j * (64 / d)) % 256) d ≡ tab f d
unfolding tab lanes
read d (inl e) f h =
    let a : (0 * 2 ^ 64 + f 0) / 2 ^ 0 % 256 ≡ f 0 = omega (arith, h 0) in
    rw e (ap (λ (z : ℕ). z ∷ []) a)
read d (inr e) f h =
    let small : f 0 < 2 ^ 32 = omega (arith, h 0) in
    let a : ((0 * 2 ^ 32 + f 1) * 2 ^ 32 + f 0) / 2 ^ 0 % 256 ≡ f 0 = omega (arith, digits_mod (f 1 * 2 ^ 24) (h 0)) in
    let b : ((0 * 2 ^ 32 + f 1) * 2 ^ 32 + f 0) / 2 ^ 32 % 256 ≡ f 1 =
    ap (λ (z : ℕ). z % 256) (digits_div (0 * 2 ^ 32 + f 1) small) ∙ omega (arith, h 1) in
    rw e (ap₂ (λ (y z : ℕ). y ∷ z ∷ []) a b)

-- eight cells later in a row are d bytes later
later : {d : ℕ} → Depth d → (i j : ℕ) (cell : ℕ → ℕ) → packed_byte_of d (λ x. cell (i * 8 + x)) j ≡ packed_byte_of d cell (i * d + j)
unfolding packed_byte_of
later {d} q i j cell =
    digits_ext (2 ^ d) _ _ (8 / d) (λ x _.
    let e : (i * d + j) * (8 / d) ≡ i * 8 + j * (8 / d) =
    add-mul (i * d) j (8 / d) ∙ ap (λ (z : ℕ). z + j * (8 / d)) (mul_assoc i d (8 / d) ∙ ap (λ (z : ℕ). i * z) (mul_comm d (8 / d) ∙ q.whole)) in
    ap cell (rw e (omega arith)))

-- so the lanes of eight cells are the next d bytes of the row
pub put_eight : (d i o w at : ℕ) (was is : List ℕ) → FoldedDepth d → (cell : ℕ → ℕ) → o ≡ i * d → w ≡ lanes (2 ^ (64 / d)) (packed_byte_of d (λ x. cell (i * 8 + x))) d
    → is ≡ put was at (tab (λ j. w / 2 ^ (j * (64 / d)) % 256) d) → is ≡ put was at (tab (λ j. packed_byte_of d cell (o + j)) d)
unfolding packed_byte_of
put_eight d i o w at was is t cell place e f =
    let q = depth d (folded_table d t) in
    f ∙ ap (put was at) (rw (e, place) (read d t _ (λ j. digits_byte q _ (8 / d) (omega arith)) ∙ tab_ext _ _ d (λ j _. later q i j cell)))
