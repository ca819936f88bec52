-- Laws of blocks and of a row's codes.
use Rattle.std.proofs.Common.{◌≡◌, ℕ, zero, suc, ◌+◌, ◌-◌, ◌*◌, ◌/◌, ◌<◌, ◌≤◌, Bool, true, false, cond, not, eqb, ltb, List, [], ◌∷◌, ◌++◌, length, get_or, drop, sym, refl, ap, ◌∙◌, mul-le-mul_left, add-one, arith, length-append, length-drop, drop_of_length-le, drop-cons, drop-drop, ltb-true, le-ltb, lt-ltb, eq-eqb, ne_eqb}
use Rattle.rows.specs.declared.blocks.Block.{Block}
use Rattle.rows.specs.declared.blocks.Block.TheVariants.{Pair, Absolute}
use Rattle.rows.specs.Packing.{packed}
use Rattle.rows.specs.RleCodes.{depth_of, cells, scan, lone, same, run_length, gather_length, choose, block, block_at, width, bytes, size, codes, row_codes}
use Rattle.leaves.proofs.ListLaws.{length-tab}
use Rattle.rows.proofs.Scans.{length-cells, scan_step}

pub depth_le : (four : Bool) → depth_of four ≤ 8
depth_le true = omega arith
depth_le false = omega arith

-- ---- scans

-- a scan's count is at least what it began with, and at most 255 and the cells that there were
pub record Scanned (n l r : ℕ) : Type 0 where
  pub more : n ≤ r
  pub most : r ≤ 255
  pub within : r ≤ n + l

pub scanned : (on : ℕ → List ℕ → Bool) (n : ℕ) (xs : List ℕ) → n ≤ 255 → Scanned n (length xs) (scan on n xs)
unfolding scan
scanned on n [] h = omega arith
scanned on n (x ∷ xs) h = go (ltb n 255) refl (on x xs) (λ k. scanned on (n + 1) xs k)
  where
    go : (b : Bool) → ltb n 255 ≡ b → (t : Bool) → (n + 1 ≤ 255 → Scanned (n + 1) (length xs) (scan on (n + 1) xs))
        → Scanned n (suc (length xs)) (cond b (cond t (scan on (n + 1) xs) n) n)
    go false e t f = omega arith
    go true e false f = omega arith
    go true e true f =
        let k = ltb-true n 255 e in
        let s = f (omega arith) in
        omega arith

-- where a run is of one cell, the next is another
pub run-one : (d : ℕ) (row : List ℕ) (at : ℕ) → at + 1 < length row → run_length (get_or (cells d row) at 0) (drop (at + 1) (cells d row)) ≤ 1
    → not (eqb (get_or (cells d row) at 0) (get_or (cells d row) (at + 1) 0)) ≡ true
run-one d row at h r =
    let v = get_or (cells d row) at 0 in
    let w = get_or (cells d row) (at + 1) 0 in
    ap not
    (ne_eqb v w
    (λ e.
    let s = scan_step (same v) d row 1 (at + 1) (at + 2) (omega arith) h (omega arith) (eq-eqb w v (sym e)) in
    let m = (scanned (same v) 2 (drop (at + 2) (cells d row)) (omega arith)).more in
    omega (arith, s, m)))

-- ---- blocks

pub choose_cases : (P : Block → Type 0) (r g x : ℕ) (xs : List ℕ)
    → (1 < r → P (Pair r x x)) → (2 < g → P (Absolute g)) → P (Pair 1 x (get_or xs 0 0)) → P (choose r g x xs)
choose_cases P r g x xs f h k = go (ltb 1 r) refl (ltb 2 g) refl
  where
    go : (b : Bool) → ltb 1 r ≡ b → (t : Bool) → ltb 2 g ≡ t → P (cond b (Pair r x x) (cond t (Absolute g) (Pair 1 x (get_or xs 0 0))))
    go true e t d = f (ltb-true 1 r e)
    go false e true d = h (ltb-true 2 g d)
    go false e false d = k

-- the block at a place, from the counts there
module _ (xs : List ℕ) (at r v : ℕ) (er : r ≡ run_length (get_or xs at 0) (drop (at + 1) xs)) (ev : v ≡ get_or xs at 0) where
  pub block_run : 1 < r → Pair r v v ≡ block_at xs at
  block_run h = rw (er, ev, lt-ltb 1 _ (rw er at h))

  module _ (g : ℕ) (eg : g ≡ gather_length (drop (at + 1) xs)) (h : r ≤ 1) where
    pub block_absolute : 2 < g → Absolute g ≡ block_at xs at
    block_absolute k = rw (eg, le-ltb 1 _ (rw er at h), lt-ltb 2 _ (rw eg at k))

    pub block_single : (w : ℕ) → w ≡ get_or (drop (at + 1) xs) 0 0 → g ≤ 2 → Pair 1 v w ≡ block_at xs at
    block_single w ew k = rw (ev, ew, le-ltb 1 _ (rw er at h), le-ltb 2 _ (rw eg at k))

-- what a block's numbers are, of l cells that there are
pub record Sound (d l : ℕ) (b : Block) : Type 0 where
  pub some : 1 ≤ width b
  pub most : width b ≤ 255
  pub within : width b ≤ l
  pub low : 2 ≤ size d b
  pub short : size d b ≤ 2 * width b

absolute_sound : (d l g : ℕ) → d ≤ 8 → 2 < g → g ≤ 255 → g ≤ l → Sound d l (Absolute g)
absolute_sound d l g deep h k i =
    let m = mul-le-mul_left g deep in
    record { some = omega arith; most = k; within = i; low = omega arith; short = omega arith }

pair_sound : (d l n v w : ℕ) → 1 ≤ n → n ≤ 255 → n ≤ l → Sound d l (Pair n v w)
pair_sound d l n v w h k i = record { some = h; most = k; within = i; low = omega arith; short = omega arith }

pub block_sound : (d : ℕ) → d ≤ 8 → (x : ℕ) (xs : List ℕ) → Sound d (suc (length xs)) (block x xs)
block_sound d deep x xs =
    let r = scanned (same x) 1 xs (omega arith) in
    let g = scanned lone 1 xs (omega arith) in
    choose_cases (Sound d (suc (length xs))) (scan (same x) 1 xs) (scan lone 1 xs) x xs
    (λ h. pair_sound d _ _ _ _ (omega arith) (omega arith) (omega arith))
    (λ h. absolute_sound d _ _ deep h (omega arith) (omega arith))
    (pair_sound d _ _ _ _ (omega arith) (omega arith) (omega arith))

pub length-bytes : (d : ℕ) (b : Block) (ys : List ℕ) → length (bytes d b ys) ≡ size d b
unfolding bytes packed
length-bytes d (Pair n v w) ys = refl
length-bytes d (Absolute n) ys = simp length-tab (omega arith)

-- ---- codes

codes_skip : (d s : ℕ) (xs : List ℕ) → codes d s xs ≡ codes d 0 (drop s xs)
unfolding codes
codes_skip d zero xs = refl
codes_skip d (suc s) [] = refl
codes_skip d (suc s) (x ∷ xs) = codes_skip d s xs

-- the codes from a place on are the bytes of the block there, and the codes after it
pub codes_at : (d : ℕ) → d ≤ 8 → (xs : List ℕ) (at : ℕ) → at < length xs
    → codes d 0 (drop at xs)
    ≡ bytes d (block_at xs at) (drop at xs) ++ codes d 0 (drop (at + width (block_at xs at)) xs)
unfolding codes
codes_at d deep xs at h =
    let ys = drop (suc at) xs in
    let b = block (get_or xs at 0) ys in
    let s = block_sound d deep (get_or xs at 0) ys in
    let e : suc at + (width b - 1) ≡ at + width b = omega arith in
    let k : codes d (width b - 1) ys ≡ codes d 0 (drop (at + width b) xs) =
    codes_skip d (width b - 1) ys ∙ ap (λ (zs : List ℕ). codes d 0 zs) (drop-drop (width b - 1) (suc at) xs ∙ ap (λ (n : ℕ). drop n xs) e) in
    rw (add-one at, drop-cons xs at 0 h) (ap (λ (zs : List ℕ). bytes d b (get_or xs at 0 ∷ ys) ++ zs) k)

-- codes take two bytes a cell at most
codes_short : (d : ℕ) → d ≤ 8 → (s : ℕ) (xs : List ℕ) → length (codes d s xs) ≤ 2 * (length xs - s)
unfolding codes
codes_short d deep s [] = omega arith
codes_short d deep (suc s) (x ∷ xs) = let h = codes_short d deep s xs in omega arith
codes_short d deep zero (x ∷ xs) =
    let b = block x xs in
    let s = block_sound d deep x xs in
    let h = codes_short d deep (width b - 1) xs in
    omega (arith, length-append (bytes d b (x ∷ xs)) (codes d (width b - 1) xs), length-bytes d b (x ∷ xs))

-- document 01, Cells: "Row codes take at most 2 × width bytes"
pub row_short : (d : ℕ) → d ≤ 8 → (row : List ℕ) → length (row_codes d row) ≤ 2 * length row
unfolding row_codes
row_short d deep row = omega (arith, codes_short d deep 0 (cells d row), length-cells d row)

-- and two bytes for each 255 cells begun at least
codes_long : (d : ℕ) → d ≤ 8 → (s : ℕ) (xs : List ℕ) → 2 * ((length xs - s + 254) / 255) ≤ length (codes d s xs)
unfolding codes
codes_long d deep s [] = omega arith
codes_long d deep (suc s) (x ∷ xs) = let h = codes_long d deep s xs in omega arith
codes_long d deep zero (x ∷ xs) =
    let b = block x xs in
    let s = block_sound d deep x xs in
    let h = codes_long d deep (width b - 1) xs in
    omega (arith, length-append (bytes d b (x ∷ xs)) (codes d (width b - 1) xs), length-bytes d b (x ∷ xs))

pub row_long : (d : ℕ) → d ≤ 8 → (row : List ℕ) → 2 * ((length row + 254) / 255) ≤ length (row_codes d row)
unfolding row_codes
row_long d deep row =
    let e : length (cells d row) - 0 ≡ length row = omega (arith, length-cells d row) in
    rw e at (codes_long d deep 0 (cells d row))

-- ---- a turn of a loop over a row, at the block b of w cells and s bytes

pub record Turn (d : ℕ) (row : List ℕ) (at w s : ℕ) : Type 0 where
  pub some : 1 ≤ w
  pub most : w ≤ 255
  pub within : at + w ≤ length row
  pub low : 2 ≤ s
  pub short : s ≤ 2 * w
  pub split : length (codes d 0 (drop at (cells d row))) ≡ s + length (codes d 0 (drop (at + w) (cells d row)))

module _ (d : ℕ) (deep : d ≤ 8) (row : List ℕ) (at : ℕ) (h : at < length row) (b : Block) (eb : b ≡ block_at (cells d row) at) where
  pub sound_at : Sound d (length row - at) b
  sound_at =
      let xs = cells d row in
      let s : Sound d (suc (length (drop (at + 1) xs))) (block_at xs at) = block_sound d deep (get_or xs at 0) (drop (at + 1) xs) in
      let e : suc (length (drop (at + 1) xs)) ≡ length row - at = omega (arith, length-drop (at + 1) xs, length-cells d row) in
      rw (eb, ← e) s

  pub turn : (w s : ℕ) → w ≡ width b → s ≡ size d b → Turn d row at w s
  turn w s ew es =
      let xs = cells d row in
      let z = sound_at in
      let k : at < length xs = rw length-cells h in
      let i : length (codes d 0 (drop at xs)) ≡ s + length (codes d 0 (drop (at + w) xs)) =
      ap length (codes_at d deep xs at k)
      ∙ length-append (bytes d (block_at xs at) (drop at xs)) (codes d 0 (drop (at + width (block_at xs at)) xs))
      ∙ rw (← eb, length-bytes d b (drop at xs), ew, es) in
      record {
        some = omega arith;
        most = omega arith;
        within = omega arith;
        low = omega arith;
        short = omega arith;
        split = i;
      }

-- past the row's end there are no codes
pub codes_none : (d : ℕ) (row : List ℕ) (at : ℕ) → length row ≤ at → codes d 0 (drop at (cells d row)) ≡ []
unfolding codes
codes_none d row at h = rw (drop_of_length-le (cells d row) {i = at} (rw length-cells h))
