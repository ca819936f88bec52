-- Laws of a block's bytes: an absolute block's data, a pair's indices, and a turn of the loop that writes a row.
use Rattle.std.proofs.Common.{◌≡◌, ℕ, zero, suc, ◌+◌, ◌-◌, ◌*◌, ◌/◌, ◌%◌, ◌^◌, ◌<◌, ◌≤◌, Bool, true, false, ltb, List, [], ◌∷◌, ◌++◌, length, get_or, take, drop, set, sym, refl, ap, ◌∙◌, mod-lt, arith, length-set, length-take, get_or-drop, get_or-take, pow_pos, ltb-false, ltb-true}
use native.Mathlib.Nat.{mod-mod}
use lib.ListN.{get_or-eq_default}
use Rattle.rows.specs.declared.blocks.Block.{Block}
use Rattle.rows.specs.declared.blocks.Block.TheVariants.{Pair, Absolute}
use Rattle.leaves.specs.Put.{put}
use Rattle.rows.specs.Packing.{digits, packed_byte_of, packed}
use Rattle.rows.specs.RleCodes.{cells, run_length, gather_length, block_at, data_bytes, bytes, size, width, codes}
use Rattle.leaves.proofs.ListLaws.{tab_ext}
use Rattle.leaves.proofs.Puts.{put-append, put-cons, put-nil}
use Rattle.rows.proofs.RleBlocks.{Sound, choose_cases, sound_at, turn, length-bytes, codes_at}
use Rattle.rows.proofs.Scans.{cell_at, length-cells}

-- ---- data

-- digits are cut to their places
digits_cut : (b : ℕ) (f g : ℕ → ℕ) (n : ℕ) → ((j : ℕ) → f j % b ≡ g j % b) → digits b f n ≡ digits b g n
unfolding digits
digits_cut b f g zero h = refl
digits_cut b f g (suc n) h = rw (digits_cut b f g n h, h n)

-- so packing indices is packing cells
pub packed_cut : (d : ℕ) (xs ys : List ℕ) (n : ℕ) → ((x : ℕ) → get_or xs x 0 % 2 ^ d ≡ get_or ys x 0 % 2 ^ d) → packed d xs n ≡ packed d ys n
unfolding packed packed_byte_of
packed_cut d xs ys n h =
    tab_ext _ _ n (λ i l. digits_cut (2 ^ d) (λ j. get_or xs (i * (8 / d) + j) 0) (λ j. get_or ys (i * (8 / d) + j) 0) (8 / d) (λ j. h (i * (8 / d) + j)))

-- the n cells from i on are the n indices from i on, cut
pub part_cut : (d : ℕ) (row : List ℕ) (i n x : ℕ) → get_or (take n (drop i row)) x 0 % 2 ^ d ≡ get_or (take n (drop i (cells d row))) x 0 % 2 ^ d
part_cut d row i n x = go (ltb x n) refl
  where
    go : (b : Bool) → ltb x n ≡ b → get_or (take n (drop i row)) x 0 % 2 ^ d ≡ get_or (take n (drop i (cells d row))) x 0 % 2 ^ d
    go true e =
        let h : x < n = ltb-true x n e in
        ap (λ (z : ℕ). z % 2 ^ d) (get_or-take n (drop i row) x 0 h ∙ get_or-drop i row x 0)
        ∙ sym (ap (λ (z : ℕ). z % 2 ^ d) (get_or-take n (drop i (cells d row)) x 0 h ∙ get_or-drop i (cells d row) x 0 ∙ cell_at d row (i + x)) ∙ mod-mod (get_or row (i + x) 0) (2 ^ d))
    go false e =
        let h : n ≤ x = ltb-false x n e in
        ap (λ (z : ℕ). z % 2 ^ d) (get_or-eq_default (take n (drop i row)) 0 (omega (arith, length-take n (drop i row))))
        ∙ sym (ap (λ (z : ℕ). z % 2 ^ d) (get_or-eq_default (take n (drop i (cells d row))) 0 (omega (arith, length-take n (drop i (cells d row))))))

-- ---- a pair's indices are cells

Small : ℕ → Block → Type 0
Small d (Pair n v w) = (v < 2 ^ d) × (w < 2 ^ d)
Small d (Absolute n) = Unit {0}

pub cell_small : (d : ℕ) (row : List ℕ) (k : ℕ) → get_or (cells d row) k 0 < 2 ^ d
cell_small d row k = rw (cell_at d row k) (mod-lt (get_or row k 0) (pow_pos d))

pair_small : (d : ℕ) (row : List ℕ) (i n v w : ℕ) → Pair n v w ≡ block_at (cells d row) i → (v < 2 ^ d) × (w < 2 ^ d)
unfolding Small
pair_small d row i n v w e =
    let xs = cells d row in
    let ys = drop (i + 1) xs in
    let x = get_or xs i 0 in
    let k : get_or ys 0 0 < 2 ^ d = rw (get_or-drop (i + 1) xs 0 0) (cell_small d row (i + 1 + 0)) in
    let s : Small d (block_at xs i) =
    choose_cases (Small d) (run_length x ys) (gather_length ys) x ys (λ h. (cell_small d row i, cell_small d row i)) (λ h. tt) (cell_small d row i, k) in
    rw (← e) at s

-- ---- what the block of a place asks of its row and of the buffer

module _ (d : ℕ) (deep : d ≤ 8) (row : List ℕ) (i : ℕ) (h : i < length row) (b : Block) (eb : b ≡ block_at (cells d row) i) (at l : ℕ) (room : at + size d b ≤ l) where
  pub pair_asks : (n v w : ℕ) → b ≡ Pair n v w → (n ≤ 255) × (at + 2 ≤ l) × ((v < 2 ^ d) × (w < 2 ^ d))
  pair_asks n v w e =
      let s : Sound d (length row - i) (Pair n v w) = rw e at (sound_at d deep row i h b eb) in
      (s.most, rw e at room, pair_small d row i n v w (sym e ∙ eb))

  pub absolute_asks : (n : ℕ) → b ≡ Absolute n → (i + n ≤ length row) × (n ≤ 255) × (at + 2 + data_bytes d n ≤ l)
  absolute_asks n e =
      let s : Sound d (length row - i) (Absolute n) = rw e at (sound_at d deep row i h b eb) in
      let r : at + (2 + data_bytes d n) ≤ l = rw e at room in
      (omega (arith, s.within), s.most, omega arith)

-- ---- stores

-- two stores, and what comes after
put_two : (d : List ℕ) (at x y : ℕ) (s : List ℕ) → at + 2 ≤ length d → put (set (set d at x) (at + 1) y) (at + 2) s ≡ put d at (x ∷ y ∷ s)
put_two d at x y s h =
    let e : at + 1 + 1 ≡ at + 2 = omega arith in
    sym (put-cons d at x (y ∷ s) (omega arith)
    ∙ put-cons (set d at x) (at + 1) y s (rw length-set (omega arith))
    ∙ ap (λ (k : ℕ). put (set (set d at x) (at + 1) y) k s) e)

pub put_pair : (d : List ℕ) (at x y z : ℕ) → at + 2 ≤ length d → y ≡ z → set (set d at x) (at + 1) y ≡ put d at (x ∷ z ∷ [])
put_pair d at x y z h e = rw (← e) (sym (put-nil (set (set d at x) (at + 1) y) (at + 2)) ∙ put_two d at x y [] h)

-- a block's bytes, at xs the cells from its place on
module _ (d : ℕ) (b : Block) (xs buf : List ℕ) (at n : ℕ) (room : at + 2 ≤ length buf) where
  pub pair_stored : (v w y : ℕ) → b ≡ Pair n v w → y ≡ packed_byte_of d (λ j. get_or (v ∷ w ∷ []) j 0) 0
      → (at + 2 ≡ at + size d b) × (set (set buf at n) (at + 1) y ≡ put buf at (bytes d b xs))
  unfolding bytes
  pair_stored v w y e f = (rw e, rw e (put_pair buf at n y _ room f))

  pub absolute_stored : (o : ℕ) (out : List ℕ) → b ≡ Absolute n → o ≡ at + 2 + data_bytes d n
      → out ≡ put (set (set buf at 0) (at + 1) n) (at + 2) (packed d (take n xs) (data_bytes d n)) → (o ≡ at + size d b) × (out ≡ put buf at (bytes d b xs))
  unfolding bytes
  absolute_stored o out e f is = (rw e (omega arith), rw e (is ∙ put_two buf at 0 n (packed d (take n xs) (data_bytes d n)) room))

-- ---- a turn of a loop that writes a row's codes: the block b at i is put at o, where all that is left of them is to be put; whole are those that the loop writes from at on

module _ (d : ℕ) (deep : d ≤ 8) (row : List ℕ) (i : ℕ) (h : i < length row) (b : Block) (eb : b ≡ block_at (cells d row) i)
    (whole : List ℕ) (o at l : ℕ) (left : o + length (codes d 0 (drop i (cells d row))) ≡ at + length whole) (room : at + length whole ≤ l) where
  pub block_fits : o + size d b ≤ l
  block_fits = let t = turn d deep row i h b eb (width b) (size d b) refl refl in omega (arith, t.split)

  pub turn_put : (buf₀ buf buf' : List ℕ) (o' w : ℕ) → buf' ≡ put buf o (bytes d b (drop i (cells d row))) → o' ≡ o + size d b → w ≡ width b → l ≡ length buf
      → put buf o (codes d 0 (drop i (cells d row))) ≡ put buf₀ at whole
      → (i + w ≤ length row) × (o' + length (codes d 0 (drop (i + w) (cells d row))) ≡ at + length whole)
      × (put buf' o' (codes d 0 (drop (i + w) (cells d row))) ≡ put buf₀ at whole)
  turn_put buf₀ buf buf' o' w ed eo ew el was =
      let xs = cells d row in
      let t = turn d deep row i h b eb w (size d b) ew refl in
      let k : i < length xs = rw length-cells h in
      let g = length-bytes d b (drop i xs) in
      let s : codes d 0 (drop i xs) ≡ bytes d b (drop i xs) ++ codes d 0 (drop (i + w) xs) = rw (ew, eb) (codes_at d deep xs i k) in
      let q : o + length (bytes d b (drop i xs)) ≡ o' = omega arith in
      let n : o + length (bytes d b (drop i xs)) ≤ length buf = omega (arith, block_fits) in
      (t.within, omega (arith, t.split), rw (ed, ← q) (put-append buf o (bytes d b (drop i xs)) (codes d 0 (drop (i + w) xs)) n) ∙ ap (put buf o) (sym s) ∙ was)
