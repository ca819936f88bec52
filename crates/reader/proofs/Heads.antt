-- What the tests of 17 and 18 say of a head that passes them.
use mathlib.Core.Path.{◌≡◌, refl, sym, ap, ◌∙◌, subst}
use mathlib.Core.Logic.{◌⊎◌, inl, inr}
use mathlib.Core.Bool.{Bool, true, false, not, cond, ◌&&◌, ◌||◌}
use mathlib.Core.List.{List}
use Prim.Native.Nat.{ℕ, ◌+◌, ◌-◌, ◌*◌, ◌^◌, ◌≤◌, ◌<◌}
use native.Mathlib.Nat.{mul-le-mul}
use native.Mathlib.Omega.{arith}
use borrow.Author.Tests.{ltb-false, le-leb, lt-leb, leb-true, leb-false, eqb-true, eqb-false, not-false}
use lib.Dec.{ltb, leb, eqb}
use lib.ListN.{length, drop}
use lib.Pow.{pow_mono}
use Rattle.leaves.specs.Masks.{bitfields_rows}
use Rattle.leaves.specs.Refusals.{first_number, first_applying}
use Rattle.leaves.specs.Sizes.{has_table, row_stride}
use Rattle.format.specs.Readers.{Fields, fields_of, word_at, top_first, shown_height, table_count}
use Rattle.format.proofs.Passing.{or_false, and_false}
use Rattle.format.proofs.PlainCells.{length_row}
use Rattle.cells.proofs.CellLaws.{or_true, table_cases}
use Rattle.reader.specs.Numbers.{head_bytes_of, profile_bytes_of, profile_at_of}
use Rattle.reader.specs.Refusals.{strange_mark, strange_header, no_width, no_height, strange_depth, strange_compression, strange_pair, negative_stream, many_colours, strange_sizes, strange_kind, written_pair, is_coded, masks_of, masks_end, refused_masks, strange_masks, never_written, header_outside, masks_outside, table_outside, head_outside, outside_file, open_rows}

-- ---- tests

and_true : (a b : Bool) → (a && b) ≡ true → (a ≡ true) × (b ≡ true)
and_true true b e = (refl, e)
and_true false b e = (cc, cc)

-- ---- the masks

-- at the depths of masks 6 does not apply
pub behind_six : (depth : ℕ) (masks : List ℕ) → (depth ≡ 16) ⊎ (depth ≡ 32) → first_number (bitfields_rows depth masks) ≡ first_number (drop 1 (bitfields_rows depth masks))
unfolding bitfields_rows
behind_six depth masks (inl e) = rw e
behind_six depth masks (inr e) = rw e

-- the pairings with masks
pub mask_depths : (c d : ℕ) → written_pair c d ≡ true → (eqb c 3 || eqb c 6) ≡ true → (d ≡ 16) ⊎ (d ≡ 32)
mask_depths c d e m =
    go (or_true (eqb c 0 || (eqb c 1 && eqb d 8) || (eqb c 2 && eqb d 4)) ((eqb c 3 || eqb c 6) && (eqb d 16 || eqb d 32)) e) (or_true (eqb c 3) (eqb c 6) m)
  where
    wide : (eqb c 3 || eqb c 6) && (eqb d 16 || eqb d 32) ≡ true → (d ≡ 16) ⊎ (d ≡ 32)
    wide h = pick (or_true (eqb d 16) (eqb d 32) (and_true (eqb c 3 || eqb c 6) (eqb d 16 || eqb d 32) h).1)
      where
        pick : (eqb d 16 ≡ true) ⊎ (eqb d 32 ≡ true) → (d ≡ 16) ⊎ (d ≡ 32)
        pick (inl q) = inl (eqb-true d 16 q)
        pick (inr q) = inr (eqb-true d 32 q)

    other : (k : ℕ) → c ≡ k → (eqb k 0 || (eqb k 1 && eqb d 8) || (eqb k 2 && eqb d 4)) ≡ false → (eqb c 0 || (eqb c 1 && eqb d 8) || (eqb c 2 && eqb d 4)) ≡ true → (d ≡ 16) ⊎ (d ≡ 32)
    other k q f h = let z : true ≡ false = sym h ∙ ap (λ (n : ℕ). eqb n 0 || (eqb n 1 && eqb d 8) || (eqb n 2 && eqb d 4)) q ∙ f in inl cc

    go : ((eqb c 0 || (eqb c 1 && eqb d 8) || (eqb c 2 && eqb d 4)) ≡ true) ⊎ (((eqb c 3 || eqb c 6) && (eqb d 16 || eqb d 32)) ≡ true) → (eqb c 3 ≡ true) ⊎ (eqb c 6 ≡ true) → (d ≡ 16) ⊎ (d ≡ 32)
    go (inr h) q = wide h
    go (inl h) (inl q) = other 3 (eqb-true c 3 q) refl h
    go (inl h) (inr q) = other 6 (eqb-true c 6 q) refl h

-- ---- depth and compression

abbrev pub written_depth : ℕ → Bool
written_depth d = has_table d || eqb d 16 || eqb d 24 || eqb d 32

-- and at each depth that is written
pub depth_cases {ℓ} : (P : ℕ → Type ℓ) → P 1 → P 2 → P 4 → P 8 → P 16 → P 24 → P 32 → (d : ℕ) → written_depth d ≡ true → P d
depth_cases P p1 p2 p4 p8 p16 p24 p32 d e = three (or_true _ _ e)
  where
    is : (k : ℕ) → P k → eqb d k ≡ true → P d
    is k p q = subst P (sym (eqb-true d k q)) p

    one : (has_table d ≡ true) ⊎ (eqb d 16 ≡ true) → P d
    one (inl q) = table_cases P p1 p2 p4 p8 d q
    one (inr q) = is 16 p16 q

    two : (has_table d || eqb d 16 ≡ true) ⊎ (eqb d 24 ≡ true) → P d
    two (inl q) = one (or_true _ _ q)
    two (inr q) = is 24 p24 q

    three : (has_table d || eqb d 16 || eqb d 24 ≡ true) ⊎ (eqb d 32 ≡ true) → P d
    three (inl q) = two (or_true _ _ q)
    three (inr q) = is 32 p32 q

-- the parts of 17's tests of the kind, where the fields are there
pub record Kind (t : Fields) : Type 0 where
  pub depth : written_depth t.depth ≡ true
  pub pair : written_pair t.compression t.depth ≡ true
  pub upright : is_coded t.compression ≡ true → t.height < 2147483648

pub pair_known : (n : ℕ) (t : Fields) → strange_kind n t ≡ false → 34 ≤ n → Kind t
pair_known n t e h =
    let a = or_false _ _ e in
    let b = or_false _ _ a.0 in
    let c = or_false _ _ b.0 in
    let d = or_false _ _ c.0 in
    let there = le-leb 34 n h in
    record {
      depth = not-false _ (and_false (leb 30 n) _ d.0 (le-leb 30 n (omega arith)));
      pair = not-false _ (and_false (leb 34 n) _ c.1 there);
      upright = λ q. leb-false 2147483648 t.height (and_false (leb 34 n && is_coded t.compression) _ b.1 (rw (there, q)));
    }

-- ---- a head that 17 lets pass, of 54 bytes and more

pub record Sound (t : Fields) : Type 0 where
  pub some_width : 0 < t.width
  pub wide : t.width < 2147483648
  pub some_height : 0 < shown_height t
  pub tall : shown_height t ≤ 2147483648
  pub kind : Kind t
  pub table : table_count t ≤ 256

height_bounds : (h : ℕ) (b : Bool) → leb 2147483648 h ≡ b → (h ≡ 0 → ⊥) → h < 4294967296
    → (0 < cond b (4294967296 - h) h) × (cond b (4294967296 - h) h ≤ 2147483648)
height_bounds h true e z l = let q = leb-true 2147483648 h e in (omega arith, omega arith)
height_bounds h false e z l = let q = leb-false 2147483648 h e in (omega arith, omega arith)

full_small : (d : ℕ) → d ≤ 8 → 2 ^ d ≤ 256
full_small d h = pow_mono {j = 8} h

table_small : (n : ℕ) (t : Fields) → 50 ≤ n → leb 50 n && leb t.depth 8 && ltb (2 ^ t.depth) t.colours ≡ false → table_count t ≤ 256
unfolding table_count
table_small n t h e = go (leb t.depth 8) refl (eqb t.colours 0)
  where
    go : (b : Bool) → leb t.depth 8 ≡ b → (z : Bool) → cond b (cond z (2 ^ t.depth) t.colours) 0 ≤ 256
    go false q z = omega arith
    go true q true = full_small t.depth (leb-true t.depth 8 q)
    go true q false =
        let f : ltb (2 ^ t.depth) t.colours ≡ false = and_false (leb 50 n && leb t.depth 8) _ e (rw (le-leb 50 n h, q)) in
        omega (arith, ltb-false (2 ^ t.depth) t.colours f, full_small t.depth (leb-true t.depth 8 q))

pub sound : (file : List ℕ) → 54 ≤ length file → (fields_of file).height < 4294967296 → never_written file ≡ false → Sound (fields_of file)
unfolding never_written
sound file h tall e =
    let t = fields_of file in
    let n = length file in
    let all = or_false (strange_sizes n (word_at file 0) t || strange_kind n t) (strange_masks file t.compression t.depth) e in
    let parts = or_false (strange_sizes n (word_at file 0) t) (strange_kind n t) all.0 in
    let tall-ones = or_false (strange_mark n (word_at file 0) || strange_header n t.header_size_of || no_width n t.width) (no_height n t.height) parts.0 in
    let wide_ones = or_false (strange_mark n (word_at file 0) || strange_header n t.header_size_of) (no_width n t.width) tall-ones.0 in
    let width = or_false (eqb t.width 0) (leb 2147483648 t.width) (and_false (leb 22 n) _ wide_ones.1 (le-leb 22 n (omega arith))) in
    let height = eqb-false t.height 0 (and_false (leb 26 n) _ tall-ones.1 (le-leb 26 n (omega arith))) in
    let bounds = height_bounds t.height (top_first t) refl height tall in
    let zero = eqb-false t.width 0 width.0 in
    record {
      some_width = omega (arith, zero);
      wide = leb-false 2147483648 t.width width.1;
      some_height = bounds.0;
      tall = bounds.1;
      kind = pair_known n t parts.1 (omega arith);
      table = table_small n t (omega arith) (or_false (strange_depth n t.depth || strange_compression n t.compression || strange_pair n t.compression t.depth || negative_stream n t.compression t.height) (many_colours n t.depth t.colours) parts.1).1;
    }

-- no product and no sum of a head that passes wraps
pub depth_small : (d : ℕ) → written_depth d ≡ true → d ≤ 32
depth_small = depth_cases (λ d. d ≤ 32) (omega arith) (omega arith) (omega arith) (omega arith) (omega arith) (omega arith) (omega arith)

pub stride_small : (w d : ℕ) → w < 2147483648 → d ≤ 32 → row_stride w d ≤ 8589934588
unfolding row_stride
stride_small w d h k = let l : w ≤ 2147483647 = omega arith in
    let m : w * d ≤ 2147483647 * 32 = mul-le-mul l k in omega arith

pub rows_small : (t : Fields) → Sound t → shown_height t * row_stride t.width t.depth ≤ 18446744065119617024
rows_small t s =
    let m : shown_height t * row_stride t.width t.depth ≤ 2147483648 * 8589934588
    = mul-le-mul s.tall (stride_small t.width t.depth s.wide (depth_small t.depth s.kind.depth)) in
    omega arith

-- ---- 17's tests as they are computed

-- the tests of the kind, by the count of a full table
pub kind_computed : (n : ℕ) (t : Fields) (full : ℕ) (masks coded : Bool) → full ≡ cond (leb t.depth 8) (2 ^ t.depth) 0
    → masks ≡ (eqb t.compression 3 || eqb t.compression 6) → coded ≡ is_coded t.compression
    → (strange_depth n t.depth || strange_compression n t.compression
    || (leb 34 n && not (eqb t.compression 0 || (eqb t.compression 1 && eqb t.depth 8) || (eqb t.compression 2 && eqb t.depth 4) || (masks && (eqb t.depth 16 || eqb t.depth 32))))
    || (leb 34 n && coded && leb 2147483648 t.height) || (leb 50 n && leb t.depth 8 && ltb full t.colours))
    ≡ strange_kind n t
kind_computed n t full masks coded e f g = rw (f, g, full_table (leb 50 n) (leb t.depth 8) e)
  where
    full_table : (a b : Bool) → full ≡ cond b (2 ^ t.depth) 0 → (a && b && ltb full t.colours) ≡ (a && b && ltb (2 ^ t.depth) t.colours)
    full_table false b q = refl
    full_table true false q = refl
    full_table true true q = ap (λ (k : ℕ). ltb k t.colours) q

-- the masks, where the pairing is known
pub no_masks : (file : List ℕ) (c d : ℕ) → (eqb c 3 || eqb c 6) ≡ false → false ≡ strange_masks file c d
no_masks file c d e = rw e

pub masks_cut : (file : List ℕ) (c d : ℕ) → length file < masks_end c → false ≡ strange_masks file c d
masks_cut file c d h = go (eqb c 3 || eqb c 6)
  where
    go : (b : Bool) → false ≡ (b && leb (masks_end c) (length file) && refused_masks d (masks_of file c))
    go false = refl
    go true = rw (lt-leb (masks_end c) (length file) h)

masks_late : (c : ℕ) → 34 ≤ masks_end c
masks_late c = go (eqb c 6)
  where
    go : (b : Bool) → 34 ≤ cond b 70 66
    go true = omega arith
    go false = omega arith

pub masks_checked : (file : List ℕ) (t : Fields) (number : ℕ) → strange_kind (length file) t ≡ false → (eqb t.compression 3 || eqb t.compression 6) ≡ true → masks_end t.compression ≤ length file
    → number ≡ first_number (bitfields_rows t.depth (masks_of file t.compression)) → not (eqb number 0) ≡ strange_masks file t.compression t.depth
masks_checked file t number e m h q =
    let k = pair_known (length file) t e (omega (arith, masks_late t.compression)) in
    let n = q ∙ behind_six t.depth (masks_of file t.compression) (mask_depths t.compression t.depth k.pair m) in
    rw (m, le-leb (masks_end t.compression) (length file) h) (ap (λ (z : ℕ). not (eqb z 0)) n)

-- ---- 18's parts of the head

pub head_computed : (n : ℕ) (t : Fields) (table end : ℕ) (masks : Bool) → table ≡ table_count t → end ≡ masks_end t.compression → masks ≡ (eqb t.compression 3 || eqb t.compression 6)
    → (ltb n 54 || ltb n (14 + t.header_size_of) || (masks && ltb n end) || ltb n (14 + t.header_size_of + 4 * table)) ≡ head_outside n t
head_computed n t table end masks a b c = rw (a, b, c)

pub head_parts : (n : ℕ) (t : Fields) → head_outside n t ≡ false → (header_outside n t ≡ false) × (masks_outside n t ≡ false) × (table_outside n t ≡ false)
head_parts n t outside =
    let p = or_false (header_outside n t || masks_outside n t) (table_outside n t) outside in
    let q = or_false (header_outside n t) (masks_outside n t) p.0 in
    (q.0, q.1, p.1)

pub first_inside : (n : ℕ) (t : Fields) → head_outside n t ≡ false → 54 ≤ n
first_inside n t outside = ltb-false n 54 (or_false (ltb n 54) (ltb n (head_bytes_of t)) (head_parts n t outside).0).0

-- 17 whole
module _ (file : List ℕ) (t : Fields) (e : t ≡ fields_of file) where
  pub sizes_refused : (mark : ℕ) (r : Bool) → mark ≡ word_at file 0 → r ≡ strange_sizes (length file) mark t → r ≡ true → true ≡ never_written file
  unfolding never_written
  sizes_refused mark r m q f = let z : strange_sizes (length file) (word_at file 0) t ≡ true = rw (← m) (sym q ∙ f) in rw (← e, z)

  pub kind_refused : (r : Bool) → r ≡ strange_kind (length file) t → r ≡ true → true ≡ never_written file
  unfolding never_written
  kind_refused r q f =
      let z : strange_kind (length file) t ≡ true = sym q ∙ f in
      rw (← e, z) (go (strange_sizes (length file) (word_at file 0) t))
    where
      go : (b : Bool) → true ≡ (b || true || strange_masks file t.compression t.depth)
      go true = refl
      go false = refl

  pub masks_decide : (mark : ℕ) (r k m : Bool) → mark ≡ word_at file 0 → r ≡ strange_sizes (length file) mark t → r ≡ false → k ≡ strange_kind (length file) t → k ≡ false
      → m ≡ strange_masks file t.compression t.depth → m ≡ never_written file
  unfolding never_written
  masks_decide mark r k m p q f q2 f2 q3 =
      let z : strange_sizes (length file) (word_at file 0) t ≡ false = rw (← p) (sym q ∙ f) in
      let y : strange_kind (length file) t ≡ false = sym q2 ∙ f2 in
      rw (← e, z, y) q3

  -- 18 whole
  pub head_cut : (r : Bool) → r ≡ head_outside (length file) t → r ≡ true → true ≡ outside_file file
  unfolding outside_file
  head_cut r q f = let z : head_outside (length file) t ≡ true = sym q ∙ f in rw (← e, z)

  pub outside_computed : (r coded : Bool) (height stride at bytes : ℕ) → r ≡ head_outside (length file) t → r ≡ false → coded ≡ is_coded t.compression → height ≡ shown_height t
      → stride ≡ row_stride t.width t.depth → at ≡ profile_at_of file → bytes ≡ profile_bytes_of file
      → ((not coded && ltb (length file) (t.offset + height * stride)) || ltb (length file) (at + bytes)) ≡ outside_file file
  unfolding outside_file
  outside_computed r coded height stride at bytes q f a b c d g =
      let z : head_outside (length file) t ≡ false = sym q ∙ f in
      rw (← e, z, a, b, c, d, g, length_row t.depth t.width)

-- the number
pub number_never : (file : List ℕ) (r : Bool) → r ≡ never_written file → r ≡ true → 17 ≡ first_applying (open_rows file)
unfolding open_rows
number_never file r q f = rw (sym q ∙ f)

pub number_outside : (file : List ℕ) (r s : Bool) → r ≡ never_written file → r ≡ false → s ≡ outside_file file → s ≡ true → 18 ≡ first_applying (open_rows file)
unfolding open_rows
number_outside file r s q f q2 f2 = rw (sym q ∙ f, sym q2 ∙ f2)

pub number_opens : (file : List ℕ) (r s : Bool) → r ≡ never_written file → r ≡ false → s ≡ outside_file file → s ≡ false → 0 ≡ first_applying (open_rows file)
unfolding open_rows
number_opens file r s q f q2 f2 = rw (sym q ∙ f, sym q2 ∙ f2)

pub sound_at : (file : List ℕ) (t : Fields) → t ≡ fields_of file → 54 ≤ length file → t.height < 4294967296 → never_written file ≡ false → Sound t
sound_at file t e h tall never = subst Sound (sym e) (sound file h (rw (← e) tall) never)
