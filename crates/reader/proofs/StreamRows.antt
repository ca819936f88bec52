-- A stream's rows, filled in from the bottom up.
use mathlib.Core.Path.{◌≡◌, refl, sym, ap, ◌∙◌, subst}
use mathlib.Core.Bool.{false}
use mathlib.Core.List.{List, ◌++◌, append_assoc}
use Prim.Native.Nat.{ℕ, suc, ◌+◌, ◌-◌, ◌*◌, ◌≤◌, ◌<◌}
use native.Mathlib.Nat.{suc-mul, mul-le-mul_right, zero-add}
use native.Mathlib.Omega.{arith}
use lib.ListN.{length, get_or, take, drop, length-append, length-drop, length-take}
use lib.Seq.{drop-drop, get_or-drop, drop_at, length-take-le, take-append-le, take-take}
use Rattle.leaves.specs.Lists.{tab, cat}
use Rattle.leaves.specs.Put.{put}
use Rattle.leaves.proofs.ListLaws.{length-tab, tab_ext, cat_ext, cat-append, length-cat}
use Rattle.leaves.proofs.Puts.{length-put, put-nil}
use Rattle.format.specs.Decode.{filled, read_row, rows_below, decode}
use Rattle.format.proofs.RowReading.{row_length_lem}
use Rattle.format.proofs.StreamReading.{RowAt, decode_rows, rows_last, rows_place}
use Rattle.format.proofs.Unpacking.{take-tab}
use Rattle.cells.specs.Streams.{is_refused, cells_in, bytes_in}
use Rattle.reader.specs.Rows.{stream_numbers}
use Rattle.cells.proofs.RowCodes.{is_filled}

-- ---- a put before a put

pub put-before : (was : List ℕ) (a b : ℕ) (xs ys : List ℕ) → b ≡ a + length xs → b + length ys ≤ length was → put (put was b ys) a xs ≡ put was a (xs ++ ys)
unfolding put
put-before was a b xs ys e h =
    let l : length (take b was) ≡ b = length-take-le b was (omega arith) in
    let first : take a (take b was ++ ys ++ drop (b + length ys) was) ≡ take a was
    = ap (take a) (append_assoc (take b was) ys (drop (b + length ys) was)) ∙ take-append-le a (take b was) (ys ++ drop (b + length ys) was) (omega arith) ∙ take-take a b was (omega arith) in
    let rest : drop (a + length xs) (take b was ++ ys ++ drop (b + length ys) was) ≡ ys ++ drop (b + length ys) was
    = ap (drop (a + length xs)) (append_assoc (take b was) ys (drop (b + length ys) was)) ∙ drop_at (take b was) (ys ++ drop (b + length ys) was) (a + length xs) (l ∙ e) in
    let n : a + length (xs ++ ys) ≡ b + length ys = omega (arith, length-append xs ys) in
    rw (first, rest, n) (sym (append_assoc (take a was ++ xs) ys (drop (b + length ys) was)) ∙ ap (λ (l : List ℕ). l ++ drop (b + length ys) was) (append_assoc (take a was) xs ys))

-- one list more at the front
cat_front : (f : ℕ → List ℕ) (n : ℕ) → cat f (suc n) ≡ f 0 ++ cat (λ k. f (suc k)) n
unfolding cat
cat_front f n =
    let e : suc n ≡ 1 + n = omega arith in
    ap (cat f) e ∙ sym (cat-append f 1 n) ∙ ap (λ (l : List ℕ). f 0 ++ l) (cat_ext (λ k. f (1 + k)) (λ k. f (suc k)) n (λ k h. let q : 1 + k ≡ suc k = omega arith in ap f q))

-- ---- the loop

module _ (file : List ℕ) (d w offset h : ℕ) (some : 0 < h) (good : is_refused (decode d w (drop offset file) (h - 1)) ≡ false) where
  abbrev stream : List ℕ
  stream = drop offset file

  -- the cells of the stream
  abbrev all : List ℕ
  all = cells_in (decode d w stream (h - 1))

  -- row y from the top
  abbrev shown : ℕ → List ℕ
  shown y = tab (λ x. get_or all ((h - 1 - y) * w + x) 0) w

  pub record Rising (was cells : List ℕ) (above at : ℕ) : Type 0 where
    pub within : above ≤ h
    pub here : 0 < above → at ≡ offset + bytes_in (rows_below d w stream (h - above))
    pub long : length cells ≡ length was
    pub same : cells ≡ put was (above * w) (cat (λ k. shown (above + k)) (h - above))

  row_at : (s : ℕ) → s ≤ h - 1 → RowAt d w stream all s
  row_at s l = decode_rows d w stream (h - 1) (is_filled (decode d w stream (h - 1)) good) s l

  -- row s is read from where its codes begin
  row_read : (s at : ℕ) (l : s ≤ h - 1) → at ≡ offset + bytes_in (rows_below d w stream s) → read_row d w (drop at file) ≡ filled (take w (drop (s * w) all)) (row_at s l).taken
  row_read s at l e =
      let r = row_at s l in
      let p : bytes_in (rows_below d w stream s) ≡ r.place = ap bytes_in r.below in
      let q : drop at file ≡ drop r.place stream = ap (λ (k : ℕ). drop k file) (e ∙ ap (λ (k : ℕ). offset + k) p) ∙ sym (drop-drop r.place offset file) in
      ap (read_row d w) q ∙ r.here

  pub rising_start : (was : List ℕ) → Rising was was h offset
  unfolding cat rows_below
  rising_start was =
      let z : h - h ≡ 0 = omega arith in
      record { within = omega arith; here = λ l. rw z (omega arith); long = refl; same = rw z (sym (put-nil was (h * w))) }

  module _ {was cells : List ℕ} {above at : ℕ} (r : Rising was cells above at) (l : 0 < above) where
    s : ℕ
    s = h - above

    s_in : h - above ≤ h - 1
    s_in = omega (arith, r.within)

    pub rising_place : at ≤ offset + (length file - offset)
    rising_place =
        let row = row_at (h - above) s_in in
        omega (arith, r.here l, ap bytes_in row.below, rows_place d w stream (h - above) row.below, length-drop offset file)

    pub rising_good : is_refused (read_row d w (drop at file)) ≡ false
    rising_good = ap is_refused (row_read (h - above) at s_in (r.here l))

    pub rising_room : h * w ≤ length was → (above - 1) * w + w ≤ length cells
    rising_room k =
        let e : above ≡ suc (above - 1) = omega arith in
        let m : above * w ≤ h * w = mul-le-mul_right w r.within in
        omega (arith, r.long, ap (λ (n : ℕ). n * w) e, suc-mul (above - 1) w)

    -- the row that is put is the shown one
    row_is : take w (drop ((h - above) * w) all) ≡ shown (above - 1)
    row_is =
        let row = row_at (h - above) s_in in
        let n : length (take w (drop ((h - above) * w) all)) ≡ w = row_length_lem d w (drop row.place stream) row.here in
        let k : w ≤ length (drop ((h - above) * w) all) = omega (arith, length-take w (drop ((h - above) * w) all), n) in
        let e : h - 1 - (above - 1) ≡ h - above = omega arith in
        take-tab (drop ((h - above) * w) all) w k
        ∙ tab_ext _ _ w (λ x b. get_or-drop ((h - above) * w) all x 0)
        ∙ ap (λ (m : ℕ). tab (λ x. get_or all (m * w + x) 0) w) (sym e)

    -- the next row's codes begin behind the end of this row
    next_place : (end : ℕ) → end ≡ at + bytes_in (read_row d w (drop at file)) → 0 < above - 1 → end + 2 ≡ offset + bytes_in (rows_below d w stream (h - (above - 1)))
    next_place end e m =
        let n : h - (above - 1) ≡ suc (h - above) = omega (arith, r.within) in
        let up = row_at (suc (h - above)) (omega (arith, r.within)) in
        let last = rows_last d w stream (h - above) up.below in
        let here = row_at (h - above) s_in in
        let a : bytes_in (rows_below d w stream (suc (h - above))) ≡ up.place = ap bytes_in up.below in
        let b : last.place ≡ here.place = sym (ap bytes_in last.earlier) ∙ ap bytes_in here.below in
        let c : last.taken ≡ bytes_in (read_row d w (drop last.place stream)) = sym (ap bytes_in last.here) in
        let f : bytes_in (rows_below d w stream (h - above)) ≡ last.place = ap bytes_in last.earlier in
        let g : drop last.place stream ≡ drop at file = drop-drop last.place offset file ∙ ap (λ (k : ℕ). drop k file) (ap (λ (k : ℕ). offset + k) (sym f) ∙ sym (r.here l)) in
        let c2 : last.taken ≡ bytes_in (read_row d w (drop at file)) = c ∙ ap (λ (z : List ℕ). bytes_in (read_row d w z)) g in
        rw n (omega (arith, a, f, c2, e, last.bytes, r.here l))

    pub rising_turn : (end : ℕ) (later : List ℕ) → end ≡ at + bytes_in (read_row d w (drop at file)) → h * w ≤ length was
        → later ≡ put cells ((above - 1) * w) (cells_in (read_row d w (drop at file))) → Rising was later (above - 1) (end + 2)
    rising_turn end later e room f =
        let row : cells_in (read_row d w (drop at file)) ≡ shown (above - 1) = ap cells_in (row_read (h - above) at s_in (r.here l)) ∙ row_is in
        let n : length (shown (above - 1)) ≡ w = length-tab (λ x. get_or all ((h - 1 - (above - 1)) * w + x) 0) w in
        let p : above * w ≡ (above - 1) * w + length (shown (above - 1))
        = (let q : above ≡ suc (above - 1) = omega arith in omega (arith, n, ap (λ (k : ℕ). k * w) q, suc-mul (above - 1) w)) in
        let rows : length (cat (λ k. shown (above + k)) (h - above)) ≡ (h - above) * w = length-cat _ w (h - above) (λ k b. length-tab _ w) in
        let fits : above * w + length (cat (λ k. shown (above + k)) (h - above)) ≤ length was
        = (let t : h ≡ above + (h - above) = omega (arith, r.within) in omega (arith, rows, ap (λ (k : ℕ). k * w) t)) in
        let g : later ≡ put (put was (above * w) (cat (λ k. shown (above + k)) (h - above))) ((above - 1) * w) (shown (above - 1))
        = f ∙ ap (put cells ((above - 1) * w)) row ∙ ap (λ (z : List ℕ). put z ((above - 1) * w) (shown (above - 1))) r.same in
        let m : h - (above - 1) ≡ suc (h - above) = omega (arith, r.within) in
        let joined : cat (λ k. shown (above - 1 + k)) (suc (h - above)) ≡ shown (above - 1) ++ cat (λ k. shown (above + k)) (h - above)
        = cat_front (λ k. shown (above - 1 + k)) (h - above)
        ∙ (λ z. shown (zero_more z) ++ cat_ext (λ k. shown (above - 1 + suc k)) (λ k. shown (above + k)) (h - above) (λ k b. ap shown (one_more k)) z) in
        record {
          within = omega (arith, r.within);
          here = next_place end e;
          long = ap length f ∙ length-put cells ((above - 1) * w) _ (rw (row, n) (rising_room room)) ∙ r.long;
          same = g ∙ put-before was ((above - 1) * w) (above * w) (shown (above - 1)) _ p fits ∙ rw (m, joined);
        }
      where
        zero_more : above - 1 + 0 ≡ above - 1
        zero_more = omega arith

        one_more : (k : ℕ) → above - 1 + suc k ≡ above + k
        one_more k = omega arith

  pub rising_end : {was cells : List ℕ} {above at : ℕ} → Rising was cells above at → above ≡ 0 → cells ≡ put was 0 (stream_numbers w h all)
  unfolding stream_numbers
  rising_end {was} {cells} {above} r z =
      let e : cells ≡ put was (0 * w) (cat (λ k. shown (0 + k)) (h - 0)) = subst (λ (k : ℕ). cells ≡ put was (k * w) (cat (λ j. shown (k + j)) (h - k))) z r.same in
      let n : h - 0 ≡ h = omega arith in
      let m : 0 * w ≡ 0 = omega arith in
      e ∙ rw (n, m) (ap (put was 0) (cat_ext _ _ h (λ k b. ap shown (zero-add k))))
