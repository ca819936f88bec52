-- The reading of one row: from the tests to the promise.
use mathlib.Core.Path.{◌≡◌, refl, sym, ap, subst, ◌∙◌}
use mathlib.Core.Bool.{Bool, true, false, true≢false, not, ◌||◌}
use mathlib.Core.List.{List, []}
use Prim.Native.Nat.{ℕ, zero, suc, ◌+◌, ◌-◌, ◌*◌, ◌≤◌, ◌<◌}
use native.Mathlib.Decide.{dec_lt}
use native.Mathlib.Omega.{arith}
use borrow.Author.Tests.{ltb-false, lt-ltb, le-ltb, ne_eqb}
use lib.Dec.{ltb}
use lib.ListN.{length, get_or, drop, length-drop}
use lib.Seq.{take_all}
use Rattle.leaves.specs.Lists.{tab}
use Rattle.leaves.specs.Put.{put}
use Rattle.leaves.specs.Refusals.{first_applying}
use Rattle.leaves.specs.Sizes.{row_stride}
use Rattle.format.specs.Decode.{Decoded, filled, refused, read_row, decode}
use Rattle.format.specs.OneRow.{shows_row, cell_from, coded_row, cell_bytes, row_body}
use Rattle.format.specs.Readers.{Fields, fields_of, row_length}
use Rattle.format.specs.Shown.{index}
use Rattle.format.proofs.Passing.{or_false, and_false}
use Rattle.format.proofs.PlainCells.{length_row}
use Rattle.format.proofs.RowReading.{row_length_lem}
use Rattle.format.proofs.Unpacking.{take-tab}
use Rattle.cells.specs.Streams.{is_refused, cells_in}
use Rattle.cells.proofs.Loops.{no_elements}
use Rattle.cells.proofs.RowCodes.{is_filled}
use Rattle.reader.specs.Numbers.{row_numbers, numbers_each}
use Rattle.reader.specs.OneRow.{row_outside, head_or_row_outside, numbers_too_many, row_fails, row_rows, ShowsRow, ReadRow}
use Rattle.std.specs.Prelude.{Result, Err}
use Rattle.reader.specs.declared.refusal.ReadRefusal.{ReadRefusal}
use Rattle.reader.specs.Refusals.{number_of, answer_number, is_coded, never_written, head_outside, last_filled, stops}
use Rattle.reader.specs.Rows.{cell_in, numbers_in}
use Rattle.reader.proofs.Calls.{number_some, height_small, none_of}
use Rattle.reader.proofs.Opens.{HeadInside, head_inside, row_opens, row_tab}
use Rattle.reader.proofs.PlainRows.{ones_are, bits_fit}
use Rattle.reader.proofs.Stops.{stops_row, stops_refused}

-- what is known of a head that 17 and 18 let pass
pub head_of_lem : (file : List ℕ) (t : Fields) → ((k : ℕ) → get_or file k 0 < 256) → t ≡ fields_of file → never_written file ≡ false → head_outside (length file) t ≡ false → HeadInside file t
head_of_lem file t bytes e never outside = head_inside file t e (rw e (height_small file bytes)) never outside

-- ---- 18: the stored row

-- whether a part of so many bytes ends past n: it begins there, or is longer than what is left
beyond_past : (n start more : ℕ) → n < start → true ≡ ltb n (start + more)
beyond_past n start more h = let l : n < start + more = omega arith in sym (lt-ltb n (start + more) l)

beyond_part : (n start : ℕ) {part more : ℕ} → part ≡ more → start ≤ n → ltb (n - start) part ≡ ltb n (start + more)
beyond_part n start {part} {more} e h =
    elim (dec_lt n (start + more)) [
      | yes p ↦ (let l : n - start < part = omega arith in lt-ltb (n - start) part l ∙ sym (lt-ltb n (start + more) p))
      | no p ↦ (let l : part ≤ n - start = omega arith in let m : start + more ≤ n = omega arith in le-ltb (n - start) part l ∙ sym (le-ltb n (start + more) m))
    ]

module _ (n : ℕ) (t : Fields) (start : ℕ) where
  pub outside_either : (a b : Bool) {r : Bool} → a ≡ head_outside n t → b ≡ row_outside n t start → (a || b) ≡ r → head_or_row_outside n t start ≡ r
  outside_either a b p q e = let f : (head_outside n t || row_outside n t start) ≡ (a || b) = λ z. sym p z || sym q z in f ∙ e

  pub outside_coded : is_coded t.compression ≡ true → false ≡ row_outside n t start
  outside_coded c = rw c

  module _ (c : is_coded t.compression ≡ false) where
    pub outside_past : n < start → true ≡ row_outside n t start
    outside_past h = rw c (beyond_past n start _ h)

    pub outside_row : (stride : ℕ) → start ≤ n → stride ≡ row_stride t.width t.depth → ltb (n - start) stride ≡ row_outside n t start
    outside_row stride h e = rw c (beyond_part n start (e ∙ sym (length_row t.depth t.width)) h)

    pub row_inside : row_outside n t start ≡ false → start + row_stride t.width t.depth ≤ n
    row_inside e = rw (← length_row t.depth t.width) (ltb-false n (start + row_length t.width t.depth) (and_false (not (is_coded t.compression)) _ e (rw c)))

-- ---- 15

pub too_many : (t : Fields) (cells each : ℕ) {r : Bool} → each ≡ numbers_each t → ltb cells (t.width * each) ≡ r → numbers_too_many t cells ≡ r
too_many t cells each e f = ap (λ (k : ℕ). ltb cells (t.width * k)) (sym e) ∙ f

-- ---- 19

module _ (file : List ℕ) (t : Fields) (start : ℕ) where
  pub fails_plain : is_coded t.compression ≡ false → false ≡ row_fails file t start
  unfolding row_fails
  fails_plain c = rw c

  module _ (c : is_coded t.compression ≡ true) where
    pub fails_stream : is_refused (decode t.depth t.width (drop start file) 0) ≡ row_fails file t start
    unfolding row_fails
    fails_stream = rw c (sym (stops_refused t.depth t.width 0 (drop start file)))

    pub fails_row : is_refused (read_row t.depth t.width (drop start file)) ≡ row_fails file t start
    unfolding row_fails
    fails_row = rw c (sym (stops_row t.depth t.width (drop start file)))

    -- no byte is left
    pub fails_past : 0 < t.width → length file < start → true ≡ row_fails file t start
    unfolding row_fails stops
    fails_past some h =
        let e : drop start file ≡ [] = sym (no_elements (drop start file) (omega (arith, length-drop start file))) in
        rw (c, e) (go t.width some)
      where
        go : (w : ℕ) → 0 < w → true ≡ not (last_filled 0 w)
        go zero l = absurd (omega arith)
        go (suc w) l = refl

    pub start_inside : 0 < t.width → row_fails file t start ≡ false → start ≤ length file
    start_inside some good = elim (dec_lt (length file) start) [ yes p ↦ absurd (true≢false (fails_past some p ∙ good)) | no p ↦ omega arith ]

-- ---- the number

module _ (file : List ℕ) (t : Fields) (e : t ≡ fields_of file) (start cells : ℕ) where
  pub row_never : never_written file ≡ true → 17 ≡ first_applying (row_rows file start cells)
  unfolding row_rows
  row_never a = rw a

  module _ (never : never_written file ≡ false) where
    pub row_cut : head_or_row_outside (length file) t start ≡ true → 18 ≡ first_applying (row_rows file start cells)
    unfolding row_rows
    row_cut a = rw (← e, never, a)

    module _ (outside : head_or_row_outside (length file) t start ≡ false) where
      pub row_short : numbers_too_many t cells ≡ true → 15 ≡ first_applying (row_rows file start cells)
      unfolding row_rows
      row_short a = rw (← e, never, outside, a)

      module _ (fit : numbers_too_many t cells ≡ false) where
        pub row_stops : row_fails file t start ≡ true → 19 ≡ first_applying (row_rows file start cells)
        unfolding row_rows
        row_stops a = rw (← e, never, outside, fit, a)

        pub row_none : row_fails file t start ≡ false → 0 ≡ first_applying (row_rows file start cells)
        unfolding row_rows
        row_none a = rw (← e, never, outside, fit, a)

  -- what is known where no number applies
  pub record RowPasses : Type 0 where
    pub never : never_written file ≡ false
    pub head : head_outside (length file) t ≡ false
    pub row : row_outside (length file) t start ≡ false
    pub room : t.width * numbers_each t ≤ cells
    pub fills : row_fails file t start ≡ false

  pub row_passes : first_applying (row_rows file start cells) ≡ 0 → RowPasses
  unfolding row_rows
  row_passes z =
      let p = none_of (never_written file) (head_or_row_outside (length file) (fields_of file) start) (numbers_too_many (fields_of file) cells) (row_fails file (fields_of file) start) (sym z) in
      let q = or_false (head_outside (length file) t) (row_outside (length file) t start) (rw e p.1) in
      record { never = p.0; head = q.0; row = q.1; room = ltb-false cells (t.width * numbers_each t) (rw e p.2); fills = rw e p.3 }

-- ---- what is shown

module _ (file : List ℕ) (t : Fields) (h : HeadInside file t) (start : ℕ) (cells later : List ℕ) where
  abbrev codes : Decoded
  codes = read_row t.depth t.width (drop start file)

  pub coded_shown : is_coded t.compression ≡ true → is_refused codes ≡ false → later ≡ put cells 0 (cells_in codes) → ShowsRow file start cells later
  unfolding row_body
  coded_shown c good f =
      let n : length (cells_in codes) ≡ t.width = row_length_lem t.depth t.width (drop start file) (is_filled codes good) in
      let same : row_numbers (tab (λ x. index (get_or (cells_in codes) x 0)) t.width) ≡ cells_in codes
      = row_tab (λ x. index (get_or (cells_in codes) x 0)) t.width
      ∙ ones_are (λ x. get_or (cells_in codes) x 0) t.width
      ∙ sym (take-tab (cells_in codes) t.width (omega (arith, n)))
      ∙ take_all t.width (cells_in codes) (omega (arith, n)) in
      record {
        row = tab (λ x. index (get_or (cells_in codes) x 0)) t.width;
        newer_shows = row_opens file t h start ∙ rw (ne_eqb t.width 0 (λ z. omega (arith, h.sound.some_width)), c) (go codes good);
        cells_filled = f ∙ ap (put cells 0) (sym same);
      }
    where
      go : (r : Decoded) → is_refused r ≡ false → coded_row t.width r ≡ shows_row (tab (λ x. index (get_or (cells_in r) x 0)) t.width)
      go (filled cells taken) e = refl
      go (refused cause) e = absurd (true≢false e)

  pub plain_shown : is_coded t.compression ≡ false → start + row_stride t.width t.depth ≤ length file → later ≡ put cells 0 (numbers_in file t (drop start file))
      → ShowsRow file start cells later
  unfolding row_body cell_from cell_in numbers_in
  plain_shown c inside f =
      let there : start + cell_bytes t ≤ length file = omega (arith, bits_fit t.width t.depth) in
      record {
        row = tab (cell_from file t start) t.width;
        newer_shows = row_opens file t h start ∙ rw (ne_eqb t.width 0 (λ z. omega (arith, h.sound.some_width)), c, le-ltb (length file) (start + cell_bytes t) there);
        cells_filled = f ∙ ap (put cells 0) (sym (row_tab (cell_from file t start) t.width));
      }

-- ---- the promise

row_refused : (file : List ℕ) (start : ℕ) (cells : List ℕ) (n : ℕ) → n ≡ first_applying (row_rows file start (length cells)) → (n ≡ 0 → ⊥) → ReadRow file start cells cells n
row_refused file start cells zero e z = absurd (z refl)
row_refused file start cells (suc n) e z = record { first = e; outcome = refl }

pub row_stopped : (file : List ℕ) (start : ℕ) (cells : List ℕ) (why : ReadRefusal) (r : Result (Unit {0}) ReadRefusal) → r ≡ Err why
    → number_of why ≡ first_applying (row_rows file start (length cells)) → ReadRow file start cells cells (answer_number r)
row_stopped file start cells why r q e =
    subst (λ (a : Result (Unit {0}) ReadRefusal). ReadRow file start cells cells (answer_number a)) (sym q) (row_refused file start cells (number_of why) e (number_some why))
