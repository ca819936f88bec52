-- Files that no number refuses: the newer reader shows them, and what it shows is what is filled in.
use mathlib.Core.Path.{◌≡◌, refl, sym, ap, ◌∙◌, subst}
use mathlib.Core.Bool.{Bool, true, false, true≢false, not, cond, ◌||◌}
use mathlib.Core.List.{List, [], ◌∷◌, ◌++◌, append_assoc, append-nil}
use Prim.Native.Nat.{ℕ, zero, suc, ◌+◌, ◌-◌, ◌*◌, ◌/◌, ◌≤◌, ◌<◌, max}
use native.Mathlib.Nat.{suc-mul}
use native.Mathlib.Omega.{arith}
use borrow.Author.Tests.{ltb-false, le-ltb, eqb-true}
use lib.Dec.{ltb, eqb}
use lib.ListN.{length, get_or, drop}
use Rattle.leaves.specs.Lists.{tab, cat}
use Rattle.leaves.proofs.ListLaws.{cat_ext}
use Rattle.format.specs.Decode.{Decoded, filled, refused, decode}
use Rattle.format.specs.OneRow.{row_body, row_by_fields, read_one_row}
use Rattle.format.specs.Readers.{Fields, fields_of, newer, shows, shown_height, table_count, knows_depth, knows_compression, pairs, row_length, stored_at, plain_cell_of, palette_of, picture, streamed, head_needs, pixel_needs, body, read_fields, read}
use Rattle.format.specs.Shown.{Cell, index, Shown}
use Rattle.format.proofs.Passing.{or_false, and_false}
use Rattle.format.proofs.Pictures.{some_cell}
use Rattle.format.proofs.PlainCells.{length_row}
use Rattle.reader.specs.Numbers.{cell_numbers, row_numbers, numbers_of, head_bytes_of, table_bytes_of, profile_at_of, profile_bytes_of}
use Rattle.reader.specs.Refusals.{written_pair, is_coded, masks_end, never_written, head_outside, rows_outside, profile_outside, outside_file, stream_fails}
use Rattle.cells.specs.Streams.{is_refused, cells_in}
use Rattle.reader.specs.Rows.{cell_in, numbers_in, plain_numbers, stream_numbers}
use Rattle.reader.proofs.Heads.{depth_cases, written_depth, Sound, sound_at, head_parts, first_inside}
use Rattle.reader.proofs.PlainRows.{ones_are, bits_fit}
use Rattle.reader.proofs.Stops.{stops_refused}

-- ---- what is known where 17 and 18 do not apply

-- of the head
pub record HeadInside (file : List ℕ) (t : Fields) : Type 0 where
  pub fields : t ≡ fields_of file
  pub sound : Sound t
  pub first : 54 ≤ length file
  pub masks : (eqb t.compression 3 || eqb t.compression 6) ≡ true → masks_end t.compression ≤ length file
  pub table : head_bytes_of t + table_bytes_of t ≤ length file

-- of the whole file
pub record Opened (file : List ℕ) (t : Fields) : Type 0 where
  pub head : HeadInside file t
  pub rows : is_coded t.compression ≡ false → t.offset + shown_height t * row_length t.width t.depth ≤ length file
  pub profile : profile_at_of file + profile_bytes_of file ≤ length file

pub head_inside : (file : List ℕ) (t : Fields) → t ≡ fields_of file → t.height < 4294967296 → never_written file ≡ false → head_outside (length file) t ≡ false → HeadInside file t
head_inside file t e tall never outside =
    let n = length file in
    let p = head_parts n t outside in
    let first = first_inside n t outside in
    record {
      fields = e;
      sound = sound_at file t e first tall never;
      first = first;
      masks = λ m. ltb-false n (masks_end t.compression) (and_false (eqb t.compression 3 || eqb t.compression 6) _ p.1 m);
      table = ltb-false n (head_bytes_of t + table_bytes_of t) p.2;
    }

-- the parts of 18
pub outside_parts : (file : List ℕ) → outside_file file ≡ false
    → (head_outside (length file) (fields_of file) ≡ false) × (rows_outside (length file) (fields_of file) ≡ false) × (profile_outside file ≡ false)
unfolding outside_file
outside_parts file outside =
    let n = length file in
    let u = fields_of file in
    let p = or_false (head_outside n u || rows_outside n u) (profile_outside file) outside in
    let q = or_false (head_outside n u) (rows_outside n u) p.0 in
    (q.0, q.1, p.1)

pub opened : (file : List ℕ) (t : Fields) → t ≡ fields_of file → t.height < 4294967296 → never_written file ≡ false → outside_file file ≡ false → Opened file t
opened file t e tall never outside =
    let n = length file in
    let u = fields_of file in
    let p = outside_parts file outside in
    record {
      head = head_inside file t e tall never (rw e p.0);
      rows = λ q. rw e (ltb-false n (u.offset + shown_height u * row_length u.width u.depth) (and_false (not (is_coded u.compression)) _ p.1 (rw (← e, q))));
      profile = ltb-false n (profile_at_of file + profile_bytes_of file) p.2;
    }

-- ---- the newer reader knows what the writer writes

knows_depth_lem : (d : ℕ) → written_depth d ≡ true → knows_depth newer d ≡ true
unfolding knows_depth
knows_depth_lem = depth_cases (λ d. knows_depth newer d ≡ true) refl refl refl refl refl refl refl

-- what holds for each compression that is written
pair_cases : (P : ℕ → Type 0) → P 0 → P 1 → P 2 → P 3 → P 6 → (c d : ℕ) → written_pair c d ≡ true → P c
pair_cases P p0 p1 p2 p3 p6 c d e = go (eqb c 0) (eqb c 1) (eqb c 2) (eqb c 3) (eqb c 6) refl refl refl refl refl
  where
    is : (k : ℕ) → P k → eqb c k ≡ true → P c
    is k p q = subst P (sym (eqb-true c k q)) p

    go : (z o t h s : Bool) → eqb c 0 ≡ z → eqb c 1 ≡ o → eqb c 2 ≡ t → eqb c 3 ≡ h → eqb c 6 ≡ s → P c
    go true o t h s ez eo et eh es = is 0 p0 ez
    go false true t h s ez eo et eh es = is 1 p1 eo
    go false false true h s ez eo et eh es = is 2 p2 et
    go false false false true s ez eo et eh es = is 3 p3 eh
    go false false false false true ez eo et eh es = is 6 p6 es
    go false false false false false ez eo et eh es = absurd (true≢false (sym e ∙ rw (ez, eo, et, eh, es)))

knows_compression_lem : (c d : ℕ) → written_pair c d ≡ true → knows_compression newer c ≡ true
unfolding knows_compression
knows_compression_lem c d e = pair_cases (λ c. knows_compression newer c ≡ true) refl refl refl refl refl c d e

pub or_last : (b : Bool) → b || false ≡ true → b ≡ true
or_last true f = refl
or_last false f = f

known_pair : (c d : ℕ) → written_pair c d ≡ true → pairs c d ≡ true
unfolding pairs
known_pair c d e =
    pair_cases (λ k. written_pair k d ≡ true → pairs k d ≡ true) (λ f. refl) (λ f. or_last (eqb d 8) (or_last (eqb d 8 || false) f)) (λ f. or_last (eqb d 4) f) (λ f. f) (λ f. f) c d e e

-- ---- the newer reader shows

-- what is shown of a file, with a cell at each place
abbrev pub shown_with : List ℕ → Fields → (ℕ → ℕ → Cell) → Shown
shown_with file t cell = record { width = t.width; height = shown_height t; palette = palette_of file t; rows = tab (λ y. tab (λ x. cell y x) t.width) (shown_height t) }

-- the cells of a stream, and of stored rows
abbrev pub stream_cell : List ℕ → Fields → ℕ → ℕ → Cell
stream_cell file t y x = index (get_or (cells_in (decode t.depth t.width (drop t.offset file) (shown_height t - 1))) ((shown_height t - 1 - y) * t.width + x) 0)

abbrev pub stored_cell : List ℕ → Fields → ℕ → ℕ → Cell
stored_cell file t y x = plain_cell_of file t (stored_at t y) x

module _ (file : List ℕ) (t : Fields) (o : HeadInside file t) where
  head_needs_lem : head_needs t ≤ length file
  unfolding head_needs
  head_needs_lem = go (eqb t.compression 6) (eqb t.compression 3) refl refl
    where
      go : (a b : Bool) → eqb t.compression 6 ≡ a → eqb t.compression 3 ≡ b → max (14 + t.header_size_of + table_count t * 4) (cond a 70 (cond b 66 54)) ≤ length file
      go true b e f = let m : 70 ≤ length file = subst (λ (k : Bool). cond k 70 66 ≤ length file) e (o.masks (rw (e, f) (or_true b))) in omega (arith, o.table)
        where
          or_true : (b : Bool) → b || true ≡ true
          or_true true = refl
          or_true false = refl
      go false true e f = let m : 66 ≤ length file = subst (λ (k : Bool). cond k 70 66 ≤ length file) e (o.masks (rw f)) in omega (arith, o.table)
      go false false e f = omega (arith, o.table, o.first)

  -- the tests that the readings of all rows and of one row begin with
  passes : {A : Type 0} (a b c d e whole : A)
      → cond (ltb (length file) 54) a
      (cond (not (knows_depth newer t.depth)) b
      (cond (not (knows_compression newer t.compression)) c
      (cond (not (pairs t.compression t.depth)) d
      (cond (ltb (length file) (head_needs t)) e whole))))
      ≡ whole
  passes a b c d e whole =
      rw (
        le-ltb (length file) 54 o.first,
        knows_depth_lem t.depth o.sound.kind.depth,
        knows_compression_lem t.compression t.depth o.sound.kind.pair,
        known_pair t.compression t.depth o.sound.kind.pair,
        le-ltb (length file) (head_needs t) head_needs_lem,
      )

  opens : read newer file ≡ body file t
  unfolding read read_fields
  opens = rw (← o.fields) (passes _ _ _ _ _ (body file t))

  pub row_opens : (start : ℕ) → read_one_row newer file start ≡ row_body file t start
  unfolding read_one_row row_by_fields
  row_opens start = rw (← o.fields) (passes _ _ _ _ _ (row_body file t start))

module _ (file : List ℕ) (t : Fields) (o : Opened file t) where
  -- a stream that is read
  pub stream_shown : is_coded t.compression ≡ true → is_refused (decode t.depth t.width (drop t.offset file) (shown_height t - 1)) ≡ false
      → read newer file ≡ shows (shown_with file t (stream_cell file t))
  unfolding body streamed picture
  stream_shown c good =
      let some = some_cell t t.width (shown_height t) o.head.sound.some_width o.head.sound.some_height refl refl in
      opens file t o.head ∙ rw (some, c) (go (decode t.depth t.width (drop t.offset file) (shown_height t - 1)) good)
    where
      go : (d : Decoded) → is_refused d ≡ false → streamed file t d ≡ shows (shown_with file t (λ y x. index (get_or (cells_in d) ((shown_height t - 1 - y) * t.width + x) 0)))
      go (filled cells taken) e = refl
      go (refused cause) e = absurd (true≢false e)

  -- stored rows
  pixel_needs_lem : is_coded t.compression ≡ false → pixel_needs t ≤ length file
  unfolding pixel_needs
  pixel_needs_lem c =
      let h : shown_height t ≡ suc (shown_height t - 1) = omega (arith, o.head.sound.some_height) in
      let m : shown_height t * row_length t.width t.depth ≡ (shown_height t - 1) * row_length t.width t.depth + row_length t.width t.depth
      = ap (λ (n : ℕ). n * row_length t.width t.depth) h ∙ suc-mul (shown_height t - 1) (row_length t.width t.depth) in
      let b : (t.width * t.depth + 7) / 8 ≤ row_length t.width t.depth = rw (length_row t.depth t.width) (bits_fit t.width t.depth) in
      omega (arith, o.rows c, m, b)

  pub rows_shown_is : is_coded t.compression ≡ false → read newer file ≡ shows (shown_with file t (stored_cell file t))
  unfolding body picture
  rows_shown_is c =
      let some = some_cell t t.width (shown_height t) o.head.sound.some_width o.head.sound.some_height refl refl in
      opens file t o.head ∙ rw (some, c, le-ltb (length file) (pixel_needs t) (pixel_needs_lem c))

-- ---- what is shown, as numbers

row_append : (xs ys : List Cell) → row_numbers (xs ++ ys) ≡ row_numbers xs ++ row_numbers ys
unfolding row_numbers
row_append [] ys = refl
row_append (x ∷ xs) ys = rw (row_append xs ys) (sym (append_assoc (cell_numbers x) (row_numbers xs) (row_numbers ys)))

pub row_tab : (f : ℕ → Cell) (n : ℕ) → row_numbers (tab f n) ≡ cat (λ x. cell_numbers (f x)) n
unfolding tab cat row_numbers
row_tab f zero = refl
row_tab f (suc n) = row_append (tab f n) (f n ∷ []) ∙ rw (row_tab f n, append-nil (cell_numbers (f n)))

rows_append : (xs ys : List (List Cell)) → numbers_of (xs ++ ys) ≡ numbers_of xs ++ numbers_of ys
unfolding numbers_of
rows_append [] ys = refl
rows_append (x ∷ xs) ys = rw (rows_append xs ys) (sym (append_assoc (row_numbers x) (numbers_of xs) (numbers_of ys)))

rows_tab : (f : ℕ → List Cell) (n : ℕ) → numbers_of (tab f n) ≡ cat (λ y. row_numbers (f y)) n
unfolding tab cat numbers_of
rows_tab f zero = refl
rows_tab f (suc n) = rows_append (tab f n) (f n ∷ []) ∙ rw (rows_tab f n, append-nil (row_numbers (f n)))

pub numbers_tab : (cell : ℕ → ℕ → Cell) (w h : ℕ) → numbers_of (tab (λ y. tab (λ x. cell y x) w) h) ≡ cat (λ y. cat (λ x. cell_numbers (cell y x)) w) h
numbers_tab cell w h = rows_tab (λ y. tab (λ x. cell y x) w) h ∙ cat_ext _ _ h (λ y l. row_tab (cell y) w)

pub stored_numbers : (file : List ℕ) (t : Fields) → numbers_of (shown_with file t (stored_cell file t)).rows ≡ plain_numbers file t
unfolding plain_numbers numbers_in cell_in plain_cell_of
stored_numbers file t = numbers_tab (stored_cell file t) t.width (shown_height t)

pub stream_numbers_lem : (file : List ℕ) (t : Fields)
    → numbers_of (shown_with file t (stream_cell file t)).rows ≡ stream_numbers t.width (shown_height t) (cells_in (decode t.depth t.width (drop t.offset file) (shown_height t - 1)))
unfolding stream_numbers
stream_numbers_lem file t = numbers_tab (stream_cell file t) t.width (shown_height t) ∙ cat_ext _ _ (shown_height t) (λ y l. ones_are _ t.width)

-- ---- 19

pub fails_coded : (file : List ℕ) (t : Fields) → t ≡ fields_of file → is_coded t.compression ≡ true
    → is_refused (decode t.depth t.width (drop t.offset file) (shown_height t - 1)) ≡ stream_fails file
unfolding stream_fails
fails_coded file t e c = rw (← e, c) (sym (stops_refused t.depth t.width (shown_height t - 1) (drop t.offset file)))

pub fails_never : (file : List ℕ) (t : Fields) → t ≡ fields_of file → is_coded t.compression ≡ false → false ≡ stream_fails file
unfolding stream_fails
fails_never file t e c = rw (← e, c)

-- what is shown, of a file that no number of its own refuses
abbrev pub shown_of : (file : List ℕ) (t : Fields) → Shown
shown_of file t = shown_with file t (λ y x. cond (is_coded t.compression) (stream_cell file t y x) (stored_cell file t y x))

pub newer_shown : (file : List ℕ) (t : Fields) → Opened file t → stream_fails file ≡ false → read newer file ≡ shows (shown_of file t)
newer_shown file t o good = go (is_coded t.compression) refl
  where
    go : (b : Bool) → is_coded t.compression ≡ b → read newer file ≡ shows (shown_with file t (λ y x. cond b (stream_cell file t y x) (stored_cell file t y x)))
    go true c = stream_shown file t o c (fails_coded file t o.head.fields c ∙ good)
    go false c = rows_shown_is file t o c
