-- One row read from its start, of any file: it is that row of the whole reading.
use mathlib.Core.Path.{◌≡◌, refl, sym, ap, ◌∙◌}
use mathlib.Core.Bool.{Bool, true, false, false≢true, not, cond, ◌||◌}
use mathlib.Core.List.{List, []}
use Prim.Native.Nat.{ℕ, ◌+◌, ◌-◌, ◌*◌, ◌≤◌, ◌<◌}
use native.Mathlib.Nat.{mul-le-mul_right}
use native.Mathlib.Omega.{arith}
use borrow.Author.Tests.{ltb-false, le-ltb, eqb-true}
use lib.Dec.{ltb, eqb}
use lib.ListN.{length, get_or, drop}
use lib.Seq.{drop-drop, get_or-drop, get_or-take}
use Rattle.leaves.specs.Lists.{tab}
use Rattle.leaves.proofs.ListLaws.{tab_ext, get_or-tab}
use Rattle.format.specs.Decode.{Decoded, filled, refused, read_row, rows_below, decode}
use Rattle.format.specs.OneRow.{RowReading, shows_row, refuses_row, cell_from, coded_row, cell_bytes, row_body, row_by_fields, read_one_row}
use Rattle.format.specs.Readers.{Reader, Reading, shows, refuses, Fields, fields_of, top_first, shown_height, knows_depth, knows_compression, pairs, row_length, plain_cell_of, stored_at, picture, streamed, head_needs, pixel_needs, body, read_fields, read}
use Rattle.format.specs.Shown.{Cell, index, Cause, unknown_depth, unknown_compression, pairing, short, Shown}
use Rattle.format.proofs.StreamReading.{decode_rows}

-- ---- a reading that shows

shows_any : Reading → Bool
shows_any (shows s) = true
shows_any (refuses cause) = false

shown_or : Shown → Reading → Shown
shown_or other (shows s) = s
shown_or other (refuses cause) = other

not_shown : (cause : Cause) (s : Shown) → refuses cause ≡ shows s → ⊥
unfolding shows_any
not_shown cause s e = false≢true (ap shows_any e)

shows_cells : RowReading → Bool
shows_cells (shows_row row) = true
shows_cells (refuses_row cause) = false

pub no_row : (cause : Cause) (row : List Cell) → refuses_row cause ≡ shows_row row → ⊥
unfolding shows_cells
no_row cause row e = false≢true (ap shows_cells e)

same_shown : (s t : Shown) → shows s ≡ shows t → s ≡ t
unfolding shown_or
same_shown s t e = ap (shown_or s) e

-- a test that would refuse does not
passes : (b : Bool) (cause : Cause) (rest : Reading) (s : Shown) → cond b (refuses cause) rest ≡ shows s → (b ≡ false) × (rest ≡ shows s)
passes true cause rest s e = absurd (not_shown cause s e)
passes false cause rest s e = (refl, e)

-- what is known of a file that is shown
record Opened (r : Reader) (file : List ℕ) (t : Fields) (s : Shown) : Type 0 where
  first : ltb (length file) 54 ≡ false
  depth : not (knows_depth r t.depth) ≡ false
  compression : not (knows_compression r t.compression) ≡ false
  paired : not (pairs t.compression t.depth) ≡ false
  long : ltb (length file) (head_needs t) ≡ false
  rest : body file t ≡ shows s

opened : (r : Reader) (file : List ℕ) (s : Shown) → read r file ≡ shows s → Opened r file (fields_of file) s
unfolding read read_fields
opened r file s e =
    let t = fields_of file in
    let one = passes (ltb (length file) 54) short _ s e in
    let two = passes (not (knows_depth r t.depth)) unknown_depth _ s one.1 in
    let three = passes (not (knows_compression r t.compression)) unknown_compression _ s two.1 in
    let four = passes (not (pairs t.compression t.depth)) pairing _ s three.1 in
    let five = passes (ltb (length file) (head_needs t)) short _ s four.1 in
    record { first = one.0; depth = two.0; compression = three.0; paired = four.0; long = five.0; rest = five.1 }

-- its head is read for one row too
row_opens : (r : Reader) (file : List ℕ) (s : Shown) → Opened r file (fields_of file) s → (start : ℕ) → read_one_row r file start ≡ row_body file (fields_of file) start
unfolding read_one_row row_by_fields
row_opens r file s o start = rw (o.first, o.depth, o.compression, o.paired, o.long)

-- ---- where a stored row begins, and which row of the picture it is

abbrev pub is_coded : Fields → Bool
is_coded t = eqb t.compression 1 || eqb t.compression 2

-- the bytes that are read before a place; a refusal has none
abbrev pub bytes_read_of : Decoded → ℕ
bytes_read_of (filled cells taken) = taken
bytes_read_of (refused cause) = 0

-- stored rows have one length; of a stream, row s begins behind the rows below it
unfoldable pub start_in : List ℕ → ℕ → ℕ
start_in file s =
    let t = fields_of file in
    t.offset + cond (is_coded t) (bytes_read_of (rows_below t.depth t.width (drop t.offset file) s)) (s * row_length t.width t.depth)

-- a stream is bottom-up, whatever the height's sign
abbrev pub shown_at : Fields → ℕ → ℕ
shown_at t s = cond (is_coded t) (shown_height t - 1 - s) (stored_at t s)

-- ---- its reading

-- a stored row of a picture whose cells are given by row and column
picture_row : (file : List ℕ) (t : Fields) (cell : ℕ → ℕ → Cell) (s : Shown) (y : ℕ) → picture file t cell ≡ shows s → y < shown_height t
    → get_or s.rows y [] ≡ tab (cell y) t.width
unfolding picture
picture_row file t cell s y e l =
    ap (λ (k : Shown). get_or k.rows y []) (sym (same_shown _ s e)) ∙ get_or-tab (λ y. tab (λ x. cell y x) t.width) (shown_height t) y [] l

picture_height : (file : List ℕ) (t : Fields) (cell : ℕ → ℕ → Cell) (s : Shown) → picture file t cell ≡ shows s → s.height ≡ shown_height t
unfolding picture
picture_height file t cell s e = ap (λ (k : Shown). k.height) (sym (same_shown _ s e))

-- of a stream
coded_row_lem : (file : List ℕ) (t : Fields) (s : Shown) (k : ℕ) (d : Decoded) → decode t.depth t.width (drop t.offset file) (shown_height t - 1) ≡ d
    → streamed file t d ≡ shows s → k < s.height
    → coded_row t.width (read_row t.depth t.width (drop (t.offset + bytes_read_of (rows_below t.depth t.width (drop t.offset file) k)) file))
    ≡ shows_row (get_or s.rows (shown_height t - 1 - k) [])
unfolding streamed
coded_row_lem file t s k (refused cause) e q l = absurd (not_shown cause s q)
coded_row_lem file t s k (filled all n) e q l =
    let bs = drop t.offset file in
    let cell : ℕ → ℕ → Cell = λ y x. index (get_or all ((shown_height t - 1 - y) * t.width + x) 0) in
    let tall : k < shown_height t = omega (arith, l, picture_height file t cell s q) in
    let row = decode_rows t.depth t.width bs (shown_height t - 1) e k (omega arith) in
    let place : bytes_read_of (rows_below t.depth t.width bs k) ≡ row.place = ap bytes_read_of row.below in
    let here : drop (t.offset + bytes_read_of (rows_below t.depth t.width bs k)) file ≡ drop row.place bs
    = ap (λ (m : ℕ). drop (t.offset + m) file) place ∙ sym (drop-drop row.place t.offset file) in
    let back : shown_height t - 1 - (shown_height t - 1 - k) ≡ k = omega arith in
    ap (λ (l : List ℕ). coded_row t.width (read_row t.depth t.width l)) here
    ∙ ap (coded_row t.width) row.here
    ∙ ap shows_row
    (tab_ext _ _ t.width (λ x b.
    ap index (get_or-take t.width (drop (k * t.width) all) x 0 b ∙ get_or-drop (k * t.width) all x 0 ∙ ap (λ (m : ℕ). get_or all (m * t.width + x) 0) (sym back)))
    ∙ sym (picture_row file t cell s (shown_height t - 1 - k) q (omega arith)))

-- the row of the picture that a stored row is, is one of its rows, and the stored row is its own
stored_back : (t : Fields) (k : ℕ) → k < shown_height t → (stored_at t k < shown_height t) × (stored_at t (stored_at t k) ≡ k)
stored_back t k l = go (top_first t)
  where
    go : (b : Bool) → (cond b k (shown_height t - 1 - k) < shown_height t) × (cond b (cond b k (shown_height t - 1 - k)) (shown_height t - 1 - cond b k (shown_height t - 1 - k)) ≡ k)
    go true = (l, refl)
    go false = (omega arith, omega arith)

-- of stored rows
plain_row : (file : List ℕ) (t : Fields) (s : Shown) (k : ℕ) → cond (ltb (length file) (pixel_needs t)) (refuses short) (picture file t (λ y x. plain_cell_of file t (stored_at t y) x)) ≡ shows s
    → k < s.height
    → cond (ltb (length file) (t.offset + k * row_length t.width t.depth + cell_bytes t)) (refuses_row short) (shows_row (tab (cell_from file t (t.offset + k * row_length t.width t.depth)) t.width))
    ≡ shows_row (get_or s.rows (stored_at t k) [])
unfolding plain_cell_of cell_from pixel_needs
plain_row file t s k e l =
    let cell : ℕ → ℕ → Cell = λ y x. plain_cell_of file t (stored_at t y) x in
    let long = passes (ltb (length file) (pixel_needs t)) short (picture file t cell) s e in
    let tall : k < shown_height t = omega (arith, l, picture_height file t cell s long.1) in
    let back = stored_back t k tall in
    let n : ℕ = row_length t.width t.depth in
    let below : k * n ≤ (shown_height t - 1) * n = mul-le-mul_right n (omega arith) in
    let inside : t.offset + k * n + cell_bytes t ≤ length file = omega (arith, ltb-false (length file) (pixel_needs t) long.0) in
    rw (le-ltb (length file) (t.offset + k * n + cell_bytes t) inside)
    (ap shows_row
    (ap (λ (j : ℕ). tab (plain_cell_of file t j) t.width) (sym back.1) ∙ sym (picture_row file t cell s (stored_at t k) long.1 back.0)))

-- a row without a cell
no_cells : (cell : ℕ → Cell) (w : ℕ) → w ≡ 0 → tab cell w ≡ []
unfolding tab
no_cells cell w e = ap (tab cell) e

body_row : (file : List ℕ) (t : Fields) (s : Shown) (k : ℕ) → body file t ≡ shows s → k < s.height
    → row_body file t (t.offset + cond (is_coded t) (bytes_read_of (rows_below t.depth t.width (drop t.offset file) k)) (k * row_length t.width t.depth))
    ≡ shows_row (get_or s.rows (shown_at t k) [])
unfolding body row_body
body_row file t s k e l = go (eqb t.width 0) (eqb (shown_height t) 0) (is_coded t) refl refl e
  where
    from : Bool → ℕ
    from c = t.offset + cond c (bytes_read_of (rows_below t.depth t.width (drop t.offset file) k)) (k * row_length t.width t.depth)

    none : ℕ → ℕ → Cell
    none y x = index 0

    go : (a b c : Bool) → eqb t.width 0 ≡ a → eqb (shown_height t) 0 ≡ b
        → cond (a || b) (picture file t (λ y x. index 0))
        (cond c (streamed file t (decode t.depth t.width (drop t.offset file) (shown_height t - 1)))
        (cond (ltb (length file) (pixel_needs t)) (refuses short) (picture file t (λ y x. plain_cell_of file t (stored_at t y) x)))) ≡ shows s
        → cond a (shows_row [])
        (cond c (coded_row t.width (read_row t.depth t.width (drop (from c) file)))
        (cond (ltb (length file) (from c + cell_bytes t)) (refuses_row short) (shows_row (tab (cell_from file t (from c)) t.width))))
        ≡ shows_row (get_or s.rows (cond c (shown_height t - 1 - k) (stored_at t k)) [])
    go true b c ea eb q =
        let tall : k < shown_height t = omega (arith, l, picture_height file t none s q) in
        let y : ℕ = cond c (shown_height t - 1 - k) (stored_at t k) in
        ap shows_row (sym (picture_row file t none s y q (at c tall) ∙ no_cells (none y) t.width (eqb-true t.width 0 ea)))
      where
        at : (c : Bool) → k < shown_height t → cond c (shown_height t - 1 - k) (stored_at t k) < shown_height t
        at true h = omega arith
        at false h = (stored_back t k h).0
    go false true c ea eb q = absurd (omega (arith, l, picture_height file t none s q, eqb-true (shown_height t) 0 eb))
    go false false true ea eb q = coded_row_lem file t s k (decode t.depth t.width (drop t.offset file) (shown_height t - 1)) refl q l
    go false false false ea eb q = plain_row file t s k q l

-- Whatever a reader shows of a file, of one row, read from its start, it shows that row.
pub row_of_reading : (r : Reader) (file : List ℕ) (s : Shown) → read r file ≡ shows s → (k : ℕ) → k < s.height
    → read_one_row r file (start_in file k) ≡ shows_row (get_or s.rows (shown_at (fields_of file) k) [])
unfolding start_in
row_of_reading r file s e k l = let o = opened r file s e in row_opens r file s o (start_in file k) ∙ body_row file (fields_of file) s k o.rest l
