-- Laws of a sheet's cells and rows at a place.
use mathlib.Core.Path.{◌≡◌, refl, sym, ap, ◌∙◌}
use mathlib.Core.Bool.{Bool, true, false, true≢false, cond, not, ◌&&◌, ◌||◌}
use mathlib.Core.List.{List, [], ◌∷◌, ◌++◌, map}
use Prim.Native.Nat.{ℕ, suc, ◌+◌, ◌-◌, ◌*◌, ◌^◌, ◌≤◌, ◌<◌}
use native.Mathlib.Nat.{zero-mul, mul-le-mul_right, suc-mul}
use native.Mathlib.Omega.{arith}
use borrow.Author.Tests.{eqb-true, eqb-false, eq-eqb, ne_eqb, le-leb, lt-leb, ltb-false}
use denote.Ref.{Bor}
use lib.Dec.{eqb, ltb, leb}
use lib.ListN.{length, get_or, take, drop, length-append, drop_of_length-le}
use Rattle.leaves.specs.Put.{put}
use Rattle.leaves.proofs.Puts.{put-append}
use Rattle.std.specs.Cmp.Lexicographic.{pointwise}
use Rattle.std.specs.List.{find, list_any, position, position_or_len}
use Rattle.std.specs.Option.{unwrap_or, option_map, MatchOption}
use Rattle.std.specs.Prelude.{Option, Some, None}
use Rattle.std.proofs.lemmas.Option.{cond_some}
use Rattle.arguments.specs.Numbers.{number_of}
use Rattle.arguments.specs.Words.{up_to, items_of, alike}
use Rattle.arguments.proofs.Pieces.{split, none_false, pieces-at, pieces_end}
use Rattle.sheets.specs.Sheets.{is_separator, separator_of, lines_of, without_return, after_blanks, index_of, row_of, rows_of, width_of, are_indices, up_to_bad, is_grid, cells_of}

-- ---- separators, blanks and line ends

turned : (x y : ℕ) → eqb x y ≡ eqb y x
turned x y = go (eqb x y) refl
  where
    go : (b : Bool) → eqb x y ≡ b → b ≡ eqb y x
    go true q = sym (eq-eqb y x (sym (eqb-true x y q)))
    go false q = sym (ne_eqb y x (λ e. eqb-false x y q (sym e)))

or_false : (b : Bool) → (b || false) ≡ b
or_false true = refl
or_false false = refl

pub separates : (x : ℕ) → list_any (λ (y : ℕ). eqb y x) (44 ∷ 59 ∷ 9 ∷ []) ≡ is_separator x
unfolding is_separator
separates x = rw (turned 44 x, turned 59 x, turned 9 x, or_false (eqb x 9))

pub as_found : (found : Option ℕ) → found ≡ option_map (λ (x : ℕ). x) found
as_found None = refl
as_found (Some x) = refl

pub first_separator : (text : List ℕ) → unwrap_or (find is_separator text) 44 ≡ separator_of text
unfolding separator_of
first_separator [] = refl
first_separator (x ∷ xs) = go (is_separator x) (first_separator xs)
  where
    go : (b : Bool) → unwrap_or (find is_separator xs) 44 ≡ separator_of xs → unwrap_or (cond b (Some x) (find is_separator xs)) 44 ≡ cond b x (separator_of xs)
    go true e = refl
    go false e = e

-- a test for what is no blank
abbrev pub no_blank : ℕ → Bool
no_blank x = not (eqb x 32)

pub blanks_over : (cell : List ℕ) → after_blanks cell ≡ drop (position_or_len no_blank cell) cell
unfolding after_blanks
blanks_over [] = refl
blanks_over (x ∷ xs) = go (eqb x 32) (blanks_over xs)
  where
    go : (b : Bool) → after_blanks xs ≡ drop (position_or_len no_blank xs) xs
        → cond b (after_blanks xs) (x ∷ xs) ≡ drop (cond (not (not b)) (1 + position_or_len no_blank xs) 0) (x ∷ xs)
    go true e =
        let n = position_or_len no_blank xs in
        let one : suc (position_or_len no_blank xs) ≡ 1 + position_or_len no_blank xs = omega arith in
        e ∙ ap (λ (k : ℕ). drop k (x ∷ xs)) one
    go false e = refl

module _ (cell : List ℕ) where
  pub blanks_before : (n : ℕ) → position no_blank cell ≡ Some n → drop n cell ≡ after_blanks cell
  blanks_before n e =
      let p = cond_some (ltb (position_or_len no_blank cell) (length cell)) (position_or_len no_blank cell) n e in
      ap (λ (k : ℕ). drop k cell) (sym p.1) ∙ sym (blanks_over cell)

  pub blanks_alone : position no_blank cell ≡ None → [] ≡ after_blanks cell
  blanks_alone e =
      let h = ltb-false (position_or_len no_blank cell) (length cell) (none_false (ltb (position_or_len no_blank cell) (length cell)) (position_or_len no_blank cell) e) in
      sym (blanks_over cell ∙ drop_of_length-le cell h)

-- the test for a byte order mark
pub same_turned : (a b : List ℕ) → pointwise eqb a b ≡ alike b a
unfolding alike
same_turned [] [] = refl
same_turned [] (y ∷ ys) = refl
same_turned (x ∷ xs) [] = refl
same_turned (x ∷ xs) (y ∷ ys) = rw (turned x y, same_turned xs ys)

and_true : (b : Bool) → (b && true) ≡ b
and_true true = refl
and_true false = refl

-- the last byte, against CR
pub last_is : (line : List ℕ) (b : Bool) → pointwise eqb (drop (length line - 1) line) (13 ∷ []) ≡ b → eqb (get_or line (length line - 1) 0) 13 ≡ b
last_is [] b e = e
last_is (x ∷ xs) b e =
    let n = length (x ∷ xs) - 1 in
    let inside : length (x ∷ xs) - 1 < length (x ∷ xs) = omega arith in
    let past : length (x ∷ xs) ≤ length (x ∷ xs) - 1 + 1 = omega arith in
    sym (and_true (eqb (get_or (x ∷ xs) n 0) 13)) ∙ (rw (split (x ∷ xs) n inside, drop_of_length-le (x ∷ xs) past) at e)

pub stripped : (line : Bor (List ℕ)) (got : Option (Bor (List ℕ)))
    → MatchOption got (pointwise eqb (drop (length line.now - 1) line.now) (13 ∷ []) ≡ false)
    (λ x. (pointwise eqb (drop (length line.now - 1) line.now) (13 ∷ []) ≡ true) × (x.now ≡ take (length line.now - 1) line.now) × (length x.now + 1 ≡ length line.now))
    → (unwrap_or got line).now ≡ without_return line.now
unfolding without_return
stripped line None h = rw (last_is line.now false h)
stripped line (Some x) h = rw (last_is line.now true h.0) h.1

-- ---- a line's cells

-- an index up to `most`
module _ (cell : List ℕ) (most : ℕ) (small : most < 256) where
  pub no_number : None ≡ number_of (after_blanks cell) → index_of cell ≤ most → ⊥
  unfolding index_of
  no_number e h = let k : 2 ^ 60 ≤ most = rw (← e) at h in omega arith

  pub number_is : (n : ℕ) → Some n ≡ number_of (after_blanks cell) → n ≡ index_of cell
  unfolding index_of
  number_is n e = ap (λ (o : Option ℕ). unwrap_or o (2 ^ 60)) e

-- cells up to one that is no index
module _ (most v : ℕ) (vs : List ℕ) where
  pub bad_here : most < v → up_to_bad most (v ∷ vs) ≡ []
  unfolding up_to_bad
  bad_here h = rw (lt-leb v most h)

  pub good_here : v ≤ most → up_to_bad most (v ∷ vs) ≡ v ∷ up_to_bad most vs
  unfolding up_to_bad
  good_here h = rw (le-leb v most h)

pub bad_end : (most : ℕ) → up_to_bad most [] ≡ []
unfolding up_to_bad
bad_end most = refl

-- a row without one
pub all_good : (most : ℕ) (vs : List ℕ) → length (up_to_bad most vs) ≡ length vs → up_to_bad most vs ≡ vs
unfolding up_to_bad
all_good most [] e = refl
all_good most (v ∷ vs) e = go (leb v most) e (all_good most vs)
  where
    go : (b : Bool) → length (cond b (v ∷ up_to_bad most vs) []) ≡ suc (length vs) → (length (up_to_bad most vs) ≡ length vs → up_to_bad most vs ≡ vs) → cond b (v ∷ up_to_bad most vs) [] ≡ v ∷ vs
    go true q f = ap (λ (l : List ℕ). v ∷ l) (f (omega arith))
    go false q f = let z : ⊥ = omega arith in absurd z

-- a row is of indices exactly where none is left out
indices_all : (most : ℕ) (vs : List ℕ) → length (up_to_bad most vs) ≡ length vs → are_indices most vs ≡ true
unfolding are_indices up_to_bad
indices_all most [] e = refl
indices_all most (v ∷ vs) e = go (leb v most) e (indices_all most vs)
  where
    go : (b : Bool) → length (cond b (v ∷ up_to_bad most vs) []) ≡ suc (length vs) → (length (up_to_bad most vs) ≡ length vs → are_indices most vs ≡ true) → (b && are_indices most vs) ≡ true
    go true q f = f (omega arith)
    go false q f = let z : ⊥ = omega arith in absurd z

indices_not : (most : ℕ) (vs : List ℕ) → (length (up_to_bad most vs) ≡ length vs → ⊥) → are_indices most vs ≡ false
unfolding are_indices up_to_bad
indices_not most [] n = absurd (n refl)
indices_not most (v ∷ vs) n = go (leb v most) n (indices_not most vs)
  where
    go : (b : Bool) → (length (cond b (v ∷ up_to_bad most vs) []) ≡ suc (length vs) → ⊥) → ((length (up_to_bad most vs) ≡ length vs → ⊥) → are_indices most vs ≡ false) → (b && are_indices most vs) ≡ false
    go true q f = f (λ e. q (ap suc e))
    go false q f = refl

-- ---- rows

pub length-map : {A B : Type 0} (f : A → B) (xs : List A) → length (map f xs) ≡ length xs
length-map f [] = refl
length-map f (x ∷ xs) = ap suc (length-map f xs)

-- the cells of a line
pub length_row : (separator : ℕ) (line : List ℕ) → length (row_of separator line) ≡ length (items_of separator (without_return line))
unfolding row_of
length_row separator line = length-map index_of (items_of separator (without_return line))

module _ (separator : ℕ) (text : List ℕ) (at : ℕ) where
  pub rows_end : length text ≤ at → rows_of separator (drop at text) ≡ []
  unfolding rows_of lines_of
  rows_end h = ap (map (row_of separator)) (pieces_end 10 text at h)

  pub rows_at : at < length text → (to : ℕ) → to ≡ at + length (up_to 10 (drop at text)) → rows_of separator (drop at text) ≡ row_of separator (up_to 10 (drop at text)) ∷ rows_of separator (drop (to + 1) text)
  unfolding rows_of lines_of
  rows_at h to e = rw e (ap (map (row_of separator)) (pieces-at 10 text at h))

-- a grid's rows one by one
module _ (most width : ℕ) (row : List ℕ) (rows : List (List ℕ)) where
  pub ragged_row : (length row ≡ width → ⊥) → is_grid most width (row ∷ rows) ≡ false
  unfolding is_grid
  ragged_row n = rw (ne_eqb (length row) width n)

  module _ (long : length row ≡ width) where
    pub bad_row : (length (up_to_bad most row) ≡ width → ⊥) → is_grid most width (row ∷ rows) ≡ false
    unfolding is_grid
    bad_row n = rw (eq-eqb (length row) width long, indices_not most row (λ e. n (e ∙ long)))

    pub good_row : length (up_to_bad most row) ≡ width → is_grid most width (row ∷ rows) ≡ is_grid most width rows
    unfolding is_grid
    good_row e = rw (eq-eqb (length row) width long, indices_all most row (e ∙ sym long))

-- a row put, and the rows behind it
pub put_row : (was : List ℕ) (at : ℕ) (row : List ℕ) (rows : List (List ℕ)) → at + length row ≤ length was
    → put (put was at row) (at + length row) (cells_of rows) ≡ put was at (cells_of (row ∷ rows))
unfolding cells_of
put_row was at row rows h = put-append was at row (cells_of rows) h

pub no_cells : cells_of [] ≡ []
unfolding cells_of
no_cells = refl

pub all_rows : (most width : ℕ) → is_grid most width [] ≡ true
unfolding is_grid
all_rows most width = refl

pub width-first : (row : List ℕ) (rows : List (List ℕ)) → width_of (row ∷ rows) ≡ length row
unfolding width_of
width-first row rows = refl

pub no_width_lem : width_of [] ≡ 0
unfolding width_of
no_width_lem = refl

-- rows that have been read, and one more that does not fit
pub too_many : (room done rows whole width : ℕ) → done ≡ rows * width → rows + 1 ≤ whole → room - done < width → done ≤ room → room < whole * width
too_many room done rows whole width e h k l = omega (arith, mul-le-mul_right width h, suc-mul rows width)

-- a grid has as many cells as its width times its rows
pub grid_cells : (most width : ℕ) (rows : List (List ℕ)) → is_grid most width rows ≡ true → length (cells_of rows) ≡ length rows * width
unfolding is_grid cells_of
grid_cells most width [] e = sym (zero-mul width)
grid_cells most width (row ∷ rows) e = go (eqb (length row) width) refl (are_indices most row) e (grid_cells most width rows)
  where
    go : (a : Bool) → eqb (length row) width ≡ a → (b : Bool) → (a && (b && is_grid most width rows)) ≡ true → (is_grid most width rows ≡ true → length (cells_of rows) ≡ length rows * width)
        → length (row ++ cells_of rows) ≡ suc (length rows) * width
    go true q true g f = rw (length-append row (cells_of rows), f g, eqb-true (length row) width q, suc-mul (length rows) width) (omega arith)
    go true q false g f = absurd (true≢false (sym g))
    go false q b g f = absurd (true≢false (sym g))
