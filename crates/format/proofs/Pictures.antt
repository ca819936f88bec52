-- Heights and pictures as the readers take them.
use mathlib.Core.Path.{◌≡◌, refl, ap, ◌∙◌}
use mathlib.Core.Bool.{Bool, true, false, cond, ◌||◌}
use mathlib.Core.List.{List}
use Prim.Native.Nat.{ℕ, ◌-◌, ◌<◌}
use native.Mathlib.Omega.{arith}
use borrow.Author.Tests.{le-leb, lt-leb, ne_eqb}
use lib.Dec.{leb, eqb}
use Rattle.leaves.specs.Lists.{tab}
use Rattle.rows.specs.StoredRows.{row_of}
use Rattle.format.specs.Readers.{Fields, top_first, shown_height, palette_of, picture, no_cell_of, shows}
use Rattle.format.specs.Shown.{Cell}
use Rattle.leaves.proofs.ListLaws.{tab_ext}

-- ---- heights

-- the sign of the stored height is the option
sign : (td : Bool) (h : ℕ) → 0 < h → h < 2147483648 → leb 2147483648 (cond td (4294967296 - h) h) ≡ td
sign true h p q = le-leb 2147483648 (4294967296 - h) (omega arith)
sign false h p q = lt-leb 2147483648 h q

-- and its magnitude the height
magnitude : (td : Bool) (h : ℕ) → h < 2147483648 → cond td (4294967296 - cond td (4294967296 - h) h) (cond td (4294967296 - h) h) ≡ h
magnitude true h q = omega arith
magnitude false h q = refl

module _ (t : Fields) (td : Bool) (h : ℕ) (some : 0 < h) (tall : h < 2147483648) (e : t.height ≡ cond td (4294967296 - h) h) where
  pub top_first_lem : top_first t ≡ td
  top_first_lem = ap (leb 2147483648) e ∙ sign td h some tall

  pub height_shown_lem : shown_height t ≡ h
  height_shown_lem = (λ z. cond (top_first_lem z) (4294967296 - e z) (e z)) ∙ magnitude td h tall

-- the stored row of a shown row is stored, and is that row
pub row_back : (td : Bool) (h y : ℕ) → y < h → row_of td h (cond td y (h - 1 - y)) ≡ y
row_back true h y l = refl
row_back false h y l = omega arith

pub row_stored : (td : Bool) (h y : ℕ) → y < h → cond td y (h - 1 - y) < h
row_stored true h y l = l
row_stored false h y l = omega arith

-- ---- pictures

-- a picture with a column and a row has a cell
pub some_cell : (t : Fields) (w h : ℕ) → 0 < w → 0 < h → t.width ≡ w → shown_height t ≡ h → no_cell_of t ≡ false
some_cell t w h p q wide all = (λ z. eqb (wide z) 0 || eqb (all z) 0) ∙ rw (ne_eqb w 0 (λ e. omega arith), ne_eqb h 0 (λ e. omega arith))

-- a picture shows what it must if its parts do, cell by cell
pub picture_shown : (file : List ℕ) (t : Fields) (cell at : ℕ → ℕ → Cell) (w h : ℕ) (colours : List Cell) → t.width ≡ w → shown_height t ≡ h → palette_of file t ≡ colours
    → ((y x : ℕ) → y < h → x < w → cell y x ≡ at y x)
    → picture file t cell ≡ shows (record { width = w; height = h; palette = colours; rows = tab (λ y. tab (λ x. at y x) w) h })
unfolding picture
picture_shown file t cell at w h colours wide all palette shown =
    let rows : tab (λ y. tab (λ x. cell y x) t.width) (shown_height t) ≡ tab (λ y. tab (λ x. at y x) w) h
    = (λ z. tab (λ y. tab (λ x. cell y x) (wide z)) (all z))
    ∙ tab_ext _ _ h (λ y l. tab_ext _ _ w (λ x k. shown y x l k)) in
    λ z. shows (record { width = wide z; height = all z; palette = palette z; rows = rows z })
