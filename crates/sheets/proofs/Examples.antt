-- Sheets as spreadsheets write them, by computation.
use mathlib.Core.Bool.{true, false}
use mathlib.Core.List.{[], ◌∷◌, map}
use mathlib.Core.Path.{◌≡◌, refl}
use Rattle.leaves.specs.Texts.{bytes_of}
use Rattle.arguments.specs.Numbers.{digit_of, with_digit, digits_from, digits_of_of, number_of}
use Rattle.arguments.specs.Words.{up_to, onto, pieces, items_of, alike}
use Rattle.leaves.specs.Lists.{cat}
use Rattle.messages.specs.Messages.{decimal_in, decimal}
use Rattle.sheets.specs.SheetTexts.{mark_behind, entry_text, sheet_text}
use Rattle.sheets.specs.Sheets.{is_separator, separator_of, without_mark, lines_of, without_return, after_blanks, index_of, row_of, rows_of, sheet_rows, width_of, are_indices, is_grid}

-- commas, semicolons with CR LF and no end, a tab beside a blank, one column, no row, and a cell that is no number
pub sheets_hold : map (λ t. sheet_rows (bytes_of t)) ("1,2\n3,0x1F\n" ∷ "1;2\r\n3;4" ∷ " 7\t8\n" ∷ "5\n6\n" ∷ "" ∷ "1,x\n" ∷ [])
    ≡ ((1 ∷ 2 ∷ []) ∷ (3 ∷ 31 ∷ []) ∷ []) ∷ ((1 ∷ 2 ∷ []) ∷ (3 ∷ 4 ∷ []) ∷ []) ∷ ((7 ∷ 8 ∷ []) ∷ []) ∷ ((5 ∷ []) ∷ (6 ∷ []) ∷ []) ∷ [] ∷ ((1 ∷ 1152921504606846976 ∷ []) ∷ []) ∷ []
unfolding bytes_of is_separator separator_of without_mark lines_of without_return after_blanks index_of row_of rows_of sheet_rows digit_of with_digit digits_from digits_of_of number_of up_to onto pieces items_of alike
sheets_hold = refl

-- the same behind a byte order mark
pub mark_skipped : sheet_rows (0xEF ∷ 0xBB ∷ 0xBF ∷ bytes_of "9\n") ≡ (9 ∷ []) ∷ []
unfolding bytes_of is_separator separator_of without_mark lines_of without_return after_blanks index_of row_of rows_of sheet_rows digit_of with_digit digits_from digits_of_of number_of up_to onto pieces items_of alike
mark_skipped = refl

-- a grid, an index over the largest, and a row that is shorter than the first
pub grids_hold : map (λ rows. is_grid 15 (width_of rows) rows) (((1 ∷ 15 ∷ []) ∷ (0 ∷ 3 ∷ []) ∷ []) ∷ ((1 ∷ 16 ∷ []) ∷ []) ∷ ((1 ∷ 2 ∷ []) ∷ (3 ∷ []) ∷ []) ∷ [] ∷ []) ≡ true ∷ false ∷ false ∷ true ∷ []
unfolding width_of are_indices is_grid
grids_hold = refl

-- two lines of two numbers, and one of one
pub texts_hold : sheet_text 2 (7 ∷ 10 ∷ 4294967295 ∷ 0 ∷ []) ≡ bytes_of "7,10\n4294967295,0\n"
unfolding bytes_of decimal_in decimal cat mark_behind entry_text sheet_text
texts_hold = refl

pub text_holds : sheet_text 1 (255 ∷ []) ≡ bytes_of "255\n"
unfolding bytes_of decimal_in decimal cat mark_behind entry_text sheet_text
text_holds = refl
