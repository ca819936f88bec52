-- The loop over a sheet's rows: those that are left, put into the present memory, give the final one.
use mathlib.Core.Path.{◌≡◌, refl, sym, ap, ◌∙◌}
use mathlib.Core.Bool.{true, false}
use mathlib.Core.List.{List, [], ◌∷◌}
use Prim.Native.Nat.{ℕ, ◌+◌, ◌-◌, ◌*◌, ◌≤◌, ◌<◌}
use native.Mathlib.Nat.{suc-mul}
use native.Mathlib.Omega.{arith}
use lib.ListN.{length, drop}
use Rattle.leaves.specs.Put.{put}
use Rattle.leaves.proofs.Puts.{put-nil, length-put}
use Rattle.arguments.specs.Words.{up_to, items_of}
use Rattle.sheets.specs.Sheets.{without_return, row_of, rows_of, width_of, up_to_bad, is_grid, cells_of}
use Rattle.sheets.proofs.CellLoop.{line_of}
use Rattle.sheets.proofs.SheetLaws.{rows_at, rows_end, length_row, ragged_row, bad_row, good_row, all_good, put_row, no_cells, all_rows, too_many, grid_cells}

pub record RowsLeft (separator : ℕ) (text : List ℕ) (start most width : ℕ) (was cells : List ℕ) (at rows filled : ℕ) : Type 0 where
  pub wide : width ≡ width_of (rows_of separator (drop start text))
  pub long : length cells ≡ length was
  pub grid : is_grid most width (rows_of separator (drop at text)) ≡ is_grid most width (rows_of separator (drop start text))
  pub count : rows + length (rows_of separator (drop at text)) ≡ length (rows_of separator (drop start text))
  pub done : filled ≡ rows * width
  pub fits : filled ≤ length was
  pub later : put cells filled (cells_of (rows_of separator (drop at text))) ≡ put was 0 (cells_of (rows_of separator (drop start text)))

module _ {separator : ℕ} {text : List ℕ} {start most width : ℕ} {was : List ℕ} where
  pub rows_start : width ≡ width_of (rows_of separator (drop start text)) → RowsLeft separator text start most width was was start 0 0
  rows_start e = record { wide = e; long = refl; grid = refl; count = omega arith; done = omega arith; fits = omega arith; later = refl }

  module _ {cells : List ℕ} {at rows filled : ℕ} (l : RowsLeft separator text start most width was cells at rows filled) where
    -- a trouble of the rows that are left is one of the whole sheet
    whole : is_grid most width (rows_of separator (drop at text)) ≡ false → is_grid most (width_of (rows_of separator (drop start text))) (rows_of separator (drop start text)) ≡ false
    whole e = ap (λ (w : ℕ). is_grid most w (rows_of separator (drop start text))) (sym l.wide) ∙ sym l.grid ∙ e

    pub rows_done : length text ≤ at
        → (is_grid most width (rows_of separator (drop start text)) ≡ true)
        × (width ≡ width_of (rows_of separator (drop start text)))
        × (rows ≡ length (rows_of separator (drop start text)))
        × (filled ≡ length (cells_of (rows_of separator (drop start text))))
        × (filled ≤ length was)
        × (cells ≡ put was 0 (cells_of (rows_of separator (drop start text))))
    rows_done h =
        let e : rows_of separator (drop at text) ≡ [] = rows_end separator text at h in
        let good = sym l.grid ∙ ap (is_grid most width) e ∙ all_rows most width in
        let all : rows ≡ length (rows_of separator (drop start text)) = omega (arith, l.count, ap length e) in (
          good,
          l.wide,
          all,
          l.done ∙ ap (λ (k : ℕ). k * width) all ∙ sym (grid_cells most width (rows_of separator (drop start text)) good),
          l.fits,
          sym (put-nil cells filled) ∙ ap (put cells filled) (sym (ap cells_of e ∙ no_cells)) ∙ l.later,
        )

    module _ (inside : at < length text) (to : ℕ) (end : to ≡ at + length (up_to 10 (drop at text))) where
      -- the row at the place
      row : List ℕ
      row = row_of separator (up_to 10 (drop at text))

      here : rows_of separator (drop at text) ≡ row ∷ rows_of separator (drop (to + 1) text)
      unfolding row
      here = rows_at separator text at inside to end

      pub rows_ragged : (count : ℕ) → count ≡ length (items_of separator (without_return (up_to 10 (drop at text)))) → (count ≡ width → ⊥)
          → is_grid most (width_of (rows_of separator (drop start text))) (rows_of separator (drop start text)) ≡ false
      unfolding row
      rows_ragged count e n =
          whole (ap (is_grid most width) here ∙ ragged_row most width row (rows_of separator (drop (to + 1) text)) (λ q. n (e ∙ sym (length_row separator (up_to 10 (drop at text))) ∙ q)))

      pub rows_room : length cells - filled < width → length was < length (rows_of separator (drop start text)) * width_of (rows_of separator (drop start text))
      rows_room h =
          let more : rows + 1 ≤ length (rows_of separator (drop start text)) = omega (arith, l.count, ap length here) in
          let k : length was - filled < width = rw (← l.long) h in
          (rw l.wide at (too_many (length was) filled rows (length (rows_of separator (drop start text))) width l.done more k l.fits))

      module _ (count : ℕ) (is : count ≡ length (items_of separator (without_return (up_to 10 (drop at text))))) (same : count ≡ width) where
        long_row : length row ≡ width
        unfolding row
        long_row = length_row separator (up_to 10 (drop at text)) ∙ sym is ∙ same

        pub rows_bad : (n : ℕ) → n ≡ length (up_to_bad most (line_of separator (without_return (up_to 10 (drop at text))))) → (n ≡ width → ⊥)
            → is_grid most (width_of (rows_of separator (drop start text))) (rows_of separator (drop start text)) ≡ false
        unfolding row row_of
        rows_bad n e b = whole (ap (is_grid most width) here ∙ bad_row most width row (rows_of separator (drop (to + 1) text)) long_row (λ q. b (e ∙ q)))

        pub rows_turn : (n : ℕ) → n ≡ length (up_to_bad most (line_of separator (without_return (up_to 10 (drop at text))))) → n ≡ width → width ≤ length cells - filled
            → (next : List ℕ) → next ≡ put cells filled (up_to_bad most (line_of separator (without_return (up_to 10 (drop at text)))))
            → RowsLeft separator text start most width was next (to + 1) (rows + 1) (filled + width)
        unfolding row row_of
        rows_turn n e full room next is-next =
            let good : length (up_to_bad most row) ≡ width = sym e ∙ full in
            let stored : next ≡ put cells filled row = is-next ∙ ap (put cells filled) (all_good most row (good ∙ sym long_row)) in
            let in-room : filled + length row ≤ length cells = omega (arith, long_row, l.fits, l.long) in
            let place : filled + width ≡ filled + length row = ap (λ (k : ℕ). filled + k) (sym long_row) in
            record {
              wide = l.wide;
              long = ap length stored ∙ length-put cells filled row in-room ∙ l.long;
              grid = sym (good_row most width row (rows_of separator (drop (to + 1) text)) long_row good) ∙ ap (is_grid most width) (sym here) ∙ l.grid;
              count = omega (arith, l.count, ap length here);
              done = omega (arith, l.done, suc-mul rows width);
              fits = omega (arith, l.fits, l.long);
              later =
                  ap (λ (x : List ℕ). put x (filled + width) (cells_of (rows_of separator (drop (to + 1) text)))) stored
                  ∙ ap (λ (k : ℕ). put (put cells filled row) k (cells_of (rows_of separator (drop (to + 1) text)))) place
                  ∙ put_row cells filled row (rows_of separator (drop (to + 1) text)) in-room
                  ∙ ap (λ (rs : List (List ℕ)). put cells filled (cells_of rs)) (sym here)
                  ∙ l.later;
            }
