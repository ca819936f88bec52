-- The loops over a stream's rows: the one that tries them, and the one that fills them in.
use mathlib.Core.Path.{◌≡◌, refl, sym, ap, ◌∙◌, subst}
use mathlib.Core.Bool.{Bool, true, false, not, not-not, true≢false}
use mathlib.Core.List.{List, [], ◌++◌}
use Prim.Native.Nat.{ℕ, suc, ◌+◌, ◌-◌, ◌≤◌, ◌<◌}
use native.Mathlib.Omega.{arith}
use lib.ListN.{length, drop, length-drop}
use lib.Seq.{drop-drop}
use Rattle.format.specs.Decode.{Decoded, filled, refused, read_code, read_row, rows_below, decode}
use Rattle.format.specs.Shown.{Cause}
use Rattle.format.proofs.StreamReading.{rows_next, decode_next, rows_place, refused_row, refused_end}
use Rattle.std.specs.Prelude.{Option, None, Some, is_some}
use Rattle.cells.specs.Streams.{is_refused, row_end, marks_end}
use Rattle.cells.proofs.Codes.{marked, unmarked}

-- ---- readings by their ends

record Ended (at end : ℕ) (r : Decoded) : Type 0 where
  cells : List ℕ
  taken : ℕ
  is : r ≡ filled cells taken
  place : end ≡ at + taken

ended : (at end : ℕ) (r : Decoded) → Some end ≡ row_end at r → Ended at end r
ended at end (filled cells taken) e = record { cells = cells; taken = taken; is = refl; place = cc }
ended at end (refused cause) e = let z : ◌≡◌ {A = ℕ} 0 1 = cc in absurd (omega arith)

record Refused (r : Decoded) : Type 0 where
  cause : Cause
  is : r ≡ refused cause

faulty : (at : ℕ) (r : Decoded) → None ≡ row_end at r → Refused r
faulty at (filled cells taken) e = let z : ◌≡◌ {A = ℕ} 0 1 = cc in absurd (omega arith)
faulty at (refused cause) e = record { cause = cause; is = refl }

refused_is : (r : Decoded) → is_refused r ≡ true → Refused r
refused_is (filled cells taken) e = absurd (true≢false (sym e))
refused_is (refused cause) e = record { cause = cause; is = refl }

-- ---- trying

module _ (file : List ℕ) (d w offset top : ℕ) where
  -- the rows below those that are left are read, and the next begins at `at`
  pub record Trial (above at : ℕ) : Type 0 where
    pub below : List ℕ
    pub place : ℕ
    pub within : above ≤ top
    pub rows : rows_below d w (drop offset file) (top - above) ≡ filled below place
    pub here : at ≡ offset + place

  pub trial_start : Trial top offset
  unfolding rows_below
  trial_start = record { below = []; place = 0; within = omega arith; rows = (let z : top - top ≡ 0 = omega arith in rw z); here = omega arith }

  module _ {above at : ℕ} (r : Trial above at) where
    -- the place is in the file, or the pixel offset
    pub trial_place : at ≤ offset + (length file - offset)
    trial_place = omega (arith, r.here, rows_place d w (drop offset file) (top - above) r.rows, length-drop offset file)

    at_place : drop r.place (drop offset file) ≡ drop at file
    at_place = drop-drop r.place offset file ∙ ap (λ (k : ℕ). drop k file) (sym r.here)

    -- the row here is refused
    pub trial_fault : None ≡ row_end at (read_row d w (drop at file)) → true ≡ is_refused (decode d w (drop offset file) top)
    trial_fault e =
        let f = faulty at (read_row d w (drop at file)) e in
        sym (ap is_refused (refused_row d w (drop offset file) (top - above) top r.rows (ap (read_row d w) at_place ∙ f.is) (omega arith)))

    module _ (end : ℕ) (e : Some end ≡ row_end at (read_row d w (drop at file))) where
      row : Ended at end (read_row d w (drop at file))
      row = ended at end (read_row d w (drop at file)) e

      here_read : read_row d w (drop r.place (drop offset file)) ≡ filled row.cells row.taken
      here_read = ap (read_row d w) at_place ∙ row.is

      end_place : drop row.taken (drop r.place (drop offset file)) ≡ drop end file
      end_place = ap (drop row.taken) at_place ∙ drop-drop row.taken at file ∙ ap (λ (k : ℕ). drop k file) (sym row.place)

      -- its end is none
      pub trial_unmarked : 0 < above → marks_end (drop end file) ≡ false → true ≡ is_refused (decode d w (drop offset file) top)
      trial_unmarked h m =
          let f = refused_is (read_code d 0 (drop end file)) (unmarked d (drop end file) m) in
          sym (ap is_refused (refused_end d w (drop offset file) (top - above) top r.rows here_read (ap (read_code d 0) end_place ∙ f.is) (omega (arith, r.within))))

      -- one row more
      pub trial_turn : 0 < above → marks_end (drop end file) ≡ true → Trial (above - 1) (end + 2)
      trial_turn h m =
          let n : top - (above - 1) ≡ suc (top - above) = omega (arith, r.within) in
          record {
            below = r.below ++ row.cells;
            place = r.place + (row.taken + 2);
            within = omega (arith, r.within);
            rows = rw n (rows_next d w (drop offset file) (top - above) (drop 2 (drop end file)) r.rows here_read (end_place ∙ marked (drop end file) m));
            here = omega (arith, r.here, row.place);
          }

      -- all rows
      trial_end : above ≡ 0 → false ≡ is_refused (decode d w (drop offset file) top)
      trial_end z =
          let n : top - above ≡ top = omega arith in
          sym (ap is_refused (decode_next d w (drop offset file) top (subst (λ (k : ℕ). rows_below d w (drop offset file) k ≡ filled r.below r.place) n r.rows) here_read))

    -- the last row tells
    pub trial_done : above ≡ 0 → (end : Option ℕ) → end ≡ row_end at (read_row d w (drop at file)) → (none : Bool) → is_some end ≡ not none → none ≡ is_refused (decode d w (drop offset file) top)
    trial_done z None e none n = sym (ap not n ∙ not-not none) ∙ trial_fault e
    trial_done z (Some end) e none n = sym (ap not n ∙ not-not none) ∙ trial_end end e z

-- the end of a row lies in the file
pub marked_inside : (file : List ℕ) (end : ℕ) → marks_end (drop end file) ≡ true → end + 2 ≤ length file
marked_inside file end m =
    let n : length (drop end file) ≡ suc (suc (length (drop 2 (drop end file)))) = ap length (marked (drop end file) m) in
    omega (arith, n, length-drop end file)
