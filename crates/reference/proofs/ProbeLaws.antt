-- The probe writes the document's stream, and decides by its whole length.
use mathlib.Core.Path.{◌≡◌, refl, sym, ap, ◌∙◌}
use mathlib.Core.Bool.{Bool, true, false, cond}
use mathlib.Core.List.{List, [], ◌∷◌, ◌++◌, append_assoc, append-nil}
use Prim.Native.Nat.{ℕ, zero, suc, ◌+◌, ◌-◌, ◌<◌, ◌^◌}
use native.Mathlib.Numerals.{add-one}
use native.Mathlib.Omega.{arith}
use borrow.Author.Tests.{ltb-true, ltb-false, leb-true, le-ltb, eq-eqb, ne_eqb}
use lib.Dec.{ltb, leb}
use lib.ListN.{length, get_or, length-append}
use lib.Seq.{take-append_seam}
use Rattle.leaves.specs.Lists.{cat}
use Rattle.rows.specs.RleCodes.{row_codes}
use Rattle.rows.specs.Stream.{end_mark}
use Rattle.rows.proofs.StreamPlaces.{cat_grows}
use Rattle.reference.specs.Rust.{done, ◌>>=◌, usize, sub}
use Rattle.reference.specs.Packing.{Rows, source_row}
use Rattle.reference.specs.Rle.{Rle, Rle8, Rle4, encode_rle_row, rle_row, Probe, probe_from, rle_into}
use Rattle.reference.proofs.RunLaws.{add_is, sub_is}
use Rattle.reference.proofs.CoderLaws.{encode8_is, encode4_is}

-- bits of a cell
abbrev pub depth : Rle → ℕ
depth Rle8 = 8
depth Rle4 = 4

-- the coder of either depth
encode_is : (k : Rle) (out row : List ℕ) → ((j : ℕ) → get_or row j 0 < 256) → length row < 2 ^ 32 → encode_rle_row k out row ≡ done (out ++ row_codes (depth k) row)
encode_is Rle8 out row small short = encode8_is out row small short
encode_is Rle4 out row small short = encode4_is out row short

-- the end of the row y, of h
end_is : (h y : ℕ) → y < h → cond (ltb (y + 1) h) (0 ∷ 0 ∷ []) (0 ∷ 1 ∷ []) ≡ 0 ∷ end_mark h y ∷ []
end_is h y l = go (ltb (y + 1) h) refl
  where
    go : (b : Bool) → ltb (y + 1) h ≡ b → cond b (0 ∷ 0 ∷ []) (0 ∷ 1 ∷ []) ≡ 0 ∷ end_mark h y ∷ []
    go true e = let k : y + 1 < h = ltb-true (y + 1) h e in rw (ne_eqb (y + 1) h (λ z. omega arith))
    go false e = rw (eq-eqb (y + 1) h (omega (arith, ltb-false (y + 1) h e)))

-- rle_row appends the row's codes and its end
pub row_is : (r : Rows) (k : Rle) (y : ℕ) (out src : List ℕ) → source_row r y ≡ done src → ((j : ℕ) → get_or src j 0 < 256) → length src < 2 ^ 32 → y < r.height → r.height < 2 ^ 32
    → rle_row r k y out ≡ done (out ++ (row_codes (depth k) src ++ (0 ∷ end_mark r.height y ∷ [])))
unfolding rle_row
row_is r k y out src source small short below tall =
    rw (source, encode_is k out src small short, add_is usize y 1 (omega arith), end_is r.height y below)
    (ap done (append_assoc out (row_codes (depth k) src) (0 ∷ end_mark r.height y ∷ [])))

-- a stream under the budget is kept after `out`, and any other is dropped
abbrev decided : List ℕ → List ℕ → ℕ → Probe
decided out stream budget = cond (ltb (length stream) budget) (record { kept = true; out = out ++ stream }) (record { kept = false; out = out })

module _ (r : Rows) (k : Rle) (codes : ℕ → List ℕ) (writes : (y : ℕ) (out : List ℕ) → y < r.height → rle_row r k y out ≡ done (out ++ codes y)) (budget : ℕ) (out : List ℕ) where
  -- out.len() - start, where s has been written since the start
  written : (s : List ℕ) → sub (length (out ++ s)) (length out) ≡ done (length s)
  written s =
      let e : length (out ++ s) - length out ≡ length s = omega (arith, length-append out s) in
      sub_is (length (out ++ s)) (length out) (omega (arith, length-append out s)) ∙ ap done e

  -- with y rows written and `left` to come: giving up at a row's end is right, since the stream only grows
  from_is : (left y : ℕ) → y + left ≡ r.height → probe_from r k budget (length out) left y (out ++ cat codes y) ≡ done (decided out (cat codes r.height) budget)
  unfolding probe_from cat
  from_is zero y e =
      let p : r.height ≡ y = omega arith in
      rw (written (cat codes y), take-append_seam out (cat codes y), p)
  from_is (suc left) y e =
      rw (written (cat codes y), take-append_seam out (cat codes y)) (go (leb budget (length (cat codes y))) refl (from_is left (y + 1) (omega arith)))
    where
      go : (b : Bool) → leb budget (length (cat codes y)) ≡ b
          → probe_from r k budget (length out) left (y + 1) (out ++ cat codes (y + 1)) ≡ done (decided out (cat codes r.height) budget)
          → cond b (done (record { kept = false; out = out })) (rle_row r k y (out ++ cat codes y) >>= probe_from r k budget (length out) left (y + 1)) ≡ done (decided out (cat codes r.height) budget)
      go true f again = rw (le-ltb (length (cat codes r.height)) budget (omega (arith, leb-true budget (length (cat codes y)) f, cat_grows codes y r.height (omega arith))))
      go false f again =
          let c : cat codes (y + 1) ≡ cat codes y ++ codes y = ap (λ (m : ℕ). cat codes m) (add-one y) in
          rw (writes y (out ++ cat codes y) (omega arith), append_assoc out (cat codes y) (codes y), ← c) again

-- rle_into, where row y appends `codes y`, decides by the whole stream's length
pub into_is : (r : Rows) (k : Rle) (codes : ℕ → List ℕ) → ((y : ℕ) (out : List ℕ) → y < r.height → rle_row r k y out ≡ done (out ++ codes y)) → (budget : ℕ) (out : List ℕ)
    → rle_into r k budget out ≡ done (cond (ltb (length (cat codes r.height)) budget) (record { kept = true; out = out ++ cat codes r.height }) (record { kept = false; out = out }))
unfolding rle_into cat
into_is r k codes writes budget out = ap (probe_from r k budget (length out) r.height 0) (sym (append-nil out)) ∙ from_is r k codes writes budget out r.height 0 (omega arith)
