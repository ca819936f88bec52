-- Document 02's words on a stream, code by code, and the readers' decoder, row by row: one refuses where the other does.
use mathlib.Core.Path.{◌≡◌, refl, sym, ap, ◌∙◌}
use mathlib.Core.Bool.{Bool, true, false, not, cond, ◌||◌}
use mathlib.Core.List.{List, [], ◌∷◌}
use Prim.Native.Nat.{ℕ, zero, suc, ◌+◌, ◌-◌, ◌*◌}
use native.Mathlib.Nat.{add-zero, zero-add}
use native.Mathlib.Omega.{arith}
use borrow.Author.Tests.{lt-ltb, ne_eqb}
use lib.Dec.{ltb}
use lib.ListN.{length, drop}
use lib.Seq.{drop-drop}
use Rattle.leaves.specs.Lists.{tab}
use Rattle.leaves.proofs.ListLaws.{length-tab}
use Rattle.format.specs.Decode.{Decoded, filled, refused, behind, and_then, cell_at, pair_cell, data_read, read_code, fill_row, read_row, read_row_end, rows_below, decode}
use Rattle.format.specs.Shown.{short, past_row_end}
use Rattle.format.proofs.RowReading.{row_step}
use Rattle.reader.specs.Refusals.{last_filled, code_stops, stops}
use Rattle.cells.specs.Streams.{is_refused}

-- ---- one reading after the other

-- refused, or what is said of the cells and the bytes
then : Decoded → (List ℕ → ℕ → Bool) → Bool
then (filled cells taken) next = next cells taken
then (refused cause) next = true

refused_behind : (cells : List ℕ) (taken : ℕ) (r : Decoded) → is_refused (behind cells taken r) ≡ is_refused r
refused_behind cells taken (filled more n) = refl
refused_behind cells taken (refused cause) = refl

and_then_lem : (a : Decoded) (next : List ℕ → ℕ → Decoded) → is_refused (and_then a next) ≡ then a (λ cells taken. is_refused (next cells taken))
unfolding then
and_then_lem (filled cells taken) next = refused_behind cells taken (next cells taken)
and_then_lem (refused cause) next = refl

then_behind : (cells : List ℕ) (taken : ℕ) (r : Decoded) (g : ℕ → Bool) → then (behind cells taken r) (λ c p. g p) ≡ then r (λ c u. g (taken + u))
unfolding then
then_behind cells taken (filled more n) g = refl
then_behind cells taken (refused cause) g = refl

then_then : (a : Decoded) (next : List ℕ → ℕ → Decoded) (g : ℕ → Bool) → then (and_then a next) (λ c p. g p) ≡ then a (λ cells taken. then (next cells taken) (λ c u. g (taken + u)))
unfolding then
then_then (filled cells taken) next g = then_behind cells taken (next cells taken) g
then_then (refused cause) next g = refl

then_same : (a : Decoded) (f g : List ℕ → ℕ → Bool) → ((c : List ℕ) (p : ℕ) → f c p ≡ g c p) → then a f ≡ then a g
unfolding then
then_same (filled cells taken) f g h = h cells taken
then_same (refused cause) f g h = refl

-- ---- the rows that are left

-- what is left of a stream: a row with room for some cells, and the rows above it
rest_fails : ℕ → ℕ → ℕ → ℕ → List ℕ → Bool
rest_fails d w zero room bs = is_refused (read_row d room bs)
rest_fails d w (suc above) room bs = then (read_row d room bs) (λ c t. then (read_code d 0 (drop t bs)) (λ e u. rest_fails d w above w (drop (t + u) bs)))

module _ (d w : ℕ) where
  -- by the decoder's rows
  rows_left : (bs : List ℕ) (k s : ℕ) → then (rows_below d w bs s) (λ c p. rest_fails d w k w (drop p bs)) ≡ is_refused (decode d w bs (s + k))
  unfolding decode rows_below read_row_end rest_fails
  rows_left bs zero s = rw (add-zero s) (sym (and_then_lem (rows_below d w bs s) (λ cells place. read_row d w (drop place bs))))
  rows_left bs (suc k) s =
      then_same (rows_below d w bs s) _ _ (λ c p.
      then_same (read_row d w (drop p bs)) _ _ (λ e t.
      then_same (read_code d 0 (drop t (drop p bs))) _ _ (λ f u. ap (rest_fails d w k w) (drop-drop (t + u) p bs)))
      ∙ sym (then_then (read_row d w (drop p bs)) (λ e t. read_code d 0 (drop t (drop p bs))) (λ n. rest_fails d w k w (drop (p + n) bs))))
      ∙ sym (then_then (rows_below d w bs s) (λ c p. read_row_end d w (drop p bs)) (λ n. rest_fails d w k w (drop n bs)))
      ∙ rows_left bs k (suc s)
      ∙ (let e : suc s + k ≡ s + suc k = omega arith in ap (λ (n : ℕ). is_refused (decode d w bs n)) e)

  twice : (t n u : ℕ) (l : List ℕ) → drop (t + n + u) l ≡ drop (n + u) (drop t l)
  twice t n u l = let e : t + n + u ≡ t + (n + u) = omega arith in rw e (sym (drop-drop (n + u) t l))

  -- one code of a row with room
  code_left : (above room : ℕ) (l : List ℕ) → rest_fails d w above (suc room) l ≡ then (read_code d (suc room) l) (λ c t. rest_fails d w above (suc room - length c) (drop t l))
  unfolding rest_fails
  code_left zero room l = ap is_refused (row_step d room l) ∙ and_then_lem (read_code d (suc room) l) (λ c t. read_row d (suc room - length c) (drop t l))
  code_left (suc above) room l =
      ap (λ (r : Decoded). then r (λ c t. then (read_code d 0 (drop t l)) (λ e u. rest_fails d w above w (drop (t + u) l)))) (row_step d room l)
      ∙ then_then (read_code d (suc room) l) (λ c t. read_row d (suc room - length c) (drop t l)) (λ n. then (read_code d 0 (drop n l)) (λ e u. rest_fails d w above w (drop (n + u) l)))
      ∙ then_same (read_code d (suc room) l) _ _ (λ c t.
      then_same (read_row d (suc room - length c) (drop t l)) _ _ (λ e n.
      ap (λ (r : List ℕ). then (read_code d 0 r) (λ f u. rest_fails d w above w (drop (t + n + u) l))) (sym (drop-drop n t l))
      ∙ then_same (read_code d 0 (drop n (drop t l))) _ _ (λ f u. ap (rest_fails d w above w) (twice t n u l))))

  -- ---- code by code

  none_left : (above room : ℕ) → not (last_filled above room) ≡ rest_fails d w above room []
  unfolding rest_fails then read_code fill_row
  none_left zero zero = refl
  none_left zero (suc room) = refl
  none_left (suc above) zero = refl
  none_left (suc above) (suc room) = refl

  -- the last cell is filled: nothing is refused
  done : (l : List ℕ) → false ≡ rest_fails d w zero zero l
  unfolding rest_fails
  done l = refl

  Rest : List ℕ → Type 0
  Rest bs = (a r s : ℕ) → stops d w a r bs s ≡ rest_fails d w a r (drop s bs)

  -- a code in a row with room
  in_row : (above room b : ℕ) (bs : List ℕ) → Rest bs
      → then (read_code d (suc room) (b ∷ bs)) (λ c t. rest_fails d w above (suc room - length c) (drop t (b ∷ bs))) ≡ code_stops d w above (suc room) b bs (λ a r s. stops d w a r bs s)
  unfolding then read_code Rest
  in_row above room b [] ih = refl
  in_row above room (suc n) (v ∷ bs) ih = go (ltb (suc room) (suc n))
    where
      go : (t : Bool) → then (cond t (refused past_row_end) (filled (tab (pair_cell d v) (suc n)) 2)) (λ c p. rest_fails d w above (suc room - length c) (drop p (suc n ∷ v ∷ bs)))
          ≡ (t || stops d w above (suc room - suc n) (v ∷ bs) 1)
      go true = refl
      go false = rw (length-tab (pair_cell d v) (suc n)) (sym (ih above (suc room - suc n) 1))
  in_row above room zero (zero ∷ bs) ih = rw (ne_eqb (suc room) 0 (λ z. omega arith))
  in_row above room zero (suc zero ∷ bs) ih = refl
  in_row above room zero (suc (suc zero) ∷ bs) ih = refl
  in_row above room zero (suc (suc (suc n)) ∷ bs) ih = go (ltb (suc room) (suc (suc (suc n)))) (ltb (length bs * 8) (suc (suc (suc n)) * d))
    where
      m : ℕ
      m = suc (suc (suc n))

      go : (t u : Bool)
          → then (cond t (refused past_row_end) (cond u (refused short) (filled (tab (cell_at d bs) m) (suc (suc (data_read d m)))))) (λ c p. rest_fails d w above (suc room - length c) (drop p (zero ∷ m ∷ bs)))
          ≡ (t || (u || stops d w above (suc room - m) (m ∷ bs) (suc (data_read d m))))
      go true u = refl
      go false true = refl
      go false false = rw (length-tab (cell_at d bs) m) (sym (ih above (suc room - m) (suc (data_read d m))))

  -- a code behind a full row
  row_full_lem : (above b : ℕ) (bs : List ℕ) → Rest bs → rest_fails d w (suc above) zero (b ∷ bs) ≡ code_stops d w (suc above) zero b bs (λ a r s. stops d w a r bs s)
  unfolding then read_code rest_fails Rest
  row_full_lem above b [] ih = refl
  row_full_lem above (suc n) (v ∷ bs) ih = rw (lt-ltb 0 (suc n) (omega arith))
  row_full_lem above zero (zero ∷ bs) ih = let e : suc above - 1 ≡ above = omega arith in rw e (sym (ih above w 1))
  row_full_lem above zero (suc zero ∷ bs) ih = refl
  row_full_lem above zero (suc (suc zero) ∷ bs) ih = refl
  row_full_lem above zero (suc (suc (suc n)) ∷ bs) ih = rw (lt-ltb 0 (suc (suc (suc n))) (omega arith))

  stops_left : (bs : List ℕ) (above room skip : ℕ) → stops d w above room bs skip ≡ rest_fails d w above room (drop skip bs)
  unfolding stops Rest
  stops_left [] above room zero = none_left above room
  stops_left [] above room (suc skip) = none_left above room
  stops_left (b ∷ bs) zero zero zero = done (b ∷ bs)
  stops_left (b ∷ bs) zero zero (suc skip) = done (drop skip bs)
  stops_left (b ∷ bs) zero (suc room) (suc skip) = stops_left bs zero (suc room) skip
  stops_left (b ∷ bs) (suc above) room (suc skip) = stops_left bs (suc above) room skip
  stops_left (b ∷ bs) zero (suc room) zero = sym (code_left zero room (b ∷ bs) ∙ in_row zero room b bs (λ a r s. stops_left bs a r s))
  stops_left (b ∷ bs) (suc above) (suc room) zero = sym (code_left (suc above) room (b ∷ bs) ∙ in_row (suc above) room b bs (λ a r s. stops_left bs a r s))
  stops_left (b ∷ bs) (suc above) zero zero = sym (row_full_lem above b bs (λ a r s. stops_left bs a r s))

-- a row of its own stops where it is refused
pub stops_row : (d w : ℕ) (bs : List ℕ) → stops d w 0 w bs 0 ≡ is_refused (read_row d w bs)
unfolding rest_fails
stops_row d w bs = stops_left d w bs 0 w 0

-- a stream stops where the decoder refuses it
pub stops_refused : (d w top : ℕ) (bs : List ℕ) → stops d w top w bs 0 ≡ is_refused (decode d w bs top)
unfolding then rows_below
stops_refused d w top bs = stops_left d w bs top w 0 ∙ rows_left d w bs top 0 ∙ ap (λ (n : ℕ). is_refused (decode d w bs n)) (zero-add top)
