-- A row that is read, of any bytes: it has its cells, and depends on its own bytes only.
use mathlib.Core.Path.{◌≡◌, refl, sym, ap, ◌∙◌, subst}
use mathlib.Core.Bool.{Bool, true, false, cond}
use mathlib.Core.List.{List, [], ◌∷◌, ◌++◌, append_assoc}
use Prim.Native.Nat.{ℕ, zero, suc, ◌+◌, ◌-◌, ◌*◌, ◌/◌, ◌≤◌, ◌<◌}
use native.Mathlib.Nat.{mul-le-mul_right}
use native.Mathlib.Omega.{arith}
use borrow.Author.Tests.{ltb-true, ltb-false, le-ltb}
use lib.Dec.{ltb}
use lib.ListN.{length, take, drop, length-append, length-take, take-append-drop, drop_of_length-le, get_or-append}
use lib.Seq.{drop-nil, drop-append_seam, take-add, drop_at, length-take-le, get_or-take}
use Rattle.leaves.specs.Lists.{tab}
use Rattle.leaves.proofs.ListLaws.{length-tab, tab_ext}
use Rattle.format.specs.Decode.{Decoded, filled, refused, behind, and_then, cell_at, pair_cell, data_read, read_code, unless_full, fill_row, read_row}
use Rattle.format.specs.Shown.{short, past_row_end}

-- ---- one code

-- what is known of a code that fills cells and takes n bytes
record Code (d room : ℕ) (bs cells : List ℕ) (n : ℕ) : Type 0 where
  some : 2 ≤ n
  fits : length cells ≤ room
  -- nothing past those bytes counts
  alone : (rest : List ℕ) → read_code d room (take n bs ++ rest) ≡ filled cells n

abbrev CodeLaws : ℕ → ℕ → List ℕ → Decoded → Type 0
CodeLaws d room bs (filled cells n) = Code d room bs cells n
CodeLaws d room bs (refused cause) = Unit {0}

-- the cells of a block are in its data bytes
cell_alone : (d n : ℕ) (bs rest : List ℕ) (i : ℕ) → n * d ≤ length bs * 8 → i < n → cell_at d (take (data_read d n) bs ++ rest) i ≡ cell_at d bs i
unfolding cell_at data_read
cell_alone zero n bs rest i h l = omega arith
cell_alone (suc d) n bs rest i h l =
    let k = data_read (suc d) n in
    let m : i * suc d + suc d ≤ n * suc d = omega (arith, mul-le-mul_right (suc d) l) in
    let a : i * suc d / 8 < k = omega arith in
    let b : i * suc d / 8 < length (take k bs) = simp length-take (omega arith) in
    rw (get_or-append (take k bs) rest 0 (i * suc d / 8) b, get_or-take k bs (i * suc d / 8) 0 a)

-- with its data bytes alone a block is not short
data_there : (d n : ℕ) (bs rest : List ℕ) → n * d ≤ length bs * 8 → n * d ≤ length (take (data_read d n) bs ++ rest) * 8
unfolding data_read
data_there d n bs rest h = simp (length-append, length-take) (omega arith)

code_laws : (d room : ℕ) (bs : List ℕ) → CodeLaws d room bs (read_code d room bs)
unfolding read_code
code_laws d room [] = tt
code_laws d room (b ∷ []) = tt
code_laws d room (suc k ∷ v ∷ bs) = go (ltb room (suc k)) refl
  where
    go : (t : Bool) → ltb room (suc k) ≡ t → CodeLaws d room (suc k ∷ v ∷ bs) (cond t (refused past_row_end) (filled (tab (pair_cell d v) (suc k)) 2))
    go true e = tt
    go false e = record { some = omega arith; fits = rw (length-tab (pair_cell d v) (suc k)) (ltb-false room (suc k) e); alone = λ rest. rw e }
code_laws d zero (zero ∷ zero ∷ bs) = record { some = omega arith; fits = omega arith; alone = λ rest. refl }
code_laws d (suc room) (zero ∷ zero ∷ bs) = tt
code_laws d room (zero ∷ suc zero ∷ bs) = tt
code_laws d room (zero ∷ suc (suc zero) ∷ bs) = tt
code_laws d room (zero ∷ suc (suc (suc k)) ∷ bs) = go (ltb room n) (ltb (length bs * 8) (n * d)) refl refl
  where
    n : ℕ
    n = suc (suc (suc k))

    go : (t u : Bool) → ltb room n ≡ t → ltb (length bs * 8) (n * d) ≡ u
        → CodeLaws d room (0 ∷ n ∷ bs) (cond t (refused past_row_end) (cond u (refused short) (filled (tab (cell_at d bs) n) (suc (suc (data_read d n))))))
    go true u e f = tt
    go false true e f = tt
    go false false e f =
        let h : n * d ≤ length bs * 8 = ltb-false (length bs * 8) (n * d) f in
        record {
          some = omega arith;
          fits = rw (length-tab (cell_at d bs) n) (ltb-false room n e);
          alone = λ rest.
              let l = take (data_read d n) bs ++ rest in
              let g : n * d ≤ length l * 8 = data_there d n bs rest h in
              rw (e, le-ltb (length l * 8) (n * d) g) (ap (λ (cells : List ℕ). filled cells (suc (suc (data_read d n)))) (tab_ext _ _ n (λ i b. cell_alone d n bs rest i h b)));
        }

-- ---- one row

fill_skip : (d room : ℕ) (bs : List ℕ) (skip : ℕ) → fill_row d room bs skip ≡ fill_row d room (drop skip bs) 0
unfolding fill_row
fill_skip d room bs zero = refl
fill_skip d room [] (suc skip) = refl
fill_skip d room (b ∷ bs) (suc skip) = fill_skip d room bs skip

-- a row is its first code, and then what is left of it
pub row_step : (d room : ℕ) (bs : List ℕ)
    → read_row d (suc room) bs ≡ and_then (read_code d (suc room) bs) (λ cells taken. read_row d (suc room - length cells) (drop taken bs))
unfolding fill_row read_code
row_step d room [] = refl
row_step d room (b ∷ bs) = go (read_code d (suc room) (b ∷ bs)) (code_laws d (suc room) (b ∷ bs))
  where
    go : (r : Decoded) → CodeLaws d (suc room) (b ∷ bs) r
        → and_then r (λ cells taken. unless_full (suc room - length cells) (fill_row d (suc room - length cells) bs (taken - 1)))
        ≡ and_then r (λ cells taken. read_row d (suc room - length cells) (drop taken (b ∷ bs)))
    go (refused cause) laws = refl
    go (filled cells zero) laws = absurd (omega arith)
    go (filled cells (suc n)) laws =
        let e : suc n - 1 ≡ n = omega arith in
        let r : ℕ = suc room - length cells in
        ap (λ (z : Decoded). behind cells (suc n) (unless_full r z)) (ap (fill_row d r bs) e ∙ fill_skip d r bs n)

-- what is known of a row that fills cells and takes n bytes
record Row (d w : ℕ) (bs cells : List ℕ) (n : ℕ) : Type 0 where
  whole : length cells ≡ w
  -- nothing past those bytes counts
  alone : (rest : List ℕ) → read_row d w (take n bs ++ rest) ≡ filled cells n

abbrev RowLaws : ℕ → ℕ → List ℕ → Decoded → Type 0
RowLaws d w bs (filled cells n) = Row d w bs cells n
RowLaws d w bs (refused cause) = Unit {0}

-- what is left of the row is read alike behind the bytes of its first code, if other bytes follow
rest_alone : (d room n m : ℕ) (bs cells rest : List ℕ) → read_row d room (drop n bs) ≡ filled cells m
    → read_row d room (take m (drop n bs) ++ rest) ≡ filled cells m
    → read_row d room (drop n (take n bs ++ (take m (drop n bs) ++ rest))) ≡ filled cells m
unfolding fill_row
rest_alone d zero n m bs cells rest e f = e
rest_alone d (suc room) n m bs cells rest e f = go (ltb (length bs) n) refl
  where
    go : (t : Bool) → ltb (length bs) n ≡ t → read_row d (suc room) (drop n (take n bs ++ (take m (drop n bs) ++ rest))) ≡ filled cells m
    go false h = rw (drop_at (take n bs) (take m (drop n bs) ++ rest) n (length-take-le n bs (ltb-false (length bs) n h))) f
    go true h =
        let l : length bs ≤ n = omega (arith, ltb-true (length bs) n h) in
        let none : refused short ≡ filled cells m = rw (drop_of_length-le bs l) at e in
        let z : ◌≡◌ {A = ℕ} 0 1 = cc in
        absurd (omega arith)

row_laws : (d : ℕ) (bs : List ℕ) (skip w : ℕ) → RowLaws d w (drop skip bs) (read_row d w (drop skip bs))
unfolding fill_row
row_laws d [] skip zero = record { whole = refl; alone = λ rest. refl }
row_laws d [] skip (suc room) = rw (drop-nil {A = ℕ} skip) tt
row_laws d (b ∷ bs) (suc skip) w = row_laws d bs skip w
row_laws d (b ∷ bs) zero zero = record { whole = refl; alone = λ rest. refl }
row_laws d (b ∷ bs) zero (suc room) =
    rw (row_step d room (b ∷ bs)) (go (read_code d (suc room) (b ∷ bs)) (code_laws d (suc room) (b ∷ bs)) (λ k r. row_laws d bs k r))
  where
    left : (cells : List ℕ) (n : ℕ) → Code d (suc room) (b ∷ bs) cells n → (r : Decoded) → read_row d (suc room - length cells) (drop n (b ∷ bs)) ≡ r
        → RowLaws d (suc room - length cells) (drop n (b ∷ bs)) r → RowLaws d (suc room) (b ∷ bs) (behind cells n r)
    left cells n code (refused cause) e laws = tt
    left cells n code (filled more m) e laws =
        record {
          whole = rw (length-append cells more) (omega (arith, code.fits, laws.whole));
          alone = λ rest.
              let front = take n (b ∷ bs) in
              let next = take m (drop n (b ∷ bs)) ++ rest in
              rw (take-add n m (b ∷ bs), append_assoc front (take m (drop n (b ∷ bs))) rest)
              (row_step d room (front ++ next)
              ∙ rw (code.alone next) (ap (behind cells n) (rest_alone d (suc room - length cells) n m (b ∷ bs) more rest e (laws.alone rest))));
        }

    go : (r : Decoded) → CodeLaws d (suc room) (b ∷ bs) r → ((k w : ℕ) → RowLaws d w (drop k bs) (read_row d w (drop k bs)))
        → RowLaws d (suc room) (b ∷ bs) (and_then r (λ cells taken. read_row d (suc room - length cells) (drop taken (b ∷ bs))))
    go (refused cause) code all = tt
    go (filled cells zero) code all = absurd (omega arith)
    go (filled cells (suc n)) code all = left cells (suc n) code (read_row d (suc room - length cells) (drop n bs)) refl (all n (suc room - length cells))

-- a row that is read has its w cells
pub row_length_lem : (d w : ℕ) (bs : List ℕ) {cells : List ℕ} {n : ℕ} → read_row d w bs ≡ filled cells n → length cells ≡ w
row_length_lem d w bs e = (subst (RowLaws d w bs) e (row_laws d bs 0 w)).whole

-- and depends on its own bytes only: whatever else follows them, it is read alike
pub row_alone : (d w : ℕ) (bs : List ℕ) {cells : List ℕ} {n : ℕ} → read_row d w bs ≡ filled cells n → (rest : List ℕ) → read_row d w (take n bs ++ rest) ≡ filled cells n
row_alone d w bs e = (subst (RowLaws d w bs) e (row_laws d bs 0 w)).alone

pub row_append : (d w : ℕ) (bs : List ℕ) {cells : List ℕ} {n : ℕ} → read_row d w bs ≡ filled cells n → (rest : List ℕ) → read_row d w (bs ++ rest) ≡ filled cells n
row_append d w bs {cells} {n} e rest =
    ap (read_row d w) (ap (λ (l : List ℕ). l ++ rest) (sym (take-append-drop n bs)) ∙ append_assoc (take n bs) (drop n bs) rest) ∙ row_alone d w bs e (drop n bs ++ rest)

-- the first code's bytes, and the rest of the row behind them
pub row_code : (d room r : ℕ) (code bs : List ℕ) {cells more : List ℕ} {m : ℕ} → read_code d (suc room) (code ++ bs) ≡ filled cells (length code)
    → suc room - length cells ≡ r → read_row d r bs ≡ filled more m → read_row d (suc room) (code ++ bs) ≡ filled (cells ++ more) (length code + m)
row_code d room r code bs {cells} e k f =
    row_step d room (code ++ bs) ∙ rw (e, k, drop-append_seam code bs) (ap (behind cells (length code)) f)
