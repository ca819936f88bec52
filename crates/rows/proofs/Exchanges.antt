-- Laws of 24-bit cells of a row with red first, as bytes by places.
use Rattle.std.proofs.Common.{◌≡◌, ℕ, zero, suc, ◌+◌, ◌-◌, ◌*◌, ◌%◌, ◌<◌, ◌≤◌, Bool, true, false, cond, eqb, ltb, List, [], ◌∷◌, ◌++◌, length, get_or, drop, sym, refl, ap, ◌∙◌, append_assoc, mod-eq_of_lt, arith, drop_at, ltb-false, ltb-true, le-ltb, lt-ltb, eq-eqb, ne_eqb, eqb-true}
use borrow.Author.Tests.{eqb-false}
use lib.Bits.{bit_and, bit_or, and_mask, and_zero_r, or_zero_l, or_zero_r}
use Rattle.leaves.specs.Lists.{tab, cat}
use Rattle.leaves.specs.Put.{put}
use Rattle.rows.specs.StoredRows.{cell24, exchanged_byte}
use Rattle.leaves.proofs.ListLaws.{length-tab, tab-append}
use Rattle.leaves.proofs.Puts.{put-append}
use Rattle.rows.proofs.Cells.{finished, length-cell24, one_cell, no_cell}

-- the three bytes of cell x
blue : (row : List ℕ) (k x : ℕ) → k ≡ x * 3 → exchanged_byte row k ≡ get_or row (x * 3 + 2) 0
unfolding exchanged_byte
blue row k x e = let z : k % 3 ≡ 0 = omega arith in rw (eq-eqb (k % 3) 0 z) (ap (λ (n : ℕ). get_or row (n + 2) 0) e)

green : (row : List ℕ) (k x : ℕ) → k ≡ x * 3 + 1 → exchanged_byte row k ≡ get_or row (x * 3 + 1) 0
unfolding exchanged_byte
green row k x e =
    let z : k % 3 ≡ 1 = omega arith in
    let n : k % 3 ≡ 0 → ⊥ = λ f. omega arith in
    rw (ne_eqb (k % 3) 0 n, eq-eqb (k % 3) 1 z) (ap (λ (n : ℕ). get_or row n 0) e)

red : (row : List ℕ) (k x : ℕ) → k ≡ x * 3 + 2 → exchanged_byte row k ≡ get_or row (x * 3) 0
unfolding exchanged_byte
red row k x e =
    let n : k % 3 ≡ 0 → ⊥ = λ f. omega arith in
    let m : k % 3 ≡ 1 → ⊥ = λ f. omega arith in
    let p : k - 2 ≡ x * 3 = omega arith in
    rw (ne_eqb (k % 3) 0 n, ne_eqb (k % 3) 1 m) (ap (λ (n : ℕ). get_or row n 0) p)

-- the cells, joined, are those bytes
cells-bytes : (row : List ℕ) (w : ℕ) → cat (cell24 false row) w ≡ tab (exchanged_byte row) (w * 3)
unfolding cat tab cell24
cells-bytes row zero = refl
cells-bytes row (suc w) =
    let e : suc w * 3 ≡ suc (suc (suc (w * 3))) = omega arith in
    let z : w * 3 + 0 ≡ w * 3 = omega arith in
    let t = tab (exchanged_byte row) (w * 3) in
    rw (e, cells-bytes row w, blue row (w * 3) w refl, green row (suc (w * 3)) w (omega arith), red row (suc (suc (w * 3))) w (omega arith), z)
    (sym (append_assoc (t ++ (get_or row (w * 3 + 2) 0 ∷ [])) (get_or row (w * 3 + 1) 0 ∷ []) (get_or row (w * 3) 0 ∷ []) ∙ append_assoc t (get_or row (w * 3 + 2) 0 ∷ []) (get_or row (w * 3 + 1) 0 ∷ get_or row (w * 3) 0 ∷ [])))

length-bytes : (row : List ℕ) (x : ℕ) → length (cat (cell24 false row) x) ≡ x * 3
length-bytes row x = ap length (cells-bytes row x) ∙ length-tab (exchanged_byte row) (x * 3)

-- sixteen cells more are in place
pub sixteen_cells : (row d₀ d e : List ℕ) (at x y : ℕ) → d ≡ put d₀ at (cat (cell24 false row) x) → e ≡ put d (at + x * 3) (tab (λ k. exchanged_byte row (x * 3 + k)) 48)
    → y ≡ x + 16 → at + x * 3 ≤ length d₀ → e ≡ put d₀ at (cat (cell24 false row) y)
sixteen_cells row d₀ d e at x y was is next room =
    let f = cell24 false row in
    let t = tab (λ k. exchanged_byte row (x * 3 + k)) 48 in
    let l = length-bytes row x in
    let p : at + x * 3 ≡ at + length (cat f x) = omega arith in
    let n : y * 3 ≡ x * 3 + 48 = omega arith in
    let s : cat f x ++ t ≡ cat f y =
    ap (λ (z : List ℕ). z ++ t) (cells-bytes row x) ∙ tab-append (exchanged_byte row) (x * 3) 48 ∙ ap (tab (exchanged_byte row)) (sym n) ∙ sym (cells-bytes row y) in
    rw (is, was, p) (put-append d₀ at (cat f x) t (omega arith) ∙ ap (put d₀ at) s)

-- the cells after those that are put
cells_left : (row d b : List ℕ) (at x w : ℕ) → x ≤ w → at + w * 3 ≤ length d → b ≡ put d at (cat (cell24 false row) x)
    → finished (cell24 false row) 3 w b at x ≡ put d at (cat (cell24 false row) w)
unfolding finished
cells_left row d b at x w h room was =
    let f = cell24 false row in
    let t = tab (λ k. exchanged_byte row (x * 3 + k)) (w * 3 - x * 3) in
    let l = length-bytes row x in
    let n : w * 3 ≡ x * 3 + (w * 3 - x * 3) = omega arith in
    let s : cat f w ≡ cat f x ++ t =
    cells-bytes row w ∙ ap (tab (exchanged_byte row)) n ∙ sym (tab-append (exchanged_byte row) (x * 3) (w * 3 - x * 3)) ∙ ap (λ (z : List ℕ). z ++ t) (sym (cells-bytes row x)) in
    let r : drop (x * 3) (cat f w) ≡ t = ap (drop (x * 3)) s ∙ drop_at (cat f x) t (x * 3) l in
    let p : at + x * 3 ≡ at + length (cat f x) = omega arith in
    rw (r, was, p) (put-append d at (cat f x) t (omega arith)) ∙ ap (put d at) (sym s)

-- once only the last cell is left, it and those before it are all
module _ (row d₀ m d : List ℕ) (at y x w : ℕ) (h : y ≤ w) (room : at + w * 3 ≤ length d₀) (was : m ≡ put d₀ at (cat (cell24 false row) y))
    (left : finished (cell24 false row) 3 w d at x ≡ finished (cell24 false row) 3 w m at y) where
  pub last_exchanged : (e : List ℕ) → x < w → w ≤ x + 1 → at + w * 3 ≤ length d → e ≡ put d (at + x * 3) (cell24 false row x) → e ≡ put d₀ at (cat (cell24 false row) w)
  last_exchanged e some last space is =
      sym (no_cell (cell24 false row) 3 (length-cell24 false row) w (x + 1) at e last)
      ∙ one_cell (cell24 false row) 3 (length-cell24 false row) w x (at + x * 3) at d e some space refl is
      ∙ left
      ∙ cells_left row d₀ m at y w h room was

-- a byte is that of its place in the row
pub byte_at : (row : List ℕ) (i j v : ℕ) → i % 3 ≡ 0 → v ≡ cond (eqb (j % 3) 0) (get_or row (i + j + 2) 0) (cond (eqb (j % 3) 1) (get_or row (i + j) 0) (get_or row (i + j - 2) 0))
    → v ≡ exchanged_byte row (i + j)
unfolding exchanged_byte
byte_at row i j v e f = let p : (i + j) % 3 ≡ j % 3 = omega arith in rw p f

-- the first cell alone
pub first_cell : (row d : List ℕ) (at : ℕ) (e : List ℕ) → e ≡ put d at (cell24 false row 0) → e ≡ put d at (cat (cell24 false row) 1)
unfolding cat
first_cell row d at e is = is

-- ---- of bytes under masks the one whose mask has ones

pub under_mask : (b m place i : ℕ) → b < 256 → m ≡ cond (eqb place i) 255 0 → bit_and b m ≡ cond (eqb place i) b 0
under_mask b m place i h e = rw e (under (eqb place i))
  where
    under : (w : Bool) → bit_and b (cond w 255 0) ≡ cond w b 0
    under true = and_mask b 8 ∙ mod-eq_of_lt h
    under false = and_zero_r b

-- of the first n bytes, and of one more
pub or_next : (g : ℕ → ℕ) (place n v w : ℕ) → v ≡ cond (ltb place n) (g place) 0 → w ≡ cond (eqb place n) (g n) 0 → bit_or v w ≡ cond (ltb place (n + 1)) (g place) 0
or_next g place n v w ev ew = rw (ev, ew) (by (ltb place n) refl (eqb place n) refl)
  where
    by : (a : Bool) → ltb place n ≡ a → (b : Bool) → eqb place n ≡ b → bit_or (cond (ltb place n) (g place) 0) (cond (eqb place n) (g n) 0) ≡ cond (ltb place (n + 1)) (g place) 0
    by true ea b eb =
        let l : place < n = ltb-true place n ea in
        rw (ea, ne_eqb place n (λ e. absurd (omega (arith, l, e))), lt-ltb place (n + 1) (omega arith)) (or_zero_r (g place))
    by false ea true eb =
        let e : place ≡ n = eqb-true place n eb in
        rw (ea, eb, lt-ltb place (n + 1) (omega (arith, e))) (or_zero_l (g n) ∙ ap g (sym e))
    by false ea false eb =
        let l : n ≤ place = ltb-false place n ea in
        rw (ea, eb, le-ltb place (n + 1) (omega (arith, eqb-false place n eb))) (or_zero_l 0)

pub or-first : (g : ℕ → ℕ) (place w : ℕ) → w ≡ cond (eqb place 0) (g 0) 0 → w ≡ cond (ltb place 1) (g place) 0
or-first g place w e = sym (or_zero_l w) ∙ or_next g place 0 0 w (rw (le-ltb place 0 (omega arith))) e

pub masked_byte : (j a h b x y z : ℕ) → x ≡ cond (eqb (j % 3) 0) 255 0 → y ≡ cond (eqb (j % 3) 1) 255 0 → z ≡ cond (eqb (j % 3) 2) 255 0 → a < 256 → h < 256 → b < 256
    → bit_or (bit_or (bit_and a x) (bit_and h y)) (bit_and b z) ≡ cond (eqb (j % 3) 0) a (cond (eqb (j % 3) 1) h b)
masked_byte j a h b x y z ex ey ez p q t =
    let g : ℕ → ℕ = λ i. cond (eqb i 0) a (cond (eqb i 1) h b) in
    let one = or-first g (j % 3) (bit_and a x) (under_mask a x (j % 3) 0 p ex) in
    let two = or_next g (j % 3) 1 (bit_and a x) (bit_and h y) one (under_mask h y (j % 3) 1 q ey) in
    or_next g (j % 3) 2 (bit_or (bit_and a x) (bit_and h y)) (bit_and b z) two (under_mask b z (j % 3) 2 t ez) ∙ rw (lt-ltb (j % 3) 3 (omega arith))
