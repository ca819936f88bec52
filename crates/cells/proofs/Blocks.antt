-- Cells taken several at a time.
use mathlib.Core.Path.{◌≡◌, refl, sym, ap, subst, ◌∙◌}
use mathlib.Core.Logic.{◌⊎◌, inl, inr}
use mathlib.Core.Bool.{Bool, true, false, cond}
use mathlib.Core.List.{List, [], ◌∷◌, ◌++◌}
use Prim.Native.Nat.{ℕ, zero, suc, ◌+◌, ◌-◌, ◌*◌, ◌/◌, ◌%◌, ◌≤◌, ◌<◌}
use native.Mathlib.Nat.{add-zero, zero-add, add-mul, mul-le-mul_right}
use native.Mathlib.Omega.{arith}
use borrow.Author.Tests.{lt-ltb, le-ltb}
use lib.Bits.{bit_and, bit_or}
use lib.Dec.{eqb, ltb}
use lib.ListN.{length, get_or, drop}
use lib.Seq.{get_or-drop}
use Rattle.leaves.specs.Lists.{tab, cat}
use Rattle.leaves.specs.Put.{put}
use Rattle.leaves.specs.Sizes.{has_table}
use Rattle.leaves.proofs.Puts.{length-put}
use Rattle.leaves.proofs.ListLaws.{length-tab, length-cat, tab_ext, cat_ext, tab-append, cat-append, get_or-tab}
use Rattle.rows.proofs.Exchanges.{under_mask, or-first, or_next}
use Rattle.format.specs.Decode.{cell_at}
use Rattle.cells.specs.Quads.{bytes_quad, number_place}
use Rattle.cells.proofs.CellLaws.{table_cases, byte_cell}
use Rattle.cells.proofs.Loops.{SoFar, more}

-- of two the one that is left
pub the_second : {A B : Type 0} → A ⊎ B → (A → ⊥) → B
the_second (inl a) h = absurd (h a)
the_second (inr b) h = b

-- ---- lists by places, continued by another

module _ {was : List ℕ} {to : ℕ} where
  pub tab_turns : (f g : ℕ → ℕ) (x m : ℕ) {is : List ℕ} (later : List ℕ) → SoFar was to (tab f x) is → to + x + m ≤ length was
      → ((i : ℕ) → i < m → g i ≡ f (x + i)) → later ≡ put is (to + x) (tab g m) → SoFar was to (tab f (x + m)) later
  tab_turns f g x m {is} later r h same e =
      let n : length (tab f x) ≡ x = length-tab f x in
      subst (λ (l : List ℕ). SoFar was to l later) (ap (λ (l : List ℕ). tab f x ++ l) (tab_ext g (λ i. f (x + i)) m same) ∙ tab-append f x m)
      (more (tab g m) later r (omega (arith, n, length-tab g m)) (e ∙ ap (λ (j : ℕ). put is (to + j) (tab g m)) (sym n)))

  pub cat_turns : (f g : ℕ → List ℕ) (k : ℕ) → ((x : ℕ) → length (f x) ≡ k) → (x m : ℕ) {is : List ℕ} (later : List ℕ) → SoFar was to (cat f x) is
      → to + x * k + m * k ≤ length was → ((i : ℕ) → i < m → g i ≡ f (x + i)) → later ≡ put is (to + x * k) (cat g m) → SoFar was to (cat f (x + m)) later
  cat_turns f g k all x m {is} later r h same e =
      let n : length (cat f x) ≡ x * k = length-cat f k x (λ i l. all i) in
      let o : length (cat g m) ≡ m * k = length-cat g k m (λ i l. ap length (same i l) ∙ all (x + i)) in
      subst (λ (l : List ℕ). SoFar was to l later) (ap (λ (l : List ℕ). cat f x ++ l) (cat_ext g (λ i. f (x + i)) m same) ∙ cat-append f x m)
      (more (cat g m) later r (omega (arith, n, o)) (e ∙ ap (λ (j : ℕ). put is (to + j) (cat g m)) (sym n)))

-- lists of k numbers put at once
pub cat-put : (f : ℕ → List ℕ) (k : ℕ) → ((x : ℕ) → length (f x) ≡ k) → (was later : List ℕ) (to m : ℕ) → to + m * k ≤ length was → later ≡ put was to (cat f m) → SoFar was to (cat f m) later
cat-put f k all was later to m h e =
    let n : length (cat f m) ≡ m * k = length-cat f k m (λ i l. all i) in
    record { long = ap length e ∙ length-put was to (cat f m) (omega (arith, n)); same = e }

-- ---- indices, a byte at a time

-- x indices from a place on end with the byte before p
pub record AtByte (d from x p : ℕ) : Type 0 where
  pub behind : from ≤ p
  pub whole : x * d ≡ (p - from) * 8

pub at_first : (d from : ℕ) → AtByte d from 0 from
at_first d from = record { behind = omega arith; whole = omega arith }

next_byte : (d x b : ℕ) → has_table d ≡ true → x * d ≡ b * 8 → (x + 8 / d) * d ≡ (b + 1) * 8
next_byte d x b t r = table_cases (λ d. x * d ≡ b * 8 → (x + 8 / d) * d ≡ (b + 1) * 8) (λ e. omega arith) (λ e. omega arith) (λ e. omega arith) (λ e. omega arith) d t r

pub at_next : (d from x p : ℕ) → has_table d ≡ true → AtByte d from x p → AtByte d from (x + 8 / d) (p + 1)
at_next d from x p t r =
    let e : p + 1 - from ≡ p - from + 1 = omega (arith, r.behind) in
    record { behind = omega (arith, r.behind); whole = rw e (next_byte d x (p - from) t r.whole) }

fewer_bytes : (d x b m n : ℕ) → has_table d ≡ true → x * d ≡ b * 8 → x + m ≤ n → b + (m * d + 7) / 8 ≤ (n * d + 7) / 8
fewer_bytes d x b m n t r h = table_cases (λ d. x * d ≡ b * 8 → b + (m * d + 7) / 8 ≤ (n * d + 7) / 8) (λ e. omega arith) (λ e. omega arith) (λ e. omega arith) (λ e. omega arith) d t r

-- m more indices lie in the bytes of n
pub bytes_room : (d from x p m n : ℕ) → has_table d ≡ true → AtByte d from x p → x + m ≤ n → p + (m * d + 7) / 8 ≤ from + (n * d + 7) / 8
bytes_room d from x p m n t r h = omega (arith, r.behind, fewer_bytes d x (p - from) m n t r.whole h)

-- a byte has an index or more, and eight at most
pub in_byte : (d : ℕ) → has_table d ≡ true → (0 < d) × (0 < 8 / d) × (8 / d ≤ 8)
in_byte d t =
    table_cases (λ d. (0 < d) × (0 < 8 / d) × (8 / d ≤ 8)) (omega arith, omega arith, omega arith) (omega arith, omega arith, omega arith) (omega arith, omega arith, omega arith) (omega arith, omega arith, omega arith) d t

index_on : (file : List ℕ) (from d x b i : ℕ) → has_table d ≡ true → x * d ≡ b * 8 → cell_at d (drop (from + b) file) i ≡ cell_at d (drop from file) (x + i)
unfolding cell_at
index_on file from d x b i t r =
    let place : (x + i) * d / 8 ≡ b + i * d / 8 = table_cases (λ d. x * d ≡ b * 8 → (x + i) * d / 8 ≡ b + i * d / 8) (λ e. omega arith) (λ e. omega arith) (λ e. omega arith) (λ e. omega arith) d t r in
    let bits : (x + i) * d % 8 ≡ i * d % 8 =
    table_cases (λ d. x * d ≡ b * 8 → (x + i) * d / 8 ≡ b + i * d / 8 → (x + i) * d % 8 ≡ i * d % 8) (λ e q. omega arith) (λ e q. omega arith) (λ e q. omega arith) (λ e q. omega arith) d t r place in
    let at : from + b + i * d / 8 ≡ from + (b + i * d / 8) = omega arith in
    rw (place, bits, get_or-drop (from + b) file (i * d / 8) 0, get_or-drop from file (b + i * d / 8) 0, at)

-- index i from there on is index x + i
pub cell_on : (file : List ℕ) (d from x p i : ℕ) → has_table d ≡ true → AtByte d from x p → cell_at d (drop p file) i ≡ cell_at d (drop from file) (x + i)
cell_on file d from x p i t r =
    let e : from + (p - from) ≡ p = omega (arith, r.behind) in
    subst (λ (z : ℕ). cell_at d (drop z file) i ≡ cell_at d (drop from file) (x + i)) e (index_on file from d x (p - from) i t r.whole)

-- ---- one byte of eight

pub byte_of_eight_is : (file : List ℕ) (at place m0 m1 m2 m3 m4 m5 m6 m7 : ℕ) → ((i : ℕ) → get_or file i 0 < 256)
    → m0 ≡ cond (eqb place 0) 255 0 → m1 ≡ cond (eqb place 1) 255 0 → m2 ≡ cond (eqb place 2) 255 0 → m3 ≡ cond (eqb place 3) 255 0
    → m4 ≡ cond (eqb place 4) 255 0 → m5 ≡ cond (eqb place 5) 255 0 → m6 ≡ cond (eqb place 6) 255 0 → m7 ≡ cond (eqb place 7) 255 0
    → bit_or (bit_or (bit_or (bit_or (bit_or (bit_or (bit_or (bit_and (get_or file at 0) m0) (bit_and (get_or file (at + 1) 0) m1)) (bit_and (get_or file (at + 2) 0) m2)) (bit_and (get_or file (at + 3) 0) m3)) (bit_and (get_or file (at + 4) 0) m4)) (bit_and (get_or file (at + 5) 0) m5)) (bit_and (get_or file (at + 6) 0) m6)) (bit_and (get_or file (at + 7) 0) m7)
    ≡ cond (ltb place 8) (get_or file (at + place) 0) 0
byte_of_eight_is file at place m0 m1 m2 m3 m4 m5 m6 m7 small e0 e1 e2 e3 e4 e5 e6 e7 = next 7 m7 e7 (next 6 m6 e6 (next 5 m5 e5 (next 4 m4 e4 (next 3 m3 e3 (next 2 m2 e2 (next 1 m1 e1 first))))))
  where
    g : ℕ → ℕ
    g i = get_or file (at + i) 0

    next : (n m : ℕ) {v : ℕ} → m ≡ cond (eqb place n) 255 0 → v ≡ cond (ltb place n) (g place) 0 → bit_or v (bit_and (g n) m) ≡ cond (ltb place (n + 1)) (g place) 0
    next n m e ev = or_next g place n _ _ ev (under_mask (g n) m place n (small (at + n)) e)

    first : bit_and (get_or file at 0) m0 ≡ cond (ltb place 1) (g place) 0
    first = let z : get_or file at 0 ≡ g 0 = ap (λ (k : ℕ). get_or file k 0) (sym (add-zero at)) in
        rw z (or-first g place (bit_and (g 0) m0) (under_mask (g 0) m0 place 0 (small (at + 0)) e0))

-- ---- four cells of 3 or 4 bytes

abbrev pub number_at : List ℕ → ℕ → ℕ → ℕ → ℕ
number_at file from size k = cond (ltb (number_place size k) 8) (get_or file (from + k - 5 + number_place size k) 0) 0

-- among four cells, byte 0 of the cell of number k is at most 3 bytes before the byte that its first number has in the array
pub four_quarters : (size k : ℕ) → (size ≡ 3) ⊎ (size ≡ 4) → k < 16 → (k / 4 * size + k % 4 ≤ k) × (k ≤ k / 4 * size + k % 4 + 3)
four_quarters size k (inl e) h = rw e (omega arith, omega arith)
four_quarters size k (inr e) h = rw e (omega arith, omega arith)

number_of : (file : List ℕ) (from k m c : ℕ) → 5 ≤ from → m + c ≤ k → k ≤ m + c + 3
    → cond (ltb (m + 7 + c / 3 * 16 - c - k) 8) (get_or file (from + k - 5 + (m + 7 + c / 3 * 16 - c - k)) 0) 0
    ≡ get_or (get_or file (from + m + 2) 0 ∷ get_or file (from + m + 1) 0 ∷ get_or file (from + m) 0 ∷ 0 ∷ []) c 0
number_of file from k m zero f h l =
    let at : from + k - 5 + (m + 7 + 0 / 3 * 16 - 0 - k) ≡ from + m + 2 = omega arith in
    rw (lt-ltb (m + 7 + 0 / 3 * 16 - 0 - k) 8 (omega arith), at)
number_of file from k m (suc zero) f h l =
    let at : from + k - 5 + (m + 7 + 1 / 3 * 16 - 1 - k) ≡ from + m + 1 = omega arith in
    rw (lt-ltb (m + 7 + 1 / 3 * 16 - 1 - k) 8 (omega arith), at)
number_of file from k m (suc (suc zero)) f h l =
    let at : from + k - 5 + (m + 7 + 2 / 3 * 16 - 2 - k) ≡ from + m = omega arith in
    rw (lt-ltb (m + 7 + 2 / 3 * 16 - 2 - k) 8 (omega arith), at)
number_of file from k m (suc (suc (suc zero))) f h l = rw (le-ltb (m + 7 + 3 / 3 * 16 - 3 - k) 8 (omega arith))
number_of file from k m (suc (suc (suc (suc c)))) f h l = rw (le-ltb (m + 7 + suc (suc (suc (suc c))) / 3 * 16 - suc (suc (suc (suc c))) - k) 8 (omega arith))

number_is : (file : List ℕ) (from size k : ℕ) → (size ≡ 3) ⊎ (size ≡ 4) → k < 16 → 5 ≤ from → number_at file from size k ≡ get_or (bytes_quad file from size (k / 4)) (k % 4) 0
unfolding number_place bytes_quad
number_is file from size k s h f = let q = four_quarters size k s h in number_of file from k (k / 4 * size) (k % 4) f q.0 q.1

pub four_numbers : (file : List ℕ) (from size : ℕ) → (size ≡ 3) ⊎ (size ≡ 4) → 5 ≤ from → tab (number_at file from size) 16 ≡ cat (bytes_quad file from size) 4
unfolding tab cat bytes_quad
four_numbers file from size s f = tab_ext _ (λ k. get_or (bytes_quad file from size (k / 4)) (k % 4) 0) 16 (λ k h. number_is file from size k s h f) ∙ refl

number_small : (file : List ℕ) (from size k : ℕ) → ((i : ℕ) → get_or file i 0 < 256) → number_at file from size k < 256
number_small file from size k small = either (ltb (number_place size k) 8)
  where
    either : (b : Bool) → cond b (get_or file (from + k - 5 + number_place size k) 0) 0 < 256
    either true = small (from + k - 5 + number_place size k)
    either false = omega arith

-- the bytes of a local array as numbers
pub widened : (file numbers : List ℕ) (from size : ℕ) → ((i : ℕ) → get_or file i 0 < 256) → numbers ≡ tab (number_at file from size) 16
    → tab (cell_at 8 (drop 0 numbers)) 16 ≡ tab (number_at file from size) 16
widened file numbers from size small e = tab_ext _ _ 16 (λ k h. sym (byte_cell numbers 0 k (rw (is k h) (number_small file from size k small))) ∙ is k h)
  where
    is : (k : ℕ) → k < 16 → get_or numbers (0 + k) 0 ≡ number_at file from size k
    is k h = rw (zero-add k, e) (get_or-tab (number_at file from size) 16 k 0 h)

-- ---- n cells of 3 or 4 bytes

pub three_or_four : (size : ℕ) → (size ≡ 3) ⊎ (size ≡ 4) → (3 ≤ size) × (size ≤ 4)
three_or_four size (inl e) = (omega (arith, e), omega (arith, e))
three_or_four size (inr e) = (omega (arith, e), omega (arith, e))

-- x cells and m more are among n
pub cells_room : (size x m n : ℕ) → x + m ≤ n → x * size + m * size ≤ n * size
cells_room size x m n h = omega (arith, mul-le-mul_right size h, add-mul x m size)

-- two cells or more take six bytes or more
pub two_before : (size x : ℕ) → 2 ≤ x → 2 * size ≤ x * size
two_before size x h = mul-le-mul_right size h

-- m cells on
pub next_cells : (from size x p m : ℕ) → p ≡ from + x * size → p + m * size ≡ from + (x + m) * size
next_cells from size x p m e = omega (arith, e, add-mul x m size)

-- cell i from p on is cell x + i
pub quad_on : (file : List ℕ) (from size x p i : ℕ) → p ≡ from + x * size → bytes_quad file p size i ≡ bytes_quad file from size (x + i)
unfolding bytes_quad
quad_on file from size x p i e =
    let at : p + i * size ≡ from + (x + i) * size = omega (arith, e, add-mul x i size) in
    rw at
