-- Laws of 24- and 32-bit cells: a row with blue first is its own cells, and a word is the bytes that it is made of.
use Rattle.std.proofs.Common.{◌≡◌, ℕ, zero, suc, ◌+◌, ◌-◌, ◌*◌, ◌/◌, ◌%◌, ◌<◌, ◌≤◌, Bool, true, false, ◌⊎◌, List, [], ◌∷◌, ◌++◌, length, get_or, take, drop, replicate, sym, refl, ap, ◌∙◌, inl, inr, append_assoc, append-nil, le_of_suc-le-suc, not-suc-le-zero, add-zero, mul-le-mul_right, suc-mul, eq-or-lt_of_le, zero-mul, add-one, arith, length-append, length-drop, drop_of_length-le, take-suc, drop-drop, drop_at}
use lib.Seq.{take-length, drop-append-le}
use Rattle.std.specs.Int.{w32, from_le_bytes}
use Rattle.rows.specs.declared.pack.RowPack.TheVariants.{Bgra32, Bgr24}
use Rattle.leaves.specs.Bytes.{le32}
use Rattle.leaves.specs.Lists.{tab, cat}
use Rattle.leaves.specs.Put.{put}
use Rattle.leaves.specs.Sizes.{row_stride}
use Rattle.rows.specs.StoredRows.{cell24, cell32, stored_row}
use Rattle.leaves.proofs.ListLaws.{length-cat}
use Rattle.leaves.proofs.Puts.{put-nil, put-append, before-put, after_put, length-put}
use Rattle.rows.proofs.PackLaws.{put-padded, padded_full}

-- each cell has one length
pub length-cell24 : (bgr : Bool) (row : List ℕ) (x : ℕ) → length (cell24 bgr row x) ≡ 3
unfolding cell24
length-cell24 bgr row x = refl

pub length-cell32 : (bgr : Bool) (row : List ℕ) (x : ℕ) → length (cell32 bgr row x) ≡ 4
unfolding cell32
length-cell32 bgr row x = refl

-- k elements more of a list
take_more : (row : List ℕ) (j k : ℕ) → j + k ≤ length row → take (j + k) row ≡ take j row ++ tab (λ i. get_or row (j + i) 0) k
unfolding tab
take_more row j zero h = rw add-zero (sym (append-nil (take j row)))
take_more row j (suc k) h =
    let e : j + suc k ≡ suc (j + k) = omega arith in
    rw (e, take-suc row (j + k) 0 (omega arith), take_more row j k (omega arith)) (append_assoc (take j row) (tab (λ i. get_or row (j + i) 0) k) (get_or row (j + k) 0 ∷ []))

-- cells of k bytes that hold a row's bytes in order, joined, are the row
copied : (f : ℕ → List ℕ) (row : List ℕ) (k w : ℕ) → ((x : ℕ) → f x ≡ tab (λ i. get_or row (x * k + i) 0) k) → w * k ≤ length row → cat f w ≡ take (w * k) row
unfolding cat
copied f row k zero same h = rw (zero-mul k)
copied f row k (suc w) same h =
    let e : suc w * k ≡ w * k + k = omega (arith, suc-mul w k) in
    rw (e, take_more row (w * k) k (omega arith), same w, copied f row k w same (omega arith))

whole : (row : List ℕ) (n : ℕ) → length row ≡ n → take n row ≡ row
whole row n e = rw (← e) (take-length row)

-- a row with blue first is its own cells
pub copied24 : (row : List ℕ) (w : ℕ) → length row ≡ w * 3 → row ≡ cat (cell24 true row) w
unfolding cell24 tab
copied24 row w size = sym (copied (cell24 true row) row 3 w (λ x. refl) (omega arith) ∙ whole row (w * 3) size)

pub copied32 : (row : List ℕ) (w : ℕ) → length row ≡ w * 4 → row ≡ cat (cell32 true row) w
unfolding cell32 tab
copied32 row w size = sym (copied (cell32 true row) row 4 w (λ x. refl) (omega arith) ∙ whole row (w * 4) size)

-- 32-bit cells fill the stored row
pub stored32 : (bgr : Bool) (row : List ℕ) (w : ℕ) → stored_row (Bgra32 bgr) w row ≡ cat (cell32 bgr row) w
unfolding stored_row row_stride
stored32 bgr row w =
    let l : length (cat (cell32 bgr row) w) ≡ w * 4 = length-cat (cell32 bgr row) 4 w (λ x _. length-cell32 bgr row x) in
    padded_full ((w * 32 + 31) / 32 * 4) (cat (cell32 bgr row) w) (omega arith)

-- 24-bit cells, and zeros after them
pub stored24 : (bgr : Bool) (row d₀ d e : List ℕ) (at w stride : ℕ) → length row ≡ w * 3 → stride ≡ row_stride w 24 → at + length row ≤ length d₀
    → d ≡ put d₀ at (cat (cell24 bgr row) w) → e ≡ put d (at + length row) (replicate (stride - length row) 0) → e ≡ put d₀ at (stored_row (Bgr24 bgr) w row)
unfolding stored_row
stored24 bgr row d₀ d e at w stride size strides room was is =
    let l : length (cat (cell24 bgr row) w) ≡ w * 3 = length-cat (cell24 bgr row) 3 w (λ x _. length-cell24 bgr row x) in
    put-padded d₀ d e (cat (cell24 bgr row) w) at (at + length row) (stride - length row) (row_stride w 24) was is (omega arith) (omega arith) (omega arith)

-- a digit to the base 256 and what stands above it
low : (v a t : ℕ) → a < 256 → v ≡ a + t * 256 → (v % 256 ≡ a) × (v / 256 ≡ t)
low v a t h e = (omega arith, omega arith)

-- the bytes of a word are those that it is made of
bytes_of : (a b c d v : ℕ) → a < 256 → b < 256 → c < 256 → d < 256 → v ≡ a + b * 256 + c * 65536 + d * 16777216
    → (v % 256 ≡ a) × (v / 256 % 256 ≡ b) × (v / 256 / 256 % 256 ≡ c) × (v / 256 / 256 / 256 ≡ d)
bytes_of a b c d v ha hb hc hd e =
    let p = low v a (b + c * 256 + d * 65536) ha (omega arith) in
    let q = low (v / 256) b (c + d * 256) hb (omega arith) in
    let r = low (v / 256 / 256) c d hc (omega arith) in
    (p.0, q.0, r.0, r.1)

word_bytes : (a b c d : ℕ) → a < 256 → b < 256 → c < 256 → d < 256 → le32 (a + b * 256 + c * 65536 + d * 16777216) ≡ a ∷ b ∷ c ∷ d ∷ []
unfolding le32
word_bytes a b c d ha hb hc hd =
    let k = bytes_of a b c d (a + b * 256 + c * 65536 + d * 16777216) ha hb hc hd refl in
    let n : d % 256 ≡ d = omega arith in
    rw (k.0, k.1, k.2, k.3, n)

-- the same of a number that std makes of them
pub le32_made : (a b c d : ℕ) → a < 256 → b < 256 → c < 256 → d < 256 → le32 (from_le_bytes w32 (a ∷ b ∷ c ∷ d ∷ [])) ≡ a ∷ b ∷ c ∷ d ∷ []
le32_made a b c d ha hb hc hd = word_bytes a b c d ha hb hc hd

-- red and blue exchanged
pub exchange_word : (w : ℕ) → w < 4294967296
    → le32 (w / 65536 % 256 + w / 256 % 256 * 256 + w % 256 * 65536 + w / 16777216 * 16777216) ≡ cell32 false (le32 w) 0
unfolding le32 cell32
exchange_word w h =
    let s : w / 65536 ≡ w / 256 / 256 = omega arith in
    let t : w / 16777216 ≡ w / 256 / 256 / 256 = omega arith in
    let n : w / 256 / 256 / 256 % 256 ≡ w / 256 / 256 / 256 = omega arith in
    rw (s, t, n) (word_bytes (w / 256 / 256 % 256) (w / 256 % 256) (w % 256) (w / 256 / 256 / 256) (omega arith) (omega arith) (omega arith) (omega arith))

-- what that is of the word of pixel x
pub exchange_pixel : (row : List ℕ) (x w r : ℕ) → le32 w ≡ cell32 true row x → le32 r ≡ cell32 false (le32 w) 0 → le32 r ≡ cell32 false row x
unfolding cell32
exchange_pixel row x w r e f = f ∙ rw e

pub pixel_bytes_lem : (row : List ℕ) (x : ℕ) → get_or row (x * 4) 0 ∷ get_or row (x * 4 + 1) 0 ∷ get_or row (x * 4 + 2) 0 ∷ get_or row (x * 4 + 3) 0 ∷ [] ≡ cell32 true row x
unfolding cell32
pixel_bytes_lem row x = rw add-zero

-- the stored cell of pixel x with red first
pub exchanged-cell24 : (row : List ℕ) (x : ℕ) → get_or row (x * 3 + 2) 0 ∷ get_or row (x * 3 + 1) 0 ∷ get_or row (x * 3) 0 ∷ [] ≡ cell24 false row x
unfolding cell24
exchanged-cell24 row x = rw add-zero

pub reversed_cell : (row : List ℕ) (x : ℕ) → get_or row (x * 3 + 2) 0 ∷ get_or row (x * 3 + 1) 0 ∷ get_or row (x * 3) 0 ∷ 0 ∷ [] ≡ cell24 false row x ++ (0 ∷ [])
reversed_cell row x = ap (λ (l : List ℕ). l ++ (0 ∷ [])) (exchanged-cell24 row x)

-- what is put over other bytes, at the same place and no shorter
same_around : (c d : List ℕ) (at : ℕ) (s : List ℕ) → take at c ≡ take at d → drop (at + length s) c ≡ drop (at + length s) d → put c at s ≡ put d at s
unfolding put
same_around c d at s e f = rw (e, f)

put_over : (d : List ℕ) (at : ℕ) (s t : List ℕ) → length s ≤ length t → at + length s ≤ length d → put (put d at s) at t ≡ put d at t
put_over d at s t h room =
    let e : at + length t ≡ at + length s + (length t - length s) = omega arith in
    same_around (put d at s) d at t (before-put d at s (omega arith))
    (rw e
    (sym (drop-drop (length t - length s) (at + length s) (put d at s))
    ∙ ap (drop (length t - length s)) (after_put d at s (omega arith))
    ∙ drop-drop (length t - length s) (at + length s) d))

-- the buffer d, once the cells from x on stand in their places
unfoldable pub finished : (ℕ → List ℕ) → ℕ → ℕ → List ℕ → ℕ → ℕ → List ℕ
finished f k w d at x = put d (at + x * k) (drop (x * k) (cat f w))

-- cells of one length k
module _ (f : ℕ → List ℕ) (k : ℕ) (len : (i : ℕ) → length (f i) ≡ k) where
  pub length-cells : (w : ℕ) → length (cat f w) ≡ w * k
  length-cells w = length-cat f k w (λ i _. len i)

  next : (x : ℕ) → (x + 1) * k ≡ x * k + k
  next x = rw add-one (suc-mul x k)

  drop_cell_go : (w x : ℕ) → (x ≡ w) ⊎ (x < w) → (x < w → drop (x * k) (cat f w) ≡ f x ++ drop ((x + 1) * k) (cat f w))
      → drop (x * k) (cat f w ++ f w) ≡ f x ++ drop ((x + 1) * k) (cat f w ++ f w)
  drop_cell_go w x (inl e) _ =
      let l : length (cat f w ++ f w) ≤ (w + 1) * k = simp length-append (omega (arith, length-cells w, len w, next w)) in
      rw e (drop_at (cat f w) (f w) (w * k) (length-cells w) ∙ sym (ap (λ (r : List ℕ). f w ++ r) (drop_of_length-le (cat f w ++ f w) {i = (w + 1) * k} l) ∙ append-nil (f w)))
  drop_cell_go w x (inr l) h =
      let m : suc x * k ≤ w * k = mul-le-mul_right k l in
      let p : x * k ≤ length (cat f w) = omega (arith, length-cells w, suc-mul x k) in
      let q : (x + 1) * k ≤ length (cat f w) = omega (arith, length-cells w, suc-mul x k, next x) in
      rw (drop-append-le (x * k) (cat f w) (f w) p, drop-append-le ((x + 1) * k) (cat f w) (f w) q, h l) (append_assoc (f x) (drop ((x + 1) * k) (cat f w)) (f w))

  -- the cells from x on are cell x and those after it
  drop_cell : (w x : ℕ) → x < w → drop (x * k) (cat f w) ≡ f x ++ drop ((x + 1) * k) (cat f w)
  unfolding cat
  drop_cell zero x h = absurd (not-suc-le-zero h)
  drop_cell (suc w) x h = drop_cell_go w x (eq-or-lt_of_le (le_of_suc-le-suc h)) (drop_cell w x)

  -- one cell more is in place
  pub one_cell : (w x o at : ℕ) (d e : List ℕ) → x < w → at + w * k ≤ length d → o ≡ at + x * k → e ≡ put d o (f x)
      → finished f k w e at (x + 1) ≡ finished f k w d at x
  unfolding finished
  one_cell w x o at d e h room place is =
      let m : suc x * k ≤ w * k = mul-le-mul_right k h in
      let p : at + (x + 1) * k ≡ at + x * k + length (f x) = omega (arith, len x, next x) in
      rw (is, place, p, drop_cell w x h) (put-append d (at + x * k) (f x) (drop ((x + 1) * k) (cat f w)) (omega (arith, len x, suc-mul x k)))

  -- bytes that what is left overwrites do not count
  over : (w x at : ℕ) (d more : List ℕ) → x * k + length more ≤ w * k → at + w * k ≤ length d
      → finished f k w (put d (at + x * k) more) at x ≡ finished f k w d at x
  unfolding finished
  over w x at d more h room =
      let r : length (drop (x * k) (cat f w)) ≡ w * k - x * k = simp (length-drop, length-cells w) in
      put_over d (at + x * k) more (drop (x * k) (cat f w)) (omega arith) (omega arith)

  -- the same, where a cell is stored with bytes after it that the next cell overwrites
  pub cell_and_more : (w x o at : ℕ) (d e more : List ℕ) → x + 2 ≤ w → at + w * k ≤ length d → o ≡ at + x * k → length more ≤ k → e ≡ put d o (f x ++ more)
      → finished f k w e at (x + 1) ≡ finished f k w d at x
  cell_and_more w x o at d e more h room place short is =
      let c = put d o (f x) in
      let m : suc (x + 1) * k ≤ w * k = mul-le-mul_right k (omega arith) in
      let p : at + (x + 1) * k ≡ o + length (f x) = omega (arith, len x, next x) in
      let l : length c ≡ length d = length-put d o (f x) (omega (arith, len x, suc-mul (x + 1) k, next x)) in
      let r : length (drop ((x + 1) * k) (cat f w)) ≡ w * k - (x + 1) * k = simp (length-drop, length-cells w) in
      let s : e ≡ put c (at + (x + 1) * k) more = is ∙ sym (rw p (put-append d o (f x) more (omega (arith, len x, suc-mul (x + 1) k, next x)))) in
      ap (λ (b : List ℕ). finished f k w b at (x + 1)) s
      ∙ over w (x + 1) at c more (omega (arith, suc-mul (x + 1) k)) (omega (arith, suc-mul (x + 1) k))
      ∙ one_cell w x o at d c (omega arith) room place refl

  pub no_cell : (w x at : ℕ) (d : List ℕ) → w ≤ x → finished f k w d at x ≡ d
  unfolding finished
  no_cell w x at d h =
      let m : w * k ≤ x * k = mul-le-mul_right k h in
      rw (drop_of_length-le (cat f w) {i = x * k} (omega (arith, length-cells w))) (put-nil d (at + x * k))
