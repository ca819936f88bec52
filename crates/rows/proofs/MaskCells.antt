-- Laws of loops that append cells of one length, and of mask mode: a field, a word and the cells of a row.
use Rattle.std.proofs.Common.{◌≡◌, ℕ, ◌+◌, ◌-◌, ◌*◌, ◌/◌, ◌%◌, ◌^◌, ◌<◌, ◌≤◌, Bool, false, cond, eqb, ◌⊎◌, List, length, take, get_or, replicate, sym, refl, ap, ◌∙◌, inl, inr, add-zero, mul-le-mul_right, suc-mul, eq-or-lt_of_le, zero-mul, add-one, arith, shl_exact, eq-eqb, ne_eqb}
use lib.Arith.{lt-one}
use lib.Bits.{bit_or}
use Rattle.leaves.specs.declared.bitfields.MaskShiftLen.{MaskShiftLen}
use Rattle.rows.specs.declared.masks.MaskLayout.{MaskLayout}
use Rattle.rows.specs.declared.pack.RowPack.TheVariants.{Masks}
use Rattle.leaves.specs.Bytes.{le16, le32, length-le16, length-le32}
use Rattle.leaves.specs.Fit.{fit}
use Rattle.leaves.specs.Lists.{cat}
use Rattle.leaves.specs.Put.{put}
use Rattle.leaves.specs.Sizes.{row_stride}
use Rattle.rows.specs.StoredRows.{field, mask_word, mask_cell, alpha_in, stored_row}
use Rattle.leaves.proofs.Fitting.{fit-lt}
use Rattle.leaves.proofs.ListLaws.{length-cat}
use Rattle.leaves.proofs.Puts.{put-nil}
use Rattle.rows.proofs.PackLaws.{put_cell, put-padded}

-- a loop that appends cells of k bytes: before the first nothing is put
pub no_cells : (f : ℕ → List ℕ) (d : List ℕ) (at : ℕ) → d ≡ put d at (cat f 0)
unfolding cat
no_cells f d at = sym (put-nil d at)

-- and after the last all are
pub all_put : (f : ℕ → List ℕ) (d e : List ℕ) (at x w : ℕ) → x ≡ w → e ≡ put d at (cat f x) → e ≡ put d at (cat f w)
all_put f d e at x w all is = is ∙ ap (λ (z : ℕ). put d at (cat f z)) all

-- the place after one cell more
pub next_place : (at x k o q : ℕ) → o ≡ at + x * k → q ≡ o + k → q ≡ at + (x + 1) * k
next_place at x k o q e f = rw add-one (omega (arith, suc-mul x k))

-- the next cell lies before the end of all
pub next_fits : (at x w k o : ℕ) → o ≡ at + x * k → x < w → o + k ≤ at + w * k
next_fits at x w k o e h = omega (arith, suc-mul x k, mul-le-mul_right k h)

pub cell_room : (at x w k n m : ℕ) → x < w → at + w * k ≤ n → m ≡ n → at + x * k + k ≤ m
cell_room at x w k n m h room e = omega (arith, next_fits at x w k (at + x * k) refl h)

-- a channel of no bits adds nothing
pub field_none : (ch : MaskShiftLen) (s : ℕ) → ch.len ≡ 0 → s < 256 → 0 ≡ field ch s
unfolding field
field_none ch s e h =
    let z : fit ch.len s ≡ 0 = ap (λ (n : ℕ). fit n s) e ∙ lt-one (fit-lt 0 s h) in
    rw z (sym (zero-mul (2 ^ ch.shift)))

-- the shift in 32 bits loses no bit of a fitted sample
pub field_some : (ch : MaskShiftLen) (s q : ℕ) → q ≡ fit ch.len s → s < 256 → ch.shift + ch.len ≤ 32 → q * 2 ^ ch.shift % 4294967296 ≡ field ch s
unfolding field
field_some ch s q e h k = rw e (shl_exact ch.len ch.shift 32 (fit-lt ch.len s h) (omega arith))

-- a fitted sample as the code shifts it: a channel of no bits may stand at 32
pub field_is : (ch : MaskShiftLen) (s q : ℕ) → q ≡ fit ch.len s → s < 256 → ch.shift + ch.len ≤ 32 → q * 2 ^ (ch.shift % 32) % 4294967296 ≡ field ch s
field_is ch s q e h k = go (eq-or-lt_of_le (omega arith))
  where
    go : (0 ≡ ch.len) ⊎ (0 < ch.len) → q * 2 ^ (ch.shift % 32) % 4294967296 ≡ field ch s
    go (inl n) =
        let z : q ≡ 0 = e ∙ ap (λ (l : ℕ). fit l s) (sym n) ∙ lt-one (fit-lt 0 s h) in
        rw (z, zero-mul (2 ^ (ch.shift % 32))) (field_none ch s (sym n) h)
    go (inr p) =
        let m : ch.shift % 32 ≡ ch.shift = omega arith in
        rw m (field_some ch s q e h k)

-- a pixel has three bytes at least
pub three_bytes : (n : ℕ) → (n ≡ 3) ⊎ (n ≡ 4) → 3 ≤ n
three_bytes n (inl e) = omega arith
three_bytes n (inr e) = omega arith

-- a word has the bits of its four fields
pub word_of : (layout : MaskLayout) (n : ℕ) (row : List ℕ) (x alpha r g b a : ℕ) → alpha ≡ alpha_in n row x
    → r ≡ field layout.r (get_or row (x * n) 0) → g ≡ field layout.g (get_or row (x * n + 1) 0)
    → b ≡ field layout.b (get_or row (x * n + 2) 0) → a ≡ field layout.a alpha → bit_or (bit_or (bit_or r g) b) a ≡ mask_word layout n false row x
unfolding mask_word
word_of layout n row x alpha r g b a el r' g' b' a' = rw (r', g', b', a', el, add-zero (x * n))

-- a cell is the word's low bytes
low_bytes : (bpp k v : ℕ) → (bpp ≡ 16) ⊎ (bpp ≡ 32) → bpp ≡ k * 8 → take k (le32 v) ≡ cond (eqb bpp 16) (le16 v) (le32 v)
unfolding le16 le32
low_bytes bpp k v (inl e) deep = let two : k ≡ 2 = omega arith in rw (two, eq-eqb bpp 16 e)
low_bytes bpp k v (inr e) deep = let four : k ≡ 4 = omega arith in rw (four, ne_eqb bpp 16 (λ f. omega arith))

-- it is no longer than the word
pub cell_bytes : (bpp k : ℕ) → (bpp ≡ 16) ⊎ (bpp ≡ 32) → bpp ≡ k * 8 → k ≤ 4
cell_bytes bpp k (inl e) deep = omega arith
cell_bytes bpp k (inr e) deep = omega arith

-- the word of a pixel gives its cell
word-put : (layout : MaskLayout) (n : ℕ) (bgr : Bool) (row : List ℕ) (x k v : ℕ) (d e : List ℕ) (at : ℕ) → (layout.bpp ≡ 16) ⊎ (layout.bpp ≡ 32) → layout.bpp ≡ k * 8
    → v ≡ mask_word layout n bgr row x → e ≡ put d at (take k (le32 v)) → e ≡ put d at (mask_cell layout n bgr row x)
unfolding mask_cell
word-put layout n bgr row x k v d e at depth deep f is =
    is ∙ ap (put d at) (low_bytes layout.bpp k v depth deep ∙ ap (λ (z : ℕ). cond (eqb layout.bpp 16) (le16 z) (le32 z)) f)

-- and at any depth but 16 the whole word
pub cell32 : (layout : MaskLayout) (n : ℕ) (bgr : Bool) (row : List ℕ) (x v : ℕ) → (layout.bpp ≡ 16 → ⊥) → v ≡ mask_word layout n bgr row x → le32 v ≡ mask_cell layout n bgr row x
unfolding mask_cell
cell32 layout n bgr row x v e f = rw (ne_eqb layout.bpp 16 e) (ap le32 f)

-- a cell has as many bytes as the depth says
pub length-mask_cell : (layout : MaskLayout) (n : ℕ) (bgr : Bool) (row : List ℕ) → (layout.bpp ≡ 16) ⊎ (layout.bpp ≡ 32) → (x : ℕ)
    → length (mask_cell layout n bgr row x) ≡ layout.bpp / 8
unfolding mask_cell
length-mask_cell layout n bgr row (inl e) x = rw (eq-eqb layout.bpp 16 e, e) (length-le16 _)
length-mask_cell layout n bgr row (inr e) x = rw (ne_eqb layout.bpp 16 (λ f. omega arith), e) (length-le32 _)

-- one cell more, whose bytes are a word's, is in place
pub word_turn : (layout : MaskLayout) (n : ℕ) (row : List ℕ) (d₀ d e : List ℕ) (at k x w v : ℕ) → (layout.bpp ≡ 16) ⊎ (layout.bpp ≡ 32) → layout.bpp ≡ k * 8 → x < w → at + w * k ≤ length d₀
    → d ≡ put d₀ at (cat (mask_cell layout n false row) x) → v ≡ mask_word layout n false row x → e ≡ put d (at + x * k) (take k (le32 v)) → e ≡ put d₀ at (cat (mask_cell layout n false row) (x + 1))
word_turn layout n row d₀ d e at k x w v depth deep h room was word is =
    put_cell d₀ d e at k x (x + 1) (at + x * k) (mask_cell layout n false row) (λ i. length-mask_cell layout n false row depth i ∙ omega arith) was
    (word-put layout n false row x k v d e (at + x * k) depth deep word is) refl refl (omega (arith, cell_room at x w k (length d₀) (length d₀) h room refl))

-- the cells of a row are no more bytes than the stored row
pub cells_fit : (w bpp : ℕ) → (bpp ≡ 16) ⊎ (bpp ≡ 32) → w * (bpp / 8) ≤ row_stride w bpp
unfolding row_stride
cells_fit w bpp (inl e) = rw e (omega arith)
cells_fit w bpp (inr e) = rw e (omega arith)

-- all cells, and then zeros, are the stored row
pub masks_end_lem : (layout : MaskLayout) (n : ℕ) (bgr : Bool) (row d b e : List ℕ) (at w r : ℕ) → (layout.bpp ≡ 16) ⊎ (layout.bpp ≡ 32)
    → b ≡ put d at (cat (mask_cell layout n bgr row) w) → r ≡ row_stride w layout.bpp → at + row_stride w layout.bpp ≤ length d
    → e ≡ put b (at + w * (layout.bpp / 8)) (replicate (r - w * (layout.bpp / 8)) 0) → e ≡ put d at (stored_row (Masks n bgr layout) w row)
unfolding stored_row
masks_end_lem layout n bgr row d b e at w r depth was stride room is =
    let f = mask_cell layout n bgr row in
    let l : length (cat f w) ≡ w * (layout.bpp / 8) = length-cat f (layout.bpp / 8) w (λ i h. length-mask_cell layout n bgr row depth i) in
    let within = cells_fit w layout.bpp depth in
    put-padded d b e (cat f w) at (at + w * (layout.bpp / 8)) (r - w * (layout.bpp / 8)) (row_stride w layout.bpp) was is (omega arith) (omega arith) (omega arith)
