-- Rows packed into zeros are the document's stored rows.
use mathlib.Core.Path.{◌≡◌, refl, sym, ap, ◌∙◌}
use mathlib.Core.Bool.{Bool, true, false, cond}
use mathlib.Core.Logic.{◌⊎◌, inl, inr}
use mathlib.Core.List.{List, append-nil}
use Prim.Native.Nat.{ℕ, ◌+◌, ◌-◌, ◌*◌, ◌/◌, ◌^◌, ◌≤◌, ◌<◌}
use native.Mathlib.Nat.{mul_comm, mul-one, suc-mul, mul-le-mul_right, mul-le-mul_left, mul-div_cancel}
use native.Mathlib.Omega.{arith}
use borrow.Author.Tests.{eq-eqb}
use lib.Bits.{bit_or, or_zero_l}
use lib.Dec.{eqb}
use lib.ListN.{length, get_or, replicate, length-append, length-replicate}
use Rattle.leaves.specs.declared.bitfields.MaskShiftLen.{MaskShiftLen}
use Rattle.rows.specs.declared.masks.MaskLayout.{MaskLayout}
use Rattle.rows.specs.declared.pack.RowPack.{RowPack}
use Rattle.rows.specs.declared.pack.RowPack.TheVariants.{Bgra32, Bgr24, Words16, Indexed, Masks}
use Rattle.leaves.specs.Bytes.{le16, le32}
use Rattle.leaves.specs.Lists.{tab, cat}
use Rattle.leaves.specs.Sizes.{row_stride}
use Rattle.rows.specs.StoredRows.{padded, cell24, cell32, stored_row, pack_bits, pack_bytes, LayoutOk, PackOk, red_in, green_in, blue_in, alpha_in}
use Rattle.leaves.proofs.ListLaws.{length-cat}
use Rattle.rows.proofs.AllRows.{length-stored_row}
use Rattle.rows.proofs.Cells.{copied32, length-cell24, length-cell32, stored32}
use Rattle.rows.proofs.MaskCells.{cells_fit, three_bytes}
use Rattle.reference.specs.Rust.{Run, done, ◌>>=◌, usize, add, mul, to_le_bytes, at, store, range, within, copy_from_slice, for}
use Rattle.reference.specs.Packing as reference
use Rattle.reference.proofs.Original.{original_field, original_word, original_cell, original_row}
use Rattle.reference.proofs.RunLaws.{add_is, mul_is, div_is, at_is, copy_is}
use Rattle.reference.proofs.QuantiseLaws.{field_is}
use Rattle.reference.proofs.IndexLaws.{indices_is}
use Rattle.reference.proofs.Slices.{zeros, length_zeros, front_is, copied_in, cells_in, chunks_in}

-- a channel's place as the pair that `mask_shift_len` gives
abbrev place : MaskShiftLen → ℕ × ℕ
place channel = (channel.shift, channel.len)

abbrev pub layout_of : MaskLayout → reference.MaskLayout
layout_of layout = record { bpp = layout.bpp; r = place layout.r; g = place layout.g; b = place layout.b; a = place layout.a }

-- the port's packing, as the original's: there, 32-bit rows are made from 4 bytes to a pixel and 24-bit rows from 3
abbrev pub pack_of : RowPack → reference.RowPack
pack_of (Bgra32 bgr) = reference.Bgra32 4 bgr
pack_of (Bgr24 bgr) = reference.Bgr24 3 bgr
pack_of Words16 = reference.Words16
pack_of (Indexed bpp) = reference.Indexed bpp
pack_of (Masks n bgr layout) = reference.Masks n bgr (layout_of layout)

-- its sizes are the same
pub same_bits : (p : RowPack) → reference.pack_bits (pack_of p) ≡ pack_bits p
same_bits (Bgra32 bgr) = refl
same_bits (Bgr24 bgr) = refl
same_bits Words16 = refl
same_bits (Indexed bpp) = refl
same_bits (Masks n bgr layout) = refl

pub same_bytes : (p : RowPack) → reference.source_bytes (pack_of p) ≡ pack_bytes p
same_bytes (Bgra32 bgr) = refl
same_bytes (Bgr24 bgr) = refl
same_bytes Words16 = refl
same_bytes (Indexed bpp) = refl
same_bytes (Masks n bgr layout) = refl

-- row_stride is the document's stride
pub stride_is : (w bpp : ℕ) → w < 2 ^ 32 → bpp ≤ 32 → reference.row_stride w bpp ≡ done (row_stride w bpp)
unfolding reference.row_stride row_stride
stride_is w bpp h k =
    let m : w * bpp ≤ w * 32 = mul-le-mul_left w k in
    rw (mul_is 64 w bpp (omega arith), mul_is 64 ((w * bpp + 31) / 32) 4 (omega arith))

-- the cells' bits fit the stored row
row_fits : (w d : ℕ) → w * d ≤ row_stride w d * 8
unfolding row_stride
row_fits w d = omega arith

-- ---- 32 and 24 bits

-- 32-bit cells need no zeros after them
full32 : (w : ℕ) → row_stride w 32 ≡ w * 4
unfolding row_stride
full32 w = omega arith

-- what is made of one pixel
exchanged32 : (src : List ℕ) (k : ℕ)
    → (at (tab (λ i. get_or src (k * 4 + i) 0) 4) 3 >>= reference.with_alpha (reference.exchanged (zeros 4) (tab (λ i. get_or src (k * 4 + i) 0) 4))) ≡ done (cell32 false src k)
unfolding tab at store reference.with_alpha reference.exchanged cell32
exchanged32 src k = refl

cell24_is : (bgr : Bool) (src : List ℕ) (k : ℕ) → cond bgr reference.copied3 reference.exchanged (zeros 3) (tab (λ i. get_or src (k * 3 + i) 0) 3) ≡ done (cell24 bgr src k)
unfolding tab at store range within copy_from_slice reference.copied3 reference.exchanged cell24
cell24_is true src k = refl
cell24_is false src k = refl

row32 : (bgr : Bool) (w : ℕ) (src : List ℕ) → length src ≡ w * 4 → reference.row_bgra32 4 bgr src (zeros (row_stride w 32)) ≡ done (stored_row (Bgra32 bgr) w src)
unfolding reference.row_bgra32 stored_row
row32 true w src size = copied_in src (row_stride w 32) (omega (arith, row_fits w 32)) ∙ ap (λ (cells : List ℕ). done (padded (row_stride w 32) cells)) (copied32 src w size)
row32 false w src size =
    let body : List ℕ → List ℕ → Run (List ℕ) = λ d s. at s 3 >>= reference.with_alpha (reference.exchanged d s) in
    ap (λ (n : ℕ). reference.zip_chunks 4 4 body src (zeros n)) (full32 w)
    ∙ chunks_in 4 4 w body src (cell32 false src) (omega arith) (omega arith) size (length-cell32 false src) (exchanged32 src)
    ∙ ap done (sym (stored32 false src w))

row24 : (bgr : Bool) (w : ℕ) (src : List ℕ) → length src ≡ w * 3 → w < 2 ^ 32 → reference.row_bgr24 3 bgr src (zeros (row_stride w 24)) ≡ done (stored_row (Bgr24 bgr) w src)
unfolding reference.row_bgr24 stored_row
row24 bgr w src size h =
    let body : List ℕ → List ℕ → Run (List ℕ) = cond bgr reference.copied3 reference.exchanged in
    let c : length src / 3 ≡ w = omega arith in
    rw (div_is (length src) 3 (omega arith), c, mul_is 64 w 3 (omega arith))
    (front_is (row_stride w 24) (w * 3) (reference.zip_chunks 3 3 body src) (cat (cell24 bgr src) w) (omega (arith, row_fits w 24))
    (length-cat (cell24 bgr src) 3 w (λ k _. length-cell24 bgr src k))
    (chunks_in 3 3 w body src (cell24 bgr src) (omega arith) (omega arith) size (length-cell24 bgr src) (cell24_is bgr src)))

-- ---- masks

-- as many bytes of the word as the depth says
mask_bytes : (layout : MaskLayout) (n : ℕ) (bgr : Bool) (src : List ℕ) (x : ℕ) → (layout.bpp ≡ 16) ⊎ (layout.bpp ≡ 32)
    → range (to_le_bytes 4 (original_word layout n bgr src x)) 0 (layout.bpp / 8) ≡ done (original_cell layout n bgr src x)
unfolding range to_le_bytes original_cell le16 le32
mask_bytes layout n bgr src x (inl e) = rw e
mask_bytes layout n bgr src x (inr e) = rw e

-- and as many has the cell
length_cell : (layout : MaskLayout) (n : ℕ) (bgr : Bool) (src : List ℕ) (x : ℕ) → (layout.bpp ≡ 16) ⊎ (layout.bpp ≡ 32) → length (original_cell layout n bgr src x) ≡ layout.bpp / 8
unfolding original_cell le16 le32
length_cell layout n bgr src x (inl e) = rw e
length_cell layout n bgr src x (inr e) = rw e

either_le : (n a b c : ℕ) → (n ≡ a) ⊎ (n ≡ b) → a ≤ c → b ≤ c → n ≤ c
either_le n a b c (inl e) h k = omega arith
either_le n a b c (inr e) h k = omega arith

module _ (n : ℕ) (bgr : Bool) (layout : MaskLayout) (kind : (n ≡ 3) ⊎ (n ≡ 4)) (ok : LayoutOk layout) (w : ℕ) (src : List ℕ) (small : (k : ℕ) → get_or src k 0 < 256)
    (size : length src ≡ w * n) (narrow : w < 2 ^ 32) where
  short : length src < 2 ^ 64
  short = omega (arith, size, narrow, mul-le-mul_left w (either_le n 3 4 4 kind (omega arith) (omega arith)))

  -- sample k of pixel x
  sample_of : (x k : ℕ) → x < w → k < n → reference.sample src n x k ≡ done (get_or src (x * n + k) 0)
  unfolding reference.sample
  sample_of x k l b =
      let inside : x * n + k < length src = omega (arith, size, mul-le-mul_right n l, suc-mul x n) in
      rw (mul_is 64 x n (omega (arith, short)), add_is 64 (x * n) k (omega (arith, short)), at_is src (x * n + k) inside)

  colour_of : (x : ℕ) (b : Bool) (i j : ℕ) → x < w → i < 3 → j < 3 → reference.sample src n x (cond b i j) ≡ done (get_or src (x * n + cond b i j) 0)
  colour_of x true i j l p q = sample_of x i l (omega (arith, three_bytes n kind))
  colour_of x false i j l p q = sample_of x j l (omega (arith, three_bytes n kind))

  alpha_of : (x : ℕ) → x < w → cond (eqb n 4) (reference.sample src n x 3) (done 0xFF) ≡ done (alpha_in n src x)
  alpha_of x l = go kind
    where
      go : (n ≡ 3) ⊎ (n ≡ 4) → cond (eqb n 4) (reference.sample src n x 3) (done 0xFF) ≡ done (alpha_in n src x)
      go (inl e) = rw e
      go (inr e) = rw (eq-eqb n 4 e) (sample_of x 3 l (omega arith))

  alpha_small : (x : ℕ) → alpha_in n src x < 256
  alpha_small x = go (eqb n 4)
    where
      go : (b : Bool) → cond b (get_or src (x * n + 3) 0) 255 < 256
      go true = small (x * n + 3)
      go false = omega arith

  -- a turn copies the pixel's cell to its place
  mask_turn : (x : ℕ) (dst : List ℕ) → x < w
      → reference.mask_pixel (layout_of layout) src n (cond bgr 2 0) (cond bgr 0 2) x dst
      ≡ within dst (x * (layout.bpp / 8)) (x * (layout.bpp / 8) + layout.bpp / 8) (λ part. copy_from_slice part (original_cell layout n bgr src x))
  unfolding reference.mask_pixel original_word
  mask_turn x dst l =
      let m : ℕ = layout.bpp / 8 in
      let r : ℕ = red_in n bgr src x in
      let g : ℕ = green_in n src x in
      let b : ℕ = blue_in n bgr src x in
      let a : ℕ = alpha_in n src x in
      let m4 : m ≤ 4 = omega (arith, either_le layout.bpp 16 32 32 ok.depth (omega arith) (omega arith)) in
      let room : x * m + m < 2 ^ 64 = omega (arith, mul-le-mul_left x m4, narrow) in
      rw (
        colour_of x bgr 2 0 l (omega arith) (omega arith),
        sample_of x 1 l (omega (arith, three_bytes n kind)),
        colour_of x bgr 0 2 l (omega arith) (omega arith),
        alpha_of x l,
        field_is layout.r r 0 (small _) ok.red,
        or_zero_l (original_field layout.r r),
        field_is layout.g g (original_field layout.r r) (small _) ok.green,
        field_is layout.b b (bit_or (original_field layout.r r) (original_field layout.g g)) (small _) ok.blue,
        field_is layout.a a (bit_or (bit_or (original_field layout.r r) (original_field layout.g g)) (original_field layout.b b)) (alpha_small x) ok.alpha,
        mul_is 64 x m (omega arith),
        add_is 64 (x * m) m room,
      )
      (ap (λ (cell : Run (List ℕ)). cell >>= λ bytes. within dst (x * m) (x * m + m) (λ part. copy_from_slice part bytes)) (mask_bytes layout n bgr src x ok.depth))

  row_masks : reference.pack_layout (layout_of layout) src n bgr (zeros (row_stride w layout.bpp)) ≡ done (original_row (Masks n bgr layout) w src)
  unfolding reference.pack_layout original_row padded
  row_masks =
      let m : ℕ = layout.bpp / 8 in
      let cell : ℕ → List ℕ = original_cell layout n bgr src in
      let len : (x : ℕ) → length (cell x) ≡ m = λ x. length_cell layout n bgr src x ok.depth in
      let some : 0 < n = omega (arith, three_bytes n kind) in
      let cells : length src / n ≡ w = rw size (mul-div_cancel w some) in
      let all : length (cat cell w) ≡ w * m = length-cat cell m w (λ x _. len x) in
      let rest : w * m + (row_stride w layout.bpp - w * m) ≡ row_stride w layout.bpp = omega (arith, cells_fit w layout.bpp ok.depth) in
      rw (div_is (length src) n some, cells, all)
      (ap (λ (z : ℕ). for w (reference.mask_pixel (layout_of layout) src n (cond bgr 2 0) (cond bgr 0 2)) (zeros z)) (sym rest)
      ∙ cells_in m w (row_stride w layout.bpp - w * m) cell (λ x part. copy_from_slice part (cell x)) (reference.mask_pixel (layout_of layout) src n (cond bgr 2 0) (cond bgr 0 2))
      (λ x _. len x) mask_turn (λ x _. copy_is (zeros m) (cell x) (length_zeros m ∙ sym (len x))))

-- ---- a row, and all rows

-- one row
pub pack_row_is : (p : RowPack) → PackOk p → (w : ℕ) (src : List ℕ) → ((k : ℕ) → get_or src k 0 < 256) → length src ≡ w * pack_bytes p → w < 2 ^ 32
    → reference.pack_row (pack_of p) src (replicate (row_stride w (pack_bits p)) 0) ≡ done (original_row p w src)
unfolding reference.pack_row original_row stored_row
pack_row_is (Bgra32 bgr) ok w src small size narrow = row32 bgr w src size
pack_row_is (Bgr24 bgr) ok w src small size narrow = row24 bgr w src size narrow
pack_row_is Words16 ok w src small size narrow = copied_in src (row_stride w 16) (omega (arith, row_fits w 16))
pack_row_is (Indexed bpp) ok w src small size narrow = indices_is src (row_stride w bpp) bpp ok small (rw (size ∙ mul-one w) (row_fits w bpp))
pack_row_is (Masks n bgr layout) ok w src small size narrow = row_masks n bgr layout ok.0 ok.1 w src small size narrow

-- it has the stored row's length
length_row : (p : RowPack) → PackOk p → (w : ℕ) (src : List ℕ) → length src ≡ w * pack_bytes p → length (original_row p w src) ≡ row_stride w (pack_bits p)
unfolding original_row padded
length_row (Bgra32 bgr) ok w src size = length-stored_row (Bgra32 bgr) ok w src (omega arith)
length_row (Bgr24 bgr) ok w src size = length-stored_row (Bgr24 bgr) ok w src (omega arith)
length_row Words16 ok w src size = length-stored_row Words16 ok w src (omega arith)
length_row (Indexed bpp) ok w src size = length-stored_row (Indexed bpp) ok w src (omega arith)
length_row (Masks n bgr layout) ok w src size =
    simp (length-append, length-replicate, length-cat (original_cell layout n bgr src) (layout.bpp / 8) w (λ x _. length_cell layout n bgr src x ok.1.depth)) (omega (arith, cells_fit w layout.bpp ok.1.depth))

-- each row into its part
pub pack_all_is : (r : reference.Rows) (p : RowPack) → PackOk p → r.pack ≡ pack_of p → r.stride ≡ row_stride r.width (pack_bits p) → r.width < 2 ^ 32
    → r.stride * r.height < 2 ^ 64 → (src : ℕ → List ℕ) → ((y : ℕ) → y < r.height → reference.source_row r y ≡ done (src y))
    → ((y : ℕ) → y < r.height → length (src y) ≡ r.width * pack_bytes p) → ((y k : ℕ) → get_or (src y) k 0 < 256)
    → reference.pack_all r (replicate (r.stride * r.height) 0) ≡ done (cat (λ y. original_row p r.width (src y)) r.height)
unfolding reference.pack_all reference.pack_one
pack_all_is r p ok same stride narrow whole src source size small =
    let s : ℕ = r.stride in
    let h : ℕ = r.height in
    let row : ℕ → List ℕ = λ y. original_row p r.width (src y) in
    let total : s * h ≡ h * s + 0 = omega (arith, mul_comm s h) in
    ap (λ (n : ℕ). reference.pack_all r (zeros n)) total
    ∙ cells_in s h 0 row (reference.pack_one r) (λ y dst. mul usize y s >>= λ start. add usize start s >>= λ end. within dst start end (reference.pack_one r y))
    (λ y l. length_row p ok r.width (src y) (size y l) ∙ sym stride)
    (λ y dst l.
    let b : y * s + s ≤ h * s = omega (arith, mul-le-mul_right s l, suc-mul y s) in
    rw (mul_is 64 y s (omega arith), add_is 64 (y * s) s (omega arith)))
    (λ y l. rw (source y l, same, stride) (pack_row_is p ok r.width (src y) (small y) (size y l) narrow))
    ∙ ap done (append-nil (cat row h))
