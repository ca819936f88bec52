-- What a reader finds in a stored row without masks is what must be shown (document 01, Cells), cell by cell.
use mathlib.Core.Path.{◌≡◌, refl, sym, ap}
use mathlib.Core.Bool.{Bool, true, false, cond, false≢true}
use mathlib.Core.List.{List, ◌++◌}
use Prim.Native.Nat.{ℕ, ◌+◌, ◌-◌, ◌*◌, ◌/◌, ◌%◌, ◌^◌, ◌≤◌, ◌<◌}
use native.Mathlib.Nat.{suc-mul, mul-le-mul_right, div-one, add-zero, pos_of_ne-zero}
use native.Mathlib.Omega.{arith}
use borrow.Author.Tests.{eqb-true, eqb-false}
use lib.Bits.{and_high}
use lib.Count.{count_trailing_zeros}
use lib.Dec.{leb, eqb}
use lib.ListN.{length, get_or}
use lib.Pow.{shl-shr}
use Rattle.leaves.specs.declared.image.BmpPixelFormat.{BmpPixelFormat}
use Rattle.leaves.specs.declared.image.BmpPixelFormat.TheVariants.{Rgba, Rgb24, Bgra, Bgr24, Rgb555, Rgb565, Pal8, Indexed4, Indexed2, Indexed1}
use Rattle.rows.specs.declared.pack.RowPack.TheVariants.{Words16, Indexed}
use Rattle.format.specs.Layout.{plain_pack}
use Rattle.leaves.specs.Formats.{bytes_per_pixel, bits_per_pixel, is_rgb565}
use Rattle.leaves.specs.Lists.{cat}
use Rattle.leaves.specs.Sizes.{row_stride, has_table}
use Rattle.rows.specs.Packing.{packed}
use Rattle.rows.specs.StoredRows.{padded, cell24, cell32, stored_row}
use Rattle.format.specs.Expectation.{pixel_bytes, word565, plainly_shown}
use Rattle.format.specs.Readers.{word_at, dword_at, row_length, cell_word, five, rgb_cell, channel, mask_cell}
use Rattle.format.specs.Shown.{index, rgb}
use Rattle.leaves.proofs.ListLaws.{length-tab}
use Rattle.rows.proofs.PackLaws.{depth}
use Rattle.format.proofs.Unpacking.{packed-at, cell_at-append}
use Rattle.format.proofs.SourceRows.{padded-at, cells_at}

-- ---- the row's length

-- whole groups of 32 bits, counted by a quotient and a remainder or by a quotient rounded up
groups : (n : ℕ) (b : Bool) → eqb (n % 32) 0 ≡ b → (n / 32 + cond b 0 1) * 4 ≡ (n + 31) / 32 * 4
groups n true e = omega (arith, eqb-true (n % 32) 0 e)
groups n false e = omega (arith, pos_of_ne-zero (eqb-false (n % 32) 0 e))

-- the reader's and the writer's row length agree
pub length_row : (d w : ℕ) → row_length w d ≡ row_stride w d
unfolding row_length row_stride
length_row d w = groups (w * d) (eqb (w * d % 32) 0) refl

-- ---- cells of 24 and 32 bits

-- the first three bytes of a cell of k bytes, as blue, green, red
deep_cell : (cell : ℕ → List ℕ) (d k n w : ℕ) (rest : List ℕ) (x : ℕ) → d ≡ k * 8 → 3 ≤ k → ((j : ℕ) → length (cell j) ≡ k) → leb d 8 ≡ false
    → eqb d 16 ≡ false → x < w
    → rgb_cell d (padded n (cat cell w) ++ rest) x ≡ rgb (get_or (cell x) 2 0) (get_or (cell x) 1 0) (get_or (cell x) 0 0)
unfolding rgb_cell
deep_cell cell d k n w rest x e m size deep wide h =
    let p : x * d / 8 ≡ x * k = omega (arith, ap (λ (z : ℕ). x * z) e) in
    let first : get_or (padded n (cat cell w) ++ rest) (x * k) 0 ≡ get_or (cell x) 0 0 = rw (add-zero (x * k)) at (cells_at cell k n w rest x 0 size h (omega arith)) in
    rw (deep, wide, p, cells_at cell k n w rest x 2 size h (omega arith), cells_at cell k n w rest x 1 size h (omega arith), first)

-- ---- cells of 16 bits

-- the word of pixel x
word_cell : (n w : ℕ) (row rest : List ℕ) (x : ℕ) → length row ≡ w * 2 → x < w
    → cell_word 16 (padded n row ++ rest) x ≡ get_or row (x * 2 + 0) 0 + 256 * get_or row (x * 2 + 1) 0
unfolding cell_word word_at
word_cell n w row rest x e h =
    let p : x * 16 / 8 ≡ x * 2 + 0 = omega arith in
    let q : x * 16 / 8 + 1 ≡ x * 2 + 1 = omega arith in
    rw (q, p, padded-at n row rest (x * 2 + 0) (omega arith), padded-at n row rest (x * 2 + 1) (omega arith))

-- ---- indices

-- the row has the bits of cell x
index_room : (d w x : ℕ) → 0 < d → x < w → x * d < row_stride w d * 8
unfolding row_stride
index_room d w x some h = omega (arith, mul-le-mul_right d h, suc-mul x d)

-- index x, cut to the depth
index_cell : (d w : ℕ) (row rest : List ℕ) (x : ℕ) → has_table d ≡ true → leb d 8 ≡ true → x < w
    → rgb_cell d (stored_row (Indexed d) w row ++ rest) x ≡ index (get_or row (x * 1 + 0) 0 % 2 ^ d)
unfolding rgb_cell stored_row packed
index_cell d w row rest x t small h =
    let p : x * 1 + 0 ≡ x = omega arith in
    let size : length (packed d row (row_stride w d)) ≡ row_stride w d = length-tab _ (row_stride w d) in
    let room : x * d < row_stride w d * 8 = index_room d w x (depth d t).some h in
    rw (small, p, cell_at-append d (packed d row (row_stride w d)) rest x (omega arith), packed-at (depth d t) row (row_stride w d) x room)

-- ---- bits under a mask

-- the bits under a mask of j ones from bit k on, moved down
pub bits_under : (mask j k v : ℕ) → mask ≡ 2 ^ (j + k) - 2 ^ k → eqb mask 0 ≡ false → count_trailing_zeros 32 mask ≡ k → channel mask v ≡ v / 2 ^ k % 2 ^ j
unfolding channel
bits_under mask j k v e some low = rw (some, low, e, and_high v j k, shl-shr (v / 2 ^ k % 2 ^ j) k)

-- the three fields of a word of Rgb565
masked565 : (v : ℕ) → rgb (channel 0xF800 v) (channel 0x07E0 v) (channel 0x001F v) ≡ word565 v
unfolding count_trailing_zeros
masked565 v = rw (bits_under 0xF800 5 11 v refl refl refl, bits_under 0x07E0 6 5 v refl refl refl, bits_under 0x001F 5 0 v refl refl refl, div-one v)

-- ---- the cells of each source

-- a cell shown as the source says, but for Rgb565
pub plain_cell : (f : BmpPixelFormat) (w : ℕ) (row rest : List ℕ) (x : ℕ) → is_rgb565 f ≡ false
    → length row ≡ w * bytes_per_pixel f → x < w
    → rgb_cell (bits_per_pixel f) (stored_row (plain_pack f) w row ++ rest) x ≡ plainly_shown f (λ k. get_or row (x * pixel_bytes f + k) 0)
unfolding stored_row plainly_shown cell24 cell32 rgb_cell
plain_cell Rgba w row rest x p e h = deep_cell (cell32 false row) 32 4 (row_stride w 32) w rest x refl (omega arith) (λ j. refl) refl refl h
plain_cell Rgb24 w row rest x p e h = deep_cell (cell24 false row) 24 3 (row_stride w 24) w rest x refl (omega arith) (λ j. refl) refl refl h
plain_cell Bgra w row rest x p e h = deep_cell (cell32 true row) 32 4 (row_stride w 32) w rest x refl (omega arith) (λ j. refl) refl refl h
plain_cell Bgr24 w row rest x p e h = deep_cell (cell24 true row) 24 3 (row_stride w 24) w rest x refl (omega arith) (λ j. refl) refl refl h
plain_cell Rgb555 w row rest x p e h = ap five (word_cell (row_stride w 16) w row rest x e h)
plain_cell Rgb565 w row rest x p e h = absurd (false≢true (sym p))
plain_cell Pal8 w row rest x p e h = index_cell 8 w row rest x refl refl h
plain_cell Indexed4 w row rest x p e h = index_cell 4 w row rest x refl refl h
plain_cell Indexed2 w row rest x p e h = index_cell 2 w row rest x refl refl h
plain_cell Indexed1 w row rest x p e h = index_cell 1 w row rest x refl refl h

-- a cell of Rgb565, under the masks that its header holds
pub rgb565_cell : (file : List ℕ) (w : ℕ) (row rest : List ℕ) (x : ℕ) → dword_at file 54 ≡ 0xF800 → dword_at file 58 ≡ 0x07E0 → dword_at file 62 ≡ 0x001F
    → length row ≡ w * 2 → x < w
    → mask_cell file 3 (cell_word 16 (stored_row Words16 w row ++ rest) x) ≡ plainly_shown Rgb565 (λ k. get_or row (x * 2 + k) 0)
unfolding mask_cell plainly_shown stored_row
rgb565_cell file w row rest x red green blue e h =
    rw (word_cell (row_stride w 16) w row rest x e h, red, green, blue)
    (masked565 (get_or row (x * 2 + 0) 0 + 256 * get_or row (x * 2 + 1) 0))
