-- Stored rows: "stored row" is document 01's term for a row as the file holds it, padding included. A source row is the bytes of its w pixels.
use Rattle.std.specs.Prelude.{◌≡◌, ℕ, ◌+◌, ◌-◌, ◌*◌, ◌%◌, ◌^◌, ◌≤◌, Bool, true, false, cond, ◌⊎◌, List, [], ◌∷◌, ◌++◌, length, take, drop, replicate, ◌==◌, bit_or, slice_index}
use Rattle.leaves.specs.declared.bitfields.MaskShiftLen.{MaskShiftLen}
use Rattle.rows.specs.declared.masks.MaskLayout.{MaskLayout}
use Rattle.rows.specs.declared.pack.RowPack.{RowPack}
use Rattle.rows.specs.declared.pack.RowPack.TheVariants.{Bgra32, Bgr24, Words16, Indexed, Masks}
use Rattle.leaves.specs.Bytes.{le16, le32}
use Rattle.leaves.specs.Fit.{fit}
use Rattle.leaves.specs.Lists.{cat, tab}
use Rattle.leaves.specs.Sizes.{row_stride, has_table}
use Rattle.rows.specs.Packing.{packed}

-- document 01, The plan: "padding zero": bytes up to the length n, with zeros after them
unfoldable pub padded : ℕ → List ℕ → List ℕ
padded n bytes = bytes ++ replicate (n - length bytes) 0

-- the samples of pixel x of n bytes: red first, or blue first (document 01, Cells: "Bgra and Bgr24 sources come in that order, Rgba and Rgb24 red first")
abbrev pub red_in : ℕ → Bool → List ℕ → ℕ → ℕ
red_in n bgr row x = slice_index row (x * n + cond bgr 2 0)

abbrev pub green_in : ℕ → List ℕ → ℕ → ℕ
green_in n row x = slice_index row (x * n + 1)

abbrev pub blue_in : ℕ → Bool → List ℕ → ℕ → ℕ
blue_in n bgr row x = slice_index row (x * n + cond bgr 0 2)

-- document 01, Cells: "A missing alpha sample is 255"
abbrev pub alpha_in : ℕ → List ℕ → ℕ → ℕ
alpha_in n row x = cond (n == 4) (slice_index row (x * n + 3)) 255

-- document 01, Cells: "24- and 32-bit cells are stored blue, green, red, and at 32 bits alpha"
unfoldable pub cell24 : Bool → List ℕ → ℕ → List ℕ
cell24 bgr row x = blue_in 3 bgr row x ∷ green_in 3 row x ∷ red_in 3 bgr row x ∷ []

-- byte k of the 24-bit cells of a row with red first, joined: red and blue stand two bytes apart
unfoldable pub exchanged_byte : List ℕ → ℕ → ℕ
exchanged_byte row k = cond (k % 3 == 0) (slice_index row (k + 2)) (cond (k % 3 == 1) (slice_index row k) (slice_index row (k - 2)))

unfoldable pub cell32 : Bool → List ℕ → ℕ → List ℕ
cell32 bgr row x = blue_in 4 bgr row x ∷ green_in 4 row x ∷ red_in 4 bgr row x ∷ alpha_in 4 row x ∷ []

-- a sample fitted to its channel and moved to its place in the word
unfoldable pub field : MaskShiftLen → ℕ → ℕ
field channel sample = fit channel.len sample * 2 ^ channel.shift

-- what the packer of masks keeps beside the rows; no file is defined by it. The channel of a pixel's byte 0, 1, 2 or 3: red, green, blue, alpha, with red and blue exchanged where blue comes first
unfoldable pub channel_at : MaskLayout → Bool → ℕ → MaskShiftLen
channel_at layout bgr c =
    cond (c == 0) (cond bgr layout.b layout.r) (cond (c == 1) layout.g (cond (c == 2) (cond bgr layout.r layout.b) layout.a))

-- the fields of all 256 samples of each byte
unfoldable pub fields_of : MaskLayout → Bool → List ℕ
fields_of layout bgr = cat (λ c. tab (field (channel_at layout bgr c)) 256) 4

-- the word of a pixel in mask mode
unfoldable pub mask_word : MaskLayout → ℕ → Bool → List ℕ → ℕ → ℕ
mask_word layout n bgr row x =
    bit_or
    (bit_or (bit_or (field layout.r (red_in n bgr row x)) (field layout.g (green_in n row x))) (field layout.b (blue_in n bgr row x)))
    (field layout.a (alpha_in n row x))

unfoldable pub mask_cell : MaskLayout → ℕ → Bool → List ℕ → ℕ → List ℕ
mask_cell layout n bgr row x = cond (layout.bpp == 16) (le16 (mask_word layout n bgr row x)) (le32 (mask_word layout n bgr row x))

-- the stored row of w pixels
unfoldable pub stored_row : RowPack → ℕ → List ℕ → List ℕ
stored_row (Bgra32 bgr) w row = padded (row_stride w 32) (cat (cell32 bgr row) w)
stored_row (Bgr24 bgr) w row = padded (row_stride w 24) (cat (cell24 bgr row) w)
stored_row Words16 w row = padded (row_stride w 16) row
stored_row (Indexed bpp) w row = packed bpp row (row_stride w bpp)
stored_row (Masks n bgr layout) w row = padded (row_stride w layout.bpp) (cat (mask_cell layout n bgr row) w)

-- a pixel's bits in the file, and its bytes in the source
abbrev pub pack_bits : RowPack → ℕ
pack_bits (Bgra32 bgr) = 32
pack_bits (Bgr24 bgr) = 24
pack_bits Words16 = 16
pack_bits (Indexed bpp) = bpp
pack_bits (Masks n bgr layout) = layout.bpp

abbrev pub pack_bytes : RowPack → ℕ
pack_bytes (Bgra32 bgr) = 4
pack_bytes (Bgr24 bgr) = 3
pack_bytes Words16 = 2
pack_bytes (Indexed bpp) = 1
pack_bytes (Masks n bgr layout) = n

-- the layouts that the planner makes: channels within the word, which has 16 or 32 bits
pub record LayoutOk (layout : MaskLayout) : Type 0 where
  pub depth : (layout.bpp ≡ 16) ⊎ (layout.bpp ≡ 32)
  pub red : layout.r.shift + layout.r.len ≤ 32
  pub green : layout.g.shift + layout.g.len ≤ 32
  pub blue : layout.b.shift + layout.b.len ≤ 32
  pub alpha : layout.a.shift + layout.a.len ≤ 32

-- those of them whose channels have at most 8 bits each
pub record ShortOk (layout : MaskLayout) : Type 0 where
  pub red : layout.r.len ≤ 8
  pub green : layout.g.len ≤ 8
  pub blue : layout.b.len ≤ 8
  pub alpha : layout.a.len ≤ 8

abbrev pub PackOk : RowPack → Type 0
PackOk (Bgra32 bgr) = Unit {0}
PackOk (Bgr24 bgr) = Unit {0}
PackOk Words16 = Unit {0}
PackOk (Indexed bpp) = has_table bpp ≡ true
PackOk (Masks n bgr layout) = ((n ≡ 3) ⊎ (n ≡ 4)) × LayoutOk layout

-- what a packer reads beside the source: in mask mode the fields of all samples
abbrev pub FieldsOk : RowPack → List ℕ → Type 0
FieldsOk (Bgra32 bgr) fields = Unit {0}
FieldsOk (Bgr24 bgr) fields = Unit {0}
FieldsOk Words16 fields = Unit {0}
FieldsOk (Indexed bpp) fields = Unit {0}
FieldsOk (Masks n bgr layout) fields = fields ≡ fields_of layout bgr

-- whether a packer fits samples to masks
abbrev pub in_mask_mode : RowPack → Bool
in_mask_mode (Bgra32 bgr) = false
in_mask_mode (Bgr24 bgr) = false
in_mask_mode Words16 = false
in_mask_mode (Indexed bpp) = false
in_mask_mode (Masks n bgr layout) = true

-- whether a packer stores a source row as it is, with padding after it
abbrev pub is_copied : RowPack → Bool
is_copied (Bgra32 bgr) = bgr
is_copied (Bgr24 bgr) = bgr
is_copied Words16 = true
is_copied (Indexed bpp) = bpp == 8
is_copied (Masks n bgr layout) = false

-- document 01, The plan: "Rows are stored bottom first unless top-down": the stored row s is this row of the picture, counted from the top
abbrev pub row_of : Bool → ℕ → ℕ → ℕ
row_of true height s = s
row_of false height s = height - 1 - s

-- row y of the plane: document 01, Cells: "Cell x of row y handed in .. is the source bytes at y × stride + x × source bytes"
abbrev pub source_row : List ℕ → ℕ → ℕ → ℕ → List ℕ
source_row plane stride bytes y = take bytes (drop (y * stride) plane)

-- all stored rows, in stored order
unfoldable pub stored_rows : RowPack → ℕ → ℕ → Bool → List ℕ → ℕ → List ℕ
stored_rows pack w h is_top_down plane stride = cat (λ s. stored_row pack w (source_row plane stride (w * pack_bytes pack) (row_of is_top_down h s))) h
