-- The file as the original writes it. The laws about the transcription end here; Bridge.antt goes on to the document's file. No promise names it.
use mathlib.Core.Bool.{Bool, cond}
use mathlib.Core.List.{List, ◌++◌}
use Prim.Native.Nat.{ℕ, ◌+◌, ◌-◌, ◌*◌, ◌/◌, ◌%◌, ◌^◌}
use lib.Bits.{bit_or}
use lib.Dec.{ltb, leb, eqb}
use lib.ListN.{length}
use Rattle.leaves.specs.declared.bitfields.MaskShiftLen.{MaskShiftLen}
use Rattle.leaves.specs.Bytes.{le16, le32}
use Rattle.leaves.specs.Formats.{bits_per_pixel}
use Rattle.leaves.specs.Lists.{cat}
use Rattle.leaves.specs.Sizes.{row_stride}
use Rattle.rows.specs.declared.masks.MaskLayout.{MaskLayout}
use Rattle.rows.specs.declared.pack.RowPack.{RowPack}
use Rattle.rows.specs.declared.pack.RowPack.TheVariants.{Bgra32, Bgr24, Words16, Indexed, Masks}
use Rattle.rows.specs.StoredRows.{padded, red_in, green_in, blue_in, alpha_in, stored_row, pack_bytes, row_of, source_row}
use Rattle.format.specs.File.{mode_in, pack_in, raw_bytes, head_bytes_of, tail_of, stream_of, stream_used, head_of, plain_size_of}
use Rattle.format.specs.Layout.{header_size_of, rows_compression}
use Rattle.format.specs.Input.{Input}

-- ---- stored rows

-- document 01's fitting of a sample of 8 bits to n bits
unfoldable pub original_fit : ℕ → ℕ → ℕ
original_fit n sample =
    cond (leb n 8) (sample / 2 ^ (8 - n))
    (cond (leb n 15) (sample * 2 ^ (n - 8) + sample / 2 ^ (8 - (n - 8))) (sample * 2 ^ (n - 8) + sample))

-- moved to its place, in 32 bits; a channel of no bits has nothing
unfoldable pub original_field : MaskShiftLen → ℕ → ℕ
original_field channel sample = cond (ltb 0 channel.len) (original_fit channel.len sample * 2 ^ channel.shift % 2 ^ 32) 0

unfoldable pub original_word : MaskLayout → ℕ → Bool → List ℕ → ℕ → ℕ
original_word layout n bgr row x =
    bit_or
    (bit_or (bit_or (original_field layout.r (red_in n bgr row x)) (original_field layout.g (green_in n row x))) (original_field layout.b (blue_in n bgr row x)))
    (original_field layout.a (alpha_in n row x))

unfoldable pub original_cell : MaskLayout → ℕ → Bool → List ℕ → ℕ → List ℕ
original_cell layout n bgr row x = cond (eqb layout.bpp 16) (le16 (original_word layout n bgr row x)) (le32 (original_word layout n bgr row x))

unfoldable pub original_row : RowPack → ℕ → List ℕ → List ℕ
original_row (Bgra32 bgr) w row = stored_row (Bgra32 bgr) w row
original_row (Bgr24 bgr) w row = stored_row (Bgr24 bgr) w row
original_row Words16 w row = stored_row Words16 w row
original_row (Indexed bpp) w row = stored_row (Indexed bpp) w row
original_row (Masks n bgr layout) w row = padded (row_stride w layout.bpp) (cat (original_cell layout n bgr row) w)

-- the bytes of the source row that the stored row y is made of
abbrev pub row_in : Input → ℕ → List ℕ
row_in i y = source_row i.plane i.source.stride (i.source.width * pack_bytes (pack_in i)) (row_of i.options.top_down i.source.height y)

unfoldable pub original_rows : Input → List ℕ
original_rows i = cat (λ y. original_row (pack_in i) i.source.width (row_in i y)) i.source.height

-- ---- head and file

-- image size 0 behind a 40-byte header and this count in the longer ones, and resolution 2835
abbrev pub original_head : Input → ℕ → ℕ → ℕ → List ℕ
original_head i compression pixel_bytes file_size_of = head_of i compression (cond (eqb (header_size_of (mode_in i) i.source.format) 40) 0 pixel_bytes) 2835 2835 file_size_of

unfoldable pub original_file : ℕ → Input → List ℕ
original_file limit i =
    cond (stream_used limit i)
    (original_head i (cond (eqb (bits_per_pixel i.source.format) 8) 1 2) (raw_bytes i) (head_bytes_of i + length (stream_of i)) ++ stream_of i)
    (original_head i (rows_compression i.source i.options) (raw_bytes i) (plain_size_of i) ++ original_rows i ++ tail_of i)
