-- The two readers (document 01, Cells: "Both readers of demand 3 .." and "Each is fed the appended bytes alone .."), with arithmetic of their own.
use Rattle.std.specs.Prelude.{ℕ, ◌+◌, ◌-◌, ◌*◌, ◌/◌, ◌%◌, ◌^◌, max, Bool, true, false, not, cond, ◌&&◌, ◌||◌, List, ltb, leb, eqb, length, get_or, drop}
use Rattle.std.specs.Int.Bits.{bit_and}
use Rattle.std.specs.Int.Count.{count_trailing_zeros}
use Rattle.leaves.specs.Lists.{tab}
use Rattle.format.specs.Decode.{Decoded, filled, refused, cell_at, decode}
use Rattle.format.specs.Shown.{Cell, index, rgb, rgba, Cause, unknown_depth, unknown_compression, pairing, short, Shown}

-- the older one "knows only the 40-byte header fields", the newer one "also the 108- and 124-byte headers, 2-bit cells and alpha masks"
pub data Reader : Type 0 where
  older newer : Reader

pub data Reading : Type 0 where
  shows : Shown → Reading
  refuses : Cause → Reading

-- ---- numbers, low byte first

unfoldable pub word_at : List ℕ → ℕ → ℕ
word_at file at = get_or file at 0 + 256 * get_or file (at + 1) 0

unfoldable pub dword_at : List ℕ → ℕ → ℕ
dword_at file at = word_at file at + 65536 * word_at file (at + 2)

-- ---- the fields that a reader uses

-- No other byte of the first 54 is looked at: "a depth or compression it doesn't know, compression 1 off depth 8, 2 off 4, 3 or 6 off 16 and 32, or a
-- needed byte past the end" are all refusals of a head, so no mark, header size, width, height or count of colours is refused for its value.
pub record Fields : Type 0 where
  -- bfOffBits
  pub offset : ℕ
  -- biSize; below 40 the fields stand where they stand, and the table begins among them
  pub header_size_of : ℕ
  -- biWidth, as its 32 bits: a LONG, but no width is refused, and only of the height is a sign spoken of, so one with the top bit set is a count too
  pub width : ℕ
  -- biHeight, as its 32 bits
  pub height : ℕ
  pub depth : ℕ
  pub compression : ℕ
  -- biClrUsed
  pub colours : ℕ

unfoldable pub fields_of : List ℕ → Fields
fields_of file =
    record {
      offset = dword_at file 10;
      header_size_of = dword_at file 14;
      width = dword_at file 18;
      height = dword_at file 22;
      depth = word_at file 28;
      compression = dword_at file 30;
      colours = dword_at file 46;
    }

-- "A negative height means top row first, its magnitude the height shown"
abbrev pub top_first : Fields → Bool
top_first t = leb 2147483648 t.height

abbrev pub shown_height : Fields → ℕ
shown_height t = cond (top_first t) (4294967296 - t.height) t.height

-- "at depths up to 8 a table count of 0 means 2^depth, and deeper files have no table"; a count over 2^depth is that many entries
unfoldable pub table_count : Fields → ℕ
table_count t = cond (leb t.depth 8) (cond (eqb t.colours 0) (2 ^ t.depth) t.colours) 0

-- ---- what each knows

abbrev pub is_newer : Reader → Bool
is_newer older = false
is_newer newer = true

-- "The older one knows depths 1, 4, 8, 16, 24, 32 and compressions 0 to 3"; the newer one also depth 2 and compression 6
unfoldable pub knows_depth : Reader → ℕ → Bool
knows_depth r d = eqb d 1 || eqb d 4 || eqb d 8 || eqb d 16 || eqb d 24 || eqb d 32 || (eqb d 2 && is_newer r)

unfoldable pub knows_compression : Reader → ℕ → Bool
knows_compression r c = leb c 3 || (eqb c 6 && is_newer r)

-- "compression 1 off depth 8, 2 off 4, 3 or 6 off 16 and 32"
unfoldable pub pairs : ℕ → ℕ → Bool
pairs c d = cond (eqb c 0) true (cond (eqb c 1) (eqb d 8) (cond (eqb c 2) (eqb d 4) (eqb d 16 || eqb d 32)))

-- ---- plain rows

-- "Plain rows are stored rows from the pixel offset on": ceil(width × depth / 32) × 4 bytes each
unfoldable pub row_length : ℕ → ℕ → ℕ
row_length w d = (w * d / 32 + cond (eqb (w * d % 32) 0) 0 1) * 4

-- the bytes from the stored row s on
abbrev pub row_from : List ℕ → Fields → ℕ → List ℕ
row_from file t s = drop (t.offset + s * row_length t.width t.depth) file

-- "cell x starts x × depth bits into its row": the word of a 16- or 32-bit cell
unfoldable pub cell_word : ℕ → List ℕ → ℕ → ℕ
cell_word d row x = cond (eqb d 16) (word_at row (x * d / 8)) (dword_at row (x * d / 8))

-- "at 16 red, green, blue from bits 10, 5, 0, five each"
abbrev pub five : ℕ → Cell
five v = rgb (v / 2 ^ 10 % 2 ^ 5) (v / 2 ^ 5 % 2 ^ 5) (v % 2 ^ 5)

-- "Compression 0 shows an index up to depth 8, at 16 .., deeper the cell's first three bytes as blue, green, red"
unfoldable pub rgb_cell : ℕ → List ℕ → ℕ → Cell
rgb_cell d row x =
    cond (leb d 8) (index (cell_at d row x))
    (cond (eqb d 16) (five (cell_word 16 row x)) (rgb (get_or row (x * d / 8 + 2) 0) (get_or row (x * d / 8 + 1) 0) (get_or row (x * d / 8) 0)))

-- "a channel is the bits under its mask, moved down to bit 0, or 0 for a zero mask": by the place of the mask's lowest one, with a gap kept as it is
unfoldable pub channel : ℕ → ℕ → ℕ
channel mask v = cond (eqb mask 0) 0 (bit_and v mask / 2 ^ count_trailing_zeros 32 mask)

-- "colour masks from bytes 54 to 65"; "for 6 the newer one shows alpha too, its mask at bytes 66 to 69", so with a zero mask there alpha is shown as 0
unfoldable pub mask_cell : List ℕ → ℕ → ℕ → Cell
mask_cell file c v =
    cond (eqb c 6)
    (rgba (channel (dword_at file 54) v) (channel (dword_at file 58) v) (channel (dword_at file 62) v) (channel (dword_at file 66) v))
    (rgb (channel (dword_at file 54) v) (channel (dword_at file 58) v) (channel (dword_at file 62) v))

unfoldable pub plain_cell_of : List ℕ → Fields → ℕ → ℕ → Cell
plain_cell_of file t s x =
    cond (eqb t.compression 0) (rgb_cell t.depth (row_from file t s) x)
    (mask_cell file t.compression (cell_word t.depth (row_from file t s) x))

-- ---- what is shown

-- the plain row that is shown as row y
abbrev pub stored_at : Fields → ℕ → ℕ
stored_at t y = cond (top_first t) y (shown_height t - 1 - y)

-- "the table from byte 14 + header size": blue, green, red, 0
unfoldable pub palette_of : List ℕ → Fields → List Cell
palette_of file t =
    tab (λ k. rgb (get_or file (14 + t.header_size_of + k * 4 + 2) 0) (get_or file (14 + t.header_size_of + k * 4 + 1) 0) (get_or file (14 + t.header_size_of + k * 4) 0)) (table_count t)

-- the size, the palette and every cell, which is given by its shown row and its column
unfoldable pub picture : List ℕ → Fields → (ℕ → ℕ → Cell) → Reading
picture file t cell =
    shows (record {
      width = t.width;
      height = shown_height t;
      palette = palette_of file t;
      rows = tab (λ y. tab (λ x. cell y x) t.width) (shown_height t);
    })

-- "at column 0 of the bottom row": a stream fills the rows bottom first, whatever the height's sign
unfoldable pub streamed : List ℕ → Fields → Decoded → Reading
streamed file t (filled cells taken) = picture file t (λ y x. index (get_or cells ((shown_height t - 1 - y) * t.width + x) 0))
streamed file t (refused cause) = refuses cause

-- the bytes of header, masks and table that are needed: as many as the header's own size says, though its later fields are not used, and the first 54
unfoldable pub head_needs : Fields → ℕ
head_needs t = max (14 + t.header_size_of + table_count t * 4) (cond (eqb t.compression 6) 70 (cond (eqb t.compression 3) 66 54))

-- the plain rows before the last one whole, and the bytes of the last one that hold cells: a 32-bit cell's fourth byte is one of them, padding is not
unfoldable pub pixel_needs : Fields → ℕ
pixel_needs t = t.offset + (shown_height t - 1) * row_length t.width t.depth + (t.width * t.depth + 7) / 8

-- "Nothing past the top row's last cell is read": of a picture without a cell, by its width or its height, no row and no code is needed, wherever the
-- pixel offset points
abbrev pub no_cell_of : Fields → Bool
no_cell_of t = eqb t.width 0 || eqb (shown_height t) 0

-- rows or stream, where there is a cell to show
unfoldable pub body : List ℕ → Fields → Reading
body file t =
    cond (no_cell_of t) (picture file t (λ y x. index 0))
    (cond (eqb t.compression 1 || eqb t.compression 2)
    (streamed file t (decode t.depth t.width (drop t.offset file) (shown_height t - 1)))
    (cond (ltb (length file) (pixel_needs t)) (refuses short) (picture file t (λ y x. plain_cell_of file t (stored_at t y) x))))

-- "It refuses, naming the cause and showing nothing"
unfoldable pub read_fields : Reader → List ℕ → Fields → Reading
read_fields r file t =
    cond (not (knows_depth r t.depth)) (refuses unknown_depth)
    (cond (not (knows_compression r t.compression)) (refuses unknown_compression)
    (cond (not (pairs t.compression t.depth)) (refuses pairing)
    (cond (ltb (length file) (head_needs t)) (refuses short) (body file t))))

-- What a reader makes of the bytes. The causes are tried in this order: the first 54 bytes, depth, compression, pairing, the rest of the head, then the
-- pixels, in the order in which they are read.
unfoldable pub read : Reader → List ℕ → Reading
read r file = cond (ltb (length file) 54) (refuses short) (read_fields r file (fields_of file))
