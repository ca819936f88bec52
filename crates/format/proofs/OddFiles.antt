-- Files that the writer never writes, through both readers, by computation. They pin what the readers do where no written file leads: each refusal
-- with its cause, and what is shown of a field that has a strange value.
use mathlib.Core.Path.{◌≡◌, refl}
use mathlib.Core.Bool.{Bool, true, false, cond}
use mathlib.Core.List.{List, [], ◌∷◌, ◌++◌, map}
use Prim.Native.Nat.{ℕ, ◌-◌}
use lib.Count.{count_trailing_zeros}
use lib.ListN.{replicate, take}
use Rattle.leaves.specs.Bytes.{le16, le32}
use Rattle.leaves.specs.Lists.{tab, cat}
use Rattle.format.specs.Decode.{cell_at, pair_cell, data_read, read_code, fill_row, read_row_end, rows_below, decode}
use Rattle.format.specs.Readers.{Reader, older, newer, Reading, shows, refuses, word_at, dword_at, fields_of, table_count, knows_depth, knows_compression, pairs, row_length, cell_word, rgb_cell, channel, mask_cell, plain_cell_of, palette_of, picture, streamed, head_needs, pixel_needs, body, read_fields, read}
use Rattle.format.specs.Shown.{Cell, index, rgb, rgba, unknown_depth, unknown_compression, pairing, short, bad_code, past_row_end}

-- a file, and what each reader makes of it
pub record OddFile : Type 0 where
  pub file : List ℕ
  pub older_reads : Reading
  pub newer_reads : Reading

abbrev pub apart : List ℕ → Reading → Reading → OddFile
apart file older_reads newer_reads = record { file = file; older_reads = older_reads; newer_reads = newer_reads }

abbrev pub both : List ℕ → Reading → OddFile
both file reading = apart file reading reading

-- width, height, palette, rows
abbrev pub shown : ℕ → ℕ → List Cell → List (List Cell) → Reading
shown width height palette rows = shows (record { width = width; height = height; palette = palette; rows = rows })

-- ---- heads

-- Pixel offset, header size, width, height, depth, compression and count of colours. The bytes that no reader looks at are 99: the mark, the file's size,
-- the reserved words, planes, image size, resolution and the colours that matter.
abbrev pub head : ℕ → ℕ → ℕ → ℕ → ℕ → ℕ → ℕ → List ℕ
head offset size width height depth compression colours =
    replicate 10 99 ++ le32 offset ++ le32 size ++ le32 width ++ le32 height ++ replicate 2 99 ++ le16 depth ++ le32 compression ++ replicate 12 99
    ++ le32 colours ++ replicate 4 99

-- the height field of rows that are stored top first
abbrev pub minus : ℕ → ℕ
minus height = 4294967296 - height

-- one cell of a depth and compression, with room for a table entry or four masks, which are 0
abbrev pub kind : ℕ → ℕ → List ℕ
kind depth compression = head 70 40 1 1 depth compression 1 ++ replicate 16 0 ++ (0xE4 ∷ 1 ∷ 2 ∷ 3 ∷ [])

-- 24-bit rows
abbrev pub rgb24 : ℕ → ℕ → List ℕ → List ℕ
rgb24 width height rows = head 54 40 width height 24 0 0 ++ rows

-- one 16-bit cell, all ones, under three masks
abbrev pub under : ℕ → ℕ → ℕ → List ℕ
under red green blue = head 66 40 1 1 16 3 0 ++ le32 red ++ le32 green ++ le32 blue ++ (0xFF ∷ 0xFF ∷ [])

-- one 32-bit cell, 04030201, under a byte's mask for each colour and this one for alpha
abbrev pub under_alpha : ℕ → List ℕ
under_alpha alpha = head 70 40 1 1 32 6 0 ++ le32 0xFF ++ le32 0xFF00 ++ le32 0xFF0000 ++ le32 alpha ++ (1 ∷ 2 ∷ 3 ∷ 4 ∷ [])

-- streams behind a table of one colour
abbrev pub rle8 : ℕ → ℕ → List ℕ → List ℕ
rle8 width height codes = head 58 40 width height 8 1 1 ++ (1 ∷ 2 ∷ 3 ∷ 4 ∷ []) ++ codes

abbrev pub rle4 : ℕ → ℕ → List ℕ → List ℕ
rle4 width height codes = head 58 40 width height 4 2 1 ++ (1 ∷ 2 ∷ 3 ∷ 4 ∷ []) ++ codes

abbrev pub colour : List Cell
colour = rgb 3 2 1 ∷ []

-- ---- the files

abbrev pub files : List OddFile
files =
    -- no byte; 53, where neither the height 0 nor an unknown depth is looked at, nor a header size of 12; 54
    both [] (refuses short)
    ∷ both (take 53 (head 54 40 1 0 24 0 0)) (refuses short)
    ∷ both (take 53 (head 54 40 1 0 3 7 0)) (refuses short)
    ∷ both (take 53 (head 54 12 1 0 24 0 0)) (refuses short)
    ∷ both (head 54 40 1 0 24 0 0) (shown 1 0 [] [])
    -- a header of 108 bytes without its last byte, and whole; one of 65,536 + 40
    ∷ both (head 122 108 1 0 24 0 0 ++ replicate 67 99) (refuses short)
    ∷ both (head 122 108 1 0 24 0 0 ++ replicate 68 99) (shown 1 0 [] [])
    -- a header of 124 bytes with the place and size of an embedded profile that the file ends before
    ∷ both (head 138 124 1 0 24 0 0 ++ replicate 16 99 ++ le32 0x4D424544 ++ replicate 52 99 ++ le32 124 ++ le32 100 ++ le32 0) (shown 1 0 [] [])
    ∷ both (head 54 65576 1 0 24 0 0) (refuses short)
    -- a header size of 12: the fields stand where they stand, the table from byte 26
    ∷ both (head 54 12 2 1 1 0 1 ++ (0x40 ∷ [])) (shown 2 1 (rgb 1 99 99 ∷ []) ((index 0 ∷ index 1 ∷ []) ∷ []))
    -- depths that neither knows, before the compression is looked at; depth 2
    ∷ both (kind 0 0) (refuses unknown_depth)
    ∷ both (kind 3 7) (refuses unknown_depth)
    ∷ both (kind 64 0) (refuses unknown_depth)
    ∷ both (kind 264 0) (refuses unknown_depth)
    ∷ apart (kind 2 0) (refuses unknown_depth) (shown 1 1 (rgb 0 0 0 ∷ []) ((index 3 ∷ []) ∷ []))
    -- compressions that neither knows
    ∷ both (kind 24 4) (refuses unknown_compression)
    ∷ both (kind 32 5) (refuses unknown_compression)
    ∷ both (kind 8 7) (refuses unknown_compression)
    ∷ both (kind 8 65537) (refuses unknown_compression)
    -- 1 off depth 8
    ∷ both (kind 1 1) (refuses pairing)
    ∷ both (kind 4 1) (refuses pairing)
    ∷ both (kind 24 1) (refuses pairing)
    ∷ apart (kind 2 1) (refuses unknown_depth) (refuses pairing)
    -- 2 off 4
    ∷ both (kind 8 2) (refuses pairing)
    ∷ both (kind 16 2) (refuses pairing)
    -- 3 or 6 off 16 and 32
    ∷ both (kind 1 3) (refuses pairing)
    ∷ both (kind 8 3) (refuses pairing)
    ∷ both (kind 24 3) (refuses pairing)
    ∷ apart (kind 4 6) (refuses unknown_compression) (refuses pairing)
    ∷ apart (kind 24 6) (refuses unknown_compression) (refuses pairing)
    -- a table that is missing too: depth and pairing come first
    ∷ both (head 54 40 1 1 3 0 0) (refuses unknown_depth)
    ∷ both (head 54 40 1 1 4 1 0) (refuses pairing)
    -- three masks without their last byte, and whole; four
    ∷ both (head 66 40 1 0 16 3 0 ++ replicate 11 99) (refuses short)
    ∷ both (head 66 40 1 0 16 3 0 ++ replicate 12 99) (shown 1 0 [] [])
    ∷ apart (head 70 40 1 0 16 6 0 ++ replicate 15 99) (refuses unknown_compression) (refuses short)
    ∷ apart (head 70 40 1 0 16 6 0 ++ replicate 16 99) (refuses unknown_compression) (shown 1 0 [] [])
    -- a table of one entry without its last byte, and whole; a count of 65,536 + 1; a count of 0 at depth 1; a count of 3 there
    ∷ both (head 58 40 1 0 8 0 1 ++ (1 ∷ 2 ∷ 3 ∷ [])) (refuses short)
    ∷ both (head 58 40 1 0 8 0 1 ++ (1 ∷ 2 ∷ 3 ∷ 4 ∷ [])) (shown 1 0 colour [])
    ∷ both (head 58 40 1 0 8 0 65537 ++ (1 ∷ 2 ∷ 3 ∷ 4 ∷ [])) (refuses short)
    ∷ both (head 62 40 1 0 1 0 0 ++ tab (λ k. k) 7) (refuses short)
    ∷ both (head 62 40 1 0 1 0 0 ++ tab (λ k. k) 8) (shown 1 0 (rgb 2 1 0 ∷ rgb 6 5 4 ∷ []) [])
    ∷ both (head 66 40 1 0 1 0 3 ++ tab (λ k. k) 11) (refuses short)
    ∷ both (head 66 40 1 0 1 0 3 ++ tab (λ k. k) 12) (shown 1 0 (rgb 2 1 0 ∷ rgb 6 5 4 ∷ rgb 10 9 8 ∷ []) [])
    -- the last cell without its last byte, and whole, with no padding behind it: of 24 bits, in the second row; of 32 bits; of 4 bits; of 1 bit
    ∷ both (rgb24 1 2 (1 ∷ 2 ∷ 3 ∷ 99 ∷ 4 ∷ 5 ∷ [])) (refuses short)
    ∷ both (rgb24 1 2 (1 ∷ 2 ∷ 3 ∷ 99 ∷ 4 ∷ 5 ∷ 6 ∷ [])) (shown 1 2 [] ((rgb 6 5 4 ∷ []) ∷ (rgb 3 2 1 ∷ []) ∷ []))
    ∷ both (head 54 40 1 1 32 0 0 ++ (1 ∷ 2 ∷ 3 ∷ [])) (refuses short)
    ∷ both (head 54 40 1 1 32 0 0 ++ (1 ∷ 2 ∷ 3 ∷ 4 ∷ [])) (shown 1 1 [] ((rgb 3 2 1 ∷ []) ∷ []))
    ∷ both (head 58 40 3 1 4 0 1 ++ (1 ∷ 2 ∷ 3 ∷ 4 ∷ 0x56 ∷ [])) (refuses short)
    ∷ both (head 58 40 3 1 4 0 1 ++ (1 ∷ 2 ∷ 3 ∷ 4 ∷ 0x56 ∷ 0x70 ∷ [])) (shown 3 1 colour ((index 5 ∷ index 6 ∷ index 7 ∷ []) ∷ []))
    ∷ both (head 58 40 9 1 1 0 1 ++ (1 ∷ 2 ∷ 3 ∷ 4 ∷ 0 ∷ [])) (refuses short)
    -- a negative height, beside a count of colours that means no table; an index past the table; an offset into the head
    ∷ both (head 54 40 1 (minus 2) 24 0 5 ++ (1 ∷ 2 ∷ 3 ∷ 99 ∷ 4 ∷ 5 ∷ 6 ∷ [])) (shown 1 2 [] ((rgb 3 2 1 ∷ []) ∷ (rgb 6 5 4 ∷ []) ∷ []))
    ∷ both (head 58 40 1 1 8 0 1 ++ (1 ∷ 2 ∷ 3 ∷ 4 ∷ 200 ∷ [])) (shown 1 1 colour ((index 200 ∷ []) ∷ []))
    ∷ both (head 17 40 1 1 24 0 0) (shown 1 1 [] ((rgb 0 1 0 ∷ []) ∷ []))
    -- no column and no row, with an offset past the end; a cell at 65,536 + 54; a width with the top bit set, with a row and with none
    ∷ both (head 1000 40 0 2 24 0 0) (shown 0 2 [] ([] ∷ [] ∷ []))
    ∷ both (head 1000 40 2 0 24 0 0) (shown 2 0 [] [])
    ∷ both (head 65590 40 1 1 24 0 0 ++ (1 ∷ 2 ∷ 3 ∷ [])) (refuses short)
    ∷ both (rgb24 2147483648 1 (1 ∷ 2 ∷ 3 ∷ [])) (refuses short)
    ∷ both (rgb24 2147483648 0 []) (shown 2147483648 0 [] [])
    -- masks that compression 0 ignores; masks with gaps, and none for blue; a mask above the depth, and two alike
    ∷ both (head 122 108 1 1 16 0 0 ++ le32 0xF800 ++ le32 0x07E0 ++ le32 0x001F ++ replicate 56 0 ++ (0x34 ∷ 0x12 ∷ [])) (shown 1 1 [] ((rgb 4 17 20 ∷ []) ∷ []))
    ∷ both (under 0x0005 0x00A0 0) (shown 1 1 [] ((rgb 5 5 0 ∷ []) ∷ []))
    ∷ both (under 0xFF0000 0x0F00 0x0F00) (shown 1 1 [] ((rgb 0 15 15 ∷ []) ∷ []))
    -- compression 6, and with a zero alpha mask
    ∷ apart (under_alpha 0xFF000000) (refuses unknown_compression) (shown 1 1 [] ((rgba 1 2 3 4 ∷ []) ∷ []))
    ∷ apart (under_alpha 0) (refuses unknown_compression) (shown 1 1 [] ((rgba 1 2 3 0 ∷ []) ∷ []))
    -- a stream of two rows; with bytes behind it; with a negative height
    ∷ both (rle8 2 2 (2 ∷ 7 ∷ 0 ∷ 0 ∷ 2 ∷ 9 ∷ [])) (shown 2 2 colour ((index 9 ∷ index 9 ∷ []) ∷ (index 7 ∷ index 7 ∷ []) ∷ []))
    ∷ both (rle8 2 2 (2 ∷ 7 ∷ 0 ∷ 0 ∷ 2 ∷ 9 ∷ 0 ∷ 2 ∷ 99 ∷ [])) (shown 2 2 colour ((index 9 ∷ index 9 ∷ []) ∷ (index 7 ∷ index 7 ∷ []) ∷ []))
    ∷ both (rle8 2 (minus 2) (2 ∷ 7 ∷ 0 ∷ 0 ∷ 2 ∷ 9 ∷ [])) (shown 2 2 colour ((index 9 ∷ index 9 ∷ []) ∷ (index 7 ∷ index 7 ∷ []) ∷ []))
    -- no row, no column, a width with the top bit set
    ∷ both (rle8 2 0 []) (shown 2 0 colour [])
    ∷ both (rle8 0 2 []) (shown 0 2 colour ([] ∷ [] ∷ []))
    ∷ both (rle8 2147483648 1 (2 ∷ 7 ∷ [])) (refuses short)
    -- 00 00 in a row that is not full, begun or not
    ∷ both (rle8 2 2 (1 ∷ 7 ∷ 0 ∷ 0 ∷ 2 ∷ 9 ∷ [])) (refuses bad_code)
    ∷ both (rle8 2 2 (0 ∷ 0 ∷ 2 ∷ 9 ∷ [])) (refuses bad_code)
    -- 00 01 between two rows, and in a row; a delta in both places
    ∷ both (rle8 2 2 (2 ∷ 7 ∷ 0 ∷ 1 ∷ 2 ∷ 9 ∷ [])) (refuses bad_code)
    ∷ both (rle8 2 1 (1 ∷ 7 ∷ 0 ∷ 1 ∷ [])) (refuses bad_code)
    ∷ both (rle8 2 2 (2 ∷ 7 ∷ 0 ∷ 2 ∷ 0 ∷ 1 ∷ 2 ∷ 9 ∷ [])) (refuses bad_code)
    ∷ both (rle8 2 1 (0 ∷ 2 ∷ 1 ∷ 0 ∷ 1 ∷ 7 ∷ [])) (refuses bad_code)
    -- over the row's end: a pair, one behind a full row, a block, one behind a full row, a block that lacks data too
    ∷ both (rle8 2 1 (3 ∷ 7 ∷ [])) (refuses past_row_end)
    ∷ both (rle8 2 2 (2 ∷ 7 ∷ 2 ∷ 9 ∷ [])) (refuses past_row_end)
    ∷ both (rle8 2 1 (0 ∷ 3 ∷ 5 ∷ 6 ∷ 7 ∷ 0 ∷ [])) (refuses past_row_end)
    ∷ both (rle8 2 2 (2 ∷ 7 ∷ 0 ∷ 3 ∷ 5 ∷ 6 ∷ 7 ∷ 0 ∷ [])) (refuses past_row_end)
    ∷ both (rle8 2 1 (0 ∷ 3 ∷ 5 ∷ [])) (refuses past_row_end)
    -- a stream that begins past the end, and one that ends early: at once, in a pair, in a row, behind a full row, in 00 00
    ∷ both (head 1000 40 2 2 8 1 1 ++ (1 ∷ 2 ∷ 3 ∷ 4 ∷ [])) (refuses short)
    ∷ both (rle8 2 2 []) (refuses short)
    ∷ both (rle8 2 2 (2 ∷ [])) (refuses short)
    ∷ both (rle8 2 2 (1 ∷ 7 ∷ [])) (refuses short)
    ∷ both (rle8 2 2 (2 ∷ 7 ∷ [])) (refuses short)
    ∷ both (rle8 2 2 (2 ∷ 7 ∷ 0 ∷ [])) (refuses short)
    -- a block without its last data byte; with all, and no pad byte behind the last one
    ∷ both (rle8 3 1 (0 ∷ 3 ∷ 5 ∷ 6 ∷ [])) (refuses short)
    ∷ both (rle8 3 1 (0 ∷ 3 ∷ 5 ∷ 6 ∷ 7 ∷ [])) (shown 3 1 colour ((index 5 ∷ index 6 ∷ index 7 ∷ []) ∷ []))
    ∷ both (rle4 5 1 (0 ∷ 5 ∷ 0x12 ∷ 0x34 ∷ [])) (refuses short)
    ∷ both (rle4 5 1 (0 ∷ 5 ∷ 0x12 ∷ 0x34 ∷ 0x50 ∷ [])) (shown 5 1 colour ((index 1 ∷ index 2 ∷ index 3 ∷ index 4 ∷ index 5 ∷ []) ∷ []))
    ∷ []

-- each is read so
pub files_hold : map (λ (e : OddFile). apart e.file (read older e.file) (read newer e.file)) files ≡ files
unfolding read read_fields fields_of word_at dword_at knows_depth knows_compression pairs head_needs table_count body pixel_needs row_length picture palette_of plain_cell_of rgb_cell mask_cell cell_word channel count_trailing_zeros streamed decode rows_below read_row_end fill_row read_code pair_cell cell_at data_read tab le16 le32
files_hold = refl

-- ---- depths and compressions

-- whether a reader takes the depth and the compression, and the two together
abbrev pub takes : Reading → Bool
takes (shows picture) = true
takes (refuses unknown_depth) = false
takes (refuses unknown_compression) = false
takes (refuses pairing) = false
takes (refuses short) = true
takes (refuses bad_code) = true
takes (refuses past_row_end) = true

-- the compressions up to 8, each with the depths up to 64 at which a reader takes it
unfoldable pub taken : Reader → List (ℕ × ℕ)
taken r = cat (λ c. cat (λ d. cond (takes (read r (kind d c))) ((c, d) ∷ []) []) 65) 9

-- "The older one knows depths 1, 4, 8, 16, 24, 32 and compressions 0 to 3"; "compression 1 off depth 8, 2 off 4, 3 or 6 off 16 and 32" is refused
abbrev pub older_takes : List (ℕ × ℕ)
older_takes = (0, 1) ∷ (0, 4) ∷ (0, 8) ∷ (0, 16) ∷ (0, 24) ∷ (0, 32) ∷ (1, 8) ∷ (2, 4) ∷ (3, 16) ∷ (3, 32) ∷ []

-- "also .. 2-bit cells and alpha masks"
abbrev pub newer_takes : List (ℕ × ℕ)
newer_takes = (0, 1) ∷ (0, 2) ∷ (0, 4) ∷ (0, 8) ∷ (0, 16) ∷ (0, 24) ∷ (0, 32) ∷ (1, 8) ∷ (2, 4) ∷ (3, 16) ∷ (3, 32) ∷ (6, 16) ∷ (6, 32) ∷ []

-- each takes these and no others
pub taken_hold : map taken (older ∷ newer ∷ []) ≡ (older_takes ∷ newer_takes ∷ [])
unfolding taken cat read read_fields fields_of word_at dword_at knows_depth knows_compression pairs head_needs table_count body pixel_needs row_length picture palette_of plain_cell_of rgb_cell mask_cell cell_word channel count_trailing_zeros streamed decode rows_below read_row_end fill_row read_code pair_cell cell_at data_read tab le16 le32
taken_hold = refl
