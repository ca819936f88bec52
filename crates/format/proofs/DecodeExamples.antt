-- Worked examples of the reader, computed.
use mathlib.Core.Path.{◌≡◌, refl}
use mathlib.Core.List.{List, [], ◌∷◌, map}
use Prim.Native.Nat.{ℕ}
use lib.ListN.{replicate}
use Rattle.leaves.specs.Lists.{tab}
use Rattle.format.specs.Decode.{Decoded, filled, refused, cell_at, pair_cell, data_read, read_code, fill_row, read_row_end, rows_below, decode}
use Rattle.format.specs.Shown.{short, bad_code, past_row_end}

-- bytes that a reader takes at a depth, in a picture of rows of `width` cells of which `top` are below the top row, and what it makes of them
pub record Reading : Type 0 where
  pub depth : ℕ
  pub width : ℕ
  pub top : ℕ
  pub bytes : List ℕ
  pub result : Decoded

abbrev pub rows : ℕ → ℕ → ℕ → List ℕ → Decoded → Reading
rows depth width top bytes result = record { depth = depth; width = width; top = top; bytes = bytes; result = result }

-- one row
abbrev pub reading : ℕ → ℕ → List ℕ → Decoded → Reading
reading depth width = rows depth width 0

-- Microsoft's examples: pairs and absolute blocks of RLE8 and of RLE4, and a delta, which document 01's readers refuse
abbrev pub readings : List Reading
readings =
    reading 8 3 (0x03 ∷ 0x04 ∷ []) (filled (0x04 ∷ 0x04 ∷ 0x04 ∷ []) 2)
    ∷ reading 8 5 (0x05 ∷ 0x06 ∷ []) (filled (replicate 5 0x06) 2)
    ∷ reading 8 3 (0x00 ∷ 0x03 ∷ 0x45 ∷ 0x56 ∷ 0x67 ∷ 0x00 ∷ []) (filled (0x45 ∷ 0x56 ∷ 0x67 ∷ []) 6)
    ∷ reading 8 2 (0x02 ∷ 0x78 ∷ []) (filled (0x78 ∷ 0x78 ∷ []) 2)
    ∷ reading 8 9 (0x09 ∷ 0x1E ∷ []) (filled (replicate 9 0x1E) 2)
    ∷ reading 4 3 (0x03 ∷ 0x04 ∷ []) (filled (0x0 ∷ 0x4 ∷ 0x0 ∷ []) 2)
    ∷ reading 4 5 (0x05 ∷ 0x06 ∷ []) (filled (0x0 ∷ 0x6 ∷ 0x0 ∷ 0x6 ∷ 0x0 ∷ []) 2)
    ∷ reading 4 6 (0x00 ∷ 0x06 ∷ 0x45 ∷ 0x56 ∷ 0x67 ∷ 0x00 ∷ []) (filled (0x4 ∷ 0x5 ∷ 0x5 ∷ 0x6 ∷ 0x6 ∷ 0x7 ∷ []) 6)
    ∷ reading 4 4 (0x04 ∷ 0x78 ∷ []) (filled (0x7 ∷ 0x8 ∷ 0x7 ∷ 0x8 ∷ []) 2)
    ∷ reading 4 9 (0x09 ∷ 0x1E ∷ []) (filled (0x1 ∷ 0xE ∷ 0x1 ∷ 0xE ∷ 0x1 ∷ 0xE ∷ 0x1 ∷ 0xE ∷ 0x1 ∷ []) 2)
    ∷ reading 8 5 (0x00 ∷ 0x02 ∷ 0x05 ∷ 0x01 ∷ []) (refused bad_code)
    -- document 01's sentences on rows: two rows; the padding between them, and none behind the top row
    ∷ rows 8 2 1 (0x02 ∷ 0x07 ∷ 0x00 ∷ 0x00 ∷ 0x02 ∷ 0x09 ∷ []) (filled (7 ∷ 7 ∷ 9 ∷ 9 ∷ []) 6)
    ∷ rows 8 3 1 (0x00 ∷ 0x03 ∷ 0x01 ∷ 0x02 ∷ 0x03 ∷ 0x00 ∷ 0x00 ∷ 0x00 ∷ 0x00 ∷ 0x03 ∷ 0x04 ∷ 0x05 ∷ 0x06 ∷ []) (filled (1 ∷ 2 ∷ 3 ∷ 4 ∷ 5 ∷ 6 ∷ []) 14)
    -- 00 00 in a row that is not full, 00 01 between two rows, a pair behind a full row, a pair and a block over a row's end, and bytes that are missing
    ∷ rows 8 2 1 (0x01 ∷ 0x07 ∷ 0x00 ∷ 0x00 ∷ 0x02 ∷ 0x09 ∷ []) (refused bad_code)
    ∷ rows 8 2 1 (0x02 ∷ 0x07 ∷ 0x00 ∷ 0x01 ∷ 0x02 ∷ 0x09 ∷ []) (refused bad_code)
    ∷ rows 8 2 1 (0x02 ∷ 0x07 ∷ 0x02 ∷ 0x09 ∷ []) (refused past_row_end)
    ∷ rows 8 2 1 (0x03 ∷ 0x07 ∷ 0x00 ∷ 0x00 ∷ 0x02 ∷ 0x09 ∷ []) (refused past_row_end)
    ∷ rows 8 2 0 (0x00 ∷ 0x03 ∷ 0x45 ∷ 0x56 ∷ 0x67 ∷ 0x00 ∷ []) (refused past_row_end)
    ∷ rows 8 2 0 (0x01 ∷ 0x07 ∷ []) (refused short)
    ∷ rows 8 2 1 (0x02 ∷ 0x07 ∷ 0x00 ∷ []) (refused short)
    ∷ rows 8 3 0 (0x00 ∷ 0x03 ∷ 0x01 ∷ 0x02 ∷ []) (refused short)
    ∷ []

-- each is read so
pub readings_hold : map (λ (e : Reading). decode e.depth e.width e.bytes e.top) readings ≡ map (λ (e : Reading). e.result) readings
unfolding decode rows_below read_row_end fill_row read_code pair_cell cell_at data_read tab
readings_hold = refl
