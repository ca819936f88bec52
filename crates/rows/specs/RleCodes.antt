-- The row coder (document 01, Cells: "From each place the row coder takes the longest run .."), at depth d: 8 for RLE8 and 4 for RLE4.
use Rattle.std.specs.Prelude.{ℕ, zero, suc, ◌+◌, ◌-◌, ◌*◌, ◌/◌, ◌%◌, ◌^◌, Bool, true, false, cond, not, List, [], ◌∷◌, ◌++◌, map, take, drop, ◌==◌, nat_lt, slice_index}
use Rattle.rows.specs.declared.rle.Rle.{Rle}
use Rattle.rows.specs.declared.rle.Rle.TheVariants.{Rle8, Rle4}
use Rattle.rows.specs.declared.blocks.Block.{Block}
use Rattle.rows.specs.declared.blocks.Block.TheVariants.{Pair, Absolute}
use Rattle.rows.specs.Packing.{packed_byte_of, packed}

-- Rle4 and not Rle8
abbrev pub is_rle4 : Rle → Bool
is_rle4 Rle8 = false
is_rle4 Rle4 = true

-- the depth of RLE4 and of RLE8
abbrev pub depth_of : Bool → ℕ
depth_of true = 4
depth_of false = 8

-- "Indices are cut to the depth", before they are compared
unfoldable pub cells : ℕ → List ℕ → List ℕ
cells d row = map (λ x. x % 2 ^ d) row

-- ---- what is taken from a place

-- the count that a scan stops with, which has counted n so far: it goes on while there is a cell, n is below 255 and `on` says so of the cell and those after it
unfoldable pub scan : (ℕ → List ℕ → Bool) → ℕ → List ℕ → ℕ
scan on n [] = n
scan on n (x ∷ xs) = cond (nat_lt n 255) (cond (on x xs) (scan on (n + 1) xs) n) n

-- a run of v goes on
abbrev pub same : ℕ → ℕ → List ℕ → Bool
same v x xs = x == v

-- the next cell is x too
abbrev pub twin : ℕ → List ℕ → Bool
twin x [] = false
twin x (y ∷ ys) = x == y

-- gathering goes on: "until the next two are equal, the row ends or 255 are gathered"
abbrev pub lone : ℕ → List ℕ → Bool
lone x xs = not (twin x xs)

-- "the longest run of equal indices, at most 255", and how many are gathered, from x on with xs after it
abbrev pub run_length : ℕ → List ℕ → ℕ
run_length x xs = scan (same x) 1 xs

abbrev pub gather_length : List ℕ → ℕ
gather_length xs = scan lone 1 xs

-- "Two or more give a pair. Otherwise .. three or more give an absolute block ..; fewer give a pair of count 1", whose second index is the next one, or 0
abbrev pub choose : ℕ → ℕ → ℕ → List ℕ → Block
choose run gathered x xs = cond (nat_lt 1 run) (Pair run x x) (cond (nat_lt 2 gathered) (Absolute gathered) (Pair 1 x (slice_index xs 0)))

abbrev pub block : ℕ → List ℕ → Block
block x xs = choose (run_length x xs) (gather_length xs) x xs

abbrev pub block_at : List ℕ → ℕ → Block
block_at xs at = block (slice_index xs at) (drop (at + 1) xs)

-- how many cells a block codes
abbrev pub width : Block → ℕ
width (Pair n v w) = n
width (Absolute n) = n

-- ---- what is written

-- "zero-padded to an even count of data bytes": the data bytes of n cells
abbrev pub data_bytes : ℕ → ℕ → ℕ
data_bytes d n = (n * d + 15) / 16 * 2

-- a block's bytes, where xs are the cells from its place on. At depth 4 a pair's byte holds both indices, the first high
unfoldable pub bytes : ℕ → Block → List ℕ → List ℕ
bytes d (Pair n v w) xs = n ∷ packed_byte_of d (λ j. slice_index (v ∷ w ∷ []) j) 0 ∷ []
bytes d (Absolute n) xs = 0 ∷ n ∷ packed d (take n xs) (data_bytes d n)

abbrev pub size : ℕ → Block → ℕ
size d (Pair n v w) = 2
size d (Absolute n) = 2 + data_bytes d n

-- the codes of cells, of which the first `skip` belong to a block that is written
unfoldable pub codes : ℕ → ℕ → List ℕ → List ℕ
codes d skip [] = []
codes d zero (x ∷ xs) =
    let b = block x xs in
    bytes d b (x ∷ xs) ++ codes d (width b - 1) xs
codes d (suc skip) (x ∷ xs) = codes d skip xs

-- a row's codes, without the two bytes that end it
unfoldable pub row_codes : ℕ → List ℕ → List ℕ
row_codes d row = codes d 0 (cells d row)
