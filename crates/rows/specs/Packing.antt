-- Indices packed into bytes, as stored rows and absolute blocks hold them.
use Rattle.std.specs.Prelude.{◌≡◌, ℕ, zero, suc, ◌+◌, ◌*◌, ◌/◌, ◌%◌, ◌^◌, ◌⊎◌, List, slice_index}
use Rattle.leaves.specs.Lists.{tab}

-- the number with the n digits f 0, f 1, .. to the base b, the first one highest, each cut to its place
unfoldable pub digits : ℕ → (ℕ → ℕ) → ℕ → ℕ
digits b f zero = 0
digits b f (suc n) = digits b f n * b + f n % b

-- document 01, Cells: "Indices are cut to the depth, high bits of a byte first": byte i of cells of d bits, 8 / d of them to a byte
unfoldable pub packed_byte_of : ℕ → (ℕ → ℕ) → ℕ → ℕ
packed_byte_of d cell i = digits (2 ^ d) (λ j. cell (i * (8 / d) + j)) (8 / d)

-- n bytes of the cells of a list, with zeros after its last
unfoldable pub packed : ℕ → List ℕ → ℕ → List ℕ
packed d cells n = tab (packed_byte_of d (λ x. slice_index cells x)) n

-- the depths that are packed by folding neighbours in a word: a byte holds several cells, and at 4 bits another form is faster
abbrev pub FoldedDepth : ℕ → Type 0
FoldedDepth d = (d ≡ 1) ⊎ (d ≡ 2)
