-- Windows of flags: of each cell of a row whether the next one is equal, 64 at a time, and what the cells of a window take as codes.
use Rattle.std.specs.Prelude.{◌≡◌, ℕ, zero, suc, ◌+◌, ◌*◌, ◌≤◌, Bool, true, false, cond, not, ◌&&◌, ◌||◌, List, length, drop, ◌==◌, nat_lt, slice_index}
use Rattle.rows.specs.RleCodes.{cells, codes}

abbrev pub bit : Bool → ℕ
bit true = 1
bit false = 0

-- the number of n bits of which bit k is f k, the lowest being bit 0
unfoldable pub from_bits : (ℕ → Bool) → ℕ → ℕ
from_bits f zero = 0
from_bits f (suc n) = from_bits (λ k. f (suc k)) n * 2 + bit (f 0)

-- how many of the first n hold
unfoldable pub total : (ℕ → Bool) → ℕ → ℕ
total f zero = 0
total f (suc n) = total f n + bit (f n)

-- whether the cell k after a place is equal to the one after it
abbrev pub twins : List ℕ → ℕ → ℕ → Bool
twins row at k = slice_index row (at + k) == slice_index row (at + k + 1)

-- the flags of the window at a place: nothing is equal to what is past the row's end
abbrev pub flags_at : List ℕ → ℕ → ℕ → Bool
flags_at row at k = nat_lt (at + k + 1) (length row) && twins row at k

-- what holds of the cell before; nothing of the window's first
abbrev pub before : (ℕ → Bool) → ℕ → Bool
before f zero = false
before f (suc k) = f k

-- equal to neither neighbour, where e are the flags of a window that starts where a block starts
unfoldable pub lone : (ℕ → Bool) → ℕ → Bool
lone e k = not (e k || before e k)

-- the first of its stretch of lone cells
unfoldable pub first : (ℕ → Bool) → ℕ → Bool
first e k = lone e k && not (before (lone e) k)

-- an even place in its stretch of lone cells, the first being place 0
unfoldable pub even_place : (ℕ → Bool) → ℕ → Bool
even_place e zero = true
even_place e (suc k) = cond (lone e k) (not (even_place e k)) true

-- the cells that two bytes are charged to: the first of each run; of each stretch of lone cells those at even places, for the data, and the second, for the head of an absolute block
unfoldable pub charged : (ℕ → Bool) → ℕ → Bool
charged e k = (e k && not (before e k)) || (lone e k && (even_place e k || before (first e) k))

-- n bytes code the m cells from a place on, in whole blocks
abbrev pub Coding : ℕ → List ℕ → ℕ → ℕ → ℕ → Type 0
Coding d row at m n = (1 ≤ m) × (at + m ≤ length row) × (length (codes d 0 (drop at (cells d row))) ≡ n + length (codes d 0 (drop (at + m) (cells d row))))
