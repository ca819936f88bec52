-- The widening table (document 02, A.3).
use Rattle.std.specs.Prelude.{◌≡◌, ℕ, ◌+◌, ◌-◌, ◌*◌, ◌<◌, ◌≤◌, List, length, slice_index}
use Rattle.leaves.specs.Fit.{fit}

-- "Samples going to 9 up to 16 bits come from a constant table of 2,048 numbers .., one row of 256 a width": the sample's number for n bits stands
-- at (n − 9) × 256 + sample, and is the one that document 01's formula gives
pub record Widens (table : List ℕ) : Type 0 where
  pub count : length table ≡ 2048
  pub entry : (n sample : ℕ) → 9 ≤ n → n ≤ 16 → sample < 256 → slice_index table ((n - 9) * 256 + sample) ≡ fit n sample
