-- A scale as the search for a shade takes it: sixteen blocks of sixteen edges, and the last edge of each block.
use Rattle.std.specs.Prelude.{◌≡◌, true, List, ℕ, ◌+◌, ◌*◌, ◌≤◌, ◌<◌, Float, length, get_or}
use Rattle.std.specs.Float.{nan}
use Rattle.std.specs.Float.Ieee.{is_nan, le}

-- every edge before one that is at or below a price is so too
abbrev pub Falls : List Float → Type 0
Falls edges = (price : Float) (j k : ℕ) → j ≤ k → k < length edges → le (get_or edges k nan) price ≡ true → le (get_or edges j nan) price ≡ true

-- the last of each block
abbrev pub BlockEnds : List Float → List Float → Type 0
BlockEnds ends blocks = (i : ℕ) → i < 16 → get_or ends i nan ≡ get_or blocks (16 * i + 15) nan

-- what the search needs: behind the full blocks one ends with a NaN, which is at or below no price
pub record Levels (full : ℕ) (ends blocks : List Float) : Type 0 where
  pub long : length blocks ≡ 256
  pub falls : Falls blocks
  pub few : full ≤ 15
  pub open_end : is_nan (get_or blocks (16 * full + 15) nan) ≡ true
  pub block_ends : BlockEnds ends blocks

-- the edges with NaNs behind them
pub record Padded (edges blocks : List Float) : Type 0 where
  pub long : length blocks ≡ 256
  pub each : (k : ℕ) → k < 256 → get_or blocks k nan ≡ get_or edges k nan

-- the same, in blocks
pub record Spread (edges ends blocks : List Float) : Type 0 where
  pub padded : Padded edges blocks
  pub block_ends : BlockEnds ends blocks
