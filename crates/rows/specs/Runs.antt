-- Runs and rows of which a part is done.
use Rattle.std.specs.Prelude.{◌≡◌, ℕ, ◌+◌, ◌-◌, ◌≤◌, List, length, drop, slice_index, slice_index_or}
use Rattle.leaves.specs.Put.{put}
use Rattle.rows.specs.RleCodes.{cells, scan, same, run_length, codes}

-- a run's scan: n cells from a place on are equal, and it goes on behind them
pub record Running (d : ℕ) (row : List ℕ) (at n : ℕ) : Type 0 where
  pub within : at + n ≤ length row
  pub some : 1 ≤ n
  pub most : n ≤ 255
  pub last : slice_index_or (cells d row) (at + n - 1) 0 ≡ slice_index (cells d row) at
  pub rest : run_length (slice_index (cells d row) at) (drop (at + 1) (cells d row))
      ≡ scan (same (slice_index (cells d row) at)) n (drop (at + n) (cells d row))

-- a row's codes: from cell i and place o of a buffer on, they were written up to cell j and place p. What is left at the end, put there, gives what all that was left, put at the start, would have given
pub record Continued (d : ℕ) (row : List ℕ) (i o : ℕ) (was : List ℕ) (j p : ℕ) (is : List ℕ) : Type 0 where
  pub on : i ≤ j
  pub within : j ≤ length row
  pub left : p + length (codes d 0 (drop j (cells d row))) ≡ o + length (codes d 0 (drop i (cells d row)))
  pub put_left : put is p (codes d 0 (drop j (cells d row))) ≡ put was o (codes d 0 (drop i (cells d row)))
