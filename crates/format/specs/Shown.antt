-- What a screen shows of a file, or why it shows nothing: the words that the readers and the expectation share.
use Rattle.std.specs.Prelude.{ℕ, List}

-- "An index past the table is still an index; it has no colour": a cell is an index, or its channels' bits
pub data Cell : Type 0 where
  index : ℕ → Cell
  rgb : ℕ → ℕ → ℕ → Cell
  rgba : ℕ → ℕ → ℕ → ℕ → Cell

-- "It refuses, naming the cause and showing nothing": the first two are "a depth or compression it doesn't know", `short` is "a needed byte past the end"
-- wherever it is missed, in head, rows or stream, `bad_code` is "Anything else" in a stream, and `past_row_end` "a step over the row's end"
pub data Cause : Type 0 where
  unknown_depth unknown_compression pairing short bad_code past_row_end : Cause

pub record Shown : Type 0 where
  pub width : ℕ
  pub height : ℕ
  -- red, green, blue
  pub palette : List Cell
  -- from the top, each from the left
  pub rows : List (List Cell)
