-- Document 02, A.6, beside demand 3: what both screens show of a grid that was painted from quotes and written as Pal8.
use Rattle.std.specs.Prelude.{◌≡◌, List, [], ℕ, ◌+◌, ◌*◌, ◌<◌, Float, length, get_or}
use Rattle.leaves.specs.declared.encoder.EncodeSource.{EncodeSource}
use Rattle.format.specs.Readers.{older, newer, shows, read}
use Rattle.format.specs.Shown.{index, Shown}
use Rattle.grids.specs.Scale.{index_of, quote_at}

-- both show one picture, in which the cell of row y and column x has the index of the quote at its place in the lists
pub record QuotesShown (edges lows highs : List Float) (source : EncodeSource) (file : List ℕ) : Type 0 where
  pub shown : Shown
  pub newer_shows : read newer file ≡ shows shown
  pub older_shows : read older file ≡ shows shown
  pub width : shown.width ≡ source.width
  pub height : shown.height ≡ source.height
  pub cells : (y x : ℕ) → y < source.height → x < source.width → y * source.stride + x < length lows
      → get_or (get_or shown.rows y []) x (index 0) ≡ index (index_of edges (quote_at lows highs (y * source.stride + x)))
