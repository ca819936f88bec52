-- Where each stored row begins in the file (document 02, A.7: "in stored order, with the place in the file of each stored row's first byte"; "Files without
-- a stream get starts too").
use Rattle.std.specs.Prelude.{ℕ, ◌+◌, ◌*◌, ◌<◌, ◌≡◌, cond, List, [], length, get_or}
use Rattle.leaves.specs.Formats.{bits_per_pixel}
use Rattle.leaves.specs.Lists.{cat, tab}
use Rattle.rows.specs.StoredRows.{pack_bytes, row_of, source_row, stored_row}
use Rattle.rows.specs.Stream.{stream_row}
use Rattle.format.specs.Expectation.{expected}
use Rattle.format.specs.File.{pack_in, head_bytes_of, stream_used}
use Rattle.format.specs.Input.{Input}
use Rattle.format.specs.OneRow.{read_one_row, shows_row}
use Rattle.format.specs.Readers.{newer}

-- the stored row s as the file holds it: its codes with their end where a stream is used, and else the stored row
unfoldable pub pixel_row : ℕ → Input → ℕ → List ℕ
pixel_row limit i s =
    cond (stream_used limit i) (stream_row (bits_per_pixel i.source.format) i.source.width i.source.height i.plane i.source.stride s)
    (stored_row (pack_in i) i.source.width
    (source_row i.plane i.source.stride (i.source.width * pack_bytes (pack_in i)) (row_of i.options.top_down i.source.height s)))

-- the place of its first byte, counted from the file's: behind the head and the rows that are stored before it
unfoldable pub row_start : ℕ → Input → ℕ → ℕ
row_start limit i s = head_bytes_of i + length (cat (pixel_row limit i) s)

-- all of them, in stored order
unfoldable pub starts_of : ℕ → Input → List ℕ
starts_of limit i = tab (row_start limit i) i.source.height

-- "the newer reader, reading one row from there, shows that row of its whole reading": of a file's bytes and the starts beside it. Which row of the picture
-- the stored row s is, is said by "Rows are stored bottom first unless top-down"
pub record RowsShown (i : Input) (bytes starts : List ℕ) : Type 0 where
  pub each : (s : ℕ) → s < i.source.height
      → read_one_row newer bytes (get_or starts s 0) ≡ shows_row (get_or (expected i).rows (row_of i.options.top_down i.source.height s) [])
