-- What the two calls answer, and what they promise.
use Rattle.std.specs.Prelude.{ℕ, zero, suc, ◌≡◌, List, [], length, take, drop, Result, Ok, Err}
use Rattle.leaves.specs.Put.{put}
use Rattle.leaves.specs.Refusals.{first_applying}
use Rattle.format.specs.Readers as Readers
use Rattle.format.specs.Readers.{fields_of, newer, shows, refuses, read, shown_height}
use Rattle.format.specs.Shown.{Cell, Shown}
use Rattle.reader.specs.declared.read.Reading.{Reading}
use Rattle.reader.specs.declared.read.ReadingSizes.{ReadingSizes}
use Rattle.reader.specs.Numbers.{numbers_of, head_bytes_of, head_in, table_bytes_of, table_in, cell_count, profile_at_of, profile_bytes_of}
use Rattle.reader.specs.Refusals.{number_of, read_rows}
use Rattle.reader.specs.declared.refusal.ReadRefusal.{ReadRefusal}

-- ---- the sizes

-- as numbers: 0, or the refusal's, and then all else is 0
pub record SizesAnswer : Type 0 where
  pub refusal : ℕ
  pub width : ℕ
  pub height : ℕ
  pub depth : ℕ
  pub head_bytes : ℕ
  pub table_bytes : ℕ
  pub cell_numbers : ℕ

abbrev pub sizes_answered : Result ReadingSizes ReadRefusal → SizesAnswer
sizes_answered (Ok s) =
    record {
      refusal = 0;
      width = s.width;
      height = s.height;
      depth = s.depth;
      head_bytes = s.head_bytes;
      table_bytes = s.table_bytes;
      cell_numbers = s.cell_numbers;
    }
sizes_answered (Err why) = record { refusal = number_of why; width = 0; height = 0; depth = 0; head_bytes = 0; table_bytes = 0; cell_numbers = 0 }

abbrev pub sizes_for : ℕ → List ℕ → SizesAnswer
sizes_for zero file =
    record {
      refusal = 0;
      width = (fields_of file).width;
      height = shown_height (fields_of file);
      depth = (fields_of file).depth;
      head_bytes = head_bytes_of (fields_of file);
      table_bytes = table_bytes_of (fields_of file);
      cell_numbers = cell_count (fields_of file);
    }
sizes_for (suc n) file = record { refusal = suc n; width = 0; height = 0; depth = 0; head_bytes = 0; table_bytes = 0; cell_numbers = 0 }

-- ---- what the newer reader shows

abbrev pub rows_shown : Readers.Reading → List (List Cell)
rows_shown (shows s) = s.rows
rows_shown (refuses cause) = []

unfoldable pub rows_in : List ℕ → List (List Cell)
rows_in file = rows_shown (read newer file)

-- ---- a reading

-- as numbers: 0, or the refusal's, and then all else is 0
pub record ReadAnswer : Type 0 where
  pub refusal : ℕ
  pub width : ℕ
  pub height : ℕ
  pub depth : ℕ
  pub profile_at : ℕ
  pub profile_bytes : ℕ

abbrev pub refused_reading : ℕ → ReadAnswer
refused_reading n = record { refusal = n; width = 0; height = 0; depth = 0; profile_at = 0; profile_bytes = 0 }

abbrev pub answered : Result Reading ReadRefusal → ReadAnswer
answered (Ok r) = record { refusal = 0; width = r.width; height = r.height; depth = r.depth; profile_at = r.profile_at; profile_bytes = r.profile_bytes }
answered (Err why) = refused_reading (number_of why)

-- the later buffers, where nothing is refused: "On every input it returns what that reader shows"; "Values past those filled stay"
pub record Shows (file head table cells later_head later_table later_cells : List ℕ) (r : ReadAnswer) : Type 0 where
  pub shown : Shown
  pub newer_shows : read newer file ≡ shows shown
  pub width : r.width ≡ shown.width
  pub height : r.height ≡ shown.height
  pub depth : r.depth ≡ (fields_of file).depth
  pub head_filled : later_head ≡ put head 0 (head_in file)
  pub table_filled : later_table ≡ put table 0 (table_in file)
  pub cells_filled : later_cells ≡ put cells 0 (numbers_of shown.rows)
  pub profile_at_is : r.profile_at ≡ profile_at_of file
  pub profile_bytes_is : r.profile_bytes ≡ profile_bytes_of file

-- "buffers unchanged", the answered numbers 0
pub record Refuses (head table cells later_head later_table later_cells : List ℕ) (r : ReadAnswer) : Type 0 where
  pub answer : r ≡ refused_reading r.refusal
  pub same_head : later_head ≡ head
  pub same_table : later_table ≡ table
  pub same_cells : later_cells ≡ cells

abbrev pub Outcome : ℕ → List ℕ → List ℕ → List ℕ → List ℕ → List ℕ → List ℕ → List ℕ → ReadAnswer → Type 0
Outcome zero file head table cells later_head later_table later_cells r = Shows file head table cells later_head later_table later_cells r
Outcome (suc n) file head table cells later_head later_table later_cells r = Refuses head table cells later_head later_table later_cells r

-- the promise
pub record Read (file head table cells later_head later_table later_cells : List ℕ) (r : ReadAnswer) : Type 0 where
  -- the first number that applies, or 0
  pub number : r.refusal ≡ first_applying (read_rows file (length head) (length table) (length cells))
  pub outcome : Outcome r.refusal file head table cells later_head later_table later_cells r

-- the same, with the profile as the part of the file that holds it
pub record ReadInto (file head table cells later_head later_table later_cells : List ℕ) (number width height depth : ℕ) (profile : List ℕ) : Type 0 where
  pub reading : ReadAnswer
  pub promise : Read file head table cells later_head later_table later_cells reading
  pub number_is : number ≡ reading.refusal
  pub width_is : width ≡ reading.width
  pub height_is : height ≡ reading.height
  pub depth_is : depth ≡ reading.depth
  pub part : profile ≡ take reading.profile_bytes (drop reading.profile_at file)
