-- The reader's answers as the interface's structs, and what its functions promise.
use Rattle.std.specs.Prelude.{ℕ, ◌≡◌, List}
use Rattle.reader.specs.Answers.{ReadAnswer, SizesAnswer, Read}
use Rattle.capi.specs.declared.BmpReading.{BmpReading}
use Rattle.capi.specs.declared.BmpReadingSizes.{BmpReadingSizes}

abbrev pub reading_answer : ReadAnswer → BmpReading
reading_answer r =
    record {
      profile_at = r.profile_at;
      profile_bytes = r.profile_bytes;
      refusal = r.refusal;
      width = r.width;
      height = r.height;
      depth = r.depth;
    }

abbrev pub sizes_answer : SizesAnswer → BmpReadingSizes
sizes_answer s =
    record {
      head_bytes = s.head_bytes;
      table_bytes = s.table_bytes;
      cell_numbers = s.cell_numbers;
      refusal = s.refusal;
      width = s.width;
      height = s.height;
      depth = s.depth;
    }

-- a reading with its whole promise, and the same as a struct
pub record ReadPromise (file head table cells later_head later_table later_cells : List ℕ) (answer : BmpReading) : Type 0 where
  pub reading : ReadAnswer
  pub promise : Read file head table cells later_head later_table later_cells reading
  pub same : answer ≡ reading_answer reading
