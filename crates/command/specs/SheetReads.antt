-- What a command that reads promises: the cells of a BMP file as a sheet, or why there is none.
use Rattle.std.specs.Prelude.{cond, ◌⊎◌, ◌≡◌, List, [], ℕ, zero, suc, ◌*◌, min, eqb, ltb, leb, length}
use Rattle.leaves.specs.Put.{put}
use Rattle.leaves.specs.Texts.{bytes_of}
use Rattle.arguments.specs.Words.{item_at}
use Rattle.messages.specs.Messages.{decimal, filled, Says}
use Rattle.reader.specs.Answers.{ReadAnswer, SizesAnswer, Read, rows_in}
use Rattle.reader.specs.Numbers.{numbers_of}
use Rattle.sheets.specs.SheetTexts.{sheet_text}
use Rattle.command.specs.Commands.{check_status}
use Rattle.command.specs.Runs.{causes, refused_line, Checked}
use Rattle.command.specs.declared.CommandAnswer.{CommandAnswer}
use Rattle.command.specs.declared.CommandSizes.{CommandSizes}

-- ---- the sheet

-- a row's numbers: "an index a cell up to depth 8, otherwise four columns a cell: red, green, blue, alpha"
unfoldable pub line_numbers : ReadAnswer → ℕ
line_numbers r = r.width * cond (leb r.depth 8) 1 4

-- "one line a row from the top"
unfoldable pub sheet_of : ReadAnswer → List ℕ → List ℕ
sheet_of r file = sheet_text (line_numbers r) (numbers_of (rows_in file))

-- the memory for so many numbers: ten digits and a mark each, as far as 64 bits count
unfoldable pub room_for : ℕ → ℕ
room_for n = min (11 * n) 0xFFFFFFFFFFFFFFFF

unfoldable pub sheet_room : ReadAnswer → ℕ
sheet_room r = room_for (line_numbers r * r.height)

-- what must be lent, by the reader's sizes
abbrev pub lent_sizes : SizesAnswer → CommandSizes
lent_sizes s =
    record { head_bytes = s.head_bytes; table_bytes = s.table_bytes; cell_numbers = s.cell_numbers; out_bytes = room_for s.cell_numbers }

-- ---- a reading, into memory of so many bytes

-- the reader's number, or 15 where the sheet's memory is too short
unfoldable pub read_number : ReadAnswer → ℕ → ℕ
read_number r room = cond (eqb r.refusal 0) (cond (ltb room (sheet_room r)) 15 0) r.refusal

abbrev pub refused_answer : ℕ → ℕ → ℕ → CommandAnswer
refused_answer n bound text = record { bytes = 0; bound = bound; text = text; status = 1; refusal = n }

-- by that number: the answer, the message and the later memory
abbrev pub read_answer_of : ℕ → ℕ → ℕ → ℕ → CommandAnswer
read_answer_of zero bound bytes text = record { bytes = bytes; bound = bound; text = text; status = 0; refusal = 0 }
read_answer_of (suc n) bound bytes text = refused_answer (suc n) bound text

-- width, height, depth and the sheet's bytes
unfoldable pub read_line : List ℕ
read_line = bytes_of "@ x #, % bits, sheet of & bytes\n"

abbrev pub read_text : ℕ → ReadAnswer → List ℕ → List ℕ
read_text zero r sheet = filled (decimal r.width) (decimal r.height) (decimal r.depth) (decimal (length sheet)) read_line
read_text (suc n) r sheet = filled (decimal (suc n)) (item_at causes (suc n)) [] [] refused_line

abbrev pub later_out : ℕ → List ℕ → List ℕ → List ℕ
later_out zero was sheet = put was 0 sheet
later_out (suc n) was sheet = was

-- the reader's answer with its whole promise, and the sheet of what it shows
pub record SheetOut (file head table cells later_head later_table later_cells was later text_was text_later : List ℕ) (answer : CommandAnswer) : Type 0 where
  pub reading : ReadAnswer
  pub promise : Read file head table cells later_head later_table later_cells reading
  pub numbers : answer ≡ read_answer_of (read_number reading (length was)) (sheet_room reading) (length (sheet_of reading file)) answer.text
  pub message : Says text_was 0 (read_text (read_number reading (length was)) reading (sheet_of reading file)) text_later answer.text
  pub buffer : later ≡ later_out (read_number reading (length was)) was (sheet_of reading file)

-- of words that say so: nothing is read
pub record NotRead (ws : List (List ℕ)) (head table cells later_head later_table later_cells was later text_was text_later : List ℕ) (answer : CommandAnswer) : Type 0 where
  pub status : check_status ws ≡ 3 → ⊥
  pub checked : Checked ws text_was text_later answer
  pub same_head : later_head ≡ head
  pub same_table : later_table ≡ table
  pub same_cells : later_cells ≡ cells
  pub buffer : later ≡ was

-- the promise
abbrev pub ReadRan : List (List ℕ) → List ℕ → List ℕ → List ℕ → List ℕ → List ℕ → List ℕ → List ℕ → List ℕ → List ℕ → List ℕ → List ℕ → CommandAnswer → Type 0
ReadRan ws file head table cells later_head later_table later_cells was later text_was text_later answer =
    NotRead ws head table cells later_head later_table later_cells was later text_was text_later answer
    ⊎ ((check_status ws ≡ 3) × SheetOut file head table cells later_head later_table later_cells was later text_was text_later answer)
