-- What the command promises, of its words, the files and the lent memory.
use Rattle.std.specs.Prelude.{Bool, true, false, cond, not, ◌&&◌, ◌⊎◌, ◌≡◌, List, [], ◌∷◌, map, ℕ, ◌*◌, ◌<◌, min, ltb, length, take, Ok, Err}
use Rattle.leaves.specs.declared.encoder.EncodeSource.{EncodeSource}
use Rattle.leaves.specs.declared.image.BmpPixelFormat.{BmpPixelFormat}
use Rattle.leaves.specs.declared.image.BmpPixelFormat.TheVariants as source
use Rattle.leaves.specs.Formats.{written_name}
use Rattle.leaves.specs.Refusals.{number_of}
use Rattle.leaves.specs.Texts.{bytes_of}
use Rattle.format.specs.Input.{Input}
use Rattle.planner.specs.Answers.{EncodeAnswer, BoundAnswer, Written, Sized, bound_bytes}
use Rattle.planner.specs.Calls.{called}
use Rattle.arguments.specs.Options.{numbered, is_given, value_of, has_palette_of, format_asked, source_asked, options_asked}
use Rattle.arguments.specs.Words.{item_at}
use Rattle.messages.specs.Checksum.{cksum}
use Rattle.messages.specs.Messages.{decimal, filled, Says}
use Rattle.sheets.specs.Sheets.{sheet_rows, width_of, is_grid, cells_of}
use Rattle.command.specs.Commands.{check_status, check_text}
use Rattle.command.specs.Sample.{sample_palette}
use Rattle.command.specs.declared.CommandAnswer.{CommandAnswer}

-- an answer with no file
abbrev pub told_answer : ℕ → ℕ → CommandAnswer
told_answer status text = record { bytes = 0; bound = 0; text = text; status = status; refusal = 0 }

-- ---- the words alone

pub record Checked (ws : List (List ℕ)) (was later : List ℕ) (answer : CommandAnswer) : Type 0 where
  pub numbers : answer ≡ told_answer (check_status ws) answer.text
  pub message : Says was 0 (check_text ws) later answer.text

-- ---- a picture

-- the causes of refusals, by number
unfoldable pub causes : List (List ℕ)
causes =
    map bytes_of
    (""
    ∷ "width or height is 0"
    ∷ "width or height is over 2147483647"
    ∷ "an indexed format needs a palette"
    ∷ "the palette's bytes are not a multiple of 4"
    ∷ "more than one of masks, calibrated colour and a profile"
    ∷ "the masks' depth is neither 16 nor 32"
    ∷ "a mask has a bit above the depth"
    ∷ "a mask's ones are not one run"
    ∷ "a mask shares a bit with an earlier one"
    ∷ "the masks of red, green and blue are all 0"
    ∷ "masks are for Rgba, Rgb24, Bgra and Bgr24 alone"
    ∷ "the plane is shorter than stride times height"
    ∷ "the stride is below width times the bytes of a pixel"
    ∷ "the file would have more bytes than the limit"
    ∷ "a lent buffer or list is too short"
    ∷ "neither the stream nor the plain file is within the limit"
    ∷ "the head is one that the writer never writes"
    ∷ "a byte of header, masks, table, rows or profile lies outside the file"
    ∷ "the stream steps over a row's end, ends too early or uses a delta code"
    ∷ "the limit is over 4294967295"
    ∷ "a resolution is negative"
    ∷ "the edges are not 1 to 254 numbers, each above the one before"
    ∷ "a cell's low or high is not a number, or the low is above the high"
    ∷ [])

-- where the size query passes: more bytes than the rows take, unless more may follow
abbrev pub too_long_of : BoundAnswer → EncodeSource → ℕ → Bool → Bool
too_long_of (Ok bound) s bytes more = ltb (s.stride * s.height) bytes && not more
too_long_of (Err why) s bytes more = false

abbrev pub is_too_long : BoundAnswer → List (List ℕ) → Input → Bool
is_too_long bound ws i = too_long_of bound i.source (length i.plane) (is_given (numbered "--more-follows") ws)

unfoldable pub too_long_line : List ℕ
too_long_line = bytes_of "the plane has @ bytes, more than stride # times height %: --more-follows allows more\n"

unfoldable pub written_line : List ℕ
written_line = bytes_of "@: #, % bytes, cksum &\n"

unfoldable pub refused_line : List ℕ
refused_line = bytes_of "refused, @: #\n"

abbrev pub too_long_text : Input → List ℕ
too_long_text i = filled (decimal (length i.plane)) (decimal i.source.stride) (decimal i.source.height) [] too_long_line

-- what the writer answers, as numbers and as a message
abbrev pub written_answer : ℕ → ℕ → EncodeAnswer → CommandAnswer
written_answer bound text (Ok file) = record { bytes = file.bytes; bound = bound; text = text; status = 0; refusal = 0 }
written_answer bound text (Err why) = record { bytes = 0; bound = bound; text = text; status = 1; refusal = number_of why }

abbrev pub written_text : List (List ℕ) → List ℕ → EncodeAnswer → List ℕ
written_text ws later (Ok written) =
    let file = take written.bytes later in
    filled (value_of (numbered "--out") ws) (written_name written.format) (decimal (length file)) (decimal (cksum file)) written_line
written_text ws later (Err why) = filled (decimal (number_of why)) (item_at causes (number_of why)) [] [] refused_line

-- of a picture: the size query's answer and the writer's with their whole promises, unless the plane is too long, which changes nothing
pub record TooLong (ws : List (List ℕ)) (i : Input) (was later text_was text_later : List ℕ) (answer : CommandAnswer) : Type 0 where
  pub bound : BoundAnswer
  pub sized : Sized i bound
  pub longer : is_too_long bound ws i ≡ true
  pub numbers : answer ≡ told_answer 2 answer.text
  pub message : Says text_was 0 (too_long_text i) text_later answer.text
  pub buffer : later ≡ was

pub record Writes (ws : List (List ℕ)) (i : Input) (was later text_was text_later : List ℕ) (answer : CommandAnswer) : Type 0 where
  pub bound : BoundAnswer
  pub sized : Sized i bound
  pub fits : is_too_long bound ws i ≡ false
  pub writer : EncodeAnswer
  pub written : Written i 0 was later writer
  pub numbers : answer ≡ written_answer (bound_bytes bound) answer.text writer
  pub message : Says text_was 0 (written_text ws later writer) text_later answer.text

abbrev pub Encodes : List (List ℕ) → Input → List ℕ → List ℕ → List ℕ → List ℕ → CommandAnswer → Type 0
Encodes ws i was later text_was text_later answer = TooLong ws i was later text_was text_later answer ⊎ Writes ws i was later text_was text_later answer

-- ---- what is encoded: a plane, or a sheet

abbrev pub most_index : BmpPixelFormat → ℕ
most_index source.Pal8 = 255
most_index source.Indexed4 = 15
most_index source.Indexed2 = 3
most_index source.Indexed1 = 1
most_index source.Rgba = 0
most_index source.Rgb24 = 0
most_index source.Bgra = 0
most_index source.Bgr24 = 0
most_index source.Rgb555 = 0
most_index source.Rgb565 = 0

-- a sheet's size is its own; one that 32 bits do not hold is refused as too large
unfoldable pub sheet_source : List (List ℕ) → ℕ → ℕ → EncodeSource
sheet_source ws width height =
    record {
      format = format_asked ws;
      width = min width 0xFFFFFFFF;
      height = min height 0xFFFFFFFF;
      stride = width;
      has_palette = has_palette_of ws;
      has_icc = is_given (numbered "--icc") ws;
      has_linked_icc = is_given (numbered "--linked-icc") ws;
    }

unfoldable pub palette_for : List (List ℕ) → List ℕ → List ℕ
palette_for ws palette = cond (is_given (numbered "--sample-palette") ws) sample_palette palette

abbrev pub plane_input : List (List ℕ) → List ℕ → List ℕ → List ℕ → List ℕ → Input
plane_input ws plane palette icc linked = called (source_asked ws) (options_asked ws) plane palette icc linked

abbrev pub sheet_input : List (List ℕ) → List ℕ → List ℕ → List ℕ → List ℕ → Input
sheet_input ws sheet palette icc linked =
    let rows = sheet_rows sheet in
    called (sheet_source ws (width_of rows) (length rows)) (options_asked ws) (cells_of rows) palette icc linked

-- whether a sheet is a grid of indices
abbrev pub is_index_grid : List (List ℕ) → List ℕ → Bool
is_index_grid ws sheet = let rows = sheet_rows sheet in is_grid (most_index (format_asked ws)) (width_of rows) rows

-- ---- the run

-- of words that say so: nothing is encoded
pub record NotRun (ws : List (List ℕ)) (was later text_was text_later : List ℕ) (answer : CommandAnswer) : Type 0 where
  pub status : check_status ws ≡ 3 → ⊥
  pub checked : Checked ws text_was text_later answer
  pub buffer : later ≡ was

-- of a sheet that is no grid of indices, or larger than the memory for its cells: nothing is encoded, and the message is free
pub record NoGrid (ws : List (List ℕ)) (sheet cells was later : List ℕ) (answer : CommandAnswer) : Type 0 where
  pub trouble : (is_index_grid ws sheet ≡ false) ⊎ (length cells < length (sheet_rows sheet) * width_of (sheet_rows sheet))
  pub numbers : answer ≡ told_answer 2 answer.text
  pub buffer : later ≡ was

-- of a sheet, and of a plane
abbrev pub SheetRun : List (List ℕ) → List ℕ → List ℕ → List ℕ → List ℕ → List ℕ → List ℕ → List ℕ → List ℕ → List ℕ → CommandAnswer → Type 0
SheetRun ws sheet palette icc linked cells was later text_was text_later answer =
    NoGrid ws sheet cells was later answer ⊎ ((is_index_grid ws sheet ≡ true) × Encodes ws (sheet_input ws sheet palette icc linked) was later text_was text_later answer)

abbrev pub Runs : Bool → List (List ℕ) → List ℕ → List ℕ → List ℕ → List ℕ → List ℕ → List ℕ → List ℕ → List ℕ → List ℕ → CommandAnswer → Type 0
Runs true ws plane palette icc linked cells was later text_was text_later answer = SheetRun ws plane palette icc linked cells was later text_was text_later answer
Runs false ws plane palette icc linked cells was later text_was text_later answer = Encodes ws (plane_input ws plane palette icc linked) was later text_was text_later answer

-- the promise of the command; what the memory for a sheet's cells holds later is free
abbrev pub Ran : List (List ℕ) → List ℕ → List ℕ → List ℕ → List ℕ → List ℕ → List ℕ → List ℕ → List ℕ → List ℕ → CommandAnswer → Type 0
Ran ws plane palette icc linked cells was later text_was text_later answer =
    NotRun ws was later text_was text_later answer
    ⊎ ((check_status ws ≡ 3) × Runs (is_given (numbered "--csv") ws) ws plane (palette_for ws palette) icc linked cells was later text_was text_later answer)
