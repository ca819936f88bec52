-- The interface's numbers and structs as the writer's, and what its functions promise.
use Rattle.std.specs.Prelude.{ℕ, ◌≡◌, List, [], ◌∷◌, pos, get_or, Option, Some, None, Ok, Err}
use Rattle.std.specs.Bool.{then_some}
use Rattle.leaves.specs.declared.encoder.EncodeSource.{EncodeSource}
use Rattle.leaves.specs.declared.image.BmpPixelFormat.{BmpPixelFormat}
use Rattle.leaves.specs.declared.image.BmpPixelFormat.TheVariants as source
use Rattle.leaves.specs.declared.options.EncodeOptions.{EncodeOptions}
use Rattle.leaves.specs.Formats.{format_number}
use Rattle.leaves.specs.Refusals.{number_of}
use Rattle.format.specs.Input.{Input}
use Rattle.planner.specs.Answers.{EncodeAnswer, BoundAnswer, Written, WrittenWithStarts, Sized}
use Rattle.planner.specs.Calls.{called}
use Rattle.capi.specs.declared.BmpSource.{BmpSource}
use Rattle.capi.specs.declared.BmpOptions.{BmpOptions}
use Rattle.capi.specs.declared.BmpSettings.{BmpSettings}
use Rattle.capi.specs.declared.BmpAnswer.{BmpAnswer}

-- the formats that a caller names, 0 to 9; any other number is none
unfoldable pub formats : List (Option BmpPixelFormat)
formats =
    Some source.Rgba
    ∷ Some source.Rgb24
    ∷ Some source.Bgra
    ∷ Some source.Bgr24
    ∷ Some source.Rgb555
    ∷ Some source.Rgb565
    ∷ Some source.Pal8
    ∷ Some source.Indexed4
    ∷ Some source.Indexed2
    ∷ Some source.Indexed1
    ∷ []

unfoldable pub format_at : ℕ → Option BmpPixelFormat
format_at n = get_or formats n None

abbrev pub source_of : BmpSource → BmpPixelFormat → EncodeSource
source_of s format =
    record {
      format = format;
      width = s.width;
      height = s.height;
      stride = s.stride;
      has_palette = s.has_palette;
      has_icc = s.has_icc;
      has_linked_icc = s.has_linked_icc;
    }

-- document 02, A.5: "defaults are today's numbers"
abbrev pub default_settings : BmpSettings
default_settings = record { limit = 4294967295; x_pels_per_meter = pos 2835; y_pels_per_meter = pos 2835 }

abbrev pub options_of : BmpOptions → BmpSettings → EncodeOptions
options_of o s =
    record {
      top_down = o.top_down;
      minimal_palette = o.minimal_palette;
      rle = o.rle;
      bitfields = then_some o.has_bitfields (record { bpp = o.bitfields_bpp; masks = o.bitfields_masks });
      embed_icc = o.embed_icc;
      rendering_intent = o.rendering_intent;
      calibrated_rgb = then_some o.has_calibrated (record { endpoints = o.endpoints; gamma = o.gamma });
      limit = s.limit;
      x_pels_per_meter = s.x_pels_per_meter;
      y_pels_per_meter = s.y_pels_per_meter;
    }

-- a refusal as numbers
abbrev pub refused_with : ℕ → BmpAnswer
refused_with number = record { bytes = 0; refusal = number; format = 0 }

-- the writer's answers as numbers
abbrev pub encoded_answer : EncodeAnswer → BmpAnswer
encoded_answer (Ok file) = record { bytes = file.bytes; refusal = 0; format = format_number file.format }
encoded_answer (Err why) = refused_with (number_of why)

abbrev pub bound_answer : BoundAnswer → BmpAnswer
bound_answer (Ok bytes) = record { bytes = bytes; refusal = 0; format = 0 }
bound_answer (Err why) = refused_with (number_of why)

-- the interface's own refusal
abbrev pub unknown_format : BmpAnswer
unknown_format = refused_with 255

-- of a format that is listed: an answer of the writer with its whole promise, and the same as numbers
pub record Encodes (i : Input) (offset : ℕ) (was later : List ℕ) (numbers : BmpAnswer) : Type 0 where
  pub writer : EncodeAnswer
  pub promise : Written i offset was later writer
  pub answer : numbers ≡ encoded_answer writer

-- the same of the call that fills a list of row starts
pub record EncodesWithStarts (i : Input) (offset : ℕ) (was later starts later_starts : List ℕ) (numbers : BmpAnswer) : Type 0 where
  pub writer : EncodeAnswer
  pub promise : WrittenWithStarts i offset was later starts later_starts writer
  pub answer : numbers ≡ encoded_answer writer

pub record Bounds (i : Input) (numbers : BmpAnswer) : Type 0 where
  pub writer : BoundAnswer
  pub promise : Sized i writer
  pub answer : numbers ≡ bound_answer writer

-- the promises: 255 before all else, and nothing changed
abbrev pub EncodePromise : Option BmpPixelFormat → BmpSource → BmpOptions → BmpSettings → List ℕ → List ℕ → List ℕ → List ℕ → ℕ → List ℕ → List ℕ → BmpAnswer → Type 0
EncodePromise (Some f) source options settings plane palette icc linked offset was later answer =
    Encodes (called (source_of source f) (options_of options settings) plane palette icc linked) offset was later answer
EncodePromise None source options settings plane palette icc linked offset was later answer = (answer ≡ unknown_format) × (later ≡ was)

abbrev pub StartsPromise : Option BmpPixelFormat → BmpSource → BmpOptions → BmpSettings → List ℕ → List ℕ → List ℕ → List ℕ → ℕ → List ℕ → List ℕ → List ℕ → List ℕ → BmpAnswer → Type 0
StartsPromise (Some f) source options settings plane palette icc linked offset was later starts later_starts answer =
    EncodesWithStarts (called (source_of source f) (options_of options settings) plane palette icc linked) offset was later starts later_starts answer
StartsPromise None source options settings plane palette icc linked offset was later starts later_starts answer =
    (answer ≡ unknown_format) × (later ≡ was) × (later_starts ≡ starts)

abbrev pub BoundPromise : Option BmpPixelFormat → BmpSource → BmpOptions → BmpSettings → List ℕ → List ℕ → List ℕ → List ℕ → BmpAnswer → Type 0
BoundPromise (Some f) source options settings plane palette icc linked answer = Bounds (called (source_of source f) (options_of options settings) plane palette icc linked) answer
BoundPromise None source options settings plane palette icc linked answer = answer ≡ unknown_format
