-- A command's options, and what they ask for together.
use Rattle.std.specs.Prelude.{Bool, true, false, cond, not, ◌&&◌, ◌||◌, Option, Some, None, is_some, unwrap_or, List, [], ◌∷◌, map, ℕ, ◌+◌, ◌*◌, ◌^◌, eqb, ltb, leb, ℤ, pos, length, get_or, drop}
use Prim.Native.String.{String}
use Rattle.std.specs.Bool.{then_some}
use Rattle.leaves.specs.declared.bitfields.BmpBitfields.{BmpBitfields}
use Rattle.leaves.specs.declared.encoder.EncodeSource.{EncodeSource}
use Rattle.leaves.specs.declared.image.BmpPixelFormat.{BmpPixelFormat}
use Rattle.leaves.specs.declared.image.BmpPixelFormat.TheVariants.{Rgba, Rgb24, Bgra, Bgr24, Rgb555, Rgb565, Pal8, Indexed4, Indexed2, Indexed1}
use Rattle.leaves.specs.declared.options.CalibratedRgb.{CalibratedRgb}
use Rattle.leaves.specs.declared.options.EncodeOptions.{EncodeOptions}
use Rattle.leaves.specs.Formats.{bytes_per_pixel}
use Rattle.leaves.specs.Texts.{bytes_of}
use Rattle.arguments.specs.declared.options.CommandOption.{CommandOption}
use Rattle.arguments.specs.declared.options.CommandOption.TheVariants.{TopDown, MinimalPalette, NoRle, NoEmbedIcc, MoreFollows, SamplePalette, Help, ShortHelp, Version, EndOfOptions, Format, Width, Height, Stride, RenderingIntent, Bitfields, Calibrated, Limit, Pels, Plane, Csv, Palette, Icc, LinkedIcc, Out, Read, Edges, Lows, Highs}
use Rattle.arguments.specs.declared.options.Fault.{Fault}
use Rattle.arguments.specs.declared.options.Fault.TheVariants.{UnknownOption, NoValue, NoNumber, UnknownFormat, NotMasks, NotCalibrated, NoStride, TakesNoValue, WordBehind, NoLimit, NoPels}
use Rattle.arguments.specs.Words.{up_to, items_of, item_at, in_case, place_among}
use Rattle.arguments.specs.Numbers.{number_of, is_number, is_number32, number16, number32, signed32, are_numbers}

-- ---- the options by number: their places in the list

unfoldable pub all_options : List CommandOption
all_options =
    TopDown
    ∷ MinimalPalette
    ∷ NoRle
    ∷ NoEmbedIcc
    ∷ MoreFollows
    ∷ SamplePalette
    ∷ Help
    ∷ ShortHelp
    ∷ Version
    ∷ EndOfOptions
    ∷ Format
    ∷ Width
    ∷ Height
    ∷ Stride
    ∷ RenderingIntent
    ∷ Bitfields
    ∷ Calibrated
    ∷ Limit
    ∷ Pels
    ∷ Plane
    ∷ Csv
    ∷ Palette
    ∷ Icc
    ∷ LinkedIcc
    ∷ Out
    ∷ Read
    ∷ Edges
    ∷ Lows
    ∷ Highs
    ∷ []

abbrev pub place_of : CommandOption → ℕ
place_of TopDown = 0
place_of MinimalPalette = 1
place_of NoRle = 2
place_of NoEmbedIcc = 3
place_of MoreFollows = 4
place_of SamplePalette = 5
place_of Help = 6
place_of ShortHelp = 7
place_of Version = 8
place_of EndOfOptions = 9
place_of Format = 10
place_of Width = 11
place_of Height = 12
place_of Stride = 13
place_of RenderingIntent = 14
place_of Bitfields = 15
place_of Calibrated = 16
place_of Limit = 17
place_of Pels = 18
place_of Plane = 19
place_of Csv = 20
place_of Palette = 21
place_of Icc = 22
place_of LinkedIcc = 23
place_of Out = 24
place_of Read = 25
place_of Edges = 26
place_of Lows = 27
place_of Highs = 28

-- The first ten stand alone, and each of the others has a value: the word behind it, or what follows a = in its own word.
unfoldable pub option_names : List (List ℕ)
option_names =
    map bytes_of
    ("--top-down"
    ∷ "--minimal-palette"
    ∷ "--no-rle"
    ∷ "--no-embed-icc"
    ∷ "--more-follows"
    ∷ "--sample-palette"
    ∷ "--help"
    ∷ "-h"
    ∷ "--version"
    ∷ "--"
    ∷ "--format"
    ∷ "--width"
    ∷ "--height"
    ∷ "--stride"
    ∷ "--rendering-intent"
    ∷ "--bitfields"
    ∷ "--calibrated-rgb"
    ∷ "--limit"
    ∷ "--pels"
    ∷ "--plane"
    ∷ "--csv"
    ∷ "--palette"
    ∷ "--icc"
    ∷ "--linked-icc"
    ∷ "--out"
    ∷ "--read"
    ∷ "--edges"
    ∷ "--lows"
    ∷ "--highs"
    ∷ [])

-- the number of the option that a word names before its =; 29 for any other word
unfoldable pub option_named : List ℕ → ℕ
option_named w = place_among option_names (up_to 61 w)

-- the number of the option that is so called
abbrev pub numbered : String → ℕ
numbered name = option_named (bytes_of name)

unfoldable pub stands_alone : ℕ → Bool
stands_alone option = leb option 9

-- whether a word has a =, and what follows it
unfoldable pub carries_value : List ℕ → Bool
carries_value w = ltb (length (up_to 61 w)) (length w)

unfoldable pub carried : List ℕ → List ℕ
carried w = drop (length (up_to 61 w) + 1) w

-- whether an option is one word
unfoldable pub is_whole : List ℕ → Bool
is_whole w = stands_alone (option_named w) || carries_value w

-- the words from each option on
unfoldable pub options_in : List (List ℕ) → List (List (List ℕ))
options_in [] = []
options_in (w ∷ []) = (w ∷ []) ∷ []
options_in (w ∷ v ∷ ws) = (w ∷ v ∷ ws) ∷ cond (is_whole w) (options_in (v ∷ ws)) (options_in ws)

-- the first word, and the second; empty where there is none
unfoldable pub first : List (List ℕ) → List ℕ
first ws = item_at ws 0

unfoldable pub second : List (List ℕ) → List ℕ
second ws = item_at ws 1

unfoldable pub is_none : List (List ℕ) → Bool
is_none [] = true
is_none (w ∷ ws) = false

-- ---- one option

-- the last that gives an option, of the words from each option on; none where it is not given
unfoldable pub last_of : ℕ → List (List (List ℕ)) → List (List ℕ)
last_of option [] = []
last_of option (ws ∷ rest) =
    cond (is_none (last_of option rest)) (cond (eqb (option_named (first ws)) option) ws []) (last_of option rest)

-- the words from where an option is given last
unfoldable pub last_given : ℕ → List (List ℕ) → List (List ℕ)
last_given option ws = last_of option (options_in ws)

unfoldable pub is_given : ℕ → List (List ℕ) → Bool
is_given option ws = not (is_none (last_given option ws))

-- the value of the option that words begin with; empty where there is none
unfoldable pub value_in : List (List ℕ) → List ℕ
value_in ws = cond (carries_value (first ws)) (carried (first ws)) (second ws)

unfoldable pub value_of : ℕ → List (List ℕ) → List ℕ
value_of option ws = value_in (last_given option ws)

-- ---- layouts by name

-- as the original spells them, here in lower case; a name may be written in any
unfoldable pub format_names : List (List ℕ)
format_names =
    map bytes_of ("rgba" ∷ "rgb24" ∷ "bgra" ∷ "bgr24" ∷ "rgb555" ∷ "rgb565" ∷ "indexed4" ∷ "indexed2" ∷ "indexed1" ∷ "pal8" ∷ [])

-- the number of the layout that is so called; 10 where none is
unfoldable pub format_numbered : List ℕ → ℕ
format_numbered name = place_among format_names (in_case true name)

unfoldable pub is_format : List ℕ → Bool
is_format name = ltb (format_numbered name) 10

unfoldable pub formats : List BmpPixelFormat
formats = Rgba ∷ Rgb24 ∷ Bgra ∷ Bgr24 ∷ Rgb555 ∷ Rgb565 ∷ Indexed4 ∷ Indexed2 ∷ Indexed1 ∷ Pal8 ∷ []

-- the layout that is so called; Pal8 where none is
unfoldable pub format_named : List ℕ → BmpPixelFormat
format_named name = get_or formats (format_numbered name) Pal8

-- ---- what is not understood

unfoldable pub unless : Bool → Fault → Option Fault
unless good fault = cond good None (Some fault)

-- a depth of 16 bits and four masks of 32
unfoldable pub are_masks : List ℕ → Bool
are_masks list = are_numbers 5 0 list && is_some (number16 (item_at (items_of 44 list) 0))

-- of a file's name
unfoldable pub fault_of_name : ℕ → List ℕ → Option Fault
fault_of_name option name = cond (leb (numbered "--plane") option && leb option (numbered "--highs")) (unless (ltb 0 (length name)) NoValue) (Some UnknownOption)

-- of an option's value; a limit that is too large and a resolution below 0 are refused with the picture
unfoldable pub fault_of : ℕ → List ℕ → Option Fault
fault_of option value =
    cond (eqb option (numbered "--format")) (unless (is_format value) UnknownFormat)
    (cond (eqb option (numbered "--width") || (eqb option (numbered "--height") || eqb option (numbered "--rendering-intent"))) (unless (is_number32 value) NoNumber)
    (cond (eqb option (numbered "--stride")) (unless (is_number value) NoStride)
    (cond (eqb option (numbered "--bitfields")) (unless (are_masks value) NotMasks)
    (cond (eqb option (numbered "--calibrated-rgb")) (unless (are_numbers 12 9 value) NotCalibrated)
    (cond (eqb option (numbered "--limit")) (unless (is_number value) NoLimit)
    (cond (eqb option (numbered "--pels")) (unless (are_numbers 2 2 value) NoPels) (fault_of_name option value)))))))

-- of an option that stands alone: it takes no value, and -- ends the command, which takes options only
unfoldable pub fault_alone : ℕ → Bool → Bool → Option Fault
fault_alone option valued followed = cond valued (Some TakesNoValue) (cond (eqb option (numbered "--") && followed) (Some WordBehind) None)

-- of an option that no word follows
unfoldable pub fault_last : ℕ → Option Fault
fault_last option = Some (cond (leb option (numbered "--highs")) NoValue UnknownOption)

-- what is wrong with the option that words begin with
unfoldable pub fault_at : List (List ℕ) → Option Fault
fault_at ws =
    let w = first ws in
    let option = option_named w in
    cond (stands_alone option) (fault_alone option (carries_value w) (not (is_none (drop 1 ws))))
    (cond (carries_value w) (fault_of option (carried w)) (cond (is_none (drop 1 ws)) (fault_last option) (fault_of option (second ws))))

-- the first that is not understood, of the words from each option on
unfoldable pub first_of : List (List (List ℕ)) → List (List ℕ)
first_of [] = []
first_of (ws ∷ rest) = cond (is_some (fault_at ws)) ws (first_of rest)

-- the words from the first option on that is not understood
unfoldable pub first_fault : List (List ℕ) → List (List ℕ)
first_fault ws = first_of (options_in ws)

-- ---- what is asked for

-- an option's number, or the usual one where it is not given; 2^60 for a value that is no number, which the check refuses before
unfoldable pub number_asked : ℕ → ℕ → List (List ℕ) → ℕ
number_asked option usual ws = cond (is_given option ws) (unwrap_or (number_of (value_of option ws)) (2 ^ 60)) usual

-- where no stride is given, rows stand close
unfoldable pub stride_asked : List (List ℕ) → ℕ → BmpPixelFormat → ℕ
stride_asked ws width format = number_asked (numbered "--stride") (bytes_per_pixel format * width) ws

unfoldable pub format_asked : List (List ℕ) → BmpPixelFormat
format_asked ws = format_named (value_of (numbered "--format") ws)

-- a palette from a file, or the sample's
unfoldable pub has_palette_of : List (List ℕ) → Bool
has_palette_of ws = is_given (numbered "--palette") ws || is_given (numbered "--sample-palette") ws

unfoldable pub source_asked : List (List ℕ) → EncodeSource
source_asked ws =
    let format = format_asked ws in
    let width = unwrap_or (number32 (value_of (numbered "--width") ws)) 0 in
    record {
      format = format;
      width = width;
      height = unwrap_or (number32 (value_of (numbered "--height") ws)) 0;
      stride = stride_asked ws width format;
      has_palette = has_palette_of ws;
      has_icc = is_given (numbered "--icc") ws;
      has_linked_icc = is_given (numbered "--linked-icc") ws;
    }

-- a depth and four masks
unfoldable pub masks_asked : List ℕ → BmpBitfields
masks_asked list =
    let part : ℕ → List ℕ = λ k. item_at (items_of 44 list) k in
    let mask : ℕ → ℕ = λ k. unwrap_or (number32 (part k)) 0 in
    record { bpp = unwrap_or (number16 (part 0)) 0; masks = mask 1 ∷ mask 2 ∷ mask 3 ∷ mask 4 ∷ [] }

-- nine endpoints and three gammas
unfoldable pub calibrated_asked : List ℕ → CalibratedRgb
calibrated_asked list =
    let part : ℕ → List ℕ = λ k. item_at (items_of 44 list) k in
    let endpoint : ℕ → ℤ = λ k. unwrap_or (signed32 (part k)) (pos 0) in
    record {
      endpoints = endpoint 0 ∷ endpoint 1 ∷ endpoint 2 ∷ endpoint 3 ∷ endpoint 4 ∷ endpoint 5 ∷ endpoint 6 ∷ endpoint 7 ∷ endpoint 8 ∷ [];
      gamma = unwrap_or (number32 (part 9)) 0 ∷ unwrap_or (number32 (part 10)) 0 ∷ unwrap_or (number32 (part 11)) 0 ∷ [];
    }

-- LCS_GM_IMAGES where none is given
unfoldable pub intent_asked : List (List ℕ) → ℕ
intent_asked ws = cond (is_given (numbered "--rendering-intent") ws) (unwrap_or (number32 (value_of (numbered "--rendering-intent") ws)) 0) 4

-- across for 0, down for 1; 72 dots an inch where none are given
unfoldable pub pels_asked : ℕ → List (List ℕ) → ℤ
pels_asked k ws = cond (is_given (numbered "--pels") ws) (unwrap_or (signed32 (item_at (items_of 44 (value_of (numbered "--pels") ws)) k)) (pos 0)) (pos 2835)

unfoldable pub options_asked : List (List ℕ) → EncodeOptions
options_asked ws =
    record {
      top_down = is_given (numbered "--top-down") ws;
      minimal_palette = is_given (numbered "--minimal-palette") ws;
      rle = not (is_given (numbered "--no-rle") ws);
      bitfields = then_some (is_given (numbered "--bitfields") ws) (masks_asked (value_of (numbered "--bitfields") ws));
      embed_icc = not (is_given (numbered "--no-embed-icc") ws);
      rendering_intent = intent_asked ws;
      calibrated_rgb = then_some (is_given (numbered "--calibrated-rgb") ws) (calibrated_asked (value_of (numbered "--calibrated-rgb") ws));
      limit = number_asked (numbered "--limit") 4294967295 ws;
      x_pels_per_meter = pels_asked 0 ws;
      y_pels_per_meter = pels_asked 1 ws;
    }
