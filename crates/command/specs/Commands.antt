-- What a command's words alone decide: the status, and the message.
use Rattle.std.specs.Prelude.{Bool, false, cond, not, ◌&&◌, ◌||◌, Option, Some, None, is_some, List, [], ◌∷◌, map, ℕ, zero, suc, ◌+◌, ◌-◌, eqb, ltb}
use Prim.Native.String.{String}
use Rattle.leaves.specs.Formats.{is_indexed, bits_per_pixel}
use Rattle.leaves.specs.Texts.{bytes_of, joined}
use Rattle.arguments.specs.Options.{numbered, first, is_none, is_given, value_in, value_of, fault_at, first_fault, format_asked}
use Rattle.arguments.specs.Words.{up_to}
use Rattle.arguments.specs.declared.options.Fault.{Fault}
use Rattle.arguments.specs.declared.options.Fault.TheVariants.{UnknownOption, NoValue, NoNumber, UnknownFormat, NotMasks, NotCalibrated, NoStride, TakesNoValue, WordBehind, NoLimit, NoPels}
use Rattle.messages.specs.Messages.{filled}
use Rattle.command.specs.declared.check.JointFault.{JointFault}
use Rattle.command.specs.declared.check.JointFault.TheVariants.{NoCells, PlaneAndCsv, NoWidth, NoHeight, SizeWithCsv, CsvNotIndexed, TwoPalettes, NoOut, ReadAndWrite, NoCsv, PricesBesideCells, PricesApart, PricesNotPal8}

-- ---- what is wrong with an option: @ is its name, # its value

unfoldable pub fault_line : Fault → List ℕ
fault_line UnknownOption = bytes_of "@ is no option (--help lists the options)\n"
fault_line NoValue = bytes_of "@ has no value (--help lists the options)\n"
fault_line NoNumber = bytes_of "@: '#' is no number from 0 to 4294967295\n"
fault_line UnknownFormat = bytes_of "@: '#' is none of Rgba, Rgb24, Bgra, Bgr24, Rgb555, Rgb565, Pal8, Indexed4, Indexed2, Indexed1\n"
fault_line NotMasks = bytes_of "@: '#' is no list D,R,G,B,A of a depth from 0 to 65535 and four masks from 0 to 4294967295\n"
fault_line NotCalibrated = bytes_of "@: '#' is no list of nine endpoints from -2147483648 to 2147483647 and three gammas from 0 to 4294967295\n"
fault_line NoStride = bytes_of "@: '#' is no number from 0 to 1152921504606846975\n"
fault_line TakesNoValue = bytes_of "@ takes no value, and is given '#'\n"
fault_line WordBehind = bytes_of "@ is followed by '#': the command takes options only\n"
fault_line NoLimit = bytes_of "@: '#' is no number of bytes from 0 to 4294967295\n"
fault_line NoPels = bytes_of "@: '#' is no pair X,Y of pixels a metre from 0 to 2147483647\n"

-- the message of words that begin with an option, where it is not understood
unfoldable pub fault_text : List ℕ → List ℕ → Option Fault → List ℕ
fault_text name value None = []
fault_text name value (Some fault) = filled name value [] [] (fault_line fault)

abbrev pub fault_text_at : List (List ℕ) → List ℕ
fault_text_at ws = fault_text (up_to 61 (first ws)) (value_in ws) (fault_at ws)

-- ---- what is missing, or does not go together

-- a fault that was found before, or else this one where the test holds
unfoldable pub first_found : Option JointFault → Bool → JointFault → Option JointFault
first_found None test fault = cond test (Some fault) None
first_found (Some found) test fault = Some found

-- whether one of n options from a number on is given
unfoldable pub one_given : ℕ → ℕ → List (List ℕ) → Bool
one_given from zero ws = false
one_given from (suc n) ws = one_given from n ws || is_given (from + n) ws

-- and one of those from a name to another
abbrev pub one_from : String → String → List (List ℕ) → Bool
one_from first last ws = one_given (numbered first) (numbered last + 1 - numbered first) ws

-- whether prices are given, and all three files of them
unfoldable pub some_prices : List (List ℕ) → Bool
some_prices ws = one_from "--edges" "--highs" ws

unfoldable pub all_prices : List (List ℕ) → Bool
all_prices ws = is_given (numbered "--edges") ws && (is_given (numbered "--lows") ws && is_given (numbered "--highs") ws)

-- of a command that writes: the first that applies. First what the cells come from
unfoldable pub cells_fault : List (List ℕ) → Option JointFault
cells_fault ws =
    let plane = is_given (numbered "--plane") ws in
    let csv = is_given (numbered "--csv") ws in
    let prices = some_prices ws in
    let a = first_found None (not (plane || (csv || prices))) NoCells in
    let b = first_found a (plane && csv) PlaneAndCsv in
    let c = first_found b (prices && (plane || csv)) PricesBesideCells in
    first_found c (prices && not (all_prices ws)) PricesApart

-- and then the rest; Pal8 alone has 8 bits a cell
unfoldable pub write_fault : List (List ℕ) → Option JointFault
write_fault ws =
    let csv = is_given (numbered "--csv") ws in
    let prices = some_prices ws in
    let raw = is_given (numbered "--plane") ws || prices in
    let size = is_given (numbered "--width") ws || (is_given (numbered "--height") ws || is_given (numbered "--stride") ws) in
    let a = first_found (cells_fault ws) (raw && not (is_given (numbered "--width") ws)) NoWidth in
    let b = first_found a (raw && not (is_given (numbered "--height") ws)) NoHeight in
    let c = first_found b (csv && size) SizeWithCsv in
    let d = first_found c (csv && not (is_indexed (format_asked ws))) CsvNotIndexed in
    let e = first_found d (prices && not (eqb (bits_per_pixel (format_asked ws)) 8)) PricesNotPal8 in
    let f = first_found e (is_given (numbered "--palette") ws && is_given (numbered "--sample-palette") ws) TwoPalettes in
    first_found f (not (is_given (numbered "--out") ws)) NoOut

-- whether a word says how to write: all options do but --csv, --read, help and the version
unfoldable pub asks_writing : List (List ℕ) → Bool
asks_writing ws =
    one_from "--top-down" "--sample-palette" ws || (one_from "--format" "--plane" ws || (one_from "--palette" "--out" ws || some_prices ws))

-- of a command that reads: the first that applies, as above
unfoldable pub read_fault : List (List ℕ) → Option JointFault
read_fault ws =
    let a = first_found None (asks_writing ws) ReadAndWrite in
    first_found a (not (is_given (numbered "--csv") ws)) NoCsv

unfoldable pub joint_fault : List (List ℕ) → Option JointFault
joint_fault ws = cond (is_given (numbered "--read") ws) (read_fault ws) (write_fault ws)

unfoldable pub joint_line : JointFault → List ℕ
joint_line NoCells = bytes_of "--plane FILE or --csv FILE is missing, or --edges, --lows and --highs (--help lists the options)\n"
joint_line PlaneAndCsv = bytes_of "--plane and --csv are both given\n"
joint_line NoWidth = bytes_of "--width N is missing\n"
joint_line NoHeight = bytes_of "--height N is missing\n"
joint_line SizeWithCsv = bytes_of "--csv takes width, height and stride from the sheet\n"
joint_line CsvNotIndexed = bytes_of "--csv is for Pal8, Indexed4, Indexed2 and Indexed1 alone\n"
joint_line TwoPalettes = bytes_of "--palette and --sample-palette are both given\n"
joint_line NoOut = bytes_of "--out FILE is missing\n"
joint_line ReadAndWrite = bytes_of "--read goes with --csv FILE alone\n"
joint_line NoCsv = bytes_of "--csv FILE is missing\n"
joint_line PricesBesideCells = bytes_of "--edges, --lows and --highs stand in place of --plane and --csv\n"
joint_line PricesApart = bytes_of "--edges, --lows and --highs go together\n"
joint_line PricesNotPal8 = bytes_of "--edges, --lows and --highs are for Pal8 alone\n"

unfoldable pub joint_text : JointFault → List ℕ
joint_text fault = filled [] [] [] [] (joint_line fault)

-- the message of what is found; none where nothing is
unfoldable pub joint_text_of : Option JointFault → List ℕ
joint_text_of None = []
joint_text_of (Some fault) = joint_text fault

-- ---- help, and the version

unfoldable pub help_lines : List (List ℕ)
help_lines =
    map bytes_of
    ("Usage: bmp_writer --plane FILE --width N --height N [OPTION ..] --out FILE"
    ∷ "       bmp_writer --csv FILE [OPTION ..] --out FILE"
    ∷ "       bmp_writer --edges FILE --lows FILE --highs FILE --width N --height N [OPTION ..] --out FILE"
    ∷ "       bmp_writer --read FILE --csv OUT"
    ∷ ""
    ∷ "Encodes a raw plane, the indices of a sheet or the shades of prices as a BMP file, and prints its format,"
    ∷ "its bytes and the checksum of `cksum`. The exit status is 0, or 1 where the picture is refused, or 2 where"
    ∷ "the command is not understood or a file cannot be read or written; FILE is then as it was."
    ∷ ""
    ∷ "  --plane FILE            rows from the top; - is standard input"
    ∷ "  --width N, --height N   cells in a row, and rows"
    ∷ "  --stride N              bytes, or prices, from one row to the next [a row's]"
    ∷ "  --more-follows          the plane may be longer than stride times height"
    ∷ "  --csv FILE              in place of these: rows of indices, as a spreadsheet saves them"
    ∷ "  --edges FILE            in place of --plane: the edges of the shades, 1 to 254 rising prices; this file and"
    ∷ "                          the next two are doubles of 8 bytes, low byte first"
    ∷ "  --lows FILE             the lowest price of each cell, rows from the top"
    ∷ "  --highs FILE            the highest; the cell's index is the count of edges at or below it, or 255 where the"
    ∷ "                          lowest has another count"
    ∷ "  --format NAME           Rgba, Rgb24, Bgra, Bgr24, Rgb555, Rgb565, Pal8, Indexed4, Indexed2 or Indexed1 [Pal8]"
    ∷ "  --palette FILE          red, green, blue, alpha of each entry, a byte each"
    ∷ "  --sample-palette        256 entries from dark violet to yellow"
    ∷ "  --out FILE              the file to write; - is standard output"
    ∷ "  --top-down              rows from the top, and no RLE"
    ∷ "  --minimal-palette       a colour table as long as the palette"
    ∷ "  --no-rle                stored rows even where RLE is shorter"
    ∷ "  --bitfields D,R,G,B,A   cells of D bits (16 or 32) with these masks"
    ∷ "  --calibrated-rgb LIST   nine endpoints and three gammas, as the header has them"
    ∷ "  --icc FILE              a colour profile to embed"
    ∷ "  --linked-icc FILE       a linked profile's bytes, taken before an embedded one"
    ∷ "  --no-embed-icc          --icc is not written"
    ∷ "  --rendering-intent N    of a file with a profile [4]"
    ∷ "  --limit BYTES           the most that the file may have, up to 4294967295 [4294967295]"
    ∷ "  --pels X,Y              pixels a metre across and down: dots an inch times 10000 / 254, rounded, 2835 for 72"
    ∷ "                          and 3780 for 96 [2835,2835]"
    ∷ "  --read FILE             a BMP file, whose cells go to OUT: an index, or red, green, blue and alpha each"
    ∷ "  --help, -h, --version"
    ∷ ""
    ∷ "A value is the next word, or follows a = as in --width=200; -- may end the options. Numbers are decimal, or"
    ∷ "hexadecimal after 0x; LIST has commas. Of an option given twice the last counts."
    ∷ ""
    ∷ [])

unfoldable pub help_text : List ℕ
help_text = filled [] [] [] [] (joined 10 help_lines)

unfoldable pub version_text : List ℕ
version_text = filled [] [] [] [] (bytes_of "bmp_writer 1.0.0\n")

unfoldable pub asks_help : List (List ℕ) → Bool
asks_help ws = is_given (numbered "--help") ws || is_given (numbered "-h") ws

-- ---- the words as a whole: an option that is not understood comes first, then help, the version, and what is missing

-- 0 done, 2 not understood, 3 the command is to be run
unfoldable pub check_status : List (List ℕ) → ℕ
check_status ws =
    cond (is_none (first_fault ws)) (cond (asks_help ws) 0 (cond (is_given (numbered "--version") ws) 0 (cond (is_some (joint_fault ws)) 2 3))) 2

unfoldable pub check_text : List (List ℕ) → List ℕ
check_text ws =
    cond (is_none (first_fault ws))
    (cond (asks_help ws) help_text (cond (is_given (numbered "--version") ws) version_text (joint_text_of (joint_fault ws))))
    (fault_text_at (first_fault ws))

-- ---- the files: 0 the plane, 1 the sheet, 2 the palette, 3 the embedded and 4 the linked profile, 5 the file to write,
-- 6 the file to read, whose sheet goes to 1, 7 the edges, 8 the lows and 9 the highs of prices

-- a profile that will not be written is not read
unfoldable pub is_skipped : ℕ → List (List ℕ) → Bool
is_skipped file ws = eqb file 3 && (is_given (numbered "--no-embed-icc") ws || is_given (numbered "--linked-icc") ws)

unfoldable pub file_named : ℕ → List (List ℕ) → List ℕ
file_named file ws = cond (ltb 9 file) [] (cond (is_skipped file ws) [] (value_of (numbered "--plane" + file) ws))
