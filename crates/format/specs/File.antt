-- The file that an accepted call appends (document 01, The plan and Cells), its sizes, its bound and its format.
use Rattle.std.specs.Prelude.{ℕ, ◌+◌, ◌-◌, ◌*◌, min, max, Bool, cond, ◌&&◌, List, [], ◌∷◌, ◌++◌, ltb, leb, eqb, length, get_or}
use Rattle.std.specs.Int.{w32}
use Rattle.std.proofs.Common.{of_z}
use Rattle.leaves.specs.declared.encoder.EncodedBmpFormat.{EncodedBmpFormat}
use Rattle.leaves.specs.declared.encoder.EncodedBmpFormat.TheVariants.{Rle8, Rle4}
use Rattle.leaves.specs.Formats.{bits_per_pixel}
use Rattle.leaves.specs.Lists.{cat}
use Rattle.leaves.specs.Sizes.{clr_used_of}
use Rattle.rows.specs.declared.pack.RowPack.{RowPack}
use Rattle.rows.specs.StoredRows.{stored_rows}
use Rattle.rows.specs.Stream.{stream}
use Rattle.format.specs.declared.layout.Mode.{Mode}
use Rattle.format.specs.Headers.{file_header, info_header}
use Rattle.format.specs.Input.{Input}
use Rattle.format.specs.Layout.{mode_of, tail_in, depth_of, pack_of, table_entries, header_size_of, head_rest, head_len, raw_len, rows_compression, rows_format, wants_rle}

-- ---- what a call's source and options decide

abbrev pub mode_in : Input → Mode
mode_in i = mode_of i.source i.options

abbrev pub depth_in : Input → ℕ
depth_in i = depth_of i.source i.options

abbrev pub pack_in : Input → RowPack
pack_in i = pack_of i.source i.options

abbrev pub rle_planned : Input → Bool
rle_planned i = wants_rle i.source i.options

abbrev pub raw_bytes : Input → ℕ
raw_bytes i = raw_len i.source i.options

abbrev pub entries_of : Input → ℕ
entries_of i = table_entries i.source.format (length i.palette) i.options.minimal_palette

abbrev pub head_bytes_of : Input → ℕ
head_bytes_of i = head_len i.source i.options (length i.palette)

-- the profile
abbrev pub tail_of : Input → List ℕ
tail_of i = tail_in (mode_in i) i.source.has_linked_icc i.icc i.linked

-- ---- the pixels

-- the stream of the plane
unfoldable pub stream_of : Input → List ℕ
stream_of i = stream (bits_per_pixel i.source.format) i.source.width i.source.height i.plane i.source.stride

-- the largest file that bfSize can record
abbrev pub max_file : ℕ
max_file = 4294967295

-- Document 02, A.5: "The file limit .. become parameters in the options record": the bytes that this call's file may have
abbrev pub limit_in : Input → ℕ
limit_in i = i.options.limit

-- "Budget = min(raw bytes, 4,294,967,296 − head)"; A.5: "limit + 1 replaces 4,294,967,296 in the budget, held at 0 where the head is longer", which a
-- difference of naturals is
unfoldable pub budget : ℕ → Input → ℕ
budget limit i = min (raw_bytes i) (limit + 1 - head_bytes_of i)

-- "The stream is used exactly if its whole counted length is under the budget"
unfoldable pub stream_used : ℕ → Input → Bool
stream_used limit i = rle_planned i && ltb (length (stream_of i)) (budget limit i)

-- the stored rows of the plane
unfoldable pub stored_rows_of : Input → List ℕ
stored_rows_of i = stored_rows (pack_in i) i.source.width i.source.height i.options.top_down i.plane i.source.stride

-- what stands behind the head: the stream where it is used, and else the stored rows
unfoldable pub pixels : ℕ → Input → List ℕ
pixels limit i = cond (stream_used limit i) (stream_of i) (stored_rows_of i)

-- ---- the head

-- RGBQUAD; "table entries go blue, green, red, 0, and missing ones are zero"
unfoldable pub table_entry : List ℕ → ℕ → List ℕ
table_entry palette k = get_or palette (k * 4 + 2) 0 ∷ get_or palette (k * 4 + 1) 0 ∷ get_or palette (k * 4) 0 ∷ 0 ∷ []

-- behind the info header and its masks
unfoldable pub colour_table : Input → List ℕ
colour_table i = cat (table_entry i.palette) (entries_of i)

-- "Stored height is the height, negated for top-down": a LONG's 32 bits
abbrev pub stored_height_of : Input → ℕ
stored_height_of i = cond i.options.top_down (4294967296 - i.source.height) i.source.height

-- the compression of the pixels
unfoldable pub compression_of : ℕ → Input → ℕ
compression_of limit i = cond (stream_used limit i) (cond (eqb (bits_per_pixel i.source.format) 8) 1 2) (rows_compression i.source i.options)

-- Document 02, A.2: "RLE files and mask files now carry the pixel bytes as stored". Document 01's "Image size is 0 in every 40-byte header and the
-- raw bytes in the others" holds for compression 0 only.
unfoldable pub image_size_of : ℕ → Input → ℕ
image_size_of limit i =
    cond (eqb (compression_of limit i) 0) (cond (eqb (header_size_of (mode_in i) i.source.format) 40) 0 (raw_bytes i)) (length (pixels limit i))

-- A.5: "both resolutions become parameters", which are 2835 in document 01: biXPelsPerMeter and biYPelsPerMeter, each a LONG's 32 bits
abbrev pub x_pels_in : Input → ℕ
x_pels_in i = of_z w32 i.options.x_pels_per_meter

abbrev pub y_pels_in : Input → ℕ
y_pels_in i = of_z w32 i.options.y_pels_per_meter

-- all bytes before the pixels, of a file with this compression, image size, resolution and size; a profile stands behind the raw bytes
unfoldable pub head_of : Input → ℕ → ℕ → ℕ → ℕ → ℕ → List ℕ
head_of i compression image_size_of x_pels y_pels file_size_of =
    file_header file_size_of (head_bytes_of i)
    ++ info_header (header_size_of (mode_in i) i.source.format) i.source.width (stored_height_of i) (depth_in i) compression image_size_of x_pels y_pels
    (clr_used_of (depth_in i) (entries_of i))
    ++ head_rest (mode_in i) i.source i.options (length (tail_of i)) (head_bytes_of i - 14 + raw_bytes i)
    ++ colour_table i

-- ---- the file

-- bfSize, and the bytes that are reported
unfoldable pub file_size_of : ℕ → Input → ℕ
file_size_of limit i = head_bytes_of i + length (pixels limit i) + length (tail_of i)

-- "The head is everything before the pixels"; "profile after the pixels"
unfoldable pub file_of : ℕ → Input → List ℕ
file_of limit i = head_of i (compression_of limit i) (image_size_of limit i) (x_pels_in i) (y_pels_in i) (file_size_of limit i) ++ pixels limit i ++ tail_of i

-- ---- bound and format

-- the file without a stream
unfoldable pub plain_size_of : Input → ℕ
plain_size_of i = head_bytes_of i + raw_bytes i + length (tail_of i)

-- "Bound: without RLE, the file's size; with it, head + max(budget + 2 × width + 2, raw bytes if the plain file fits, else 0)"
unfoldable pub bound_of : ℕ → Input → ℕ
bound_of limit i =
    cond (rle_planned i) (head_bytes_of i + max (budget limit i + 2 * i.source.width + 2) (cond (leb (plain_size_of i) limit) (raw_bytes i) 0)) (plain_size_of i)

-- ".. but Rle8 or Rle4 where a stream is used"
unfoldable pub format_of : ℕ → Input → EncodedBmpFormat
format_of limit i = cond (stream_used limit i) (cond (eqb (bits_per_pixel i.source.format) 8) Rle8 Rle4) (rows_format i.source i.options)
