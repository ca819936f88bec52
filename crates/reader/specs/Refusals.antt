-- Document 02, A.1: the numbers 17, 18, 15 and 19, one predicate each in its own words, and the first that applies.
use Rattle.std.specs.Prelude.{ℕ, zero, suc, ◌+◌, ◌-◌, ◌*◌, ◌^◌, Bool, true, false, not, cond, ◌&&◌, ◌||◌, List, [], ◌∷◌, ltb, leb, eqb, length, drop, ⊤, Result, Ok, Err}
use Rattle.leaves.specs.Masks.{bitfields_rows}
use Rattle.leaves.specs.Refusals.{first_number}
use Rattle.format.specs.Decode.{data_read}
use Rattle.format.specs.Readers.{Fields, fields_of, word_at, dword_at, shown_height, row_length}
use Rattle.reader.specs.declared.refusal.ReadRefusal.{ReadRefusal}
use Rattle.reader.specs.declared.refusal.ReadRefusal.TheVariants.{NeverWritten, OutsideFile, BufferTooShort, StreamFails}
use Rattle.reader.specs.Numbers.{head_bytes_of, table_bytes_of, cell_count, profile_bytes_of, profile_at_of}

-- ---- 17: what the writer never writes. "each test made only where every field it needs lies whole in the file": in a file of n bytes

-- 'BM'
abbrev pub strange_mark : ℕ → ℕ → Bool
strange_mark n mark = leb 2 n && not (eqb mark 0x4D42)

abbrev pub strange_header : ℕ → ℕ → Bool
strange_header n size = leb 18 n && not (eqb size 40 || eqb size 108 || eqb size 124)

-- "width below 1": a LONG
abbrev pub no_width : ℕ → ℕ → Bool
no_width n width = leb 22 n && (eqb width 0 || leb 2147483648 width)

abbrev pub no_height : ℕ → ℕ → Bool
no_height n height = leb 26 n && eqb height 0

abbrev pub strange_depth : ℕ → ℕ → Bool
strange_depth n depth = leb 30 n && not (eqb depth 1 || eqb depth 2 || eqb depth 4 || eqb depth 8 || eqb depth 16 || eqb depth 24 || eqb depth 32)

abbrev pub strange_compression : ℕ → ℕ → Bool
strange_compression n c = leb 34 n && not (eqb c 0 || eqb c 1 || eqb c 2 || eqb c 3 || eqb c 6)

-- "pairing of the last two": RLE8 at 8 bits, RLE4 at 4, masks at 16 and 32
abbrev pub written_pair : ℕ → ℕ → Bool
written_pair c d = eqb c 0 || (eqb c 1 && eqb d 8) || (eqb c 2 && eqb d 4) || ((eqb c 3 || eqb c 6) && (eqb d 16 || eqb d 32))

abbrev pub strange_pair : ℕ → ℕ → ℕ → Bool
strange_pair n c d = leb 34 n && not (written_pair c d)

-- whether the pixels are a stream
abbrev pub is_coded : ℕ → Bool
is_coded c = eqb c 1 || eqb c 2

-- "height .., in RLE, negative"
abbrev pub negative_stream : ℕ → ℕ → ℕ → Bool
negative_stream n c height = leb 34 n && is_coded c && leb 2147483648 height

-- "a colour count over 2^depth in an indexed file"
abbrev pub many_colours : ℕ → ℕ → ℕ → Bool
many_colours n depth colours = leb 50 n && leb depth 8 && ltb (2 ^ depth) colours

-- "masks that 7 to 10 refuse": the rows of the mask check behind its first, which is 6
abbrev pub refused_masks : ℕ → List ℕ → Bool
refused_masks depth masks = not (eqb (first_number (drop 1 (bitfields_rows depth masks))) 0)

-- "for compression 3 and 6 only", of the masks from byte 54 on, "for 6 with the alpha mask at bytes 66 to 69"
unfoldable pub masks_of : List ℕ → ℕ → List ℕ
masks_of file c = dword_at file 54 ∷ dword_at file 58 ∷ dword_at file 62 ∷ cond (eqb c 6) (dword_at file 66) 0 ∷ []

-- where the masks end
abbrev pub masks_end : ℕ → ℕ
masks_end c = cond (eqb c 6) 70 66

abbrev pub strange_masks : List ℕ → ℕ → ℕ → Bool
strange_masks file c depth = (eqb c 3 || eqb c 6) && leb (masks_end c) (length file) && refused_masks depth (masks_of file c)

abbrev pub strange_sizes : ℕ → ℕ → Fields → Bool
strange_sizes n mark t = strange_mark n mark || strange_header n t.header_size_of || no_width n t.width || no_height n t.height

abbrev pub strange_kind : ℕ → Fields → Bool
strange_kind n t =
    strange_depth n t.depth
    || strange_compression n t.compression
    || strange_pair n t.compression t.depth
    || negative_stream n t.compression t.height
    || many_colours n t.depth t.colours

-- 17
unfoldable pub never_written : List ℕ → Bool
never_written file =
    strange_sizes (length file) (word_at file 0) (fields_of file)
    || strange_kind (length file) (fields_of file)
    || strange_masks file (fields_of file).compression (fields_of file).depth

-- ---- 18: "a byte of a header, mask, table, plain row or profile lies outside the file", which has n bytes

-- the shortest header ends at byte 54
abbrev pub header_outside : ℕ → Fields → Bool
header_outside n t = ltb n 54 || ltb n (head_bytes_of t)

abbrev pub masks_outside : ℕ → Fields → Bool
masks_outside n t = (eqb t.compression 3 || eqb t.compression 6) && ltb n (masks_end t.compression)

abbrev pub table_outside : ℕ → Fields → Bool
table_outside n t = ltb n (head_bytes_of t + table_bytes_of t)

-- the head: header, masks and table
abbrev pub head_outside : ℕ → Fields → Bool
head_outside n t = header_outside n t || masks_outside n t || table_outside n t

-- whole stored rows, with their padding
abbrev pub rows_outside : ℕ → Fields → Bool
rows_outside n t = not (is_coded t.compression) && ltb n (t.offset + shown_height t * row_length t.width t.depth)

-- a profile of size 0 has no byte, wherever it is said to lie
abbrev pub profile_outside : List ℕ → Bool
profile_outside file = ltb (length file) (profile_at_of file + profile_bytes_of file)

-- 18
unfoldable pub outside_file : List ℕ → Bool
outside_file file =
    head_outside (length file) (fields_of file) || rows_outside (length file) (fields_of file) || profile_outside file

-- ---- 15: "Lent buffers too short", of so many bytes and numbers

abbrev pub buffers_too_short : Fields → ℕ → ℕ → ℕ → Bool
buffers_too_short t head table cells = ltb head (head_bytes_of t) || ltb table (table_bytes_of t) || ltb cells (cell_count t)

-- ---- 19: "the stream steps over a row's end, ends a row early, uses a delta code or ends before the last cell"

-- whether the last cell is filled, where `above` rows are above the present one, which has room for `room` cells: "Nothing after the last cell of a
-- stream is read"
abbrev pub last_filled : ℕ → ℕ → Bool
last_filled zero zero = true
last_filled zero (suc room) = false
last_filled (suc above) room = false

-- of a code, by its first byte and the bytes behind it; `next` says it of the rows and the room that are then left, and of how many of those bytes are the code's
abbrev pub code_stops : ℕ → ℕ → ℕ → ℕ → ℕ → List ℕ → (ℕ → ℕ → ℕ → Bool) → Bool
-- it ends before the last cell
code_stops d w above room first [] next = true
-- a pair steps over the row's end
code_stops d w above room (suc n) (value ∷ bs) next = ltb room (suc n) || next above (room - suc n) 1
-- 00 00 ends a row early, or goes to the row above
code_stops d w above room zero (zero ∷ bs) next = not (eqb room 0) || next (above - 1) w 1
-- 00 01 ends before the last cell
code_stops d w above room zero (suc zero ∷ bs) next = true
-- 00 02 is a delta code
code_stops d w above room zero (suc (suc zero) ∷ bs) next = true
-- a block steps over the row's end, or ends before its own cells
code_stops d w above room zero (suc (suc (suc n)) ∷ bs) next =
    ltb room (suc (suc (suc n))) || (ltb (length bs * 8) (suc (suc (suc n)) * d) || next above (room - suc (suc (suc n))) (suc (data_read d (suc (suc (suc n))))))

-- of the bytes from a place on, of which `skip` belong to a code that was read
unfoldable pub stops : ℕ → ℕ → ℕ → ℕ → List ℕ → ℕ → Bool
stops d w above room [] skip = not (last_filled above room)
stops d w above room (b ∷ bs) (suc skip) = cond (last_filled above room) false (stops d w above room bs skip)
stops d w above room (b ∷ bs) zero = cond (last_filled above room) false (code_stops d w above room b bs (λ a r skip. stops d w a r bs skip))

-- 19
unfoldable pub stream_fails : List ℕ → Bool
stream_fails file =
    let t = fields_of file in
    is_coded t.compression && stops t.depth t.width (shown_height t - 1) t.width (drop t.offset file) 0

-- ---- the numbers, and "The order is 17, 18, 15, 19"

abbrev pub number_of : ReadRefusal → ℕ
number_of NeverWritten = 17
number_of OutsideFile = 18
number_of BufferTooShort = 15
number_of StreamFails = 19

-- of an answer that is no more than that: 0 where nothing is refused
abbrev pub answer_number : Result ⊤ ReadRefusal → ℕ
answer_number (Ok _) = 0
answer_number (Err why) = number_of why

-- 17 and 18, of the file alone
unfoldable pub open_rows : List ℕ → List (Bool × ℕ)
open_rows file = (never_written file, 17) ∷ (outside_file file, 18) ∷ []

unfoldable pub read_rows : List ℕ → ℕ → ℕ → ℕ → List (Bool × ℕ)
read_rows file head table cells =
    (never_written file, 17) ∷ (outside_file file, 18) ∷ (buffers_too_short (fields_of file) head table cells, 15) ∷ (stream_fails file, 19) ∷ []
