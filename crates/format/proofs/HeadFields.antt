-- What the readers take from the first 54 bytes of a file, and where its pixels begin.
use mathlib.Core.Path.{◌≡◌, refl, ◌∙◌}
use mathlib.Core.Logic.{◌⊎◌}
use mathlib.Core.Bool.{Bool, true, false, cond}
use mathlib.Core.List.{List, ◌++◌, append_assoc}
use Prim.Native.Nat.{ℕ, ◌+◌, ◌-◌, ◌*◌, ◌/◌, ◌%◌, ◌≤◌, ◌<◌}
use native.Mathlib.Omega.{arith}
use borrow.Author.Tests.{ltb-true}
use lib.Dec.{ltb, eqb}
use lib.ListN.{length, drop, length-append}
use lib.Seq.{drop_at}
use Rattle.std.proofs.Common.{is_some}
use Rattle.leaves.specs.declared.encoder.EncodeSource.{EncodeSource}
use Rattle.leaves.specs.declared.options.EncodeOptions.{EncodeOptions}
use Rattle.leaves.specs.declared.image.BmpPixelFormat.{BmpPixelFormat}
use Rattle.leaves.specs.declared.image.BmpPixelFormat.TheVariants.{Rgba, Rgb24, Bgra, Bgr24, Rgb555, Rgb565, Pal8, Indexed4, Indexed2, Indexed1}
use Rattle.leaves.specs.Bytes.{le16, le32}
use Rattle.format.specs.File.{mode_in, depth_in, raw_bytes, entries_of, head_bytes_of, tail_of, limit_in, stream_used, pixels, table_entry, colour_table, stored_height_of, compression_of, image_size_of, x_pels_in, y_pels_in, head_of, file_size_of, file_of}
use Rattle.format.specs.Layout.{depth_of, header_size_of, head_rest, head_len, rows_compression}
use Rattle.leaves.specs.Formats.{bits_per_pixel, is_rgb565}
use Rattle.format.specs.declared.layout.Mode.{Mode}
use Rattle.format.specs.declared.layout.Mode.TheVariants.{Masked, Calibrated, Profiled, Plain}
use Rattle.format.proofs.FileSizes.{masked_depth}
use Rattle.leaves.specs.Masks.{has_alpha_mask}
use Rattle.leaves.specs.Sizes.{palette_entry_count, clr_used_of}
use Rattle.format.specs.Headers.{file_header, info_header, v5_fields}
use Rattle.format.specs.Input.{Input}
use Rattle.format.specs.Accepted.{Accepted}
use Rattle.format.specs.Readers.{word_at, dword_at, Fields, fields_of}
use Rattle.leaves.proofs.ListLaws.{length-cat}
use Rattle.leaves.proofs.TableCounts.{entries_le}
use Rattle.leaves.specs.Options.{bitfields_in}

-- ---- numbers

-- four bytes, low byte first, are the number again
pub dword_bytes : (v : ℕ) → v < 4294967296
    → v % 256 + 256 * (v / 256 % 256) + 65536 * (v / 256 / 256 % 256 + 256 * (v / 256 / 256 / 256 % 256)) ≡ v
dword_bytes v h = omega arith

-- two bytes, low byte first, are the number again
word_bytes : (v : ℕ) → v < 65536 → v % 256 + 256 * (v / 256 % 256) ≡ v
word_bytes v h = omega arith

-- ---- the first 54 bytes

-- the fields of any two headers, whatever follows them
first_fields_lem : (size off hs w h d c im x y n : ℕ) (rest : List ℕ) → off < 4294967296 → hs < 4294967296 → w < 4294967296 → h < 4294967296 → d < 65536
    → c < 4294967296 → n < 4294967296
    → fields_of ((file_header size off ++ info_header hs w h d c im x y n) ++ rest)
    ≡ record { offset = off; header_size_of = hs; width = w; height = h; depth = d; compression = c; colours = n }
unfolding file_header info_header le32 le16 fields_of dword_at word_at
first_fields_lem size off hs w h d c im x y n rest a b e g i j k = λ z. record {
  offset = dword_bytes off a z;
  header_size_of = dword_bytes hs b z;
  width = dword_bytes w e z;
  height = dword_bytes h g z;
  depth = word_bytes d i z;
  compression = dword_bytes c j z;
  colours = dword_bytes n k z;
}

-- ---- the numbers are small

-- a choice of two small numbers is small
pub choice_le : (b : Bool) (x y n : ℕ) → x ≤ n → y ≤ n → cond b x y ≤ n
choice_le true x y n h k = h
choice_le false x y n h k = k

-- a header has at most 124 bytes
pub header_le : (m : Mode) (f : BmpPixelFormat) → header_size_of m f ≤ 124
header_le Masked f = omega arith
header_le Calibrated f = omega arith
header_le Profiled f = omega arith
header_le Plain f = choice_le (is_rgb565 f) 108 40 124 (omega arith) (omega arith)

-- a compression is at most 6
compression_le : (i : Input) → compression_of (limit_in i) i ≤ 6
unfolding compression_of rows_compression
compression_le i =
    choice_le (stream_used (limit_in i) i) _ _ 6 (choice_le (eqb (bits_per_pixel i.source.format) 8) 1 2 6 (omega arith) (omega arith))
    (choice_le (is_some i.options.bitfields) _ _ 6 (choice_le (has_alpha_mask (bitfields_in i.options).masks) 6 3 6 (omega arith) (omega arith))
    (choice_le (is_rgb565 i.source.format) 3 0 6 (omega arith) (omega arith)))

-- a stored height has 32 bits
height_lt : (down : Bool) (h : ℕ) → 0 < h → h < 2147483648 → cond down (4294967296 - h) h < 4294967296
height_lt true h a b = omega arith
height_lt false h a b = omega arith

-- a source's depth is at most 32
bits_le : (f : BmpPixelFormat) → bits_per_pixel f ≤ 32
bits_le Rgba = omega arith
bits_le Rgb24 = omega arith
bits_le Bgra = omega arith
bits_le Bgr24 = omega arith
bits_le Rgb555 = omega arith
bits_le Rgb565 = omega arith
bits_le Pal8 = omega arith
bits_le Indexed4 = omega arith
bits_le Indexed2 = omega arith
bits_le Indexed1 = omega arith

-- an accepted depth is at most 32
pub depth_le : (s : EncodeSource) (o : EncodeOptions) → (is_some o.bitfields ≡ true → ((bitfields_in o).bpp ≡ 16) ⊎ ((bitfields_in o).bpp ≡ 32)) → depth_of s o ≤ 32
unfolding depth_of
depth_le s o deep = go (is_some o.bitfields) deep
  where
    go : (b : Bool) → (b ≡ true → ((bitfields_in o).bpp ≡ 16) ⊎ ((bitfields_in o).bpp ≡ 32)) → cond b (bitfields_in o).bpp (bits_per_pixel s.format) ≤ 32
    go true d = masked_depth (bitfields_in o).bpp (d refl)
    go false d = bits_le s.format

-- the count of colours is at most 256
colours_le : (depth entries : ℕ) → clr_used_of depth entries ≤ 256
unfolding clr_used_of
colours_le depth entries = go (ltb entries (palette_entry_count depth)) refl
  where
    go : (b : Bool) → ltb entries (palette_entry_count depth) ≡ b → cond b entries 0 ≤ 256
    go true e = omega (arith, ltb-true entries (palette_entry_count depth) e, entries_le depth)
    go false e = omega arith

-- the head is no longer than the file
head_le : (i : Input) → Accepted i → head_bytes_of i ≤ 4294967295
unfolding file_size_of
head_le i a = omega (arith, a.fits, a.limited)

-- ---- the parts

-- the two headers, of a file of n bytes
abbrev pub first_part : Input → ℕ → List ℕ
first_part i n =
    file_header n (head_bytes_of i)
    ++ info_header (header_size_of (mode_in i) i.source.format) i.source.width (stored_height_of i) (depth_in i) (compression_of (limit_in i) i)
    (image_size_of (limit_in i) i) (x_pels_in i) (y_pels_in i) (clr_used_of (depth_in i) (entries_of i))

-- what stands between them and the table
abbrev pub rest_part : Input → List ℕ
rest_part i = head_rest (mode_in i) i.source i.options (length (tail_of i)) (head_bytes_of i - 14 + raw_bytes i)

-- the file by its parts
pub file_parts : (i : Input)
    → file_of (limit_in i) i ≡ first_part i (file_size_of (limit_in i) i) ++ (rest_part i ++ (colour_table i ++ (pixels (limit_in i) i ++ tail_of i)))
unfolding file_of head_of
file_parts i = simp append_assoc

-- the file header has 14 bytes
pub length-file_header : (size off : ℕ) → length (file_header size off) ≡ 14
unfolding file_header le32 le16
length-file_header size off = refl

-- the first part of the info header has 40
pub length-info_header : (hs w h d c im x y n : ℕ) → length (info_header hs w h d c im x y n) ≡ 40
unfolding info_header le32 le16
length-info_header hs w h d c im x y n = refl

-- the two headers have 54 bytes
pub first-length : (i : Input) (n : ℕ) → length (first_part i n) ≡ 54
first-length i n = simp (length-append, length-file_header, length-info_header)

-- the bytes after the first 54 are as many whatever the profile
pub rest_length : (m : Mode) (s : EncodeSource) (o : EncodeOptions) (n at : ℕ) → length (head_rest m s o n at) ≡ length (head_rest m s o 0 0)
unfolding head_rest v5_fields le32
rest_length Masked s o n at = refl
rest_length Calibrated s o n at = refl
rest_length Profiled s o n at = simp length-append
rest_length Plain s o n at = refl

-- the table has four bytes for each entry
pub table_length : (i : Input) → length (colour_table i) ≡ 4 * entries_of i
unfolding colour_table table_entry
table_length i = length-cat (table_entry i.palette) 4 (entries_of i) (λ k l. refl) ∙ omega arith

-- the head's bytes by its parts
head_parts : (i : Input) (c im x y n : ℕ) → length (head_of i c im x y n) ≡ 54 + length (head_rest (mode_in i) i.source i.options 0 0) + 4 * entries_of i
unfolding head_of
head_parts i c im x y n =
    simp (length-append, rest_length (mode_in i) i.source i.options (length (tail_of i)) (head_bytes_of i - 14 + raw_bytes i), table_length i, length-file_header, length-info_header)

-- the head has as many bytes as the offset says
pub length_head : (i : Input) (c im x y n : ℕ) → length (head_of i c im x y n) ≡ head_bytes_of i
unfolding head_len
length_head i c im x y n = head_parts i c im x y n ∙ omega arith

-- the pixels stand where the head ends
pub pixels-at : (i : Input) → drop (head_bytes_of i) (file_of (limit_in i) i) ≡ pixels (limit_in i) i ++ tail_of i
unfolding file_of
pixels-at i =
    rw append_assoc
    (drop_at (head_of i (compression_of (limit_in i) i) (image_size_of (limit_in i) i) (x_pels_in i) (y_pels_in i) (file_size_of (limit_in i) i)) (pixels (limit_in i) i ++ tail_of i) (head_bytes_of i)
    (length_head i (compression_of (limit_in i) i) (image_size_of (limit_in i) i) (x_pels_in i) (y_pels_in i) (file_size_of (limit_in i) i)))

-- a call's file with this image size and these resolutions
abbrev pub file_with : ℕ → Input → ℕ → ℕ → ℕ → List ℕ
file_with limit i n x y = head_of i (compression_of limit i) n x y (file_size_of limit i) ++ pixels limit i ++ tail_of i

-- is as long as its size says
pub length_with : (limit : ℕ) (i : Input) (n x y : ℕ) → length (file_with limit i n x y) ≡ file_size_of limit i
unfolding file_size_of
length_with limit i n x y = simp (length-append, length_head i (compression_of limit i) n x y (file_size_of limit i)) (omega arith)

pub length_file : (i : Input) → length (file_of (limit_in i) i) ≡ file_size_of (limit_in i) i
unfolding file_of
length_file i = length_with (limit_in i) i (image_size_of (limit_in i) i) (x_pels_in i) (y_pels_in i)

-- ---- the file's fields

-- the fields as they are written
abbrev pub fields_in : Input → Fields
fields_in i =
    record {
      offset = head_bytes_of i;
      header_size_of = header_size_of (mode_in i) i.source.format;
      width = i.source.width;
      height = stored_height_of i;
      depth = depth_in i;
      compression = compression_of (limit_in i) i;
      colours = clr_used_of (depth_in i) (entries_of i);
    }

-- are the ones that the readers take
pub fields_read : (i : Input) → Accepted i → fields_of (file_of (limit_in i) i) ≡ fields_in i
fields_read i a =
    rw (file_parts i)
    (first_fields_lem (file_size_of (limit_in i) i) (head_bytes_of i) (header_size_of (mode_in i) i.source.format) i.source.width (stored_height_of i) (depth_in i)
    (compression_of (limit_in i) i) (image_size_of (limit_in i) i) (x_pels_in i) (y_pels_in i) (clr_used_of (depth_in i) (entries_of i))
    (rest_part i ++ (colour_table i ++ (pixels (limit_in i) i ++ tail_of i))) (omega (arith, head_le i a))
    (omega (arith, header_le (mode_in i) i.source.format)) (omega (arith, a.wide)) (height_lt i.options.top_down i.source.height a.some_height a.tall)
    (omega (arith, depth_le i.source i.options (λ e. (a.masks e).depths))) (omega (arith, compression_le i))
    (omega (arith, colours_le (depth_in i) (entries_of i))))
