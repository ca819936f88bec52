-- What the readers show of stored rows.
use mathlib.Core.Path.{◌≡◌, refl, sym, ap, ◌∙◌}
use mathlib.Core.Bool.{Bool, true, false, cond, ◌||◌}
use mathlib.Core.List.{List, ◌++◌}
use Prim.Native.Nat.{ℕ, suc, ◌+◌, ◌-◌, ◌*◌, ◌/◌, ◌≤◌, ◌<◌}
use native.Mathlib.Nat.{suc-mul, mul_comm}
use native.Mathlib.Omega.{arith}
use borrow.Author.Tests.{le-ltb}
use lib.Dec.{eqb}
use lib.ListN.{length, get_or, drop}
use lib.Seq.{drop-drop}
use Rattle.std.proofs.Common.{is_some}
use Rattle.leaves.specs.declared.image.BmpPixelFormat.{BmpPixelFormat}
use Rattle.leaves.specs.declared.image.BmpPixelFormat.TheVariants.{Rgba, Rgb24, Bgra, Bgr24, Rgb555, Rgb565, Pal8, Indexed4, Indexed2, Indexed1}
use Rattle.format.specs.File.{depth_in, pack_in, raw_bytes, head_bytes_of, tail_of, stream_of, limit_in, stream_used, stored_rows_of, pixels, compression_of, file_size_of, file_of}
use Rattle.format.specs.Layout.{depth_of, plain_pack, mask_pack, pack_of, raw_len, plain_compression, rows_compression}
use Rattle.leaves.specs.Formats.{bytes_per_pixel, bits_per_pixel, is_rgb565}
use Rattle.format.proofs.FileSizes.{pack_ok, length_rows_lem}
use Rattle.format.proofs.HeadFields.{pixels-at, length_file, fields_in, fields_read}
use Rattle.format.proofs.HeadTable.{palette_read}
use Rattle.format.proofs.HeadMasks.{ColourMasks, masks_read, alpha_read, rgb565_read}
use Rattle.leaves.specs.Masks.{has_alpha_mask, mask_compression}
use Rattle.leaves.specs.Sizes.{row_stride}
use Rattle.leaves.specs.Options.{bitfields_in}
use Rattle.rows.specs.StoredRows.{stored_row, stored_rows, pack_bits, pack_bytes, row_of, source_row}
use Rattle.format.specs.Accepted.{Accepted}
use Rattle.format.specs.Expectation.{pixel_bytes, handed, plainly_shown, fitted_shown, cell_shown, palette_shown, expected}
use Rattle.format.specs.Input.{Input}
use Rattle.format.specs.Readers.{shows, fields_of, top_first, shown_height, stored_at, no_cell_of, row_length, cell_word, rgb_cell, mask_cell, plain_cell_of, palette_of, pixel_needs, body}
use Rattle.format.specs.Shown.{Cell}
use Rattle.rows.proofs.AllRows.{row_at, length_row_at}
use Rattle.format.proofs.MaskedCells.{masked_cell}
use Rattle.format.proofs.Pictures.{top_first_lem, height_shown_lem, row_back, row_stored, some_cell, picture_shown}
use Rattle.format.proofs.PlainCells.{length_row, plain_cell, rgb565_cell}
use Rattle.format.proofs.SourceRows.{length_source, source_at, source_small, within, plainly_of, fitted_of, Begins, joined_at}

-- ---- formats

-- both counts of a pixel's source bytes
bytes-alike : (f : BmpPixelFormat) → bytes_per_pixel f ≡ pixel_bytes f
bytes-alike Rgba = refl
bytes-alike Rgb24 = refl
bytes-alike Bgra = refl
bytes-alike Bgr24 = refl
bytes-alike Rgb555 = refl
bytes-alike Rgb565 = refl
bytes-alike Pal8 = refl
bytes-alike Indexed4 = refl
bytes-alike Indexed2 = refl
bytes-alike Indexed1 = refl

plain-bytes : (f : BmpPixelFormat) → pack_bytes (plain_pack f) ≡ bytes_per_pixel f
plain-bytes Rgba = refl
plain-bytes Rgb24 = refl
plain-bytes Bgra = refl
plain-bytes Bgr24 = refl
plain-bytes Rgb555 = refl
plain-bytes Rgb565 = refl
plain-bytes Pal8 = refl
plain-bytes Indexed4 = refl
plain-bytes Indexed2 = refl
plain-bytes Indexed1 = refl

pub pack_bytes_lem : (i : Input) → pack_bytes (pack_in i) ≡ bytes_per_pixel i.source.format
unfolding pack_of
pack_bytes_lem i = go (is_some i.options.bitfields)
  where
    go : (b : Bool) → pack_bytes (cond b (mask_pack i.source.format (bitfields_in i.options).bpp (bitfields_in i.options).masks) (plain_pack i.source.format)) ≡ bytes_per_pixel i.source.format
    go true = refl
    go false = plain-bytes i.source.format

-- the cell that a reader takes from a row
abbrev cell_in : List ℕ → ℕ → ℕ → List ℕ → ℕ → Cell
cell_in file c d row x = cond (eqb c 0) (rgb_cell d row x) (mask_cell file c (cell_word d row x))

-- without masks, by the source
plain_shown : (f : BmpPixelFormat) (file source rest : List ℕ) (w x : ℕ) → (f ≡ Rgb565 → ColourMasks file 0xF800 0x07E0 0x001F)
    → length source ≡ w * bytes_per_pixel f → x < w
    → cell_in file (plain_compression f) (bits_per_pixel f) (stored_row (plain_pack f) w source ++ rest) x ≡ plainly_shown f (λ k. get_or source (x * pixel_bytes f + k) 0)
plain_shown Rgba file source rest w x m e l = plain_cell Rgba w source rest x refl e l
plain_shown Rgb24 file source rest w x m e l = plain_cell Rgb24 w source rest x refl e l
plain_shown Bgra file source rest w x m e l = plain_cell Bgra w source rest x refl e l
plain_shown Bgr24 file source rest w x m e l = plain_cell Bgr24 w source rest x refl e l
plain_shown Rgb555 file source rest w x m e l = plain_cell Rgb555 w source rest x refl e l
plain_shown Rgb565 file source rest w x m e l =
    rgb565_cell file w source rest x (m refl).red_mask (m refl).green_mask (m refl).blue_mask e l
plain_shown Pal8 file source rest w x m e l = plain_cell Pal8 w source rest x refl e l
plain_shown Indexed4 file source rest w x m e l = plain_cell Indexed4 w source rest x refl e l
plain_shown Indexed2 file source rest w x m e l = plain_cell Indexed2 w source rest x refl e l
plain_shown Indexed1 file source rest w x m e l = plain_cell Indexed1 w source rest x refl e l

-- with masks the compression is not 0
masked_code : (masks : List ℕ) → eqb (mask_compression masks) 0 ≡ false
masked_code masks = go (has_alpha_mask masks)
  where
    go : (b : Bool) → eqb (cond b 6 3) 0 ≡ false
    go true = refl
    go false = refl

-- and no row has a stream's
masked_rows : (masks : List ℕ) → (eqb (mask_compression masks) 1 || eqb (mask_compression masks) 2) ≡ false
masked_rows masks = go (has_alpha_mask masks)
  where
    go : (b : Bool) → (eqb (cond b 6 3) 1 || eqb (cond b 6 3) 2) ≡ false
    go true = refl
    go false = refl

plain_rows : (b : Bool) → (eqb (cond b 3 0) 1 || eqb (cond b 3 0) 2) ≡ false
plain_rows true = refl
plain_rows false = refl

-- ---- lengths

-- a row's cells are no longer than the stored row
cells_short : (n : ℕ) → (n + 7) / 8 ≤ (n + 31) / 32 * 4
cells_short n = omega arith

-- all rows but the last whole, and the last one's cells, are no longer than all rows
needs_le : (o h w d len : ℕ) → 0 < h → o + row_stride w d * h ≤ len → o + (h - 1) * row_length w d + (w * d + 7) / 8 ≤ len
unfolding row_stride
needs_le o h w d len some k =
    let r : ℕ = row_stride w d in
    let q : h ≡ suc (h - 1) = omega arith in
    rw (length_row d w) (omega (arith, k, cells_short (w * d), suc-mul (h - 1) r, mul_comm r (suc (h - 1)), ap (λ (z : ℕ). r * z) q))

-- ---- the call

-- what must be shown, by whether masks are given
shown_by : (i : Input) (y x : ℕ) (b : Bool) → is_some i.options.bitfields ≡ b
    → cell_shown i y x ≡ cond b (fitted_shown i.source.format (bitfields_in i.options).masks (handed i y x)) (plainly_shown i.source.format (handed i y x))
unfolding cell_shown
shown_by i y x b e = ap (λ (z : Bool). cond z (fitted_shown i.source.format (bitfields_in i.options).masks (handed i y x)) (plainly_shown i.source.format (handed i y x))) e

module _ (i : Input) (a : Accepted i) (no : stream_used (limit_in i) i ≡ false) where
  abbrev file : List ℕ
  file = file_of (limit_in i) i

  -- the source row that is row y of the picture
  abbrev source_in : ℕ → List ℕ
  source_in y = source_row i.plane i.source.stride (i.source.width * bytes_per_pixel i.source.format) y

  -- byte k of pixel x of the source row is the byte handed in
  handed_byte : (y x k : ℕ) → x < i.source.width → k < pixel_bytes i.source.format → get_or (source_in y) (x * pixel_bytes i.source.format + k) 0 ≡ handed i y x k
  unfolding handed
  handed_byte y x k l m =
      let n : ℕ = pixel_bytes i.source.format in
      let same : bytes_per_pixel i.source.format ≡ n = bytes-alike i.source.format in
      source_at i.plane i.source.stride (i.source.width * bytes_per_pixel i.source.format) y (x * n + k)
      (rw same (within x i.source.width n k l m))
      ∙ ap (λ (z : ℕ). get_or i.plane z 0) (omega arith)

  -- the rows stand where the head ends
  rows_there : drop (head_bytes_of i) file ≡ stored_rows_of i ++ tail_of i
  unfolding pixels file_of
  rows_there = pixels-at i ∙ rw no

  -- the stored row s
  row_there : (s : ℕ) → s < i.source.height
      → Begins (drop (head_bytes_of i + s * row_length i.source.width (depth_in i)) file)
      (stored_row (pack_in i) i.source.width (source_in (row_of i.options.top_down i.source.height s)))
  unfolding stored_rows_of stored_rows
  row_there s l =
      let ok = pack_ok i a.masks a.samples in
      let n : row_length i.source.width (depth_in i) ≡ row_stride i.source.width (pack_bits (pack_in i))
      = length_row (depth_in i) i.source.width ∙ ap (row_stride i.source.width) (sym ok.1) in
      rw (n, ← drop-drop (s * row_stride i.source.width (pack_bits (pack_in i))) (head_bytes_of i) file, rows_there, ← pack_bytes_lem i)
      (joined_at (row_at (pack_in i) i.source.width i.source.height i.options.top_down i.plane i.source.stride)
      (row_stride i.source.width (pack_bits (pack_in i))) i.source.height s (tail_of i)
      (length_row_at (pack_in i) ok.0 i.source.width i.source.height i.options.top_down i.plane i.source.stride) l)

  -- a cell of a row that begins with the stored row, by the mode
  cell_plain : (y x : ℕ) (rest : List ℕ) → is_some i.options.bitfields ≡ false → y < i.source.height → x < i.source.width
      → cell_in file (plain_compression i.source.format) (bits_per_pixel i.source.format) (stored_row (plain_pack i.source.format) i.source.width (source_in y) ++ rest) x
      ≡ cell_shown i y x
  cell_plain y x rest off l m =
      plain_shown i.source.format file (source_in y) rest i.source.width x (rgb565_read i a)
      (length_source i.plane i.source.stride (i.source.width * bytes_per_pixel i.source.format) i.source.height y a.rows_inside a.plane_long l) m
      ∙ plainly_of i.source.format _ (handed i y x) (λ k o. handed_byte y x k m o)
      ∙ sym (shown_by i y x false off)

  cell_masked : (y x : ℕ) (rest : List ℕ) → is_some i.options.bitfields ≡ true → x < i.source.width
      → cell_in file (mask_compression (bitfields_in i.options).masks) (bitfields_in i.options).bpp
      (stored_row (mask_pack i.source.format (bitfields_in i.options).bpp (bitfields_in i.options).masks) i.source.width (source_in y) ++ rest) x ≡ cell_shown i y x
  cell_masked y x rest given m =
      let read = masks_read i a given in
      rw (masked_code (bitfields_in i.options).masks)
      (masked_cell i.source.format (bitfields_in i.options).bpp (bitfields_in i.options).masks file (source_in y) rest i.source.width x (a.samples given) (a.masks given)
      read.red_mask read.green_mask read.blue_mask (alpha_read i a given)
      (source_small i.plane i.source.stride (i.source.width * bytes_per_pixel i.source.format) y a.plane_bytes_is) m
      ∙ fitted_of i.source.format (bitfields_in i.options).masks _ (handed i y x) (λ k o. handed_byte y x k m o)
      ∙ sym (shown_by i y x true given))

  cell_stored : (y x : ℕ) (rest : List ℕ) → y < i.source.height → x < i.source.width
      → cell_in file (compression_of (limit_in i) i) (depth_in i) (stored_row (pack_in i) i.source.width (source_in y) ++ rest) x ≡ cell_shown i y x
  unfolding compression_of rows_compression depth_of pack_of
  cell_stored y x rest l m = rw no (go (is_some i.options.bitfields) refl)
    where
      f : BmpPixelFormat
      f = i.source.format

      d : ℕ
      d = (bitfields_in i.options).bpp

      masks : List ℕ
      masks = (bitfields_in i.options).masks

      go : (b : Bool) → is_some i.options.bitfields ≡ b
          → cell_in file (cond b (mask_compression masks) (plain_compression f)) (cond b d (bits_per_pixel f))
          (stored_row (cond b (mask_pack f d masks) (plain_pack f)) i.source.width (source_in y) ++ rest) x ≡ cell_shown i y x
      go true e = cell_masked y x rest e m
      go false e = cell_plain y x rest e l m

  -- rows have no stream's compression
  pub rows_code : (eqb (compression_of (limit_in i) i) 1 || eqb (compression_of (limit_in i) i) 2) ≡ false
  unfolding compression_of rows_compression
  rows_code = rw no (go (is_some i.options.bitfields))
    where
      go : (b : Bool) → (eqb (cond b (mask_compression (bitfields_in i.options).masks) (plain_compression i.source.format)) 1
          || eqb (cond b (mask_compression (bitfields_in i.options).masks) (plain_compression i.source.format)) 2) ≡ false
      go true = masked_rows (bitfields_in i.options).masks
      go false = plain_rows (is_rgb565 i.source.format)

  pub top : top_first (fields_in i) ≡ i.options.top_down
  top = top_first_lem (fields_in i) i.options.top_down i.source.height a.some_height a.tall refl

  pub tall : shown_height (fields_in i) ≡ i.source.height
  tall = height_shown_lem (fields_in i) i.options.top_down i.source.height a.some_height a.tall refl

  -- every cell, by the stored row that it is in
  cell_shown_lem : (y x : ℕ) → y < i.source.height → x < i.source.width
      → plain_cell_of file (fields_in i) (cond i.options.top_down y (i.source.height - 1 - y)) x ≡ cell_shown i y x
  unfolding plain_cell_of
  cell_shown_lem y x l m =
      let from = row_there (cond i.options.top_down y (i.source.height - 1 - y)) (row_stored i.options.top_down i.source.height y l) in
      ap (λ (row : List ℕ). cell_in file (compression_of (limit_in i) i) (depth_in i) row x) from.is
      ∙ ap (λ (n : ℕ). cell_in file (compression_of (limit_in i) i) (depth_in i) (stored_row (pack_in i) i.source.width (source_in n) ++ from.rest) x)
      (row_back i.options.top_down i.source.height y l)
      ∙ cell_stored y x from.rest l m

  -- the file has all rows
  file_long : head_bytes_of i + row_stride i.source.width (depth_in i) * i.source.height ≤ length file
  unfolding file_size_of pixels raw_len
  file_long =
      let rows : length (cond (stream_used (limit_in i) i) (stream_of i) (stored_rows_of i)) ≡ raw_bytes i
      = ap (λ (b : Bool). length (cond b (stream_of i) (stored_rows_of i))) no
      ∙ length_rows_lem i a.masks a.samples in
      omega (arith, length_file i, rows)

  -- the last row's cells are in the file
  rows_long : pixel_needs (fields_in i) ≤ length file
  unfolding pixel_needs
  rows_long =
      let d : ℕ = depth_in i in
      let w : ℕ = i.source.width in
      rw (ap (λ (n : ℕ). head_bytes_of i + (n - 1) * row_length w d + (w * d + 7) / 8) tall)
      (needs_le (head_bytes_of i) i.source.height w d (length file) a.some_height (omega (arith, file_long)))

  -- the palette
  colours : palette_of file (fields_in i) ≡ palette_shown i
  colours = ap (palette_of file) (sym (fields_read i a)) ∙ palette_read i a

  -- what the readers show of stored rows is what must be shown
  pub plain_body : body file (fields_of file) ≡ shows (expected i)
  unfolding body expected
  plain_body =
      let some : no_cell_of (fields_in i) ≡ false = some_cell (fields_in i) i.source.width i.source.height a.some_width a.some_height refl tall in
      rw (fields_read i a, some, rows_code, le-ltb (length file) (pixel_needs (fields_in i)) rows_long)
      (picture_shown file (fields_in i) (λ y x. plain_cell_of file (fields_in i) (stored_at (fields_in i) y) x) (cell_shown i) i.source.width i.source.height (palette_shown i)
      refl tall colours
      (λ y x l k. (λ z. plain_cell_of file (fields_in i) (cond (top z) y (tall z - 1 - y)) x) ∙ cell_shown_lem y x l k))
