-- What document 02, A.2, changes of a file: the four bytes of the image size, in RLE files and mask files alone.
use mathlib.Core.Path.{◌≡◌, refl, sym, ap, ◌∙◌}
use mathlib.Core.Bool.{Bool, true, false, cond, false≢true}
use mathlib.Core.List.{List, ◌++◌, append_assoc}
use Prim.Native.Nat.{ℕ, ◌+◌, ◌-◌, ◌<◌}
use native.Mathlib.Omega.{arith}
use borrow.Author.Tests.{ne_eqb}
use lib.Dec.{eqb}
use lib.ListN.{length, get_or}
use Rattle.std.proofs.Common.{Ok, is_some}
use Rattle.leaves.specs.declared.image.BmpPixelFormat.{BmpPixelFormat}
use Rattle.leaves.specs.Bytes.{le16, le32}
use Rattle.leaves.specs.Formats.{bits_per_pixel, is_rgb565}
use Rattle.leaves.specs.Masks.{has_alpha_mask}
use Rattle.leaves.specs.Put.{put}
use Rattle.leaves.specs.Refusals.{first_of}
use Rattle.leaves.specs.Options.{bitfields_in, calibrated_in}
use Rattle.format.specs.declared.layout.Mode.{Mode}
use Rattle.format.specs.declared.layout.Mode.TheVariants.{Masked, Calibrated, Profiled, Plain}
use Rattle.format.specs.Accepted.{Accepted}
use Rattle.format.specs.File.{mode_in, raw_bytes, head_bytes_of, tail_of, limit_in, stream_used, stored_rows_of, pixels, compression_of, image_size_of, x_pels_in, y_pels_in, head_of, file_size_of, file_of}
use Rattle.format.specs.Headers.{file_header, info_header}
use Rattle.format.specs.Input.{Input}
use Rattle.format.specs.Layout.{is_masked, is_profiled, header_size_of, rows_compression}
use Rattle.format.specs.Readers.{word_at, dword_at}
use Rattle.format.specs.Refusals.{write_rows}
use Rattle.format.proofs.Acceptance.{accepted}
use Rattle.format.proofs.FileSizes.{length_rows_lem, rows_pixels}
use Rattle.format.proofs.HeadFields.{dword_bytes, file_with, length_with, length_file}
use Rattle.format.proofs.Modes.{given_mode, mask_mode, coded_cases, PlannedIn, unprofiled_tail, used_in}

-- document 01: "Image size is 0 in every 40-byte header and the raw bytes in the others"
abbrev pub earlier_size : Input → ℕ
earlier_size i = cond (eqb (header_size_of (mode_in i) i.source.format) 40) 0 (raw_bytes i)

-- the file with it
unfoldable pub earlier_file : ℕ → Input → List ℕ
earlier_file limit i = file_with limit i (earlier_size i) (x_pels_in i) (y_pels_in i)

-- ---- fields of a file

-- four bytes put at biSizeImage are another image size, and nothing else
pub put_image : (limit : ℕ) (i : Input) (n x y v : ℕ) → put (file_with limit i n x y) 34 (le32 v) ≡ file_with limit i v x y
unfolding put head_of file_header info_header le16 le32
put_image limit i n x y v = refl

-- read there they are the image size
image_at : (limit : ℕ) (i : Input) (n x y : ℕ) → n < 4294967296 → dword_at (file_with limit i n x y) 34 ≡ n
unfolding dword_at word_at head_of file_header info_header le16 le32
image_at limit i n x y h = dword_bytes n h

-- eight bytes put at the two resolutions are other resolutions
pub put_resolutions : (limit : ℕ) (i : Input) (n a b x y : ℕ) → put (put (file_with limit i n a b) 38 (le32 x)) 42 (le32 y) ≡ file_with limit i n x y
unfolding put head_of file_header info_header le16 le32
put_resolutions limit i n a b x y = refl

-- bfOffBits is where the head ends, whatever follows it
pub offset_at : (i : Input) (c n x y size : ℕ) (rest : List ℕ) → head_bytes_of i < 4294967296 → dword_at (head_of i c n x y size ++ rest) 10 ≡ head_bytes_of i
unfolding dword_at word_at head_of file_header info_header le16 le32
offset_at i c n x y size rest h = dword_bytes (head_bytes_of i) h

offset_with : (limit : ℕ) (i : Input) (n x y : ℕ) → head_bytes_of i < 4294967296 → dword_at (file_with limit i n x y) 10 ≡ head_bytes_of i
offset_with limit i n x y h =
    ap (λ (file : List ℕ). dword_at file 10) (append_assoc (head_of i (compression_of limit i) n x y (file_size_of limit i)) (pixels limit i) (tail_of i))
    ∙ offset_at i (compression_of limit i) n x y (file_size_of limit i) (pixels limit i ++ tail_of i) h

-- ---- the image size of each file

module _ (limit : ℕ) (i : Input) where
  -- with a compression, the bytes of the pixels
  pub compressed_size : 0 < compression_of limit i → image_size_of limit i ≡ length (pixels limit i)
  unfolding image_size_of
  compressed_size h = rw (ne_eqb (compression_of limit i) 0 (λ q. omega (arith, h, q)))

  -- an RLE file has one
  pub stream_compression : stream_used limit i ≡ true → 0 < compression_of limit i
  unfolding compression_of
  stream_compression e = rw e (go (eqb (bits_per_pixel i.source.format) 8))
    where
      go : (b : Bool) → 0 < cond b 1 2
      go true = omega arith
      go false = omega arith

  -- a mask file too
  pub mask_compression_lem : stream_used limit i ≡ false → is_some i.options.bitfields ≡ true → 0 < compression_of limit i
  unfolding compression_of rows_compression
  mask_compression_lem e m = rw (e, m) (go (has_alpha_mask (bitfields_in i.options).masks))
    where
      go : (b : Bool) → 0 < cond b 6 3
      go true = omega arith
      go false = omega arith

  -- stored rows without masks have compression 3 or 0, by the source
  rows_compression_lem : stream_used limit i ≡ false → is_some i.options.bitfields ≡ false → compression_of limit i ≡ cond (is_rgb565 i.source.format) 3 0
  unfolding compression_of rows_compression
  rows_compression_lem e m = rw (e, m)

  -- and document 01's image size: compression 3 without masks stands in a long header
  pub other_size : length (stored_rows_of i) ≡ raw_bytes i → stream_used limit i ≡ false → is_some i.options.bitfields ≡ false → image_size_of limit i ≡ earlier_size i
  unfolding image_size_of
  other_size raw e m =
      let long : length (pixels limit i) ≡ raw_bytes i = ap length (rows_pixels limit i e) ∙ raw in
      (λ z. cond (eqb (rows_compression_lem e m z) 0) (earlier_size i) (long z))
      ∙ go (mode_in i) (is_rgb565 i.source.format) refl (sym (given_mode i.source i.options) ∙ m)
    where
      go : (mode : Mode) (b : Bool) → is_rgb565 i.source.format ≡ b → is_masked mode ≡ false
          → cond (eqb (cond b 3 0) 0) (cond (eqb (header_size_of mode i.source.format) 40) 0 (raw_bytes i)) (raw_bytes i)
          ≡ cond (eqb (header_size_of mode i.source.format) 40) 0 (raw_bytes i)
      go mode false q h = refl
      go Masked true q h = absurd (false≢true (sym h))
      go Calibrated true q h = refl
      go Profiled true q h = refl
      go Plain true q h = rw q

-- ---- behind a 40-byte header

-- a planned stream stands there
pub planned_header : (i : Input) → PlannedIn i → header_size_of (mode_in i) i.source.format ≡ 40
planned_header i p =
    ap (λ (m : Mode). header_size_of m i.source.format) p.mode ∙ coded_cases (λ f. header_size_of Plain f ≡ 40) refl refl i.source.format p.source

-- and no profile
short_header : (mode : Mode) (f : BmpPixelFormat) → header_size_of mode f ≡ 40 → is_profiled mode ≡ false
short_header Masked f h = refl
short_header Calibrated f h = refl
short_header Profiled f h = absurd (omega (arith, h))
short_header Plain f h = refl

module _ (limit : ℕ) (i : Input) (c : 0 < compression_of limit i) (h : header_size_of (mode_in i) i.source.format ≡ 40) where
  -- so the pixels of an RLE file or a mask file end it
  ends_with_pixels : file_size_of limit i ≡ head_bytes_of i + image_size_of limit i
  unfolding file_size_of
  ends_with_pixels = omega (arith, compressed_size limit i c, ap length (unprofiled_tail i (short_header (mode_in i) i.source.format h)))

  -- and its length less its pixel offset is the image size, whatever stands in the field
  pub found_size : head_bytes_of i < 4294967296 → (n x y : ℕ) → length (file_with limit i n x y) - dword_at (file_with limit i n x y) 10 ≡ image_size_of limit i
  found_size small n x y = omega (arith, length_with limit i n x y, offset_with limit i n x y small, ends_with_pixels)

-- ---- the theorem

-- whatever the call, the file is the one with document 01's image size, filled in
pub filled : (limit : ℕ) (i : Input) → file_of limit i ≡ put (earlier_file limit i) 34 (le32 (image_size_of limit i))
unfolding file_of earlier_file
filled limit i = sym (put_image limit i (earlier_size i) (x_pels_in i) (y_pels_in i) (image_size_of limit i))

-- and where that is the same number, the same file
pub same_size : (limit : ℕ) (i : Input) → image_size_of limit i ≡ earlier_size i → file_of limit i ≡ earlier_file limit i
unfolding file_of earlier_file
same_size limit i e = ap (λ (n : ℕ). file_with limit i n (x_pels_in i) (y_pels_in i)) e

-- A.2, of an accepted call
pub record FilledIn (i : Input) : Type 0 where
  -- no other byte changes
  pub alone : file_of (limit_in i) i ≡ put (earlier_file (limit_in i) i) 34 (le32 (image_size_of (limit_in i) i))
  -- nor these with compression 0 or in a longer header
  pub uncompressed : compression_of (limit_in i) i ≡ 0 → file_of (limit_in i) i ≡ earlier_file (limit_in i) i
  pub long_header : 40 < header_size_of (mode_in i) i.source.format → file_of (limit_in i) i ≡ earlier_file (limit_in i) i
  -- every compressed file holds the bytes of its pixels, which end the file where the header has 40 bytes
  pub compressed : 0 < compression_of (limit_in i) i → dword_at (file_of (limit_in i) i) 34 ≡ length (pixels (limit_in i) i)
  pub to_the_end : 0 < compression_of (limit_in i) i → header_size_of (mode_in i) i.source.format ≡ 40
      → dword_at (file_of (limit_in i) i) 10 + dword_at (file_of (limit_in i) i) 34 ≡ length (file_of (limit_in i) i)

module _ (i : Input) (a : Accepted i) where
  zero-size : compression_of (limit_in i) i ≡ 0 → image_size_of (limit_in i) i ≡ earlier_size i
  unfolding image_size_of
  zero-size e = rw e

  long_size : 40 < header_size_of (mode_in i) i.source.format → image_size_of (limit_in i) i ≡ earlier_size i
  long_size h = go (stream_used (limit_in i) i) (is_some i.options.bitfields) refl refl
    where
      go : (u m : Bool) → stream_used (limit_in i) i ≡ u → is_some i.options.bitfields ≡ m → image_size_of (limit_in i) i ≡ earlier_size i
      go true m e q = absurd (omega (arith, h, planned_header i (used_in (limit_in i) i e).planned))
      go false true e q = absurd (omega (arith, h, ap (λ (mode : Mode). header_size_of mode i.source.format) (mask_mode i q)))
      go false false e q = other_size (limit_in i) i (length_rows_lem i a.masks a.samples) e q

  field_is : 0 < compression_of (limit_in i) i → dword_at (file_of (limit_in i) i) 34 ≡ image_size_of (limit_in i) i
  unfolding file_of file_size_of
  field_is c = image_at (limit_in i) i (image_size_of (limit_in i) i) (x_pels_in i) (y_pels_in i) (omega (arith, compressed_size (limit_in i) i c, a.fits, a.limited))

  ends_file : 0 < compression_of (limit_in i) i → header_size_of (mode_in i) i.source.format ≡ 40
      → dword_at (file_of (limit_in i) i) 10 + dword_at (file_of (limit_in i) i) 34 ≡ length (file_of (limit_in i) i)
  unfolding file_of
  ends_file c h =
      let ends = ends_with_pixels (limit_in i) i c h in
      omega (arith, offset_with (limit_in i) i (image_size_of (limit_in i) i) (x_pels_in i) (y_pels_in i) (omega (arith, ends, a.fits, a.limited)), field_is c, length_file i, ends)

  pub filled_in : FilledIn i
  filled_in =
      record {
        alone = filled (limit_in i) i;
        uncompressed = λ e. same_size (limit_in i) i (zero-size e);
        long_header = λ h. same_size (limit_in i) i (long_size h);
        compressed = λ c. field_is c ∙ compressed_size (limit_in i) i c;
        to_the_end = ends_file;
      }

-- so of a call that no row of the table refuses
pub filled_of_table : (i : Input) (room offset : ℕ) → ((k : ℕ) → get_or i.plane k 0 < 256) → ((k : ℕ) → get_or i.palette k 0 < 256)
    → length (calibrated_in i.options).endpoints ≡ 9 → length (calibrated_in i.options).gamma ≡ 3 → first_of (write_rows (limit_in i) i room offset) ≡ Ok tt
    → FilledIn i
filled_of_table i room offset plane palette nine three e = filled_in i (accepted i room offset plane palette nine three e)
