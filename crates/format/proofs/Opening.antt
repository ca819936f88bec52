-- Which files each reader opens.
use mathlib.Core.Path.{◌≡◌, refl, sym, ◌∙◌}
use mathlib.Core.Logic.{◌⊎◌, inl, inr}
use mathlib.Core.Bool.{Bool, true, false, false≢true, not, cond, ◌&&◌}
use mathlib.Core.List.{List}
use Prim.Native.Nat.{ℕ, ◌≤◌}
use borrow.Author.Tests.{le-ltb}
use lib.Dec.{eqb}
use lib.ListN.{length}
use Rattle.std.proofs.Common.{is_some}
use Rattle.leaves.specs.declared.image.BmpPixelFormat.{BmpPixelFormat}
use Rattle.leaves.specs.declared.image.BmpPixelFormat.TheVariants.{Rgba, Rgb24, Bgra, Bgr24, Rgb555, Rgb565, Pal8, Indexed4, Indexed2, Indexed1}
use Rattle.format.specs.File.{depth_in, limit_in, stream_used, compression_of, file_of}
use Rattle.format.specs.Layout.{depth_of, plain_compression, rows_compression, coded}
use Rattle.leaves.specs.Formats.{bits_per_pixel, is_rgb565, mask_source}
use Rattle.format.proofs.Modes.{coded_cases, used_in}
use Rattle.format.proofs.HeadFields.{fields_read}
use Rattle.leaves.specs.Masks.{has_alpha_mask, mask_compression}
use Rattle.leaves.specs.Options.{bitfields_in}
use Rattle.format.specs.Input.{Input}
use Rattle.format.specs.Accepted.{Accepted}
use Rattle.format.specs.Readers.{Reader, older, newer, Reading, refuses, Fields, fields_of, knows_depth, knows_compression, pairs, head_needs, body, read_fields, read}
use Rattle.format.specs.Shown.{unknown_depth, unknown_compression}
use Rattle.format.specs.Demand.{two_bits, alpha_masked}
use Rattle.format.proofs.HeadWhole.{head_long, first_there}

-- ---- any file

-- the answer to a file that is long enough: only an unknown depth or compression is refused
abbrev answer : Bool → Bool → Reading → Reading
answer two alpha rest = cond two (refuses unknown_depth) (cond alpha (refuses unknown_compression) rest)

fields_answer : (r : Reader) (file : List ℕ) (t : Fields) (two alpha : Bool) → knows_depth r t.depth ≡ not two → knows_compression r t.compression ≡ not alpha
    → pairs t.compression t.depth ≡ true → head_needs t ≤ length file → read_fields r file t ≡ answer two alpha (body file t)
unfolding read_fields
fields_answer r file t true alpha d c p h = rw d
fields_answer r file t false true d c p h = rw (d, c)
fields_answer r file t false false d c p h = rw (d, c, p, le-ltb (length file) (head_needs t) h)

read_answer : (r : Reader) (file : List ℕ) (two alpha : Bool) → knows_depth r (fields_of file).depth ≡ not two
    → knows_compression r (fields_of file).compression ≡ not alpha → pairs (fields_of file).compression (fields_of file).depth ≡ true → 54 ≤ length file
    → head_needs (fields_of file) ≤ length file → read r file ≡ answer two alpha (body file (fields_of file))
unfolding read
read_answer r file two alpha d c p l h = rw (le-ltb (length file) 54 l) (fields_answer r file (fields_of file) two alpha d c p h)

-- ---- compressions and depths that are written

-- the newer reader knows both, the older one unless cells have two bits or an alpha mask is given
record Opens (two alpha : Bool) (c d : ℕ) : Type 0 where
  newer_depth : knows_depth newer d ≡ true
  older_depth : knows_depth older d ≡ not two
  newer_compression : knows_compression newer c ≡ true
  older_compression : knows_compression older c ≡ not alpha
  paired : pairs c d ≡ true

-- a source that takes masks does not have two bits
not_two : (f : BmpPixelFormat) → mask_source f ≡ false → two_bits f ≡ false
not_two Rgba e = refl
not_two Rgb24 e = refl
not_two Bgra e = refl
not_two Bgr24 e = refl
not_two Rgb555 e = refl
not_two Rgb565 e = refl
not_two Pal8 e = refl
not_two Indexed4 e = refl
not_two Indexed2 e = absurd (false≢true (sym e))
not_two Indexed1 e = refl

-- masks, with alpha or without
masked_opens : (two alpha : Bool) (d : ℕ) → two ≡ false → (d ≡ 16) ⊎ (d ≡ 32) → Opens two alpha (cond alpha 6 3) d
unfolding knows_depth knows_compression pairs
masked_opens two true d z (inl e) = rw (z, e) (record { newer_depth = refl; older_depth = refl; newer_compression = refl; older_compression = refl; paired = refl })
masked_opens two true d z (inr e) = rw (z, e) (record { newer_depth = refl; older_depth = refl; newer_compression = refl; older_compression = refl; paired = refl })
masked_opens two false d z (inl e) = rw (z, e) (record { newer_depth = refl; older_depth = refl; newer_compression = refl; older_compression = refl; paired = refl })
masked_opens two false d z (inr e) = rw (z, e) (record { newer_depth = refl; older_depth = refl; newer_compression = refl; older_compression = refl; paired = refl })

-- stored rows without masks
rows_open : (f : BmpPixelFormat) → Opens (two_bits f) false (cond (is_rgb565 f) 3 0) (bits_per_pixel f)
unfolding knows_depth knows_compression pairs
rows_open Rgba = record { newer_depth = refl; older_depth = refl; newer_compression = refl; older_compression = refl; paired = refl }
rows_open Rgb24 = record { newer_depth = refl; older_depth = refl; newer_compression = refl; older_compression = refl; paired = refl }
rows_open Bgra = record { newer_depth = refl; older_depth = refl; newer_compression = refl; older_compression = refl; paired = refl }
rows_open Bgr24 = record { newer_depth = refl; older_depth = refl; newer_compression = refl; older_compression = refl; paired = refl }
rows_open Rgb555 = record { newer_depth = refl; older_depth = refl; newer_compression = refl; older_compression = refl; paired = refl }
rows_open Rgb565 = record { newer_depth = refl; older_depth = refl; newer_compression = refl; older_compression = refl; paired = refl }
rows_open Pal8 = record { newer_depth = refl; older_depth = refl; newer_compression = refl; older_compression = refl; paired = refl }
rows_open Indexed4 = record { newer_depth = refl; older_depth = refl; newer_compression = refl; older_compression = refl; paired = refl }
rows_open Indexed2 = record { newer_depth = refl; older_depth = refl; newer_compression = refl; older_compression = refl; paired = refl }
rows_open Indexed1 = record { newer_depth = refl; older_depth = refl; newer_compression = refl; older_compression = refl; paired = refl }

-- a stream
stream_opens : (f : BmpPixelFormat) → coded f ≡ true → Opens (two_bits f) false (cond (eqb (bits_per_pixel f) 8) 1 2) (bits_per_pixel f)
unfolding knows_depth knows_compression pairs
stream_opens =
    coded_cases (λ (f : BmpPixelFormat). Opens (two_bits f) false (cond (eqb (bits_per_pixel f) 8) 1 2) (bits_per_pixel f))
    (record { newer_depth = refl; older_depth = refl; newer_compression = refl; older_compression = refl; paired = refl })
    (record { newer_depth = refl; older_depth = refl; newer_compression = refl; older_compression = refl; paired = refl })

-- ---- the file

module _ (i : Input) (a : Accepted i) where
  -- by whether a stream is used, and whether masks are given
  opens : Opens (two_bits i.source.format) (alpha_masked i) (compression_of (limit_in i) i) (depth_in i)
  unfolding compression_of rows_compression depth_of
  opens = go (stream_used (limit_in i) i) (is_some i.options.bitfields) refl refl
    where
      f : BmpPixelFormat
      f = i.source.format

      masks : List ℕ
      masks = (bitfields_in i.options).masks

      go : (used given : Bool) → stream_used (limit_in i) i ≡ used → is_some i.options.bitfields ≡ given
          → Opens (two_bits f) (given && has_alpha_mask masks) (cond used (cond (eqb (bits_per_pixel f) 8) 1 2) (cond given (mask_compression masks) (plain_compression f)))
          (cond given (bitfields_in i.options).bpp (bits_per_pixel f))
      go true true u e = absurd (false≢true (sym (used_in (limit_in i) i u).planned.unmasked ∙ e))
      go true false u e = stream_opens f (used_in (limit_in i) i u).planned.source
      go false true u e = masked_opens (two_bits f) (has_alpha_mask masks) (bitfields_in i.options).bpp (not_two f (a.samples e)) (a.masks e).depths
      go false false u e = rows_open f

  -- the readers take the compression and depth that were written
  file_opens : Opens (two_bits i.source.format) (alpha_masked i) (fields_of (file_of (limit_in i) i)).compression (fields_of (file_of (limit_in i) i)).depth
  file_opens = rw (fields_read i a) opens

  needs_there : head_needs (fields_of (file_of (limit_in i) i)) ≤ length (file_of (limit_in i) i)
  needs_there = head_long i a

-- ---- the readers

-- the newer reader opens every file
pub newer_opens : (i : Input) → Accepted i → read newer (file_of (limit_in i) i) ≡ body (file_of (limit_in i) i) (fields_of (file_of (limit_in i) i))
newer_opens i a =
    let o = file_opens i a in
    read_answer newer (file_of (limit_in i) i) false false o.newer_depth o.newer_compression o.paired (first_there i) (needs_there i a)

-- the older one refuses two bits by the depth, and an alpha mask by the compression
pub older_opens : (i : Input) → Accepted i
    → read older (file_of (limit_in i) i)
    ≡ cond (two_bits i.source.format) (refuses unknown_depth)
    (cond (alpha_masked i) (refuses unknown_compression) (body (file_of (limit_in i) i) (fields_of (file_of (limit_in i) i))))
older_opens i a =
    let o = file_opens i a in
    read_answer older (file_of (limit_in i) i) (two_bits i.source.format) (alpha_masked i) o.older_depth o.older_compression o.paired (first_there i) (needs_there i a)
