-- The profile of the file that an accepted call appends, and the rest of its bytes: 18 does not apply.
use mathlib.Core.Path.{◌≡◌, refl, sym, ap, ◌∙◌, subst}
use mathlib.Core.Bool.{Bool, true, false, true≢false, false≢true, cond, ◌&&◌, ◌||◌}
use mathlib.Core.List.{List, [], ◌∷◌, ◌++◌}
use Prim.Native.Nat.{ℕ, ◌+◌, ◌-◌, ◌≤◌, ◌<◌}
use native.Mathlib.Omega.{arith}
use borrow.Author.Tests.{eq-eqb, ne_eqb, eqb-true, eqb-false}
use lib.Dec.{eqb}
use lib.ListN.{length, get_or, take, drop, replicate}
use lib.Seq.{drop_at, drop-drop, take_all}
use Rattle.leaves.specs.declared.image.BmpPixelFormat.{BmpPixelFormat}
use Rattle.leaves.specs.declared.image.BmpPixelFormat.TheVariants.{Rgba, Rgb24, Bgra, Bgr24, Rgb555, Rgb565, Pal8, Indexed4, Indexed2, Indexed1}
use Rattle.leaves.specs.Bytes.{le32}
use Rattle.leaves.specs.Formats.{is_rgb565}
use Rattle.format.specs.declared.layout.Mode.{Mode}
use Rattle.format.specs.declared.layout.Mode.TheVariants.{Masked, Calibrated, Profiled, Plain}
use Rattle.format.specs.Accepted.{Accepted}
use Rattle.format.specs.File.{mode_in, raw_bytes, head_bytes_of, tail_of, limit_in, stream_used, stored_rows_of, pixels, file_size_of, file_of}
use Rattle.format.specs.Headers.{dwords, v4_fields, v5_fields}
use Rattle.format.specs.Input.{Input}
use Rattle.format.specs.Layout.{is_plain, is_profiled, tail_in, header_size_of, long_masks, head_rest, head_len, wants_rle}
use Rattle.format.specs.Readers.{Fields, fields_of, word_at, dword_at}
use Rattle.format.proofs.FileSizes.{length_rows_lem}
use Rattle.format.proofs.HeadFields.{dword_bytes, first_part, first-length, fields_read, pixels-at, length_file}
use Rattle.format.proofs.HeadMasks.{after_rest, mode_file}
use Rattle.reader.specs.Numbers.{has_profile, profile_bytes_of, profile_at_of, profile_in}
use Rattle.cells.proofs.CellLaws.{dword_from}
use Rattle.cells.proofs.Loops.{no_elements}

-- ---- the fields of a profile

long_four : (f : BmpPixelFormat) → long_masks f ≡ get_or (long_masks f) 0 0 ∷ get_or (long_masks f) 1 0 ∷ get_or (long_masks f) 2 0 ∷ get_or (long_masks f) 3 0 ∷ []
long_four Rgba = refl
long_four Rgb24 = refl
long_four Bgra = refl
long_four Bgr24 = refl
long_four Rgb555 = refl
long_four Rgb565 = refl
long_four Pal8 = refl
long_four Indexed4 = refl
long_four Indexed2 = refl
long_four Indexed1 = refl

-- colour space, place and size
record ProfileFields (file : List ℕ) (space at size : ℕ) : Type 0 where
  space_is : dword_at file 70 ≡ space
  at_is : dword_at file 126 ≡ at
  size_is : dword_at file 130 ≡ size

behind_54 : (first more : List ℕ) (k : ℕ) → length first ≡ 54 → dword_at (first ++ more) (54 + k) ≡ dword_at more k
behind_54 first more k e = dword_from (first ++ more) 54 k ∙ ap (λ (l : List ℕ). dword_at l k) (drop_at first more 54 e)

fields_at : (first : List ℕ) (a b c d space intent at size : ℕ) (more : List ℕ) → length first ≡ 54 → space < 4294967296 → at < 4294967296 → size < 4294967296
    → ProfileFields (first ++ ((v4_fields (a ∷ b ∷ c ∷ d ∷ []) space (replicate 9 0) (replicate 3 0) ++ v5_fields intent at size) ++ more)) space at size
unfolding v4_fields v5_fields dwords le32 dword_at word_at
fields_at first a b c d space intent at size more e s p q =
    record {
      space_is = behind_54 first _ 16 e ∙ dword_bytes space s;
      at_is = behind_54 first _ 72 e ∙ dword_bytes at p;
      size_is = behind_54 first _ 76 e ∙ dword_bytes size q;
    }

-- ---- by the mode

module _ (i : Input) (a : Accepted i) where
  abbrev file : List ℕ
  file = file_of (limit_in i) i

  abbrev place : ℕ
  place = head_bytes_of i - 14 + raw_bytes i

  -- what the file header, the info header and the masks take
  head_some : 14 ≤ head_bytes_of i
  unfolding head_len
  head_some = omega arith

  size-field : (fields_of file).header_size_of ≡ header_size_of (mode_in i) i.source.format
  size-field = ap (λ (t : Fields). t.header_size_of) (fields_read i a)

  -- a file with a profile has stored rows
  unstreamed : is_profiled (mode_in i) ≡ true → stream_used (limit_in i) i ≡ false
  unfolding stream_used wants_rle
  unstreamed e = rw (go (mode_in i) e)
    where
      go : (m : Mode) → is_profiled m ≡ true → is_plain m ≡ false
      go Masked q = refl
      go Calibrated q = refl
      go Profiled q = refl
      go Plain q = absurd (false≢true q)

  raw_length : length (stored_rows_of i) ≡ raw_bytes i
  raw_length = length_rows_lem i a.masks a.samples

  plain-pixels : stream_used (limit_in i) i ≡ false → length (pixels (limit_in i) i) ≡ raw_bytes i
  unfolding pixels
  plain-pixels e = rw e raw_length

  pub plain_size : stream_used (limit_in i) i ≡ false → head_bytes_of i + raw_bytes i + length (tail_of i) ≡ length file
  unfolding file_size_of
  plain_size e = sym (length_file i ∙ rw (plain-pixels e))

  small_size : head_bytes_of i + length (pixels (limit_in i) i) + length (tail_of i) ≤ 4294967295
  unfolding file_size_of
  small_size = omega (arith, a.fits, a.limited)

  profiled : mode_in i ≡ Profiled → ProfileFields file (cond i.source.has_linked_icc 0x4C494E4B 0x4D424544) place (length (tail_of i))
  unfolding head_rest
  profiled m =
      let no_stream = plain-pixels (unstreamed (ap is_profiled m)) in
      let space : ℕ = cond i.source.has_linked_icc 0x4C494E4B 0x4D424544 in
      let masks = long_masks i.source.format in
      let first = first_part i (file_size_of (limit_in i) i) in
      subst (λ (l : List ℕ). ProfileFields l space place (length (tail_of i)))
      (sym (mode_file i Profiled m ∙ ap (λ (l : List ℕ). first ++ ((v4_fields l space (replicate 9 0) (replicate 3 0) ++ v5_fields i.options.rendering_intent place (length (tail_of i))) ++ after_rest i)) (long_four i.source.format)))
      (fields_at first (get_or masks 0 0) (get_or masks 1 0) (get_or masks 2 0) (get_or masks 3 0) space i.options.rendering_intent place (length (tail_of i)) (after_rest i) (first-length i (file_size_of (limit_in i) i))
      (space_small i.source.has_linked_icc) (omega (arith, small_size, no_stream, head_some)) (omega (arith, small_size)))
    where
      space_small : (b : Bool) → cond b 0x4C494E4B 0x4D424544 < 4294967296
      space_small true = omega arith
      space_small false = omega arith

  -- another header has no profile
  unprofiled : (m : Mode) (f : BmpPixelFormat) → is_profiled m ≡ false → eqb (header_size_of m f) 124 ≡ false
  unprofiled Masked f e = refl
  unprofiled Calibrated f e = refl
  unprofiled Profiled f e = absurd (true≢false e)
  unprofiled Plain f e = go (is_rgb565 f)
    where
      go : (b : Bool) → eqb (cond b 108 40) 124 ≡ false
      go true = refl
      go false = refl

  is_profiled_lem : (m : Mode) → is_profiled m ≡ true → m ≡ Profiled
  is_profiled_lem Masked e = absurd (false≢true e)
  is_profiled_lem Calibrated e = absurd (false≢true e)
  is_profiled_lem Profiled e = refl
  is_profiled_lem Plain e = absurd (false≢true e)

  spaces : (b : Bool) → (eqb (cond b 0x4C494E4B 0x4D424544) 0x4C494E4B || eqb (cond b 0x4C494E4B 0x4D424544) 0x4D424544) ≡ true
  spaces true = refl
  spaces false = refl

  -- the size that the reader takes is the profile's
  bytes_read : profile_bytes_of file ≡ length (tail_of i)
  unfolding profile_bytes_of has_profile tail_in
  bytes_read = go (is_profiled (mode_in i)) refl
    where
      go : (b : Bool) → is_profiled (mode_in i) ≡ b → cond (eqb (fields_of file).header_size_of 124 && (eqb (dword_at file 70) 0x4C494E4B || eqb (dword_at file 70) 0x4D424544)) (dword_at file 130) 0 ≡ length (tail_of i)
      go true e =
          let m = is_profiled_lem (mode_in i) e in
          let p = profiled m in
          let h : eqb (fields_of file).header_size_of 124 ≡ true = rw (size-field, m) in
          rw (h, p.space_is, spaces i.source.has_linked_icc) p.size_is
      go false e =
          let h : eqb (fields_of file).header_size_of 124 ≡ false = rw size-field (unprofiled (mode_in i) i.source.format e) in
          rw (h, e)

  -- a profile with a byte is one that was lent
  some_tail : (length (tail_of i) ≡ 0 → ⊥) → is_profiled (mode_in i) ≡ true
  unfolding tail_in
  some_tail z = go (is_profiled (mode_in i)) refl
    where
      go : (b : Bool) → is_profiled (mode_in i) ≡ b → b ≡ true
      go true e = refl
      go false e = absurd (z (rw e))

  -- and its place behind the raw bytes
  at_read : (length (tail_of i) ≡ 0 → ⊥) → profile_at_of file ≡ head_bytes_of i + raw_bytes i
  unfolding profile_at_of
  at_read z =
      let m = is_profiled_lem (mode_in i) (some_tail z) in
      rw (bytes_read, ne_eqb (length (tail_of i)) 0 z) (omega (arith, (profiled m).at_is, head_some))

  at_none : length (tail_of i) ≡ 0 → profile_at_of file ≡ 0
  unfolding profile_at_of
  at_none z = rw (bytes_read, eq-eqb (length (tail_of i)) 0 z)

  -- the profile lies in the file
  pub profile_whole : profile_at_of file + profile_bytes_of file ≤ length file
  profile_whole = go (eqb (length (tail_of i)) 0) refl
    where
      go : (b : Bool) → eqb (length (tail_of i)) 0 ≡ b → profile_at_of file + profile_bytes_of file ≤ length file
      go true e = let z = eqb-true (length (tail_of i)) 0 e in omega (arith, at_none z, bytes_read, z)
      go false e =
          let z = eqb-false (length (tail_of i)) 0 e in
          omega (arith, at_read z, bytes_read, plain_size (unstreamed (some_tail z)))

  -- the part is the profile that was lent
  pub profile_read : profile_in file ≡ tail_of i
  unfolding profile_in
  profile_read = go (eqb (length (tail_of i)) 0) refl
    where
      go : (b : Bool) → eqb (length (tail_of i)) 0 ≡ b → take (profile_bytes_of file) (drop (profile_at_of file) file) ≡ tail_of i
      go true e = let z = eqb-true (length (tail_of i)) 0 e in rw (bytes_read, z) (no_elements (tail_of i) z)
      go false e =
          let z = eqb-false (length (tail_of i)) 0 e in
          let l : drop (head_bytes_of i + raw_bytes i) file ≡ tail_of i
          = sym (drop-drop (raw_bytes i) (head_bytes_of i) file) ∙ ap (drop (raw_bytes i)) (pixels-at i) ∙ drop_at (pixels (limit_in i) i) (tail_of i) (raw_bytes i) (plain-pixels (unstreamed (some_tail z))) in
          rw (bytes_read, at_read z, l) (take_all (length (tail_of i)) (tail_of i) (omega arith))
