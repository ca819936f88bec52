-- Of the file that an accepted call appends, 17, 18 and 19 do not apply.
use mathlib.Core.Path.{◌≡◌, refl, sym, ap, ◌∙◌}
use mathlib.Core.Logic.{◌⊎◌, inl, inr}
use mathlib.Core.Bool.{Bool, true, false, true≢false, false≢true, cond, ◌&&◌, ◌||◌}
use mathlib.Core.List.{List, [], ◌∷◌, ◌++◌}
use Prim.Native.Nat.{ℕ, ◌-◌, ◌^◌, ◌≤◌, ◌<◌}
use native.Mathlib.Omega.{arith}
use borrow.Author.Tests.{ltb-true, le-ltb, lt-leb, eqb-true, ne_eqb, not-false}
use lib.Count.{ones_in, count_trailing_zeros}
use lib.Dec.{ltb, leb, eqb}
use lib.ListN.{length, get_or}
use Rattle.std.proofs.Common.{Ok, is_some}
use Rattle.leaves.specs.declared.image.BmpPixelFormat.{BmpPixelFormat}
use Rattle.leaves.specs.declared.image.BmpPixelFormat.TheVariants.{Rgba, Rgb24, Bgra, Bgr24, Rgb555, Rgb565, Pal8, Indexed4, Indexed2, Indexed1}
use Rattle.leaves.specs.Bytes.{le16, le32}
use Rattle.leaves.specs.Formats.{bits_per_pixel, is_rgb565}
use Rattle.leaves.specs.Lists.{cat}
use Rattle.leaves.specs.Masks.{count, lowest, is_one_run, has_alpha_mask, mask_compression, shares_bit, mask_rows, bitfields_rows}
use Rattle.leaves.specs.Refusals.{check_number, first_of}
use Rattle.leaves.specs.Sizes.{has_table, palette_entry_count, clr_used_of}
use Rattle.leaves.specs.Options.{bitfields_in}
use Rattle.format.specs.declared.layout.Mode.{Mode}
use Rattle.format.specs.declared.layout.Mode.TheVariants.{Masked, Calibrated, Profiled, Plain}
use Rattle.format.specs.Accepted.{Accepted}
use Rattle.format.specs.File.{mode_in, depth_in, entries_of, limit_in, stream_used, stored_height_of, compression_of, file_size_of, file_of}
use Rattle.format.specs.Headers.{file_header, info_header}
use Rattle.format.specs.Input.{Input}
use Rattle.format.specs.Layout.{depth_of, header_size_of, rows_compression, coded}
use Rattle.format.specs.Readers.{word_at, dword_at}
use Rattle.format.proofs.HeadFields.{fields_read, file_parts, rest_part}
use Rattle.format.proofs.HeadMasks.{ColourMasks, masks_read, alpha_read, rgb565_read}
use Rattle.format.proofs.Modes.{coded_cases, PlannedIn, used_in}
use Rattle.reader.specs.Refusals.{strange_mark, strange_header, no_width, no_height, strange_depth, strange_compression, strange_pair, written_pair, negative_stream, many_colours, refused_masks, masks_of, masks_end, never_written}
use Rattle.reader.proofs.Heads.{written_depth, behind_six}

-- ---- one field after the other

off : (n k : ℕ) (b : Bool) → b ≡ false → (leb n k && b) ≡ false
off n k b e = go (leb n k)
  where
    go : (a : Bool) → (a && b) ≡ false
    go true = e
    go false = refl

-- the mark
mark_first : (n off hs w h d c im x y used : ℕ) (rest : List ℕ) → word_at ((file_header n off ++ info_header hs w h d c im x y used) ++ rest) 0 ≡ 0x4D42
unfolding file_header info_header le16 le32 word_at
mark_first n off hs w h d c im x y used rest = refl

pub mark_read : (i : Input) → word_at (file_of (limit_in i) i) 0 ≡ 0x4D42
mark_read i = rw (file_parts i) (mark_first (file_size_of (limit_in i) i) _ _ _ _ _ _ _ _ _ _ (rest_part i ++ _))

-- the header's size
header_written : (m : Mode) (f : BmpPixelFormat) → (eqb (header_size_of m f) 40 || eqb (header_size_of m f) 108 || eqb (header_size_of m f) 124) ≡ true
header_written Masked f = refl
header_written Calibrated f = refl
header_written Profiled f = refl
header_written Plain f = go (is_rgb565 f)
  where
    go : (b : Bool) → (eqb (cond b 108 40) 40 || eqb (cond b 108 40) 108 || eqb (cond b 108 40) 124) ≡ true
    go true = refl
    go false = refl

-- the height
height_some : (down : Bool) (h : ℕ) → 0 < h → h < 2147483648 → eqb (cond down (4294967296 - h) h) 0 ≡ false
height_some true h a b = ne_eqb (4294967296 - h) 0 (λ e. omega arith)
height_some false h a b = ne_eqb h 0 (λ e. omega arith)

-- the depth
format_depth : (f : BmpPixelFormat) → written_depth (bits_per_pixel f) ≡ true
format_depth Rgba = refl
format_depth Rgb24 = refl
format_depth Bgra = refl
format_depth Bgr24 = refl
format_depth Rgb555 = refl
format_depth Rgb565 = refl
format_depth Pal8 = refl
format_depth Indexed4 = refl
format_depth Indexed2 = refl
format_depth Indexed1 = refl

mask_depth_lem : (d : ℕ) → (d ≡ 16) ⊎ (d ≡ 32) → written_depth d ≡ true
mask_depth_lem d (inl e) = rw e
mask_depth_lem d (inr e) = rw e

-- ---- depth and compression together

-- what is written, and how
data Kinds (c d : ℕ) (down : Bool) : Type 0 where
  stream8 : c ≡ 1 → d ≡ 8 → down ≡ false → Kinds c d down
  stream4 : c ≡ 2 → d ≡ 4 → down ≡ false → Kinds c d down
  plain : c ≡ 0 → written_depth d ≡ true → Kinds c d down
  three : c ≡ 3 → (d ≡ 16) ⊎ (d ≡ 32) → Kinds c d down
  six : c ≡ 6 → (d ≡ 16) ⊎ (d ≡ 32) → Kinds c d down

-- the depth of a coded source
coded_bits : (f : BmpPixelFormat) → coded f ≡ true → (bits_per_pixel f ≡ 8) ⊎ (bits_per_pixel f ≡ 4)
coded_bits f e = coded_cases (λ f. (bits_per_pixel f ≡ 8) ⊎ (bits_per_pixel f ≡ 4)) (inl refl) (inr refl) f e

kinds : (i : Input) → Accepted i → Kinds (compression_of (limit_in i) i) (depth_in i) i.options.top_down
unfolding compression_of depth_of rows_compression
kinds i a = go (stream_used (limit_in i) i) refl (is_some i.options.bitfields) refl
  where
    Answer : Bool → Bool → Type 0
    Answer s m =
        Kinds (cond s (cond (eqb (bits_per_pixel i.source.format) 8) 1 2) (cond m (mask_compression (bitfields_in i.options).masks) (cond (is_rgb565 i.source.format) 3 0)))
        (cond m (bitfields_in i.options).bpp (bits_per_pixel i.source.format)) i.options.top_down

    stream : (m : Bool) → is_some i.options.bitfields ≡ m → PlannedIn i → Answer true m
    stream true q s = absurd (true≢false (sym q ∙ s.unmasked))
    stream false q s = pick (coded_bits i.source.format s.source)
      where
        pick : (bits_per_pixel i.source.format ≡ 8) ⊎ (bits_per_pixel i.source.format ≡ 4) → Answer true false
        pick (inl b) = stream8 (rw b) b s.bottom_up
        pick (inr b) = stream4 (rw b) b s.bottom_up

    masked : (b : Bool) → has_alpha_mask (bitfields_in i.options).masks ≡ b → is_some i.options.bitfields ≡ true → Answer false true
    masked true q m = six (rw q) (a.masks m).depths
    masked false q m = three (rw q) (a.masks m).depths

    rows : (f : BmpPixelFormat) → i.source.format ≡ f → Kinds (cond (is_rgb565 f) 3 0) (bits_per_pixel f) i.options.top_down
    rows Rgba q = plain refl refl
    rows Rgb24 q = plain refl refl
    rows Bgra q = plain refl refl
    rows Bgr24 q = plain refl refl
    rows Rgb555 q = plain refl refl
    rows Rgb565 q = three refl (inl refl)
    rows Pal8 q = plain refl refl
    rows Indexed4 q = plain refl refl
    rows Indexed2 q = plain refl refl
    rows Indexed1 q = plain refl refl

    go : (s : Bool) → stream_used (limit_in i) i ≡ s → (m : Bool) → is_some i.options.bitfields ≡ m → Answer s m
    go true e m q = stream m q (used_in (limit_in i) i e).planned
    go false e true q = masked (has_alpha_mask (bitfields_in i.options).masks) refl q
    go false e false q = rows i.source.format refl

-- ---- the tests of the kind

kind_depth : {c d : ℕ} {down : Bool} → Kinds c d down → written_depth d ≡ true
kind_depth (stream8 c d e) = rw d
kind_depth (stream4 c d e) = rw d
kind_depth (plain c d) = d
kind_depth (three c d) = mask_depth_lem _ d
kind_depth (six c d) = mask_depth_lem _ d

kind_compression : (c : ℕ) {d : ℕ} {down : Bool} → Kinds c d down → (eqb c 0 || eqb c 1 || eqb c 2 || eqb c 3 || eqb c 6) ≡ true
kind_compression c (stream8 e d u) = rw e
kind_compression c (stream4 e d u) = rw e
kind_compression c (plain e d) = rw e
kind_compression c (three e d) = rw e
kind_compression c (six e d) = rw e

wide_depth : (d : ℕ) → (d ≡ 16) ⊎ (d ≡ 32) → (eqb d 16 || eqb d 32) ≡ true
wide_depth d (inl e) = rw e
wide_depth d (inr e) = rw e

kind_pair : (c d : ℕ) {down : Bool} → Kinds c d down → written_pair c d ≡ true
kind_pair c d (stream8 e q u) = rw (e, q)
kind_pair c d (stream4 e q u) = rw (e, q)
kind_pair c d (plain e q) = rw e
kind_pair c d (three e q) = rw (e, wide_depth d q)
kind_pair c d (six e q) = rw (e, wide_depth d q)

and_off : (b : Bool) → (b && false) ≡ false
and_off true = refl
and_off false = refl

never : (a b : Bool) → (a && false && b) ≡ false
never true b = refl
never false b = refl

kind_upright : (c : ℕ) {d : ℕ} {down : Bool} (h n : ℕ) → h < 2147483648 → Kinds c d down → negative_stream n c (cond down (4294967296 - h) h) ≡ false
kind_upright c h n l (stream8 e q u) = rw (e, u, lt-leb 2147483648 h l) (and_off (leb 34 n && true))
kind_upright c h n l (stream4 e q u) = rw (e, u, lt-leb 2147483648 h l) (and_off (leb 34 n && true))
kind_upright c {down = down} h n l (plain e q) = rw e (never (leb 34 n) (leb 2147483648 (cond down (4294967296 - h) h)))
kind_upright c {down = down} h n l (three e q) = rw e (never (leb 34 n) (leb 2147483648 (cond down (4294967296 - h) h)))
kind_upright c {down = down} h n l (six e q) = rw e (never (leb 34 n) (leb 2147483648 (cond down (4294967296 - h) h)))

-- no more colours are counted than a full table has
few_colours : (n d entries : ℕ) → many_colours n d (clr_used_of d entries) ≡ false
unfolding clr_used_of palette_entry_count
few_colours n d entries = go (leb 50 n) (leb d 8) (ltb entries (cond (has_table d) (2 ^ d) 0)) refl
  where
    small : (b : Bool) → ltb entries (cond b (2 ^ d) 0) ≡ true → entries ≤ 2 ^ d
    small true e = omega (arith, ltb-true entries (2 ^ d) e)
    small false e = absurd (omega (arith, ltb-true entries 0 e))

    go : (a b t : Bool) → ltb entries (cond (has_table d) (2 ^ d) 0) ≡ t → (a && b && ltb (2 ^ d) (cond t entries 0)) ≡ false
    go false b t e = refl
    go true false t e = refl
    go true true true e = le-ltb (2 ^ d) entries (small (has_table d) e)
    go true true false e = le-ltb (2 ^ d) 0 (omega arith)

-- ---- the masks

-- the rows of the mask check look at four masks
four_rows : (d : ℕ) (masks : List ℕ) → bitfields_rows d masks ≡ bitfields_rows d (get_or masks 0 0 ∷ get_or masks 1 0 ∷ get_or masks 2 0 ∷ get_or masks 3 0 ∷ [])
unfolding bitfields_rows cat mask_rows shares_bit
four_rows d masks = refl

-- masks that the check lets pass
masks_pass : (d : ℕ) (masks : List ℕ) → (d ≡ 16) ⊎ (d ≡ 32) → first_of (bitfields_rows d masks) ≡ Ok tt → refused_masks d masks ≡ false
masks_pass d masks deep e = rw (sym (behind_six d masks deep) ∙ ap check_number e)

rgb565_pass : refused_masks 16 (0xF800 ∷ 0x07E0 ∷ 0x001F ∷ 0 ∷ []) ≡ false
unfolding bitfields_rows cat mask_rows shares_bit is_one_run count lowest ones_in count_trailing_zeros
rgb565_pass = refl

no_alpha : (masks : List ℕ) → has_alpha_mask masks ≡ false → 0 ≡ get_or masks 3 0
no_alpha masks e = sym (eqb-true (get_or masks 3 0) 0 (not-false (eqb (get_or masks 3 0) 0) e))

four_565 : (file : List ℕ) → ColourMasks file 0xF800 0x07E0 0x001F → masks_of file 3 ≡ 0xF800 ∷ 0x07E0 ∷ 0x001F ∷ 0 ∷ []
unfolding masks_of
four_565 file r = rw (r.red_mask, r.green_mask, r.blue_mask)

module _ (i : Input) (a : Accepted i) (checks : is_some i.options.bitfields ≡ true → first_of (bitfields_rows (bitfields_in i.options).bpp (bitfields_in i.options).masks) ≡ Ok tt) where
  abbrev file : List ℕ
  file = file_of (limit_in i) i

  masks_four : (c : ℕ) → is_some i.options.bitfields ≡ true → c ≡ mask_compression (bitfields_in i.options).masks
      → masks_of file c ≡ get_or (bitfields_in i.options).masks 0 0 ∷ get_or (bitfields_in i.options).masks 1 0 ∷ get_or (bitfields_in i.options).masks 2 0 ∷ get_or (bitfields_in i.options).masks 3 0 ∷ []
  unfolding masks_of
  masks_four c m e =
      let r = masks_read i a m in
      rw (r.red_mask, r.green_mask, r.blue_mask, e)
      (ap (λ (k : ℕ). get_or (bitfields_in i.options).masks 0 0 ∷ get_or (bitfields_in i.options).masks 1 0 ∷ get_or (bitfields_in i.options).masks 2 0 ∷ k ∷ []) (go (has_alpha_mask (bitfields_in i.options).masks) refl))
    where
      go : (b : Bool) → has_alpha_mask (bitfields_in i.options).masks ≡ b → cond (eqb (cond b 6 3) 6) (dword_at file 66) 0 ≡ get_or (bitfields_in i.options).masks 3 0
      go true q = alpha_read i a m q
      go false q = no_alpha (bitfields_in i.options).masks q

  masks_written : (eqb (compression_of (limit_in i) i) 3 || eqb (compression_of (limit_in i) i) 6) ≡ true → refused_masks (depth_in i) (masks_of file (compression_of (limit_in i) i)) ≡ false
  unfolding compression_of depth_of rows_compression
  masks_written = go (stream_used (limit_in i) i) refl (is_some i.options.bitfields) refl
    where
      C : Bool → Bool → ℕ
      C s m = cond s (cond (eqb (bits_per_pixel i.source.format) 8) 1 2) (cond m (mask_compression (bitfields_in i.options).masks) (cond (is_rgb565 i.source.format) 3 0))

      D : Bool → ℕ
      D m = cond m (bitfields_in i.options).bpp (bits_per_pixel i.source.format)

      none : (b : Bool) → (eqb (cond b 1 2) 3 || eqb (cond b 1 2) 6) ≡ true → ⊥
      none true e = false≢true e
      none false e = false≢true e

      rows : (f : BmpPixelFormat) → i.source.format ≡ f → (eqb (cond (is_rgb565 f) 3 0) 3 || eqb (cond (is_rgb565 f) 3 0) 6) ≡ true → refused_masks (bits_per_pixel f) (masks_of file (cond (is_rgb565 f) 3 0)) ≡ false
      rows Rgba q e = absurd (false≢true e)
      rows Rgb24 q e = absurd (false≢true e)
      rows Bgra q e = absurd (false≢true e)
      rows Bgr24 q e = absurd (false≢true e)
      rows Rgb555 q e = absurd (false≢true e)
      rows Rgb565 q e = ap (refused_masks 16) (four_565 file (rgb565_read i a q)) ∙ rgb565_pass
      rows Pal8 q e = absurd (false≢true e)
      rows Indexed4 q e = absurd (false≢true e)
      rows Indexed2 q e = absurd (false≢true e)
      rows Indexed1 q e = absurd (false≢true e)

      go : (s : Bool) → stream_used (limit_in i) i ≡ s → (m : Bool) → is_some i.options.bitfields ≡ m → (eqb (C s m) 3 || eqb (C s m) 6) ≡ true → refused_masks (D m) (masks_of file (C s m)) ≡ false
      go true p m q e = absurd (none (eqb (bits_per_pixel i.source.format) 8) e)
      go false p true q e =
          ap (refused_masks (bitfields_in i.options).bpp) (masks_four (mask_compression (bitfields_in i.options).masks) q refl)
          ∙ masks_pass (bitfields_in i.options).bpp _ (a.masks q).depths (ap first_of (sym (four_rows (bitfields_in i.options).bpp (bitfields_in i.options).masks)) ∙ checks q)
      go false p false q e = rows i.source.format refl e

  -- 17 does not apply
  pub never_applies : never_written file ≡ false
  unfolding never_written
  never_applies =
      let n = length file in
      let k = kinds i a in
      let mark : strange_mark n (word_at file 0) ≡ false = off 2 n _ (rw (mark_read i)) in
      let header : strange_header n (header_size_of (mode_in i) i.source.format) ≡ false = off 18 n _ (rw (header_written (mode_in i) i.source.format)) in
      let width : no_width n i.source.width ≡ false = off 22 n _ (rw (ne_eqb i.source.width 0 (λ z. omega (arith, a.some_width)), lt-leb 2147483648 i.source.width a.wide)) in
      let height : no_height n (stored_height_of i) ≡ false = off 26 n _ (height_some i.options.top_down i.source.height a.some_height a.tall) in
      let depth : strange_depth n (depth_in i) ≡ false = off 30 n _ (rw (kind_depth k)) in
      let compression : strange_compression n (compression_of (limit_in i) i) ≡ false = off 34 n _ (rw (kind_compression (compression_of (limit_in i) i) k)) in
      let pair : strange_pair n (compression_of (limit_in i) i) (depth_in i) ≡ false = off 34 n _ (rw (kind_pair (compression_of (limit_in i) i) (depth_in i) k)) in
      let upright : negative_stream n (compression_of (limit_in i) i) (stored_height_of i) ≡ false = kind_upright (compression_of (limit_in i) i) i.source.height n a.tall k in
      let colours : many_colours n (depth_in i) (clr_used_of (depth_in i) (entries_of i)) ≡ false = few_colours n (depth_in i) (entries_of i) in
      rw (fields_read i a, mark, header, width, height, depth, compression, pair, upright, colours) (masks (eqb (compression_of (limit_in i) i) 3 || eqb (compression_of (limit_in i) i) 6) refl)
    where
      masks : (b : Bool) → (eqb (compression_of (limit_in i) i) 3 || eqb (compression_of (limit_in i) i) 6) ≡ b
          → (b && leb (masks_end (compression_of (limit_in i) i)) (length file) && refused_masks (depth_in i) (masks_of file (compression_of (limit_in i) i))) ≡ false
      masks false e = refl
      masks true e = go (leb (masks_end (compression_of (limit_in i) i)) (length file)) (masks_written e)
        where
          go : (t : Bool) {r : Bool} → r ≡ false → (t && r) ≡ false
          go true q = q
          go false q = refl
