-- What the readers take as the colour table, and that they find the head whole.
use mathlib.Core.Path.{◌≡◌, refl, sym, ap, ◌∙◌}
use mathlib.Core.Logic.{◌⊎◌, inl, inr}
use mathlib.Core.Bool.{Bool, true, false, cond, false≢true}
use mathlib.Core.List.{List, [], ◌∷◌, ◌++◌}
use Prim.Native.Nat.{ℕ, ◌+◌, ◌-◌, ◌*◌, ◌/◌, ◌^◌, ◌≤◌, ◌<◌}
use native.Mathlib.Omega.{arith}
use borrow.Author.Tests.{ltb-false, eqb-true}
use lib.Dec.{ltb, leb, eqb}
use lib.IntN.{ℤ}
use lib.ListN.{length, get_or, replicate, length-append, length-map, get_or-append}
use lib.Seq.{get_or-append-add}
use mir.Syntax.{w32}
use mir.Val.{of_z}
use Rattle.std.proofs.Common.{is_some}
use Rattle.leaves.specs.declared.encoder.EncodeSource.{EncodeSource}
use Rattle.leaves.specs.declared.options.EncodeOptions.{EncodeOptions}
use Rattle.leaves.specs.declared.image.BmpPixelFormat.{BmpPixelFormat}
use Rattle.leaves.specs.declared.image.BmpPixelFormat.TheVariants.{Rgba, Rgb24, Bgra, Bgr24, Rgb555, Rgb565, Pal8, Indexed4, Indexed2, Indexed1}
use Rattle.leaves.specs.Bytes.{le32}
use Rattle.format.specs.File.{mode_in, depth_in, raw_bytes, entries_of, head_bytes_of, tail_of, limit_in, pixels, table_entry, colour_table, file_size_of, file_of}
use Rattle.format.specs.Layout.{is_masked, depth_of, table_entries, header_size_of, long_masks, mask_tail, head_rest}
use Rattle.leaves.specs.Formats.{bits_per_pixel, is_indexed, is_rgb565, mask_source}
use Rattle.format.specs.declared.layout.Mode.{Mode}
use Rattle.format.specs.declared.layout.Mode.TheVariants.{Masked, Calibrated, Profiled, Plain}
use Rattle.format.proofs.Modes.{given_mode}
use Rattle.format.proofs.HeadFields.{first_part, rest_part, file_parts, first-length, rest_length, table_length, fields_read}
use Rattle.leaves.specs.Sizes.{palette_entry_count, written_palette_entries, clr_used_of}
use Rattle.format.specs.Headers.{dwords, v4_fields, v5_fields, longs}
use Rattle.leaves.specs.Masks.{has_alpha_mask}
use Rattle.format.specs.Input.{Input}
use Rattle.format.specs.Accepted.{Accepted}
use Rattle.format.specs.Expectation.{colours_shown, palette_shown}
use Rattle.format.specs.Shown.{rgb}
use Rattle.format.specs.Readers.{Fields, fields_of, table_count, palette_of}
use Rattle.leaves.proofs.ListLaws.{tab_ext, get_or-cat}
use Rattle.leaves.proofs.TableCounts.{entries_le, written_le, written_some}
use Rattle.leaves.specs.Options.{bitfields_in, calibrated_in}

-- ---- lengths of the longer headers

-- four bytes for each number
pub dwords-length : (vs : List ℕ) → length (dwords vs) ≡ 4 * length vs
unfolding dwords le32
dwords-length [] = refl
dwords-length (v ∷ vs) = simp (dwords-length vs) (omega arith)

-- four masks, a colour space, nine endpoints and three gammas: 68 bytes
pub v4_length : (masks : List ℕ) (space : ℕ) (ends gammas : List ℕ) → length masks ≡ 4 → length ends ≡ 9 → length gammas ≡ 3
    → length (v4_fields masks space ends gammas) ≡ 68
unfolding v4_fields le32
v4_length masks space ends gammas a b c = simp (length-append, dwords-length) (omega arith)

-- the masks behind a 40-byte header have 16 bytes with an alpha mask, and 12 without
pub mask_tail_lem : (masks : List ℕ) (b : Bool) → has_alpha_mask masks ≡ b → length (mask_tail masks) ≡ cond b 16 12
unfolding mask_tail dwords le32
mask_tail_lem masks true e = rw e
mask_tail_lem masks false e = rw e

-- the longer headers have four masks
pub four_masks : (f : BmpPixelFormat) → length (long_masks f) ≡ 4
four_masks Rgba = refl
four_masks Rgb24 = refl
four_masks Bgra = refl
four_masks Bgr24 = refl
four_masks Rgb555 = refl
four_masks Rgb565 = refl
four_masks Pal8 = refl
four_masks Indexed4 = refl
four_masks Indexed2 = refl
four_masks Indexed1 = refl

pub longs-length : (zs : List ℤ) → length (longs zs) ≡ length zs
unfolding longs
longs-length zs = length-map zs (of_z w32)

-- without masks, the header ends where the table begins
pub header_fills : (s : EncodeSource) (o : EncodeOptions) → length (calibrated_in o).endpoints ≡ 9 → length (calibrated_in o).gamma ≡ 3 → (m : Mode) → is_masked m ≡ false
    → 54 + length (head_rest m s o 0 0) ≡ 14 + header_size_of m s.format
unfolding head_rest v5_fields le32
header_fills s o nine three Masked never = absurd (false≢true (sym never))
header_fills s o nine three Calibrated never =
    rw (v4_length (long_masks s.format) 0 (longs (calibrated_in o).endpoints) (calibrated_in o).gamma
    (four_masks s.format) (longs-length (calibrated_in o).endpoints ∙ nine) three)
header_fills s o nine three Profiled never =
    simp (
      length-append,
      v4_length (long_masks s.format) (cond s.has_linked_icc 0x4C494E4B 0x4D424544) (replicate 9 0) (replicate 3 0) (four_masks s.format) refl refl,
    )
header_fills s o nine three Plain never = go (is_rgb565 s.format)
  where
    go : (b : Bool) → 54 + length (cond b (v4_fields (long_masks s.format) 0x73524742 (replicate 9 0) (replicate 3 0)) []) ≡ 14 + cond b 108 40
    go true = rw (v4_length (long_masks s.format) 0x73524742 (replicate 9 0) (replicate 3 0) (four_masks s.format) refl refl)
    go false = refl

-- ---- the table's count

-- direct colour has no entries
pub entries_direct : (f : BmpPixelFormat) (n : ℕ) (minimal : Bool) → is_indexed f ≡ false → 0 ≡ table_entries f n minimal
unfolding table_entries
entries_direct f n minimal e = rw e

-- there are at most 256
pub entries_small : (f : BmpPixelFormat) (n : ℕ) (minimal : Bool) → table_entries f n minimal ≤ 256
unfolding table_entries
entries_small f n minimal = go (is_indexed f)
  where
    go : (b : Bool) → cond b (written_palette_entries (bits_per_pixel f) (n / 4) minimal) 0 ≤ 256
    go true = omega (arith, written_le (bits_per_pixel f) (n / 4) minimal, entries_le (bits_per_pixel f))
    go false = omega arith

-- an indexed source cannot take masks
pub indexed_refused : (f : BmpPixelFormat) → is_indexed f ≡ true → mask_source f ≡ false → ⊥
indexed_refused Rgba e h = absurd (false≢true e)
indexed_refused Rgb24 e h = absurd (false≢true e)
indexed_refused Bgra e h = absurd (false≢true e)
indexed_refused Bgr24 e h = absurd (false≢true e)
indexed_refused Rgb555 e h = absurd (false≢true e)
indexed_refused Rgb565 e h = absurd (false≢true e)
indexed_refused Pal8 e h = absurd (false≢true (sym h))
indexed_refused Indexed4 e h = absurd (false≢true (sym h))
indexed_refused Indexed2 e h = absurd (false≢true (sym h))
indexed_refused Indexed1 e h = absurd (false≢true (sym h))

-- the entries written are the colours to be shown
entries_shown : (f : BmpPixelFormat) (count : ℕ) (minimal : Bool)
    → cond (is_indexed f) (written_palette_entries (bits_per_pixel f) count minimal) 0 ≡ colours_shown f count minimal
unfolding written_palette_entries palette_entry_count colours_shown
entries_shown Rgba count minimal = refl
entries_shown Rgb24 count minimal = refl
entries_shown Bgra count minimal = refl
entries_shown Bgr24 count minimal = refl
entries_shown Rgb555 count minimal = refl
entries_shown Rgb565 count minimal = refl
entries_shown Pal8 count true = omega arith
entries_shown Pal8 count false = refl
entries_shown Indexed4 count true = omega arith
entries_shown Indexed4 count false = refl
entries_shown Indexed2 count true = omega arith
entries_shown Indexed2 count false = refl
entries_shown Indexed1 count true = omega arith
entries_shown Indexed1 count false = refl

-- the count that a header's depth and number of colours say
abbrev count_in : ℕ → ℕ → ℕ
count_in depth colours = cond (leb depth 8) (cond (eqb colours 0) (2 ^ depth) colours) 0

-- 0 for a full table of p entries, and otherwise their number, says the number
count_back : (p e : ℕ) → 0 < e → e ≤ p → cond (eqb (cond (ltb e p) e 0) 0) p (cond (ltb e p) e 0) ≡ e
count_back p e some most = go (ltb e p) refl
  where
    given : (b : Bool) → eqb e 0 ≡ b → cond b p e ≡ e
    given true z = absurd (omega (arith, eqb-true e 0 z))
    given false z = refl

    go : (b : Bool) → ltb e p ≡ b → cond (eqb (cond b e 0) 0) p (cond b e 0) ≡ e
    go true z = given (eqb e 0) refl
    go false z = omega (arith, ltb-false e p z)

-- without masks
plain-count : (f : BmpPixelFormat) (count : ℕ) (minimal : Bool)
    → count_in (bits_per_pixel f) (clr_used_of (bits_per_pixel f) (cond (is_indexed f) (written_palette_entries (bits_per_pixel f) count minimal) 0))
    ≡ cond (is_indexed f) (written_palette_entries (bits_per_pixel f) count minimal) 0
unfolding clr_used_of palette_entry_count
plain-count Rgba count minimal = refl
plain-count Rgb24 count minimal = refl
plain-count Bgra count minimal = refl
plain-count Bgr24 count minimal = refl
plain-count Rgb555 count minimal = refl
plain-count Rgb565 count minimal = refl
plain-count Pal8 count minimal =
    count_back 256 (written_palette_entries 8 count minimal) (written_some 8 count minimal (omega arith)) (written_le 8 count minimal)
plain-count Indexed4 count minimal =
    count_back 16 (written_palette_entries 4 count minimal) (written_some 4 count minimal (omega arith)) (written_le 4 count minimal)
plain-count Indexed2 count minimal =
    count_back 4 (written_palette_entries 2 count minimal) (written_some 2 count minimal (omega arith)) (written_le 2 count minimal)
plain-count Indexed1 count minimal =
    count_back 2 (written_palette_entries 1 count minimal) (written_some 1 count minimal (omega arith)) (written_le 1 count minimal)

-- at the depths of masks there is no table
deep_count : (depth colours : ℕ) → (depth ≡ 16) ⊎ (depth ≡ 32) → count_in depth colours ≡ 0
deep_count depth colours (inl e) = rw e
deep_count depth colours (inr e) = rw e

-- none of the sources that take masks has a table
no_entries : (b : Bool) (n : ℕ) → (b ≡ true → ⊥) → cond b n 0 ≡ 0
no_entries true n never = absurd (never refl)
no_entries false n never = refl

module _ (i : Input) (a : Accepted i) where
  -- masks have no indexed source
  no_masks : is_indexed i.source.format ≡ true → (b : Bool) → is_some i.options.bitfields ≡ b → b ≡ false
  no_masks e true m = absurd (indexed_refused i.source.format e (a.samples m))
  no_masks e false m = refl

  -- by whether masks are given
  entry_count : count_in (depth_in i) (clr_used_of (depth_in i) (entries_of i)) ≡ entries_of i
  unfolding table_entries depth_of
  entry_count = go (is_some i.options.bitfields) refl
    where
      go : (b : Bool) → is_some i.options.bitfields ≡ b
          → count_in (cond b (bitfields_in i.options).bpp (bits_per_pixel i.source.format)) (clr_used_of (cond b (bitfields_in i.options).bpp (bits_per_pixel i.source.format)) (entries_of i)) ≡ entries_of i
      go true e =
          deep_count (bitfields_in i.options).bpp (clr_used_of (bitfields_in i.options).bpp (entries_of i)) (a.masks e).depths
          ∙ sym (no_entries (is_indexed i.source.format) (written_palette_entries (bits_per_pixel i.source.format) (length i.palette / 4) i.options.minimal_palette)
          (λ h. false≢true (sym (no_masks h true e))))
      go false e = plain-count i.source.format (length i.palette / 4) i.options.minimal_palette

  -- the readers count the entries written
  pub count-read : table_count (fields_of (file_of (limit_in i) i)) ≡ entries_of i
  unfolding table_count
  count-read = rw (fields_read i a) entry_count

-- ---- the table's bytes

-- a byte behind a list of known length
past : (xs ys : List ℕ) (k n : ℕ) → length xs ≡ k → get_or (xs ++ ys) (k + n) 0 ≡ get_or ys n 0
past xs ys k n e = rw (← e) (get_or-append-add xs ys n 0)

-- a test that lets something through holds
passed : (b : Bool) (n k : ℕ) → k < cond b n 0 → b ≡ true
passed true n k h = refl
passed false n k h = absurd (omega arith)

module _ (i : Input) (a : Accepted i) where
  -- where there is an entry, there are no masks
  pub entry_plain : (k : ℕ) → k < entries_of i → is_masked (mode_in i) ≡ false
  unfolding table_entries
  entry_plain k h =
      no_masks i a (passed (is_indexed i.source.format)
      (written_palette_entries (bits_per_pixel i.source.format) (length i.palette / 4) i.options.minimal_palette) k h) (is_masked (mode_in i)) (given_mode i.source i.options)

  -- byte j of entry k, by its place behind the header
  table_byte : (k j q : ℕ) → k < entries_of i → j < 4 → q ≡ 14 + header_size_of (mode_in i) i.source.format + (k * 4 + j)
      → get_or (file_of (limit_in i) i) q 0 ≡ get_or (table_entry i.palette k) j 0
  unfolding colour_table table_entry
  table_byte k j q h l e =
      let n : ℕ = length (head_rest (mode_in i) i.source i.options 0 0) in
      let place : q ≡ 54 + (n + (k * 4 + j)) = omega (arith, header_fills i.source i.options a.nine_endpoints a.three_gammas (mode_in i) (entry_plain k h)) in
      rw (file_parts i, place)
      (past (first_part i (file_size_of (limit_in i) i)) (rest_part i ++ (colour_table i ++ (pixels (limit_in i) i ++ tail_of i))) 54
      (n + (k * 4 + j)) (first-length i (file_size_of (limit_in i) i))
      ∙ past (rest_part i) (colour_table i ++ (pixels (limit_in i) i ++ tail_of i)) n (k * 4 + j)
      (rest_length (mode_in i) i.source i.options (length (tail_of i)) (head_bytes_of i - 14 + raw_bytes i))
      ∙ get_or-append (colour_table i) (pixels (limit_in i) i ++ tail_of i) 0 (k * 4 + j) (omega (arith, table_length i))
      ∙ get_or-cat (table_entry i.palette) 4 (entries_of i) k j 0 (λ n m. refl) l h)

  -- as many entries are read as must be shown
  colours_read : table_count (fields_of (file_of (limit_in i) i)) ≡ colours_shown i.source.format (length i.palette / 4) i.options.minimal_palette
  unfolding table_entries
  colours_read = count-read i a ∙ entries_shown i.source.format (length i.palette / 4) i.options.minimal_palette

  -- the readers' palette is the one handed in
  pub palette_read : palette_of (file_of (limit_in i) i) (fields_of (file_of (limit_in i) i)) ≡ palette_shown i
  unfolding palette_of palette_shown table_entry
  palette_read =
      rw colours_read
      (tab_ext _ _ (colours_shown i.source.format (length i.palette / 4) i.options.minimal_palette) (λ k l.
      let here : k < entries_of i = omega (arith, colours_read, count-read i a) in
      let size : (fields_of (file_of (limit_in i) i)).header_size_of ≡ header_size_of (mode_in i) i.source.format = ap (λ (t : Fields). t.header_size_of) (fields_read i a) in
      let four : k * 4 ≡ 4 * k = omega arith in
      let red : get_or (file_of (limit_in i) i) (14 + (fields_of (file_of (limit_in i) i)).header_size_of + k * 4 + 2) 0 ≡ get_or i.palette (4 * k) 0
      = table_byte k 2 _ here (omega arith) (omega arith) ∙ ap (λ (z : ℕ). get_or i.palette z 0) four in
      let green : get_or (file_of (limit_in i) i) (14 + (fields_of (file_of (limit_in i) i)).header_size_of + k * 4 + 1) 0 ≡ get_or i.palette (4 * k + 1) 0
      = table_byte k 1 _ here (omega arith) (omega arith) ∙ ap (λ (z : ℕ). get_or i.palette (z + 1) 0) four in
      let blue : get_or (file_of (limit_in i) i) (14 + (fields_of (file_of (limit_in i) i)).header_size_of + k * 4) 0 ≡ get_or i.palette (4 * k + 2) 0
      = table_byte k 0 _ here (omega arith) (omega arith) ∙ ap (λ (z : ℕ). get_or i.palette (z + 2) 0) four in
      λ z. rgb (red z) (green z) (blue z)))
