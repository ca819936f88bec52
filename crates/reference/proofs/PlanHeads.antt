-- The heads that Plan::new chooses, by document 01's modes, and their lengths.
use mathlib.Core.Path.{◌≡◌, refl, sym, ap, ◌∙◌}
use mathlib.Core.Bool.{Bool, true, false, cond, false≢true}
use mathlib.Core.List.{List}
use Prim.Native.Nat.{ℕ, ◌+◌, ◌*◌, ◌%◌, ◌≤◌}
use native.Mathlib.Nat.{mod-eq_of_lt}
use native.Mathlib.Omega.{arith}
use lib.ListN.{length, replicate}
use Rattle.leaves.specs.declared.image.BmpPixelFormat.{BmpPixelFormat}
use Rattle.leaves.specs.declared.image.BmpPixelFormat.TheVariants as source
use Rattle.leaves.specs.Formats.{bits_per_pixel, is_indexed, is_rgb565}
use Rattle.leaves.specs.Masks.{has_alpha_mask}
use Rattle.leaves.specs.Options.{bitfields_in, calibrated_in}
use Rattle.format.specs.declared.layout.Mode.{Mode}
use Rattle.format.specs.declared.layout.Mode.TheVariants.{Masked, Calibrated, Profiled, Plain}
use Rattle.format.specs.File.{entries_of}
use Rattle.format.specs.Layout.{header_size_of, long_masks, mask_tail, head_rest}
use Rattle.format.specs.Input.{Input}
use Rattle.format.proofs.HeadFields.{choice_le}
use Rattle.format.proofs.HeadTable.{mask_tail_lem, header_fills, entries_direct, entries_small}
use Rattle.reference.specs.Rust.{done, ◌>>=◌, Option, some, none, add}
use Rattle.reference.specs.Types.{Palette}
use Rattle.reference.specs.Plan.{ColourHeader, Head, V3, V3Masks, V3Indexed, V4Rgb565, V4Calibrated, V5Profile, rle_for, entry_bytes, table_bytes_of, header_len, head_len}
use Rattle.reference.specs.Compared.{entries_in, masks_of, options_of}
use Rattle.reference.proofs.RunLaws.{add_is, mul_is}

abbrev pub palette_in : Input → Palette
palette_in i = record { entries = entries_in i.palette }

abbrev pub table_for : Bool → Input → Option (Palette × ℕ)
table_for indexed i = cond indexed (some (palette_in i, entries_of i)) none

abbrev pub colour_header_for : BmpPixelFormat → Input → ColourHeader
colour_header_for f i = record { bpp = bits_per_pixel f; compression = cond (is_rgb565 f) 3 0; masks = long_masks f; table = table_for (is_indexed f) i }

abbrev pub indexed_head : BmpPixelFormat → Input → Head
indexed_head f i = V3Indexed (bits_per_pixel f) (palette_in i) (entries_of i) (rle_for f (options_of i))

abbrev pub plain_head_for : BmpPixelFormat → Input → Head
plain_head_for f i = cond (is_indexed f) (indexed_head f i) (cond (is_rgb565 f) V4Rgb565 (V3 (bits_per_pixel f)))

abbrev pub head_for : Mode → BmpPixelFormat → Input → Head
head_for Masked f i = V3Masks (masks_of (bitfields_in i.options).bpp (bitfields_in i.options).masks)
head_for Calibrated f i = V4Calibrated (colour_header_for f i) (calibrated_in i.options)
head_for Profiled f i = V5Profile (colour_header_for f i) (cond i.source.has_linked_icc 0x4C494E4B 0x4D424544) i.options.rendering_intent (cond i.source.has_linked_icc i.linked i.icc)
head_for Plain f i = plain_head_for f i

-- the three kinds of plain heads: what is so of each is so of every format
pub by_head : (P : BmpPixelFormat → Type 0) → ((f : BmpPixelFormat) → is_indexed f ≡ true → is_rgb565 f ≡ false → long_masks f ≡ replicate 4 0 → P f) → P source.Rgb565
    → ((f : BmpPixelFormat) → is_indexed f ≡ false → is_rgb565 f ≡ false → P f) → (f : BmpPixelFormat) → P f
by_head P a b c source.Rgba = c source.Rgba refl refl
by_head P a b c source.Rgb24 = c source.Rgb24 refl refl
by_head P a b c source.Bgra = c source.Bgra refl refl
by_head P a b c source.Bgr24 = c source.Bgr24 refl refl
by_head P a b c source.Rgb555 = c source.Rgb555 refl refl
by_head P a b c source.Rgb565 = b
by_head P a b c source.Pal8 = a source.Pal8 refl refl refl
by_head P a b c source.Indexed4 = a source.Indexed4 refl refl refl
by_head P a b c source.Indexed2 = a source.Indexed2 refl refl refl
by_head P a b c source.Indexed1 = a source.Indexed1 refl refl refl

-- ---- lengths

-- a call's table has at most 256 entries, and none for direct colour
pub few_entries : (i : Input) → entries_of i ≤ 256
few_entries i = entries_small i.source.format (length i.palette) i.options.minimal_palette

pub no_entries : (i : Input) → is_indexed i.source.format ≡ false → 0 ≡ entries_of i
no_entries i = entries_direct i.source.format (length i.palette) i.options.minimal_palette

entry_bytes_lem : (n : ℕ) → n ≤ 256 → entry_bytes n ≡ done (n * 4)
unfolding entry_bytes
entry_bytes_lem n h =
    let m : n * 4 % 4294967296 ≡ n * 4 = mod-eq_of_lt (omega (arith, h)) in
    rw (mul_is 64 n 4 (omega (arith, h)), m)

table_bytes : (b : Bool) (i : Input) → (b ≡ false → 0 ≡ entries_of i) → table_bytes_of (table_for b i) ≡ done (entries_of i * 4)
unfolding table_bytes_of
table_bytes true i empty = entry_bytes_lem (entries_of i) (few_entries i)
table_bytes false i empty = let z : entries_of i ≡ 0 = sym (empty refl) in rw z

-- a header of n bytes with its table
long_len : (n : ℕ) (b : Bool) (i : Input) → n ≤ 124 → (b ≡ false → 0 ≡ entries_of i) → (table_bytes_of (table_for b i) >>= add 32 n >>= add 32 14) ≡ done (14 + n + 4 * entries_of i)
long_len n b i h empty =
    let small = few_entries i in
    let e : 14 + (n + entries_of i * 4) ≡ 14 + n + 4 * entries_of i = omega arith in
    rw (table_bytes b i empty, add_is 32 n (entries_of i * 4) (omega (arith, h, small)), add_is 32 14 (n + entries_of i * 4) (omega (arith, h, small)), e)

pub tail_small : (masks : List ℕ) → length (mask_tail masks) ≤ 16
tail_small masks = omega (arith, mask_tail_lem masks (has_alpha_mask masks) refl, choice_le (has_alpha_mask masks) 16 12 16 (omega arith) (omega arith))

-- a header of n bytes without a table
short_len : (n : ℕ) (i : Input) → n ≤ 124 → is_indexed i.source.format ≡ false → add 32 14 n ≡ done (14 + n + 4 * entries_of i)
short_len n i h direct =
    let e : 14 + n ≡ 14 + n + 4 * entries_of i = omega (arith, no_entries i direct) in
    add_is 32 14 n (omega (arith, h)) ∙ ap done e

masks_len : (masks : List ℕ) → add 32 40 (cond (has_alpha_mask masks) 16 12) ≡ done (40 + length (mask_tail masks))
masks_len masks =
    let n = mask_tail_lem masks (has_alpha_mask masks) refl in
    add_is 32 40 (cond (has_alpha_mask masks) 16 12) (omega (arith, n, tail_small masks)) ∙ ap (λ z. done (40 + z)) (sym n)

-- Head::len is the document's
pub head_len_lem : (m : Mode) (i : Input) → length (calibrated_in i.options).endpoints ≡ 9 → length (calibrated_in i.options).gamma ≡ 3
    → (m ≡ Masked → is_indexed i.source.format ≡ false) → head_len (head_for m i.source.format i) ≡ done (14 + 40 + length (head_rest m i.source i.options 0 0) + 4 * entries_of i)
unfolding head_len header_len head_rest table_bytes_of
head_len_lem Masked i nine three direct =
    let masks = (bitfields_in i.options).masks in
    let e : 14 + (40 + length (mask_tail masks)) + 4 * entries_of i ≡ 14 + 40 + length (mask_tail masks) + 4 * entries_of i = omega arith in
    rw (masks_len masks, short_len (40 + length (mask_tail masks)) i (omega (arith, tail_small masks)) (direct refl), e)
head_len_lem Calibrated i nine three direct =
    let f : 54 + length (head_rest Calibrated i.source i.options 0 0) ≡ 122 = header_fills i.source i.options nine three Calibrated refl in
    long_len 108 (is_indexed i.source.format) i (omega arith) (no_entries i) ∙ ap done (omega (arith, f))
head_len_lem Profiled i nine three direct =
    let f : 54 + length (head_rest Profiled i.source i.options 0 0) ≡ 138 = header_fills i.source i.options nine three Profiled refl in
    long_len 124 (is_indexed i.source.format) i (omega arith) (no_entries i) ∙ ap done (omega (arith, f))
head_len_lem Plain i nine three direct =
    go i.source.format refl ∙ ap done (omega (arith, header_fills i.source i.options nine three Plain refl))
  where
    go : (f : BmpPixelFormat) → i.source.format ≡ f → head_len (plain_head_for f i) ≡ done (14 + header_size_of Plain f + 4 * entries_of i)
    go = by_head (λ f. i.source.format ≡ f → head_len (plain_head_for f i) ≡ done (14 + header_size_of Plain f + 4 * entries_of i))
        (λ f a b m e. rw (a, b) (long_len 40 true i (omega arith) (λ x. absurd (false≢true (sym x)))))
        (λ e. short_len 108 i (omega arith) (ap is_indexed e))
        (λ f a b e. rw (a, b) (short_len 40 i (omega arith) (ap is_indexed e ∙ a)))
