-- What source and options decide: laws of the functions that decide it.
use mathlib.Core.Path.{◌≡◌, refl, sym, ap, ◌∙◌}
use mathlib.Core.Bool.{Bool, true, false, not, cond, ◌&&◌, false≢true}
use mathlib.Core.List.{List}
use Prim.Native.Nat.{ℕ, ◌+◌, ◌*◌, ◌≤◌, ◌<◌}
use native.Mathlib.Omega.{arith}
use borrow.Author.Tests.{eqb-true, eqb-false}
use lib.Dec.{eqb}
use lib.ListN.{length, get_or}
use Rattle.leaves.specs.declared.bitfields.MaskShiftLen.{MaskShiftLen}
use Rattle.leaves.specs.declared.encoder.EncodeSource.{EncodeSource}
use Rattle.leaves.specs.declared.encoder.EncodedBmpFormat.{EncodedBmpFormat}
use Rattle.leaves.specs.declared.options.EncodeOptions.{EncodeOptions}
use Rattle.leaves.specs.Formats.{bits_per_pixel, is_rgb565, plain_token}
use Rattle.leaves.specs.Masks.{count, lowest, is_one_run, has_alpha_mask, mask_compression, ShiftLen}
use Rattle.rows.specs.declared.masks.MaskLayout.{MaskLayout}
use Rattle.rows.specs.declared.pack.RowPack.{RowPack}
use Rattle.std.proofs.Common.{Option, Some, None, is_some}
use Rattle.leaves.specs.Options.{bitfields_in, calibrated_in}
use Rattle.rows.specs.declared.rle.Rle.{Rle}
use Rattle.format.specs.declared.layout.Mode.{Mode}
use Rattle.format.specs.declared.layout.Mode.TheVariants.{Masked, Calibrated, Profiled, Plain}
use Rattle.format.specs.Layout.{mode_of, is_masked, is_plain, depth_of, channel_of, channels_of, plain_pack, mask_pack, pack_of, table_entries, header_size_of, head_rest, head_len, plain_compression, rows_compression, mask_format, rows_format, coding_at, coded, wants_rle, coding_of, layout_of}
use Rattle.format.proofs.HeadTable.{mask_tail_lem, header_fills, entries_small}
use Rattle.format.proofs.Modes.{given_mode}

-- ---- masks

-- the place and length of a mask of one run
channel_is : (mask : ℕ) (s : MaskShiftLen) → ShiftLen mask s.shift s.len → is_one_run mask ≡ true → s ≡ channel_of mask
channel_is mask s k run = go (eqb mask 0) refl
  where
    go : (b : Bool) → eqb mask 0 ≡ b → s ≡ record { shift = cond (eqb mask 0) 0 (lowest mask); len = count mask }
    go true e = λ z. record { shift = ((k.none (eqb-true mask 0 e)).0 ∙ sym (ap (λ (b : Bool). cond b 0 (lowest mask)) e)) z; len = k.run_len run z }
    go false e = λ z. record { shift = (k.run_shift run (eqb-false mask 0 e) ∙ sym (ap (λ (b : Bool). cond b 0 (lowest mask)) e)) z; len = k.run_len run z }

-- the channels of masks of one run each
pub channels_are : (d : ℕ) (masks : List ℕ) (l : MaskLayout) → ((k : ℕ) → k < 4 → is_one_run (get_or masks k 0) ≡ true) → l.bpp ≡ d
    → ShiftLen (get_or masks 0 0) l.r.shift l.r.len → ShiftLen (get_or masks 1 0) l.g.shift l.g.len
    → ShiftLen (get_or masks 2 0) l.b.shift l.b.len → ShiftLen (get_or masks 3 0) l.a.shift l.a.len → l ≡ channels_of d masks
unfolding channels_of
channels_are d masks l runs e r g b a =
    let red = channel_is (get_or masks 0 0) l.r r (runs 0 (omega arith)) in
    let green = channel_is (get_or masks 1 0) l.g g (runs 1 (omega arith)) in
    let blue = channel_is (get_or masks 2 0) l.b b (runs 2 (omega arith)) in
    let alpha = channel_is (get_or masks 3 0) l.a a (runs 3 (omega arith)) in
    λ z. record { bpp = e z; r = red z; g = green z; b = blue z; a = alpha z }

-- ---- streams

-- where the tests of the mode and the options hold, the depth decides
pub coding_tested : (a c d : Bool) (x : Option Rle) → a ≡ true → c ≡ true → d ≡ false → x ≡ cond (a && is_some x && c && not d) x None
coding_tested true true false (Some rle) p q r = refl
coding_tested true true false None p q r = refl
coding_tested true true true x p q r = absurd (false≢true (sym r))
coding_tested true false d x p q r = absurd (false≢true q)
coding_tested false c d x p q r = absurd (false≢true p)

-- where one does not, none is tried
pub coding_untested : (a b c d : Bool) (x : Option Rle) → (a && b && c && not d) ≡ false → None ≡ cond (a && b && c && not d) x None
coding_untested a b c d x e = rw e

-- a stream is tried exactly where RLE is planned
pub coding_planned : (s : EncodeSource) (o : EncodeOptions) → is_some (coding_of s o) ≡ wants_rle s o
unfolding coding_of wants_rle
coding_planned s o = go (is_plain (mode_of s o)) o.rle o.top_down (coding_at (bits_per_pixel s.format))
  where
    go : (a c d : Bool) (x : Option Rle) → is_some (cond (a && is_some x && c && not d) x None) ≡ (a && is_some x && c && not d)
    go false c d x = refl
    go true false d (Some rle) = refl
    go true false d None = refl
    go true true false (Some rle) = refl
    go true true false None = refl
    go true true true (Some rle) = refl
    go true true true None = refl

-- ---- the layout

-- by whether masks are given
pub layout_is : (s : EncodeSource) (o : EncodeOptions) (n : ℕ) (m : Mode) (b : Bool) (size depth entries compression : ℕ) (coding : Option Rle) (pack : RowPack) (format : EncodedBmpFormat)
    → m ≡ mode_of s o → is_masked m ≡ b → size ≡ header_size_of m s.format → entries ≡ table_entries s.format n o.minimal_palette
    → coding ≡ cond (is_plain m && coded s.format && o.rle && not o.top_down) (coding_at (bits_per_pixel s.format)) None
    → depth ≡ cond b (bitfields_in o).bpp (bits_per_pixel s.format) → pack ≡ cond b (mask_pack s.format (bitfields_in o).bpp (bitfields_in o).masks) (plain_pack s.format)
    → compression ≡ cond b (mask_compression (bitfields_in o).masks) (plain_compression s.format) → format ≡ cond b (mask_format (bitfields_in o).masks) (plain_token s.format)
    → record { mode = m; header_size = size; bit_count = depth; entries = entries; coding = coding; pack = pack; compression = compression; format = format } ≡ layout_of s o n
unfolding layout_of depth_of pack_of rows_compression rows_format coding_of wants_rle
layout_is s o n m b size depth entries compression coding pack format em eb es en ec ed ep ek ef =
    let f = s.format in
    let given : b ≡ is_some o.bitfields = sym eb ∙ ap is_masked em ∙ sym (given_mode s o) in
    λ z. record {
      mode = em z;
      header_size = (es ∙ ap (λ (x : Mode). header_size_of x f) em) z;
      bit_count = (ed ∙ ap (λ (x : Bool). cond x (bitfields_in o).bpp (bits_per_pixel f)) given) z;
      entries = en z;
      coding = (ec ∙ ap (λ (x : Mode). cond (is_plain x && coded f && o.rle && not o.top_down) (coding_at (bits_per_pixel f)) None) em) z;
      pack = (ep ∙ ap (λ (x : Bool). cond x (mask_pack f (bitfields_in o).bpp (bitfields_in o).masks) (plain_pack f)) given) z;
      compression = (ek ∙ ap (λ (x : Bool). cond x (mask_compression (bitfields_in o).masks) (plain_compression f)) given) z;
      format = (ef ∙ ap (λ (x : Bool). cond x (mask_format (bitfields_in o).masks) (plain_token f)) given) z;
    }

-- ---- the head's length

-- header, masks and table make the head
pub head_is : (s : EncodeSource) (o : EncodeOptions) (n masks : ℕ) → length (calibrated_in o).endpoints ≡ 9 → length (calibrated_in o).gamma ≡ 3
    → masks ≡ cond (is_masked (mode_of s o)) (cond (has_alpha_mask (bitfields_in o).masks) 16 12) 0
    → (14 + header_size_of (mode_of s o) s.format + masks + 4 * table_entries s.format n o.minimal_palette ≡ head_len s o n) × (head_len s o n ≤ 1162)
unfolding head_len head_rest
head_is s o n masks nine three e = go (mode_of s o) e
  where
    entries : ℕ
    entries = table_entries s.format n o.minimal_palette

    short : (b : Bool) → cond b 16 12 ≤ 16
    short true = omega arith
    short false = omega arith

    small : (m : Mode) → header_size_of m s.format ≤ 124
    small Masked = omega arith
    small Calibrated = omega arith
    small Profiled = omega arith
    small Plain = plain (is_rgb565 s.format)
      where
        plain : (b : Bool) → cond b 108 40 ≤ 124
        plain true = omega arith
        plain false = omega arith

    other : (m : Mode) → is_masked m ≡ false → masks ≡ 0
        → (14 + header_size_of m s.format + masks + 4 * entries ≡ 14 + 40 + length (head_rest m s o 0 0) + 4 * entries) × (14 + 40 + length (head_rest m s o 0 0) + 4 * entries ≤ 1162)
    other m q z =
        let fills = header_fills s o nine three m q in
        (omega (arith, fills, z), omega (arith, fills, small m, entries_small s.format n o.minimal_palette))

    go : (m : Mode) → masks ≡ cond (is_masked m) (cond (has_alpha_mask (bitfields_in o).masks) 16 12) 0
        → (14 + header_size_of m s.format + masks + 4 * entries ≡ 14 + 40 + length (head_rest m s o 0 0) + 4 * entries) × (14 + 40 + length (head_rest m s o 0 0) + 4 * entries ≤ 1162)
    go Masked q =
        let long = mask_tail_lem (bitfields_in o).masks (has_alpha_mask (bitfields_in o).masks) refl in
        (omega (arith, long, q), omega (arith, long, short (has_alpha_mask (bitfields_in o).masks), entries_small s.format n o.minimal_palette))
    go Calibrated q = other Calibrated refl q
    go Profiled q = other Profiled refl q
    go Plain q = other Plain refl q
