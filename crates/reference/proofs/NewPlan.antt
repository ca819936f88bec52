-- Plan::new follows the rows 1 to 13, and ends with the sizes of the document's head over the document's rows.
use mathlib.Core.Path.{◌≡◌, refl, sym, ap, ◌∙◌, subst}
use mathlib.Core.Bool.{Bool, true, false, not, cond, ◌&&◌, ◌||◌, false≢true}
use mathlib.Core.List.{List, [], ◌∷◌, ◌++◌}
use mathlib.Core.Logic.{◌⊎◌, inl, inr}
use Prim.Native.Nat.{ℕ, ◌+◌, ◌*◌, ◌/◌, ◌%◌, ◌^◌, ◌≤◌, ◌<◌, min, max}
use native.Mathlib.Omega.{arith}
use borrow.Author.Tests.{ltb-true, ltb-false, le-leb, eqb-true, not-false}
use lib.Dec.{eqb, ltb}
use lib.ListN.{length, get_or, take, drop, replicate}
use Rattle.std.proofs.Common.{Ok, Err}
use Rattle.std.specs.Option as option
use Rattle.leaves.specs.declared.image.BmpPixelFormat.{BmpPixelFormat}
use Rattle.leaves.specs.declared.image.BmpPixelFormat.TheVariants as source
use Rattle.leaves.specs.declared.encoder.EncodedBmpFormat.{EncodedBmpFormat}
use Rattle.leaves.specs.declared.error.Refusal.{Refusal}
use Rattle.leaves.specs.declared.error.Refusal.TheVariants.{ZeroDimension, DimensionTooLarge, LimitTooLarge, NegativeResolution, PaletteMissing, PaletteNotQuads, SeveralModes, MaskSource, FileTooLarge}
use Rattle.leaves.specs.Formats as formats
use Rattle.leaves.specs.Formats.{mask_source}
use Rattle.leaves.specs.Masks.{is_one_run, bitfields_rows}
use Rattle.leaves.specs.Refusals.{number_of, check_number, first_of, first_number, profile_mode, one, dimension_too_large, limit_too_large, negative_resolution, palette_missing, palette_not_quads, dimension_rows, settings_rows, palette_rows, mode_rows, plane_rows}
use Rattle.leaves.specs.Sizes as counts
use Rattle.leaves.proofs.ListLaws.{length-tab}
use Rattle.format.specs.declared.layout.Mode.{Mode}
use Rattle.format.specs.declared.layout.Mode.TheVariants.{Masked, Calibrated, Profiled, Plain}
use Rattle.format.specs.File.{limit_in, mode_in, depth_in, pack_in, entries_of}
use Rattle.format.specs.Layout as layout
use Rattle.format.specs.Layout.{mode_of, is_masked, channels_of, plain_pack, mask_pack, table_entries, mask_format}
use Rattle.format.specs.Accepted.{MasksAccepted}
use Rattle.format.specs.Input.{Input}
use Rattle.format.specs.Refusals.{given_masks_rows, check_rows, call_rows, file_too_large, plan_rows}
use Rattle.leaves.proofs.FirstOf.{first_pass, first_stop}
use Rattle.leaves.specs.Refusals as rows
use Rattle.leaves.specs.Options.{bitfields_in, calibrated_in}
use Rattle.format.proofs.Acceptance.{masks_accepted, given_masks}
use Rattle.format.proofs.FileSizes.{pack_ok}
use Rattle.format.proofs.HeadFields.{depth_le}
use Rattle.format.proofs.PlainBody.{pack_bytes_lem}
use Rattle.format.proofs.Passing.{first_parts, row_parts}
use Rattle.reference.specs.Rust.{zero_dimension, requires_palette, mutually_exclusive, bitfields_source, Run, done, fails, panics, ◌>>=◌, ◌>>◌, some, none, fail_if, ok_or, is_some, add, clamp}
use Rattle.reference.specs.Types.{BmpBitfields, Palette, EncodeSource, EncodeOptions, bits_per_pixel, is_indexed, blue_first, plain_token}
use Rattle.reference.specs.Bitfields.{validate}
use Rattle.reference.specs.Packing.{RowPack, pack_bits, source_bytes, new_layout, pack_masks, Rows, new_rows}
use Rattle.reference.specs.Packing as Packing
use Rattle.reference.specs.Plan.{ColourHeader, Head, Sizes, Plan, written_palette_entries, sizes_of, max_file, assemble, plain_indexed, plain_head, plan_bitfields, colour_indexed, colour_head, colour_rows, from_bool, profile_of, plan_for, new_plan}
use Rattle.reference.specs.Plan as reference
use Rattle.reference.specs.Compared.{given, entries_in, masks_of, source_of, options_of, Typed, Domain}
use Rattle.reference.proofs.RunLaws.{add_is}
use Rattle.reference.proofs.PackingLaws.{pack_of, same_bits, same_bytes}
use Rattle.reference.proofs.PackingLaws.{layout_of as layout_in}
use Rattle.reference.proofs.QuantiseLaws.{shift_len_is}
use Rattle.reference.proofs.ValidateLaws.{validated}
use Rattle.reference.proofs.NewRows.{rows_for, new_rows_lem}
use Rattle.reference.proofs.HeadLaws.{count_is}
use Rattle.reference.proofs.PlanHeads.{palette_in, colour_header_for, plain_head_for, head_for}
use Rattle.reference.proofs.Follows as follow
use Rattle.reference.proofs.Follows.{Follows}

-- ---- the formats' tables are the document's

pub record SameTables (f : BmpPixelFormat) : Type 0 where
  pub bits : bits_per_pixel f ≡ formats.bits_per_pixel f
  pub indexed : is_indexed f ≡ formats.is_indexed f
  pub token : plain_token f ≡ formats.plain_token f
  pub few : formats.bytes_per_pixel f ≤ 4

pub tables : (f : BmpPixelFormat) → SameTables f
tables source.Rgba = record { bits = refl; indexed = refl; token = refl; few = omega arith }
tables source.Rgb24 = record { bits = refl; indexed = refl; token = refl; few = omega arith }
tables source.Bgra = record { bits = refl; indexed = refl; token = refl; few = omega arith }
tables source.Bgr24 = record { bits = refl; indexed = refl; token = refl; few = omega arith }
tables source.Rgb555 = record { bits = refl; indexed = refl; token = refl; few = omega arith }
tables source.Rgb565 = record { bits = refl; indexed = refl; token = refl; few = omega arith }
tables source.Pal8 = record { bits = refl; indexed = refl; token = refl; few = omega arith }
tables source.Indexed4 = record { bits = refl; indexed = refl; token = refl; few = omega arith }
tables source.Indexed2 = record { bits = refl; indexed = refl; token = refl; few = omega arith }
tables source.Indexed1 = record { bits = refl; indexed = refl; token = refl; few = omega arith }

-- ---- entries

-- the assertion in clamp holds: every table has room for an entry
clamp_is : (n full : ℕ) → 1 ≤ full → clamp n 1 full ≡ done (min (max 1 n) full)
unfolding clamp
clamp_is n full h = rw (le-leb 1 full h) (ap done (go (ltb n 1) refl (ltb full n) refl))
  where
    go : (a : Bool) → ltb n 1 ≡ a → (b : Bool) → ltb full n ≡ b → cond a 1 (cond b full n) ≡ min (max 1 n) full
    go true p b q = omega (arith, ltb-true n 1 p)
    go false p true q = omega (arith, ltb-false n 1 p, ltb-true full n q)
    go false p false q = omega (arith, ltb-false n 1 p, ltb-false full n q)

-- written_palette_entries is the document's count
entries_is : (i : Input) (bpp : ℕ) → formats.is_indexed i.source.format ≡ true → formats.bits_per_pixel i.source.format ≡ bpp → 1 ≤ counts.palette_entry_count bpp
    → written_palette_entries bpp (palette_in i) (options_of i) ≡ done (entries_of i)
unfolding written_palette_entries table_entries counts.written_palette_entries entries_in options_of
entries_is i bpp indexed bits full =
    let n : length (entries_in i.palette) ≡ length i.palette / 4 = length-tab (λ k. take 4 (drop (k * 4) i.palette)) (length i.palette / 4) in
    rw (indexed, bits, count_is bpp, n, clamp_is (length i.palette / 4) (counts.palette_entry_count bpp) full) (go i.options.minimal_palette)
  where
    go : (b : Bool) → cond b (done (min (max 1 (length i.palette / 4)) (counts.palette_entry_count bpp))) (done (counts.palette_entry_count bpp))
        ≡ done (cond b (min (max 1 (length i.palette / 4)) (counts.palette_entry_count bpp)) (counts.palette_entry_count bpp))
    go true = refl
    go false = refl

-- ---- the heads and packs of each format

module _ (i : Input) (palette : formats.is_indexed i.source.format ≡ true → i.source.has_palette ≡ true) where
  -- the indexed arms: what is made of the depth, the palette and its entries
  indexed_arm : {A : Type 0} (arm : ℕ → Palette → ℕ → A) (f : BmpPixelFormat) → i.source.format ≡ f → formats.is_indexed f ≡ true → 1 ≤ counts.palette_entry_count (bits_per_pixel f)
      → (ok_or (source_of i).palette requires_palette >>= λ p. written_palette_entries (bits_per_pixel i.source.format) p (options_of i) >>= λ n. done (arm (bits_per_pixel i.source.format) p n))
      ≡ done (arm (bits_per_pixel f) (palette_in i) (entries_of i))
  unfolding source_of
  indexed_arm {A} arm f e indexed full =
      let d : bits_per_pixel i.source.format ≡ bits_per_pixel f = ap bits_per_pixel e in
      let b : formats.is_indexed i.source.format ≡ true = ap formats.is_indexed e ∙ indexed in
      let all : ℕ → Palette → Run A = λ d p. written_palette_entries d p (options_of i) >>= λ n. done (arm d p n) in
      ap (λ t. ok_or (given t (palette_in i)) requires_palette >>= all (bits_per_pixel i.source.format)) (palette b)
      ∙ ap (λ n. all n (palette_in i)) d
      ∙ ap (λ r. r >>= λ n. done (arm (bits_per_pixel f) (palette_in i) n)) (entries_is i (bits_per_pixel f) b (sym (tables i.source.format).bits ∙ d) full)

  -- head and pack of a plain file, and pack and header of a calibrated or profiled one
  abbrev Chooses : BmpPixelFormat → Type 0
  Chooses f =
      (plain_head f (source_of i) (options_of i) ≡ done (plain_head_for f i, pack_of (plain_pack f))) × (colour_head f (source_of i) (options_of i) ≡ done (pack_of (plain_pack f), colour_header_for f i))

  chosen_heads : Chooses i.source.format
  unfolding plain_head plain_indexed colour_head colour_indexed source_of counts.palette_entry_count
  chosen_heads = go i.source.format refl
    where
      indexed : (f : BmpPixelFormat) → i.source.format ≡ f → formats.is_indexed f ≡ true → 1 ≤ counts.palette_entry_count (bits_per_pixel f)
          → (plain_indexed (source_of i) (options_of i) ≡ done (reference.V3Indexed (bits_per_pixel f) (palette_in i) (entries_of i) (reference.rle_for f (options_of i)), Packing.Indexed (bits_per_pixel f)))
          × (colour_indexed (source_of i) (options_of i) ≡ done (Packing.Indexed (bits_per_pixel f), record { bpp = bits_per_pixel f; compression = 0; masks = replicate 4 0; table = some (palette_in i, entries_of i) }))
      indexed f e b full = (
        indexed_arm (λ d p n. (reference.V3Indexed d p n (reference.rle_for i.source.format (options_of i)), Packing.Indexed d)) f e b full
            ∙ ap (λ g. done (reference.V3Indexed (bits_per_pixel f) (palette_in i) (entries_of i) (reference.rle_for g (options_of i)), Packing.Indexed (bits_per_pixel f))) e,
        indexed_arm (λ d p n. (Packing.Indexed d, record { bpp = d; compression = 0; masks = replicate 4 0; table = some (p, n) })) f e b full,
      )

      go : (f : BmpPixelFormat) → i.source.format ≡ f → Chooses f
      go source.Rgba e = (refl, refl)
      go source.Rgb24 e = (refl, refl)
      go source.Bgra e = (refl, refl)
      go source.Bgr24 e = (refl, refl)
      go source.Rgb555 e = (refl, refl)
      go source.Rgb565 e = (refl, refl)
      go source.Pal8 e = indexed source.Pal8 e refl (omega arith)
      go source.Indexed4 e = indexed source.Indexed4 e refl (omega arith)
      go source.Indexed2 e = indexed source.Indexed2 e refl (omega arith)
      go source.Indexed1 e = indexed source.Indexed1 e refl (omega arith)

-- the layout of masks of one run each
layout_is : (depth : ℕ) (masks : List ℕ) → ((k : ℕ) → get_or masks k 0 < 2 ^ 32) → ((k : ℕ) → k < 4 → is_one_run (get_or masks k 0) ≡ true)
    → new_layout (masks_of depth masks) ≡ done (layout_in (channels_of depth masks))
unfolding new_layout channels_of
layout_is depth masks small runs =
    rw (shift_len_is (get_or masks 0 0) (small 0) (runs 0 (omega arith)), shift_len_is (get_or masks 1 0) (small 1) (runs 1 (omega arith)), shift_len_is (get_or masks 2 0) (small 2) (runs 2 (omega arith)), shift_len_is (get_or masks 3 0) (small 3) (runs 3 (omega arith)))

-- RowPack::masks follows row 11
pack_masks_lem : (i : Input) → ((k : ℕ) → get_or (bitfields_in i.options).masks k 0 < 2 ^ 32) → ((k : ℕ) → k < 4 → is_one_run (get_or (bitfields_in i.options).masks k 0) ≡ true)
    → Follows ((mask_source i.source.format, MaskSource) ∷ []) (pack_masks i.source.format (masks_of (bitfields_in i.options).bpp (bitfields_in i.options).masks)) (done (pack_of (mask_pack i.source.format (bitfields_in i.options).bpp (bitfields_in i.options).masks)))
unfolding pack_masks
pack_masks_lem i small runs = go i.source.format
  where
    depth : ℕ
    depth = (bitfields_in i.options).bpp

    masks : List ℕ
    masks = (bitfields_in i.options).masks

    taken : (n : ℕ) (bgr : Bool) → Follows ((false, MaskSource) ∷ []) (new_layout (masks_of depth masks) >>= λ layout. done (Packing.Masks n bgr layout)) (done (Packing.Masks n bgr (layout_in (channels_of depth masks))))
    taken n bgr = rw (layout_is depth masks small runs) (follow.row_passes false MaskSource _ refl)

    other : (k : Run RowPack) → Follows ((true, MaskSource) ∷ []) (fails bitfields_source) k
    other k = follow.row_fails_lem true MaskSource bitfields_source k refl

    go : (f : BmpPixelFormat) → Follows ((mask_source f, MaskSource) ∷ []) (pack_masks f (masks_of depth masks)) (done (Packing.Masks (formats.bytes_per_pixel f) (blue_first f) (layout_in (channels_of depth masks))))
    go source.Rgba = taken 4 false
    go source.Rgb24 = taken 3 false
    go source.Bgra = taken 4 true
    go source.Bgr24 = taken 3 true
    go source.Rgb555 = other _
    go source.Rgb565 = other _
    go source.Pal8 = other _
    go source.Indexed4 = other _
    go source.Indexed2 = other _
    go source.Indexed1 = other _

-- ---- the plan of a mode

-- what the file of a mode without a stream is written as
abbrev pub format_in : Mode → Input → EncodedBmpFormat
format_in m i = cond (is_masked m) (mask_format (bitfields_in i.options).masks) (plain_token i.source.format)

abbrev pub plan_in : Mode → Input → Rows → Sizes → Plan
plan_in m i rows sizes = record { head = head_for m i.source.format i; rows = rows; width = i.source.width; height = i.source.height; format = format_in m i; sizes = sizes }

-- the sizes are still to be checked
abbrev pub sized_in : Mode → Input → Rows → Run Plan
sized_in m i rows = sizes_of (head_for m i.source.format i) rows max_file >>= λ sizes. done (plan_in m i rows sizes)

-- so are the rows
abbrev rows_in : RowPack → Input → Run Rows
rows_in pack i = new_rows (record { stride = i.source.stride; «data» = i.plane }) pack i.source.width i.source.height i.options.top_down

pub bind_bind : {A B C : Type 0} (m : Run A) (f : A → Run B) (g : B → Run C) → (m >>= f >>= g) ≡ (m >>= λ a. f a >>= g)
bind_bind (done a) f g = refl
bind_bind (fails e) f g = refl
bind_bind panics f g = refl

-- a linked profile before an embedded one
profile_is : (linked embedded embedding : Bool) (l icc : List ℕ)
    → profile_of (given linked l) (cond embedding (given embedded icc) none) ≡ given (profile_mode linked embedded embedding) (cond linked l icc, cond linked 0x4C494E4B 0x4D424544)
profile_is true embedded embedding l icc = refl
profile_is false true true l icc = refl
profile_is false true false l icc = refl
profile_is false false true l icc = refl
profile_is false false false l icc = refl

module _ (i : Input) (small : (k : ℕ) → get_or (bitfields_in i.options).masks k 0 < 2 ^ 32) (palette : formats.is_indexed i.source.format ≡ true → i.source.has_palette ≡ true) where
  abbrev src : EncodeSource
  src = source_of i

  abbrev options : EncodeOptions
  options = options_of i

  abbrev masks : BmpBitfields
  masks = masks_of (bitfields_in i.options).bpp (bitfields_in i.options).masks

  -- rows without masks and with them
  abbrev plain_rows_of : RowPack
  plain_rows_of = pack_of (plain_pack i.source.format)

  abbrev mask_rows : RowPack
  mask_rows = pack_of (mask_pack i.source.format (bitfields_in i.options).bpp (bitfields_in i.options).masks)

  colour_rows_lem : colour_rows src options ≡ (rows_in plain_rows_of i >>= λ rows. done (rows, colour_header_for i.source.format i))
  unfolding colour_rows source_of options_of
  colour_rows_lem = rw (chosen_heads i palette).1

  calibrated_plan : (colour_rows src options >>= λ rest. assemble src (reference.V4Calibrated rest.1 (calibrated_in i.options)) rest.0) ≡ (rows_in plain_rows_of i >>= sized_in Calibrated i)
  unfolding assemble source_of
  calibrated_plan =
      ap (λ r. r >>= λ rest. assemble src (reference.V4Calibrated rest.1 (calibrated_in i.options)) rest.0) colour_rows_lem
      ∙ bind_bind (rows_in plain_rows_of i) (λ rows. done (rows, colour_header_for i.source.format i)) (λ rest. assemble src (reference.V4Calibrated rest.1 (calibrated_in i.options)) rest.0)

  profiled_plan : (colour_rows src options >>= λ rest. assemble src (reference.V5Profile rest.1 (cond i.source.has_linked_icc 0x4C494E4B 0x4D424544) i.options.rendering_intent (cond i.source.has_linked_icc i.linked i.icc)) rest.0)
      ≡ (rows_in plain_rows_of i >>= sized_in Profiled i)
  unfolding assemble source_of
  profiled_plan =
      let head : ColourHeader → Head = λ h. reference.V5Profile h (cond i.source.has_linked_icc 0x4C494E4B 0x4D424544) i.options.rendering_intent (cond i.source.has_linked_icc i.linked i.icc) in
      ap (λ r. r >>= λ rest. assemble src (head rest.1) rest.0) colour_rows_lem
      ∙ bind_bind (rows_in plain_rows_of i) (λ rows. done (rows, colour_header_for i.source.format i)) (λ rest. assemble src (head rest.1) rest.0)

  plain_plan : reference.plain src options ≡ (rows_in plain_rows_of i >>= sized_in Plain i)
  unfolding reference.plain assemble source_of options_of
  plain_plan = rw (chosen_heads i palette).0

  masked_plan : Follows (bitfields_rows (bitfields_in i.options).bpp (bitfields_in i.options).masks ++ ((mask_source i.source.format, MaskSource) ∷ [])) (plan_bitfields src masks options) (rows_in mask_rows i >>= sized_in Masked i)
  unfolding plan_bitfields assemble source_of options_of
  masked_plan =
      let d = (bitfields_in i.options).bpp in
      let m = (bitfields_in i.options).masks in
      let format : Plan → Run Plan = λ plan. done (record { head = plan.head; rows = plan.rows; width = plan.width; height = plan.height; format = format_in Masked i; sizes = plan.sizes }) in
      let rest : RowPack → Run Plan = λ pack. new_rows src.plane pack src.width src.height options.top_down >>= λ rows. assemble src (reference.V3Masks masks) rows >>= format in
      follow.then (bitfields_rows d m) ((mask_source i.source.format, MaskSource) ∷ []) _ (pack_masks i.source.format masks >>= rest) _
      (follow.on (bitfields_rows d m) (validate masks) (done tt) (λ _. pack_masks i.source.format masks >>= rest) (validated d m small))
      (λ p. let a = masks_accepted d m p in
      follow.to ((mask_source i.source.format, MaskSource) ∷ []) _ _ _
      (follow.on ((mask_source i.source.format, MaskSource) ∷ []) (pack_masks i.source.format masks) (done mask_rows) rest (pack_masks_lem i small a.runs))
      (λ _. last (rows_in mask_rows i)))
    where
      last : (r : Run Rows)
          → (r >>= λ rows. assemble src (reference.V3Masks masks) rows >>= λ plan. done (record { head = plan.head; rows = plan.rows; width = plan.width; height = plan.height; format = format_in Masked i; sizes = plan.sizes }))
          ≡ (r >>= sized_in Masked i)
      last (done rows) = bind_bind (sizes_of (reference.V3Masks masks) rows max_file) _ _
      last (fails e) = refl
      last panics = refl

  -- by the options given
  planned : (a b c : Bool)
      → Follows (cond a (bitfields_rows (bitfields_in i.options).bpp (bitfields_in i.options).masks ++ ((mask_source i.source.format, MaskSource) ∷ [])) [])
      (plan_for src options (given a masks) (given b (calibrated_in i.options)) (given c (cond i.source.has_linked_icc i.linked i.icc, cond i.source.has_linked_icc 0x4C494E4B 0x4D424544)))
      (rows_in (pack_of (cond a (mask_pack i.source.format (bitfields_in i.options).bpp (bitfields_in i.options).masks) (plain_pack i.source.format))) i >>= sized_in (cond a Masked (cond b Calibrated (cond c Profiled Plain))) i)
  unfolding plan_for options_of
  planned true b c = masked_plan
  planned false true c = follow.nothing _ _ calibrated_plan
  planned false false true = follow.nothing _ _ profiled_plan
  planned false false false = follow.nothing _ _ plain_plan

-- ---- the packs' sizes

pub record PackSizes (i : Input) : Type 0 where
  pub bytes : source_bytes (pack_of (pack_in i)) ≡ formats.bytes_per_pixel i.source.format
  pub depth : pack_bits (pack_of (pack_in i)) ≡ depth_in i
  pub bits : pack_bits (pack_of (pack_in i)) ≤ 32

-- of a call whose masks, if given, were accepted
pub pack_sizes : (i : Input) → (option.is_some i.options.bitfields ≡ true → MasksAccepted (bitfields_in i.options).bpp (bitfields_in i.options).masks)
    → (option.is_some i.options.bitfields ≡ true → mask_source i.source.format ≡ false) → PackSizes i
pack_sizes i masks samples =
    let depth : pack_bits (pack_of (pack_in i)) ≡ depth_in i = same_bits (pack_in i) ∙ (pack_ok i masks samples).1 in
    record { bytes = same_bytes (pack_in i) ∙ pack_bytes_lem i; depth = depth; bits = omega (arith, depth, depth_le i.source i.options (λ e. (masks e).depths)) }

-- ---- all rows

given_some : {A : Type 0} (b : Bool) (a : A) → is_some (given b a) ≡ b
given_some true a = refl
given_some false a = refl

-- what `requested` counts
requested_is : (i : Input)
    → (add 64 (from_bool (is_some (options_of i).bitfields)) (from_bool (is_some (options_of i).calibrated_rgb))
    >>= λ both. add 64 both (from_bool (is_some (options_of i).linked_icc || is_some (cond i.options.embed_icc (given i.source.has_icc i.icc) none))))
    ≡ done (one (option.is_some i.options.bitfields) + one (option.is_some i.options.calibrated_rgb) + one (profile_mode i.source.has_linked_icc i.source.has_icc i.options.embed_icc))
unfolding options_of
requested_is i =
    go (option.is_some i.options.bitfields) (option.is_some i.options.calibrated_rgb) i.source.has_linked_icc i.source.has_icc i.options.embed_icc (masks_of (bitfields_in i.options).bpp (bitfields_in i.options).masks)
  where
    v5 : (linked embedded embedding : Bool) → (is_some (given linked i.linked) || is_some (cond embedding (given embedded i.icc) none)) ≡ profile_mode linked embedded embedding
    v5 true embedded embedding = refl
    v5 false true true = refl
    v5 false true false = refl
    v5 false false true = refl
    v5 false false false = refl

    bool : (b : Bool) → from_bool b ≡ one b
    bool true = refl
    bool false = refl

    few : (b : Bool) → one b ≤ 1
    few true = omega arith
    few false = omega arith

    go : (a b l e o : Bool) (m : BmpBitfields)
        → (add 64 (from_bool (is_some (given a m))) (from_bool (is_some (given b (calibrated_in i.options)))) >>= λ both. add 64 both (from_bool (is_some (given l i.linked) || is_some (cond o (given e i.icc) none))))
        ≡ done (one a + one b + one (profile_mode l e o))
    go a b l e o m =
        rw (given_some a m, given_some b (calibrated_in i.options), v5 l e o, bool a, bool b, bool (profile_mode l e o), add_is 64 (one a) (one b) (omega (arith, few a, few b)), add_is 64 (one a + one b) (one (profile_mode l e o)) (omega (arith, few a, few b, few (profile_mode l e o))))

module _ (i : Input) (ok : Typed i) (domain : Domain i) where
  abbrev dimensions : List (Bool × Refusal)
  dimensions = dimension_rows i.source.width i.source.height

  abbrev settings : List (Bool × Refusal)
  settings = settings_rows i.options.limit i.options.x_pels_per_meter i.options.y_pels_per_meter

  abbrev palettes : List (Bool × Refusal)
  palettes = palette_rows (formats.is_indexed i.source.format) i.source.has_palette (length i.palette)

  abbrev modes : List (Bool × Refusal)
  modes = mode_rows (option.is_some i.options.bitfields) (option.is_some i.options.calibrated_rgb) (profile_mode i.source.has_linked_icc i.source.has_icc i.options.embed_icc)

  abbrev planes : List (Bool × Refusal)
  planes = plane_rows i.source.width i.source.height i.source.stride (formats.bytes_per_pixel i.source.format) (length i.plane)

  abbrev channels : List (Bool × Refusal)
  channels = given_masks_rows i.source i.options

  -- what stops among the first rows stops the plan
  first_three : (why : Refusal) → first_of (dimensions ++ settings ++ palettes) ≡ Err why → first_number (plan_rows (limit_in i) i) ≡ number_of why
  unfolding plan_rows check_rows
  first_three why e =
      ap check_number
      (first_stop (dimensions ++ settings ++ palettes ++ modes ++ channels ++ planes) ((file_too_large (limit_in i) i, FileTooLarge) ∷ []) why
      (first_stop (dimensions ++ settings ++ palettes ++ modes ++ channels) planes why
      (first_stop (dimensions ++ settings ++ palettes ++ modes) channels why (first_stop (dimensions ++ settings ++ palettes) modes why e))))

  -- 1, and 2 that does not apply
  dimensions_follow : (k : Run Plan) → Follows dimensions (fail_if (rows.zero_dimension i.source.width i.source.height) zero_dimension >> k) k
  unfolding dimension_rows
  dimensions_follow k =
      let zero = rows.zero_dimension i.source.width i.source.height in
      let large = dimension_too_large i.source.width i.source.height in
      follow.then ((zero, ZeroDimension) ∷ []) ((large, DimensionTooLarge) ∷ []) _ k k (follow.row_fails_lem zero ZeroDimension zero_dimension k refl) (λ p. go large refl (follow.row_passed zero ZeroDimension p))
    where
      go : (b : Bool) → dimension_too_large i.source.width i.source.height ≡ b → rows.zero_dimension i.source.width i.source.height ≡ false → Follows ((b, DimensionTooLarge) ∷ []) k k
      go false e z = follow.row_passes false DimensionTooLarge k refl
      go true e z = absurd (domain.not_2 (first_three DimensionTooLarge (first_stop (dimensions ++ settings) palettes DimensionTooLarge (first_stop dimensions settings DimensionTooLarge (rw (z, e))))))

  -- 20 and 21 that do not apply
  settings_follow : first_of dimensions ≡ Ok tt → (k : Run Plan) → Follows settings k k
  unfolding settings_rows
  settings_follow passed k =
      let large = limit_too_large i.options.limit in
      let negative = negative_resolution i.options.x_pels_per_meter i.options.y_pels_per_meter in
      follow.then ((large, LimitTooLarge) ∷ []) ((negative, NegativeResolution) ∷ []) k k k (go large refl) (λ p. fall negative refl (follow.row_passed large LimitTooLarge p))
    where
      stops : (why : Refusal) → first_of settings ≡ Err why → first_number (plan_rows (limit_in i) i) ≡ number_of why
      stops why e = first_three why (first_stop (dimensions ++ settings) palettes why (first_pass dimensions settings passed ∙ e))

      go : (b : Bool) → limit_too_large i.options.limit ≡ b → Follows ((b, LimitTooLarge) ∷ []) k k
      go false e = follow.row_passes false LimitTooLarge k refl
      go true e = absurd (domain.not_20 (stops LimitTooLarge (rw e)))

      fall : (b : Bool) → negative_resolution i.options.x_pels_per_meter i.options.y_pels_per_meter ≡ b → limit_too_large i.options.limit ≡ false → Follows ((b, NegativeResolution) ∷ []) k k
      fall false e z = follow.row_passes false NegativeResolution k refl
      fall true e z = absurd (domain.not_21 (stops NegativeResolution (rw (z, e))))

  -- 3, and 4 that does not apply
  palettes_follow : first_of (dimensions ++ settings) ≡ Ok tt → (k : Run Plan) → Follows palettes (fail_if (is_indexed i.source.format && not (is_some (source_of i).palette)) requires_palette >> k) k
  unfolding palette_rows source_of
  palettes_follow passed k =
      let missing = palette_missing (formats.is_indexed i.source.format) i.source.has_palette in
      let ragged = palette_not_quads (formats.is_indexed i.source.format) (length i.palette) in
      rw ((tables i.source.format).indexed, given_some i.source.has_palette (palette_in i))
      (follow.then ((missing, PaletteMissing) ∷ []) ((ragged, PaletteNotQuads) ∷ []) _ k k (follow.row_fails_lem missing PaletteMissing requires_palette k refl) (λ p. go ragged refl (follow.row_passed missing PaletteMissing p)))
    where
      go : (b : Bool) → palette_not_quads (formats.is_indexed i.source.format) (length i.palette) ≡ b → palette_missing (formats.is_indexed i.source.format) i.source.has_palette ≡ false → Follows ((b, PaletteNotQuads) ∷ []) k k
      go false e z = follow.row_passes false PaletteNotQuads k refl
      go true e z = absurd (domain.not_4 (first_three PaletteNotQuads (first_pass (dimensions ++ settings) palettes passed ∙ rw (z, e))))

  -- what is left after 5
  abbrev chosen : Run Plan
  chosen =
      plan_for (source_of i) (options_of i) (options_of i).bitfields (options_of i).calibrated_rgb (profile_of (options_of i).linked_icc (cond (options_of i).embed_icc (source_of i).icc none))

  -- the check of the modes, with what comes after it
  abbrev exclusive : Run Plan → Run Plan
  exclusive k =
      add 64 (from_bool (is_some (options_of i).bitfields)) (from_bool (is_some (options_of i).calibrated_rgb))
      >>= λ both. add 64 both (from_bool (is_some (options_of i).linked_icc || is_some (cond i.options.embed_icc (given i.source.has_icc i.icc) none)))
      >>= λ n. fail_if (ltb 1 n) mutually_exclusive >> k

  modes_follow : (k : Run Plan) → Follows modes (exclusive k) k
  unfolding mode_rows
  modes_follow k =
      let v5 : ℕ = from_bool (is_some (options_of i).linked_icc || is_some (cond i.options.embed_icc (given i.source.has_icc i.icc) none)) in
      let two : Run ℕ = add 64 (from_bool (is_some (options_of i).bitfields)) (from_bool (is_some (options_of i).calibrated_rgb)) in
      follow.from modes _ _ k (sym (bind_bind two (λ both. add 64 both v5) (λ n. fail_if (ltb 1 n) mutually_exclusive >> k)) ∙ ap (λ r. r >>= λ n. fail_if (ltb 1 n) mutually_exclusive >> k) (requested_is i)) (follow.row_fails_lem _ SeveralModes mutually_exclusive k refl)

  masks_follow : (formats.is_indexed i.source.format ≡ true → i.source.has_palette ≡ true) → Follows channels chosen (rows_in (pack_of (pack_in i)) i >>= sized_in (mode_in i) i)
  unfolding given_masks_rows mode_of layout.pack_of source_of options_of
  masks_follow palette =
      rw (profile_is i.source.has_linked_icc i.source.has_icc i.options.embed_icc i.linked i.icc)
      (planned i ok.masks palette (option.is_some i.options.bitfields) (option.is_some i.options.calibrated_rgb) (profile_mode i.source.has_linked_icc i.source.has_icc i.options.embed_icc))

  -- 12 and 13
  planes_follow : PackSizes i → Follows planes (rows_in (pack_of (pack_in i)) i >>= sized_in (mode_in i) i) (sized_in (mode_in i) i (rows_for (pack_of (pack_in i)) i))
  planes_follow sizes =
      let pack = pack_of (pack_in i) in
      let p : plane_rows i.source.width i.source.height i.source.stride (source_bytes pack) (length i.plane) ≡ planes = ap (λ n. plane_rows i.source.width i.source.height i.source.stride n (length i.plane)) sizes.bytes in
      let few : source_bytes pack ≤ 4 = omega (arith, sizes.bytes, (tables i.source.format).few) in
      follow.on planes (rows_in pack i) (done (rows_for pack i)) (sized_in (mode_in i) i) (subst (λ r. Follows r (rows_in pack i) (done (rows_for pack i))) p (new_rows_lem i pack ok.width domain.product few sizes.bits))

  -- an indexed source that row 3 lets through has its palette
  palette_of_lem : first_of palettes ≡ Ok tt → formats.is_indexed i.source.format ≡ true → i.source.has_palette ≡ true
  unfolding palette_rows
  palette_of_lem p e = go i.source.has_palette refl
    where
      go : (b : Bool) → i.source.has_palette ≡ b → b ≡ true
      go true q = refl
      go false q =
          let missing : palette_missing (formats.is_indexed i.source.format) i.source.has_palette ≡ false = (row_parts (palette_missing (formats.is_indexed i.source.format) i.source.has_palette) PaletteMissing _ p).0 in
          let z : true ≡ false = rw (e, q) at missing in
          absurd (false≢true (sym z))

  -- a table has whole entries
  pub quads : first_of (call_rows i) ≡ Ok tt → (length i.palette % 4 ≡ 0) ⊎ (formats.is_indexed i.source.format ≡ false)
  unfolding check_rows palette_rows
  quads p =
      let f = formats.is_indexed i.source.format in
      let four = (first_parts (dimensions ++ settings) palettes (first_parts (dimensions ++ settings ++ palettes) modes (first_parts (dimensions ++ settings ++ palettes ++ modes) channels (first_parts (dimensions ++ settings ++ palettes ++ modes ++ channels) planes p).0).0).0).1 in
      go f refl (row_parts (palette_not_quads f (length i.palette)) PaletteNotQuads _ (row_parts (palette_missing f i.source.has_palette) PaletteMissing _ four).1).0
    where
      go : (b : Bool) → formats.is_indexed i.source.format ≡ b → (b && not (eqb (length i.palette % 4) 0)) ≡ false → (length i.palette % 4 ≡ 0) ⊎ (formats.is_indexed i.source.format ≡ false)
      go true e h = inl (eqb-true (length i.palette % 4) 0 (not-false (eqb (length i.palette % 4) 0) h))
      go false e h = inr e

  -- Plan::new up to its sizes
  pub new_plan_lem : Follows (call_rows i) (new_plan (source_of i) (options_of i)) (sized_in (mode_in i) i (rows_for (pack_of (pack_in i)) i))
  unfolding check_rows new_plan source_of options_of
  new_plan_lem =
      let three : Run Plan = exclusive chosen in
      let two : Run Plan = fail_if (is_indexed i.source.format && not (is_some (source_of i).palette)) requires_palette >> three in
      follow.then (dimensions ++ settings ++ palettes ++ modes ++ channels) planes _ _ _
      (follow.then (dimensions ++ settings ++ palettes ++ modes) channels _ chosen _
      (follow.then (dimensions ++ settings ++ palettes) modes _ three _
      (follow.then (dimensions ++ settings) palettes _ two _ (follow.then dimensions settings _ two _ (dimensions_follow two) (λ p. settings_follow p two)) (λ p. palettes_follow p three)) (λ _. modes_follow chosen))
      (λ p. masks_follow (palette_of_lem (first_parts (dimensions ++ settings) palettes (first_parts (dimensions ++ settings ++ palettes) modes p).0).1)))
      (λ p. let given = given_masks i.source i.options (first_parts (dimensions ++ settings ++ palettes ++ modes) channels p).1 in
      planes_follow (pack_sizes i (λ e. (given e).0) (λ e. (given e).1)))
