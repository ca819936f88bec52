-- Plan::write_head appends the document's head.
use mathlib.Core.Path.{◌≡◌, refl, sym, ap, ◌∙◌}
use mathlib.Core.Bool.{Bool, true, false, cond, ◌||◌, false≢true}
use mathlib.Core.Logic.{◌⊎◌, inl, inr}
use mathlib.Core.List.{List, [], ◌∷◌, ◌++◌, map, map-id, append_assoc, append-nil}
use Prim.Native.Nat.{ℕ, ◌+◌, ◌-◌, ◌*◌, ◌%◌, ◌^◌, ◌≤◌, ◌<◌}
use native.Mathlib.Nat.{mod-eq_of_lt, not-suc-le-zero, mul-le-mul_left}
use native.Mathlib.Omega.{arith}
use borrow.Author.Tests.{eqb-true, lt-ltb, le-ltb, le-leb, lt-leb, ltb-true, ltb-false}
use lib.Dec.{eqb, ltb, leb, lit<}
use lib.ListN.{length, get_or, replicate}
use mir.Syntax.{w32}
use mir.Val.{of_z}
use Rattle.leaves.specs.declared.image.BmpPixelFormat.{BmpPixelFormat}
use Rattle.leaves.specs.declared.image.BmpPixelFormat.TheVariants as source
use Rattle.leaves.specs.Bytes.{le32}
use Rattle.leaves.specs.Formats.{bits_per_pixel, is_indexed, is_rgb565}
use Rattle.leaves.specs.Lists.{cat}
use Rattle.leaves.specs.Masks.{has_alpha_mask, mask_compression}
use Rattle.leaves.specs.Sizes as document
use Rattle.leaves.specs.Options.{bitfields_in, calibrated_in}
use Rattle.format.specs.declared.layout.Mode.{Mode}
use Rattle.format.specs.declared.layout.Mode.TheVariants.{Masked, Calibrated, Profiled, Plain}
use Rattle.format.specs.File.{mode_in, depth_in, raw_bytes, entries_of, colour_table, stored_height_of}
use Rattle.format.specs.Layout.{is_masked, tail_in, depth_of, header_size_of, long_masks, mask_tail, head_rest, plain_compression, rows_compression}
use Rattle.format.specs.Headers.{dwords, file_header, info_header, v4_fields, v5_fields, longs}
use Rattle.format.specs.Input.{Input}
use Rattle.format.proofs.HeadTable.{four_masks}
use Rattle.format.proofs.Modes.{given_mode}
use Rattle.reference.specs.Rust.{done, ◌>>=◌, is_some, to_le_bytes, at, unsigned_abs}
use Rattle.reference.specs.Headers.{extend_all, palette_entry_count, write_file_header, write_dib_header_v3, write_dib_header_v3_indexed, write_dib_header_v4_bitfields, write_dib_header_v4_calibrated, write_dib_header_v5_with_profile, write_dib_header_v5_indexed_with_profile}
use Rattle.reference.specs.Plan.{clr_used_of, write_table, write_masks, write_header}
use Rattle.reference.specs.Compared.{masks_of}
use Rattle.reference.proofs.RunLaws.{add_is, sub_is, mul_is, at_is}
use Rattle.reference.proofs.PackingLaws.{stride_is}
use Rattle.reference.proofs.HeadWrites.{joined, extend_all_lem, heads_is, dwords_is, table_is}
use Rattle.reference.proofs.PlanHeads.{palette_in, table_for, plain_head_for, head_for, by_head, few_entries, no_entries}

-- ---- counts

pub count_is : (bpp : ℕ) → palette_entry_count bpp ≡ document.palette_entry_count bpp
unfolding palette_entry_count document.palette_entry_count
count_is bpp = go (eqb bpp 1) refl (eqb bpp 2) refl (eqb bpp 4) refl (eqb bpp 8) refl
  where
    go : (a : Bool) → eqb bpp 1 ≡ a → (b : Bool) → eqb bpp 2 ≡ b → (c : Bool) → eqb bpp 4 ≡ c → (d : Bool) → eqb bpp 8 ≡ d
        → cond a 2 (cond b 4 (cond c 16 (cond d 256 0))) ≡ cond (a || b || c || d) (2 ^ bpp) 0
    go true p b q c r d s = let e : bpp ≡ 1 = eqb-true bpp 1 p in rw e
    go false p true q c r d s = let e : bpp ≡ 2 = eqb-true bpp 2 q in rw e
    go false p false q true r d s = let e : bpp ≡ 4 = eqb-true bpp 4 r in rw e
    go false p false q false r true s = let e : bpp ≡ 8 = eqb-true bpp 8 s in rw e
    go false p false q false r false s = refl

-- biClrUsed of a table, and without one
used_is : (b : Bool) (i : Input) (bpp : ℕ) → (b ≡ false → 0 ≡ entries_of i) → clr_used_of bpp (table_for b i) ≡ document.clr_used_of bpp (entries_of i)
unfolding clr_used_of document.clr_used_of
used_is true i bpp empty =
    let m : entries_of i % 4294967296 ≡ entries_of i = mod-eq_of_lt (omega (arith, few_entries i)) in
    rw (count_is bpp, m)
used_is false i bpp empty =
    let z : entries_of i ≡ 0 = sym (empty refl) in
    rw z (go (ltb 0 (document.palette_entry_count bpp)))
  where
    go : (t : Bool) → ◌≡◌ {A = ℕ} 0 (cond t 0 0)
    go true = refl
    go false = refl

-- the other writer's count
full_used : (i : Input) (bpp : ℕ) → cond (leb (palette_entry_count bpp) (entries_of i)) 0 (entries_of i % 2 ^ 32) ≡ document.clr_used_of bpp (entries_of i)
unfolding document.clr_used_of
full_used i bpp =
    let m : entries_of i % 4294967296 ≡ entries_of i = mod-eq_of_lt (omega (arith, few_entries i)) in
    rw (count_is bpp, m) (go (ltb (entries_of i) (document.palette_entry_count bpp)) refl)
  where
    full : ℕ
    full = document.palette_entry_count bpp

    go : (b : Bool) → ltb (entries_of i) full ≡ b → cond (leb full (entries_of i)) 0 (entries_of i) ≡ cond b (entries_of i) 0
    go true e = rw (lt-leb full (entries_of i) (ltb-true (entries_of i) full e))
    go false e = rw (le-leb full (entries_of i) (ltb-false (entries_of i) full e))

-- ---- the table

no_table : (i : Input) → 0 ≡ entries_of i → colour_table i ≡ []
unfolding colour_table cat
no_table i e = rw (← e)

table_written : (b : Bool) (i : Input) (out : List ℕ) → length i.palette % 4 ≡ 0 ⊎ (b ≡ false) → (b ≡ false → 0 ≡ entries_of i)
    → write_table (table_for b i) out ≡ done (out ++ colour_table i)
unfolding write_table colour_table
table_written true i out (inl whole) empty = table_is i.palette (entries_of i) out whole
table_written true i out (inr e) empty = absurd (false≢true (sym e))
table_written false i out whole empty = ap done (sym (ap (λ t. out ++ t) (no_table i (empty refl)) ∙ append-nil out))

-- ---- the document's head, of a mode

abbrev pub head_bytes_in : Mode → Input → ℕ
head_bytes_in m i = 14 + 40 + length (head_rest m i.source i.options 0 0) + 4 * entries_of i

-- depth and compression of its stored rows
abbrev pub depth_for : Mode → Input → ℕ
depth_for m i = cond (is_masked m) (bitfields_in i.options).bpp (bits_per_pixel i.source.format)

abbrev pub compression_for : Mode → Input → ℕ
compression_for m i = cond (is_masked m) (mask_compression (bitfields_in i.options).masks) (plain_compression i.source.format)

pub depth_by : (i : Input) → depth_in i ≡ depth_for (mode_in i) i
unfolding depth_of
depth_by i = ap (λ b. cond b (bitfields_in i.options).bpp (bits_per_pixel i.source.format)) (given_mode i.source i.options)

pub compression_by : (i : Input) → rows_compression i.source i.options ≡ compression_for (mode_in i) i
unfolding rows_compression
compression_by i = ap (λ b. cond b (mask_compression (bitfields_in i.options).masks) (plain_compression i.source.format)) (given_mode i.source i.options)

-- the two headers' first 54 bytes
abbrev pub first_in : Mode → Input → ℕ → ℕ → List ℕ
first_in m i pixel_bytes file_size_of =
    file_header file_size_of (head_bytes_in m i)
    ++ info_header (header_size_of m i.source.format) i.source.width (stored_height_of i) (depth_for m i) (compression_for m i)
    (cond (eqb (header_size_of m i.source.format) 40) 0 pixel_bytes) 2835 2835 (document.clr_used_of (depth_for m i) (entries_of i))

abbrev pub head_in : Mode → Input → ℕ → ℕ → List ℕ
head_in m i pixel_bytes file_size_of =
    first_in m i pixel_bytes file_size_of
    ++ head_rest m i.source i.options (length (tail_in m i.source.has_linked_icc i.icc i.linked)) (head_bytes_in m i - 14 + raw_bytes i)
    ++ colour_table i

-- the 40-byte header
v3_is : (out : List ℕ) (file_size_of offset w h bpp compression used : ℕ)
    → extend_all (write_file_header out file_size_of offset)
    (to_le_bytes 4 40 ∷ to_le_bytes 4 w ∷ to_le_bytes 4 h ∷ to_le_bytes 2 1 ∷ to_le_bytes 2 bpp ∷ to_le_bytes 4 compression ∷ to_le_bytes 4 0 ∷ to_le_bytes 4 2835 ∷ to_le_bytes 4 2835 ∷ to_le_bytes 4 used ∷ to_le_bytes 4 0 ∷ [])
    ≡ out ++ (file_header file_size_of offset ++ info_header 40 w h bpp compression 0 2835 2835 used)
unfolding joined
v3_is out file_size_of offset w h bpp compression used =
    heads_is out file_size_of offset 40 w h bpp compression 0 used [] ∙ ap (λ x. out ++ x) (append-nil (file_header file_size_of offset ++ info_header 40 w h bpp compression 0 2835 2835 used))

-- the masks behind it
masks_written : (depth : ℕ) (masks out : List ℕ) → write_masks (masks_of depth masks) out ≡ out ++ mask_tail masks
unfolding write_masks mask_tail joined dwords to_le_bytes le32
masks_written depth masks out = go (has_alpha_mask masks)
  where
    three : List (List ℕ)
    three = to_le_bytes 4 (get_or masks 0 0) ∷ to_le_bytes 4 (get_or masks 1 0) ∷ to_le_bytes 4 (get_or masks 2 0) ∷ []

    go : (b : Bool) → cond b (extend_all out three ++ to_le_bytes 4 (get_or masks 3 0)) (extend_all out three)
        ≡ out ++ dwords (get_or masks 0 0 ∷ get_or masks 1 0 ∷ get_or masks 2 0 ∷ cond b (get_or masks 3 0 ∷ []) [])
    go true = ap (λ o. o ++ to_le_bytes 4 (get_or masks 3 0)) (extend_all_lem out three) ∙ append_assoc out (joined three) (to_le_bytes 4 (get_or masks 3 0))
    go false = extend_all_lem out three

-- four masks and the colour space
colours : (masks : List ℕ) (space : ℕ) (more : List (List ℕ)) → length masks ≡ 4
    → joined (to_le_bytes 4 (get_or masks 0 0) ∷ to_le_bytes 4 (get_or masks 1 0) ∷ to_le_bytes 4 (get_or masks 2 0) ∷ to_le_bytes 4 (get_or masks 3 0) ∷ to_le_bytes 4 space ∷ more)
    ≡ dwords masks ++ le32 space ++ joined more
unfolding joined dwords to_le_bytes le32
colours [] space more e = absurd (not-suc-le-zero {n = 0} (omega (arith, e)))
colours (a ∷ []) space more e = absurd (not-suc-le-zero {n = 0} (omega (arith, e)))
colours (a ∷ b ∷ []) space more e = absurd (not-suc-le-zero {n = 0} (omega (arith, e)))
colours (a ∷ b ∷ c ∷ []) space more e = absurd (not-suc-le-zero {n = 0} (omega (arith, e)))
colours (a ∷ b ∷ c ∷ d ∷ []) space more e = refl
colours (a ∷ b ∷ c ∷ d ∷ x ∷ xs) space more e = absurd (not-suc-le-zero {n = 0} (omega (arith, e)))

-- what the header of Rgb565 has after its first 40 bytes
abbrev fields565 : List (List ℕ)
fields565 =
    to_le_bytes 4 0xF800 ∷ to_le_bytes 4 0x07E0 ∷ to_le_bytes 4 0x001F ∷ to_le_bytes 4 0x0000 ∷ to_le_bytes 4 0x73524742 ∷ replicate 36 0 ∷ replicate 12 0 ∷ []

-- indexed formats are not Rgb565, and have no masks
indexed_is : (f : BmpPixelFormat) → is_indexed f ≡ true → (is_rgb565 f ≡ false) × (long_masks f ≡ replicate 4 0)
indexed_is = by_head (λ f. is_indexed f ≡ true → (is_rgb565 f ≡ false) × (long_masks f ≡ replicate 4 0)) (λ f a b m e. (b, m)) (λ e. absurd (false≢true e)) (λ f a b e. absurd (false≢true (sym a ∙ e)))

no_masks : (space : ℕ) (more : List (List ℕ)) → joined (replicate 16 0 ∷ to_le_bytes 4 space ∷ more) ≡ dwords (replicate 4 0) ++ le32 space ++ joined more
unfolding joined dwords to_le_bytes le32
no_masks space more = refl

-- the fields of a profile header after its masks
profile_fields : (masks : List ℕ) (space intent place size : ℕ)
    → dwords masks ++ le32 space ++ joined (replicate 36 0 ∷ replicate 12 0 ∷ to_le_bytes 4 intent ∷ to_le_bytes 4 place ∷ to_le_bytes 4 size ∷ to_le_bytes 4 0 ∷ [])
    ≡ v4_fields masks space (replicate 9 0) (replicate 3 0) ++ v5_fields intent place size
unfolding joined v4_fields v5_fields to_le_bytes le32 dwords
profile_fields masks space intent place size = simp append_assoc

regroup : (out first masks endpoints gammas table : List ℕ)
    → out ++ (first ++ masks) ++ endpoints ++ gammas ++ table ≡ out ++ (first ++ (masks ++ endpoints ++ gammas) ++ table)
regroup out first masks endpoints gammas table = simp append_assoc

module _ (i : Input) (out : List ℕ) (file_size_of pixel_bytes : ℕ) where
  -- mask mode
  pub masked_is : is_indexed i.source.format ≡ false
      → write_masks (masks_of (bitfields_in i.options).bpp (bitfields_in i.options).masks)
      (write_dib_header_v3 (write_file_header out file_size_of (head_bytes_in Masked i)) i.source.width (stored_height_of i) (bitfields_in i.options).bpp (mask_compression (bitfields_in i.options).masks) 0)
      ≡ out ++ head_in Masked i pixel_bytes file_size_of
  unfolding write_dib_header_v3 head_rest clr_used_of
  masked_is direct =
      let masks = (bitfields_in i.options).masks in
      let d = (bitfields_in i.options).bpp in
      let empty : 0 ≡ entries_of i = no_entries i direct in
      let used : 0 ≡ document.clr_used_of d (entries_of i) = used_is false i d (λ _. empty) in
      let first : List ℕ = first_in Masked i pixel_bytes file_size_of in
      masks_written d masks _
      ∙ ap (λ o. o ++ mask_tail masks) (v3_is out file_size_of (head_bytes_in Masked i) i.source.width (stored_height_of i) d (mask_compression masks) 0 ∙ ap (λ u. out ++ (file_header file_size_of (head_bytes_in Masked i) ++ info_header 40 i.source.width (stored_height_of i) d (mask_compression masks) 0 2835 2835 u)) used)
      ∙ append_assoc out first (mask_tail masks)
      ∙ ap (λ x. out ++ x) (sym (ap (λ t. first ++ mask_tail masks ++ t) (no_table i empty) ∙ append-nil (first ++ mask_tail masks)))

  -- the masks of a long header
  mask_at : (k : ℕ) → k < 4 → at (long_masks i.source.format) k ≡ done (get_or (long_masks i.source.format) k 0)
  mask_at k h = at_is (long_masks i.source.format) k (omega (arith, h, four_masks i.source.format))

  pub calibrated_is : (length i.palette % 4 ≡ 0) ⊎ (is_indexed i.source.format ≡ false)
      → write_header (head_for Calibrated i.source.format i) (write_file_header out file_size_of (head_bytes_in Calibrated i)) i.source.width (stored_height_of i) (head_bytes_in Calibrated i) pixel_bytes
      ≡ done (out ++ head_in Calibrated i pixel_bytes file_size_of)
  unfolding write_header write_dib_header_v4_calibrated head_rest v4_fields longs joined
  calibrated_is whole =
      let masks = long_masks i.source.format in
      let w = i.source.width in
      let d = bits_per_pixel i.source.format in
      let c = plain_compression i.source.format in
      let cal = (calibrated_in i.options) in
      let used = used_is (is_indexed i.source.format) i d (no_entries i) in
      let fields : List (List ℕ) = to_le_bytes 4 (get_or masks 0 0) ∷ to_le_bytes 4 (get_or masks 1 0) ∷ to_le_bytes 4 (get_or masks 2 0) ∷ to_le_bytes 4 (get_or masks 3 0) ∷ to_le_bytes 4 0 ∷ [] in
      let first = first_in Calibrated i pixel_bytes file_size_of in
      let colour : joined fields ≡ dwords masks ++ le32 0 = colours masks 0 [] (four_masks i.source.format) ∙ append-nil (dwords masks ++ le32 0) in
      let headed = heads_is out file_size_of (head_bytes_in Calibrated i) 108 w (stored_height_of i) d c pixel_bytes (document.clr_used_of d (entries_of i)) fields in
      rw (mask_at 0 (lit< tt), mask_at 1 (lit< tt), mask_at 2 (lit< tt), mask_at 3 (lit< tt), used, headed, colour)
      (rw (dwords_is (of_z w32) cal.endpoints (out ++ (first ++ (dwords masks ++ le32 0))), dwords_is (λ g. g) cal.gamma (out ++ (first ++ (dwords masks ++ le32 0)) ++ dwords (map (of_z w32) cal.endpoints)), map-id cal.gamma)
      (table_written (is_indexed i.source.format) i (out ++ (first ++ (dwords masks ++ le32 0)) ++ dwords (map (of_z w32) cal.endpoints) ++ dwords cal.gamma) whole (no_entries i)
      ∙ ap done (regroup out first (dwords masks ++ le32 0) (dwords (map (of_z w32) cal.endpoints)) (dwords cal.gamma) (colour_table i))))

  pub profiled_is : (length i.palette % 4 ≡ 0) ⊎ (is_indexed i.source.format ≡ false) → head_bytes_in Profiled i + raw_bytes i + length (cond i.source.has_linked_icc i.linked i.icc) < 2 ^ 32
      → write_header (head_for Profiled i.source.format i) (write_file_header out file_size_of (head_bytes_in Profiled i)) i.source.width (stored_height_of i) (head_bytes_in Profiled i) (raw_bytes i)
      ≡ done (out ++ head_in Profiled i (raw_bytes i) file_size_of)
  unfolding write_header head_rest tail_in write_dib_header_v5_with_profile write_dib_header_v5_indexed_with_profile clr_used_of
  profiled_is whole fits =
      let o = head_bytes_in Profiled i in
      let size : length (cond i.source.has_linked_icc i.linked i.icc) % 4294967296 ≡ length (cond i.source.has_linked_icc i.linked i.icc) = mod-eq_of_lt (omega arith) in
      rw (sub_is o 14 (omega arith), add_is 32 (o - 14) (raw_bytes i) (omega arith), size) (go (is_indexed i.source.format) refl whole (no_entries i))
    where
      f : BmpPixelFormat
      f = i.source.format

      space : ℕ
      space = cond i.source.has_linked_icc 0x4C494E4B 0x4D424544

      place : ℕ
      place = head_bytes_in Profiled i - 14 + raw_bytes i

      n : ℕ
      n = length (cond i.source.has_linked_icc i.linked i.icc)

      rest : List ℕ
      rest = v4_fields (long_masks f) space (replicate 9 0) (replicate 3 0) ++ v5_fields i.options.rendering_intent place n

      headed : List ℕ
      headed = write_file_header out file_size_of (head_bytes_in Profiled i)

      first : List ℕ
      first = first_in Profiled i (raw_bytes i) file_size_of

      more : List (List ℕ)
      more = replicate 36 0 ∷ replicate 12 0 ∷ to_le_bytes 4 i.options.rendering_intent ∷ to_le_bytes 4 place ∷ to_le_bytes 4 n ∷ to_le_bytes 4 0 ∷ []

      direct : is_indexed f ≡ false
          → write_dib_header_v5_with_profile headed i.source.width (stored_height_of i) (bits_per_pixel f) (raw_bytes i) (cond (is_rgb565 f) 3 0) (long_masks f) space i.options.rendering_intent place n ≡ done (out ++ (first ++ rest))
      direct b =
          let used : 0 ≡ document.clr_used_of (bits_per_pixel f) (entries_of i) = used_is false i (bits_per_pixel f) (λ _. no_entries i b) in
          let parts : List (List ℕ) = to_le_bytes 4 (get_or (long_masks f) 0 0) ∷ to_le_bytes 4 (get_or (long_masks f) 1 0) ∷ to_le_bytes 4 (get_or (long_masks f) 2 0) ∷ to_le_bytes 4 (get_or (long_masks f) 3 0) ∷ to_le_bytes 4 space ∷ more in
          rw (mask_at 0 (lit< tt), mask_at 1 (lit< tt), mask_at 2 (lit< tt), mask_at 3 (lit< tt))
          (ap done
          (heads_is out file_size_of (head_bytes_in Profiled i) 124 i.source.width (stored_height_of i) (bits_per_pixel f) (cond (is_rgb565 f) 3 0) (raw_bytes i) 0 parts
          ∙ ap (λ u. out ++ (file_header file_size_of (head_bytes_in Profiled i) ++ info_header 124 i.source.width (stored_height_of i) (bits_per_pixel f) (cond (is_rgb565 f) 3 0) (raw_bytes i) 2835 2835 u ++ joined parts)) used
          ∙ ap (λ x. out ++ (first ++ x)) (colours (long_masks f) space more (four_masks f) ∙ profile_fields (long_masks f) space i.options.rendering_intent place n)))

      with_table : is_indexed f ≡ true
          → write_dib_header_v5_indexed_with_profile headed i.source.width (stored_height_of i) (bits_per_pixel f) (raw_bytes i) (clr_used_of (bits_per_pixel f) (table_for true i)) space i.options.rendering_intent place n ≡ out ++ (first ++ rest)
      with_table b =
          let c : ◌≡◌ {A = ℕ} 0 (cond (is_rgb565 f) 3 0) = sym (ap (λ t. cond t 3 0) (indexed_is f b).0) in
          let used = used_is true i (bits_per_pixel f) (λ x. absurd (false≢true (sym x))) in
          let parts : List (List ℕ) = replicate 16 0 ∷ to_le_bytes 4 space ∷ more in
          heads_is out file_size_of (head_bytes_in Profiled i) 124 i.source.width (stored_height_of i) (bits_per_pixel f) 0 (raw_bytes i) (clr_used_of (bits_per_pixel f) (table_for true i)) parts
          ∙ ap (λ u. out ++ (file_header file_size_of (head_bytes_in Profiled i) ++ info_header 124 i.source.width (stored_height_of i) (bits_per_pixel f) 0 (raw_bytes i) 2835 2835 u ++ joined parts)) used
          ∙ ap (λ z. out ++ (file_header file_size_of (head_bytes_in Profiled i) ++ info_header 124 i.source.width (stored_height_of i) (bits_per_pixel f) z (raw_bytes i) 2835 2835 (document.clr_used_of (bits_per_pixel f) (entries_of i)) ++ joined parts)) c
          ∙ ap (λ x. out ++ (first ++ x))
          (no_masks space more ∙ ap (λ m. dwords m ++ le32 space ++ joined more) (sym (indexed_is f b).1) ∙ profile_fields (long_masks f) space i.options.rendering_intent place n)

      go : (b : Bool) → is_indexed f ≡ b → (length i.palette % 4 ≡ 0) ⊎ (b ≡ false) → (b ≡ false → 0 ≡ entries_of i)
          → (cond (is_some (table_for b i))
          (done (write_dib_header_v5_indexed_with_profile headed i.source.width (stored_height_of i) (bits_per_pixel f) (raw_bytes i) (clr_used_of (bits_per_pixel f) (table_for b i)) space i.options.rendering_intent place n))
          (write_dib_header_v5_with_profile headed i.source.width (stored_height_of i) (bits_per_pixel f) (raw_bytes i) (cond (is_rgb565 f) 3 0) (long_masks f) space i.options.rendering_intent place n) >>= write_table (table_for b i))
          ≡ done (out ++ (first ++ rest ++ colour_table i))
      go true e four empty = rw (with_table e) (table_written true i (out ++ (first ++ rest)) four empty ∙ ap done (append_assoc out (first ++ rest) (colour_table i)))
      go false e four empty = rw (direct e) (table_written false i (out ++ (first ++ rest)) four empty ∙ ap done (append_assoc out (first ++ rest) (colour_table i)))

  -- a stored height's amount is the height
  height_of : 0 < i.source.height → i.source.height < 2 ^ 31 → unsigned_abs (stored_height_of i) ≡ i.source.height
  height_of high tall = go i.options.top_down
    where
      h : ℕ
      h = i.source.height

      go : (t : Bool) → cond (ltb (cond t (4294967296 - h) h) 0x80000000) (cond t (4294967296 - h) h) (4294967296 - cond t (4294967296 - h) h) ≡ h
      go true =
          let e : 4294967296 - (4294967296 - h) ≡ h = omega (arith, tall) in
          rw (le-ltb (4294967296 - h) 0x80000000 (omega (arith, tall))) e
      go false = rw (lt-ltb h 0x80000000 tall)

  pub plain_is : (length i.palette % 4 ≡ 0) ⊎ (is_indexed i.source.format ≡ false) → i.source.width < 2 ^ 32 → 0 < i.source.height → i.source.height < 2 ^ 31
      → (is_rgb565 i.source.format ≡ true → (pixel_bytes ≡ document.row_stride i.source.width 16 * i.source.height) × (pixel_bytes < 2 ^ 32))
      → write_header (head_for Plain i.source.format i) (write_file_header out file_size_of (head_bytes_in Plain i)) i.source.width (stored_height_of i) (head_bytes_in Plain i) pixel_bytes
      ≡ done (out ++ head_in Plain i pixel_bytes file_size_of)
  unfolding write_header head_rest write_dib_header_v3 write_dib_header_v3_indexed write_dib_header_v4_bitfields clr_used_of colour_table joined to_le_bytes le32 v4_fields dwords
  plain_is whole wide high tall raw = go i.source.format refl
    where
      o : ℕ
      o = head_bytes_in Plain i

      w : ℕ
      w = i.source.width

      headed : List ℕ
      headed = write_file_header out file_size_of o

      -- the document's head at a format
      head_at : BmpPixelFormat → List ℕ
      head_at f =
          file_header file_size_of o
          ++ info_header (cond (is_rgb565 f) 108 40) w (stored_height_of i) (bits_per_pixel f) (cond (is_rgb565 f) 3 0) (cond (eqb (cond (is_rgb565 f) 108 40) 40) 0 pixel_bytes) 2835 2835 (document.clr_used_of (bits_per_pixel f) (entries_of i))
          ++ cond (is_rgb565 f) (v4_fields (long_masks f) 0x73524742 (replicate 9 0) (replicate 3 0)) []
          ++ colour_table i

      short : (bpp : ℕ) → 0 ≡ entries_of i
          → write_dib_header_v3 headed w (stored_height_of i) bpp 0 0
          ≡ out ++ (file_header file_size_of o ++ info_header 40 w (stored_height_of i) bpp 0 0 2835 2835 (document.clr_used_of bpp (entries_of i)) ++ [] ++ colour_table i)
      short bpp empty =
          let first : ℕ → List ℕ = λ u. file_header file_size_of o ++ info_header 40 w (stored_height_of i) bpp 0 0 2835 2835 u in
          let used : 0 ≡ document.clr_used_of bpp (entries_of i) = used_is false i bpp (λ _. empty) in
          v3_is out file_size_of o w (stored_height_of i) bpp 0 0
          ∙ ap (λ u. out ++ first u) used
          ∙ ap (λ x. out ++ x) (sym (ap (λ t. first (document.clr_used_of bpp (entries_of i)) ++ [] ++ t) (no_table i empty) ∙ append-nil (first (document.clr_used_of bpp (entries_of i)) ++ []) ∙ append-nil (first (document.clr_used_of bpp (entries_of i)))))

      quads : is_indexed i.source.format ≡ true → (length i.palette % 4 ≡ 0) ⊎ (is_indexed i.source.format ≡ false) → length i.palette % 4 ≡ 0
      quads e (inl h) = h
      quads e (inr h) = absurd (false≢true (sym h ∙ e))

      with_table : (bpp : ℕ) → length i.palette % 4 ≡ 0
          → write_dib_header_v3_indexed headed w (stored_height_of i) bpp 0 (palette_in i) (entries_of i)
          ≡ done (out ++ (file_header file_size_of o ++ info_header 40 w (stored_height_of i) bpp 0 0 2835 2835 (document.clr_used_of bpp (entries_of i)) ++ [] ++ colour_table i))
      with_table bpp four =
          let first : List ℕ = file_header file_size_of o ++ info_header 40 w (stored_height_of i) bpp 0 0 2835 2835 (document.clr_used_of bpp (entries_of i)) in
          rw (full_used i bpp, v3_is out file_size_of o w (stored_height_of i) bpp 0 (document.clr_used_of bpp (entries_of i)))
          (table_is i.palette (entries_of i) (out ++ first) four ∙ ap done (append_assoc out first (colour_table i) ∙ ap (λ x. out ++ (x ++ colour_table i)) (sym (append-nil first))))

      rgb565 : i.source.format ≡ source.Rgb565 → write_header (plain_head_for source.Rgb565 i) headed w (stored_height_of i) o pixel_bytes ≡ done (out ++ head_at source.Rgb565)
      rgb565 e =
          let r = raw (ap is_rgb565 e) in
          let s : ℕ = document.row_stride w 16 in
          let one : s * 1 ≤ s * i.source.height = mul-le-mul_left s high in
          let small : s < 2 ^ 32 = omega (arith, one, r.0, r.1) in
          let m : s % 4294967296 ≡ s = mod-eq_of_lt small in
          let product : s * i.source.height < 2 ^ 32 = omega (arith, r.0, r.1) in
          let used : 0 ≡ document.clr_used_of 16 (entries_of i) = used_is false i 16 (λ _. no_entries i (ap is_indexed e)) in
          let is : s * i.source.height ≡ pixel_bytes = sym r.0 in
          rw (stride_is w 16 wide (omega arith), m, height_of high tall, mul_is 32 s i.source.height product, is)
          (ap done
          (heads_is out file_size_of o 108 w (stored_height_of i) 16 3 pixel_bytes 0 fields565
          ∙ ap (λ u. out ++ (file_header file_size_of o ++ info_header 108 w (stored_height_of i) 16 3 pixel_bytes 2835 2835 u ++ joined fields565)) used
          ∙ ap (λ x. out ++ x)
          (sym (ap (λ t. file_header file_size_of o ++ info_header 108 w (stored_height_of i) 16 3 pixel_bytes 2835 2835 (document.clr_used_of 16 (entries_of i)) ++ joined fields565 ++ t) (no_table i (no_entries i (ap is_indexed e)))
          ∙ append-nil (file_header file_size_of o ++ info_header 108 w (stored_height_of i) 16 3 pixel_bytes 2835 2835 (document.clr_used_of 16 (entries_of i)) ++ joined fields565)))))

      go : (f : BmpPixelFormat) → i.source.format ≡ f → write_header (plain_head_for f i) headed w (stored_height_of i) o pixel_bytes ≡ done (out ++ head_at f)
      go = by_head (λ f. i.source.format ≡ f → write_header (plain_head_for f i) headed w (stored_height_of i) o pixel_bytes ≡ done (out ++ head_at f))
          (λ f a b m e. rw (a, b) (with_table (bits_per_pixel f) (quads (ap is_indexed e ∙ a) whole)))
          rgb565
          (λ f a b e. rw (a, b) (ap done (short (bits_per_pixel f) (no_entries i (ap is_indexed e ∙ a)))))
