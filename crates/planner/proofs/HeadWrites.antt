-- Laws of the functions that write the head of a layout.
use mathlib.Core.Path.{◌≡◌, refl, sym, ap, ◌∙◌}
use mathlib.Core.Bool.{Bool, true, false, cond}
use mathlib.Core.List.{List, [], ◌∷◌, ◌++◌}
use Prim.Native.Nat.{ℕ, ◌+◌, ◌-◌, ◌*◌, ◌≤◌}
use native.Mathlib.Omega.{arith}
use lib.IntN.{pos}
use lib.ListN.{length, replicate, length-append}
use Rattle.std.proofs.Common.{Option, is_some}
use Rattle.std.specs.Prelude.{IsSome}
use Rattle.leaves.specs.declared.encoder.EncodeSource.{EncodeSource}
use Rattle.leaves.specs.declared.options.EncodeOptions.{EncodeOptions}
use Rattle.leaves.specs.Bytes.{le32}
use Rattle.leaves.specs.Formats.{is_rgb565}
use Rattle.leaves.specs.Lists.{cat}
use Rattle.leaves.specs.Put.{put}
use Rattle.leaves.specs.Refusals.{profile_mode}
use Rattle.format.specs.declared.layout.Layout.{Layout}
use Rattle.format.specs.declared.layout.Mode.{Mode}
use Rattle.format.specs.declared.layout.Mode.TheVariants.{Masked, Calibrated, Profiled, Plain}
use Rattle.format.specs.File.{table_entry}
use Rattle.format.specs.Headers.{dwords, v4_fields, v5_fields, longs}
use Rattle.format.specs.Layout.{mode_of, is_masked, long_masks, mask_tail, head_rest}
use Rattle.leaves.proofs.Puts.{put-nil}
use Rattle.leaves.specs.Options.{bitfields_in, calibrated_in}
use Rattle.format.proofs.HeadFields.{length-file_header, length-info_header, rest_length}
use Rattle.format.proofs.Modes.{given_mode}
use Rattle.format.proofs.HeadTable.{v4_length, four_masks, longs-length}
use Rattle.planner.specs.declared.heads.FirstFields.{FirstFields}
use Rattle.planner.specs.Plans.{first_fields, rest_len}
use Rattle.planner.proofs.HeadLaws.{put_next}

some_is : {A : Type 0} (x : Option A) → is_some x ≡ true → IsSome x
some_is x e = rw e

-- ---- what stands between the first 40 bytes of the info header and the colour table

-- nine endpoints of 0
no_ends : longs (replicate 9 (pos 0)) ≡ replicate 9 0
unfolding longs
no_ends = refl

module _ (m : Mode) (s : EncodeSource) (o : EncodeOptions) (size at : ℕ) where
  -- of a mode that is known
  by_mode : (n : Mode) → m ≡ n → head_rest n s o size at ≡ head_rest m s o size at
  by_mode n e = sym (ap (λ (x : Mode). head_rest x s o size at) e)

  pub rest_masked : m ≡ Masked → mask_tail (bitfields_in o).masks ≡ head_rest m s o size at
  unfolding head_rest
  rest_masked e = by_mode Masked e

  pub rest_calibrated : (masks : List ℕ) → m ≡ Calibrated → masks ≡ long_masks s.format
      → v4_fields masks 0 (longs (calibrated_in o).endpoints) (calibrated_in o).gamma ≡ head_rest m s o size at
  unfolding head_rest
  rest_calibrated masks e f = ap (λ (x : List ℕ). v4_fields x 0 (longs (calibrated_in o).endpoints) (calibrated_in o).gamma) f ∙ by_mode Calibrated e

  pub rest_profiled : (d b c masks : List ℕ) (place space : ℕ) → m ≡ Profiled → masks ≡ long_masks s.format → space ≡ cond s.has_linked_icc 0x4C494E4B 0x4D424544 → place + 84 ≤ length d
      → b ≡ put d place (v4_fields masks space (longs (replicate 9 (pos 0))) (replicate 3 0)) → c ≡ put b (place + 68) (dwords (o.rendering_intent ∷ at ∷ size ∷ 0 ∷ []))
      → c ≡ put d place (head_rest m s o size at)
  unfolding head_rest dwords v5_fields le32
  rest_profiled d b c masks place space e f g room was is =
      let first = v4_fields (long_masks s.format) (cond s.has_linked_icc 0x4C494E4B 0x4D424544) (replicate 9 0) (replicate 3 0) in
      let long = v4_length (long_masks s.format) (cond s.has_linked_icc 0x4C494E4B 0x4D424544) (replicate 9 0) (replicate 3 0) (four_masks s.format) refl refl in
      put_next d b c first (v5_fields o.rendering_intent at size) place 68 (place + 68) long refl (omega arith)
      (was ∙ (λ z. put d place (v4_fields (f z) (g z) (no_ends z) (replicate 3 0)))) is
      ∙ ap (put d place) (by_mode Profiled e)

  pub rest_long : (masks : List ℕ) → m ≡ Plain → masks ≡ long_masks s.format → is_rgb565 s.format ≡ true
      → v4_fields masks 0x73524742 (longs (replicate 9 (pos 0))) (replicate 3 0) ≡ head_rest m s o size at
  unfolding head_rest
  rest_long masks e f t =
      (λ z. v4_fields (f z) 0x73524742 (no_ends z) (replicate 3 0))
      ∙ sym (ap (λ (b : Bool). cond b (v4_fields (long_masks s.format) 0x73524742 (replicate 9 0) (replicate 3 0)) []) t) ∙ by_mode Plain e

  pub rest_none : (d : List ℕ) (place : ℕ) → m ≡ Plain → is_rgb565 s.format ≡ false → d ≡ put d place (head_rest m s o size at)
  unfolding head_rest
  rest_none d place e t =
      sym (put-nil d place)
      ∙ ap (put d place) (sym (ap (λ (b : Bool). cond b (v4_fields (long_masks s.format) 0x73524742 (replicate 9 0) (replicate 3 0)) []) t) ∙ by_mode Plain e)

-- what a mode's fields are taken from is given
pub masks_given : (m : Mode) (s : EncodeSource) (o : EncodeOptions) → m ≡ mode_of s o → m ≡ Masked → IsSome o.bitfields
masks_given m s o e q = some_is o.bitfields (given_mode s o ∙ ap is_masked (sym e ∙ q))

pub colour_given : (m : Mode) (s : EncodeSource) (o : EncodeOptions) → m ≡ mode_of s o → m ≡ Calibrated → IsSome o.calibrated_rgb
unfolding mode_of
colour_given m s o e q = some_is o.calibrated_rgb (go (is_some o.bitfields) (is_some o.calibrated_rgb) (profile_mode s.has_linked_icc s.has_icc o.embed_icc) (sym e ∙ q))
  where
    is_calibrated : Mode → Bool
    is_calibrated Masked = false
    is_calibrated Calibrated = true
    is_calibrated Profiled = false
    is_calibrated Plain = false

    go : (a b c : Bool) → cond a Masked (cond b Calibrated (cond c Profiled Plain)) ≡ Calibrated → b ≡ true
    go a true c q = refl
    go true false c q = ap is_calibrated q
    go false false true q = ap is_calibrated q
    go false false false q = ap is_calibrated q

-- its length
pub rest_room : (m : Mode) (s : EncodeSource) (o : EncodeOptions) → length (calibrated_in o).endpoints ≡ 9 → length (calibrated_in o).gamma ≡ 3
    → rest_len m s o ≡ length (head_rest m s o 0 0)
unfolding head_rest v5_fields le32
rest_room Masked s o nine three = refl
rest_room Calibrated s o nine three =
    sym (v4_length (long_masks s.format) 0 (longs (calibrated_in o).endpoints) (calibrated_in o).gamma (four_masks s.format) (longs-length (calibrated_in o).endpoints ∙ nine) three)
rest_room Profiled s o nine three =
    simp (
      length-append,
      v4_length (long_masks s.format) (cond s.has_linked_icc 0x4C494E4B 0x4D424544) (replicate 9 0) (replicate 3 0) (four_masks s.format) refl refl,
    )
rest_room Plain s o nine three = go (is_rgb565 s.format)
  where
    go : (b : Bool) → cond b 68 0 ≡ length (cond b (v4_fields (long_masks s.format) 0x73524742 (replicate 9 0) (replicate 3 0)) [])
    go true = sym (v4_length (long_masks s.format) 0x73524742 (replicate 9 0) (replicate 3 0) (four_masks s.format) refl refl)
    go false = refl

-- ---- the head

first-length : (h : FirstFields) → length (first_fields h) ≡ 54
unfolding first_fields
first-length h = simp (length-append, length-file_header, length-info_header)

-- three writes, one behind the other
pub head_written : (d b1 b2 b3 palette : List ℕ) (at head q size place : ℕ) (h : FirstFields) (l : Layout) (s : EncodeSource) (o : EncodeOptions)
    → head ≡ 54 + length (head_rest l.mode s o 0 0) + 4 * l.entries → at + head ≤ length d → q ≡ at + head - 4 * l.entries
    → b1 ≡ put d at (first_fields h) → b2 ≡ put b1 (at + 54) (head_rest l.mode s o size place) → b3 ≡ put b2 q (cat (table_entry palette) l.entries)
    → b3 ≡ put d at (first_fields h ++ head_rest l.mode s o size place ++ cat (table_entry palette) l.entries)
head_written d b1 b2 b3 palette at head q size place h l s o parts room e w1 w2 w3 =
    let rest = rest_length l.mode s o size place in
    let n : ℕ = 54 + length (head_rest l.mode s o 0 0) in
    let first = first-length h in
    let both : length (first_fields h ++ head_rest l.mode s o size place) ≡ n = length-append (first_fields h) (head_rest l.mode s o size place) ∙ omega (arith, first, rest) in
    let s2 = put_next d b1 b2 (first_fields h) (head_rest l.mode s o size place) at 54 (at + 54) first refl (omega (arith, parts)) w1 w2 in
    put_next d b2 b3 (first_fields h ++ head_rest l.mode s o size place) (cat (table_entry palette) l.entries) at n q both (omega (arith, parts, e)) (omega (arith, parts)) s2 w3
