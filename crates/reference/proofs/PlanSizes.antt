-- The sizes of a call that 1 to 13 let through.
use mathlib.Core.Path.{◌≡◌, refl, sym, ap, ◌∙◌, subst}
use mathlib.Core.Bool.{Bool, true, false, not, cond, ◌&&◌}
use mathlib.Core.List.{[], ◌∷◌}
use Prim.Native.Nat.{ℕ, ◌+◌, ◌-◌, ◌*◌, ◌^◌, ◌≤◌, ◌<◌, max}
use native.Mathlib.Nat.{mul-le-mul, mul-le-mul_left, add_assoc, add_comm}
use native.Mathlib.Omega.{arith}
use lib.Dec.{ltb, leb}
use lib.ListN.{length}
use Rattle.leaves.specs.declared.image.BmpPixelFormat.{BmpPixelFormat}
use Rattle.leaves.specs.declared.image.BmpPixelFormat.TheVariants as source
use Rattle.leaves.specs.declared.error.Refusal.TheVariants.{FileTooLarge}
use Rattle.leaves.specs.Formats.{is_indexed}
use Rattle.leaves.specs.Sizes.{row_stride}
use Rattle.leaves.specs.Options.{bitfields_in, calibrated_in}
use Rattle.format.specs.declared.layout.Mode.{Mode}
use Rattle.format.specs.declared.layout.Mode.TheVariants.{Masked, Calibrated, Profiled, Plain}
use Rattle.format.specs.File.{mode_in, depth_in, pack_in, rle_planned, raw_bytes, entries_of, head_bytes_of, tail_of, budget, plain_size_of, bound_of}
use Rattle.format.specs.Layout as layout
use Rattle.format.specs.Layout.{is_masked, tail_in, head_rest, raw_len, is_plain, coded, wants_rle}
use Rattle.format.specs.Input.{Input}
use Rattle.format.specs.Refusals.{file_too_large}
use Rattle.format.proofs.Acceptance.{Checked}
use Rattle.format.proofs.HeadFields.{header_le}
use Rattle.format.proofs.HeadTable.{header_fills, indexed_refused}
use Rattle.format.proofs.Modes.{given_mode, planned_in, no_tail}
use Rattle.reference.specs.Rust.{done, some, none}
use Rattle.reference.specs.Rle.{Rle, Rle8, Rle4, rle_slack}
use Rattle.reference.specs.Packing.{Rows}
use Rattle.reference.specs.Plan.{V3Indexed, head_len, Sizes, new_sizes, tail_and_slack, sizes_of, max_file}
use Rattle.reference.specs.Compared.{given, options_of, Typed}
use Rattle.reference.proofs.RunLaws.{add_is, mul_is}
use Rattle.reference.proofs.PackingLaws.{pack_of}
use Rattle.reference.proofs.NewRows.{rows_for}
use Rattle.reference.proofs.PlanHeads.{palette_in, few_entries, tail_small, plain_head_for, head_for, head_len_lem}
use Rattle.reference.proofs.NewPlan.{PackSizes, pack_sizes}
use Rattle.reference.proofs.SizeLaws.{checked_mul_lem, sizes_plain, sizes_coded}
use Rattle.reference.proofs.Follows as follow
use Rattle.reference.proofs.Follows.{Follows}

-- the document's sizes
abbrev pub sizes_for : ℕ → Input → Sizes
sizes_for limit i =
    record {
      head = head_bytes_of i;
      raw = raw_bytes i;
      file = plain_size_of i;
      file_fits = leb (plain_size_of i) limit;
      rle_budget = given (rle_planned i) (budget limit i);
      bound = bound_of limit i;
      limit = limit;
    }

slack_is : (w : ℕ) → w < 2 ^ 32 → rle_slack w ≡ done (2 * w + 2)
unfolding rle_slack
slack_is w h = rw (mul_is 64 2 w (omega (arith, h)), add_is 64 (2 * w) 2 (omega (arith, h)))

-- the tail's bytes, and the slack where RLE is planned
tail_slack : (m : Mode) (i : Input) (rows : Rows) → rows.width < 2 ^ 32
    → tail_and_slack (head_for m i.source.format i) rows
    ≡ done (length (tail_in m i.source.has_linked_icc i.icc i.linked), given (is_plain m && coded i.source.format && i.options.rle && not i.options.top_down) (2 * rows.width + 2))
unfolding tail_and_slack tail_in options_of
tail_slack Masked i rows wide = refl
tail_slack Calibrated i rows wide = refl
tail_slack Profiled i rows wide = refl
tail_slack Plain i rows wide = go i.source.format
  where
    wanted : Bool
    wanted = i.options.rle && not i.options.top_down

    planned : (bpp : ℕ) (rle : Rle) (b : Bool) → tail_and_slack (V3Indexed bpp (palette_in i) (entries_of i) (cond b (some rle) none)) rows ≡ done (0, given b (2 * rows.width + 2))
    planned bpp rle true = rw (slack_is rows.width wide)
    planned bpp rle false = refl

    never : (bpp : ℕ) (b : Bool) → tail_and_slack (V3Indexed bpp (palette_in i) (entries_of i) (cond b none none)) rows ≡ done (0, none)
    never bpp true = refl
    never bpp false = refl

    go : (f : BmpPixelFormat) → tail_and_slack (plain_head_for f i) rows ≡ done (0, given (coded f && i.options.rle && not i.options.top_down) (2 * rows.width + 2))
    go source.Rgba = refl
    go source.Rgb24 = refl
    go source.Bgra = refl
    go source.Bgr24 = refl
    go source.Rgb555 = refl
    go source.Rgb565 = refl
    go source.Pal8 = planned 8 Rle8 wanted
    go source.Indexed4 = planned 4 Rle4 wanted
    go source.Indexed2 = never 2 wanted
    go source.Indexed1 = never 1 wanted

-- a stored row takes at most four bytes a pixel
stride_small : (w d : ℕ) → d ≤ 32 → row_stride w d ≤ 4 * w
unfolding row_stride
stride_small w d h = let m : w * d ≤ w * 32 = mul-le-mul_left w h in omega (arith, m)

-- what stands behind the first 54 bytes has at most 84
rest_small : (m : Mode) (i : Input) → length (calibrated_in i.options).endpoints ≡ 9 → length (calibrated_in i.options).gamma ≡ 3 → length (head_rest m i.source i.options 0 0) ≤ 84
unfolding head_rest
rest_small Masked i nine three = omega (arith, tail_small (bitfields_in i.options).masks)
rest_small Calibrated i nine three = omega (arith, header_fills i.source i.options nine three Calibrated refl)
rest_small Profiled i nine three = omega (arith, header_fills i.source i.options nine three Profiled refl)
rest_small Plain i nine three = omega (arith, header_fills i.source i.options nine three Plain refl, header_le Plain i.source.format)

module _ (i : Input) (ok : Typed i) (k : Checked i) where
  pub sizes : PackSizes i
  sizes = pack_sizes i k.masks k.samples

  -- masks are for direct colour
  pub direct : mode_in i ≡ Masked → is_indexed i.source.format ≡ false
  direct e = go (is_indexed i.source.format) refl
    where
      go : (b : Bool) → is_indexed i.source.format ≡ b → b ≡ false
      go true q = absurd (indexed_refused i.source.format q (k.samples (given_mode i.source i.options ∙ ap is_masked e)))
      go false q = refl

  pub length_head : head_len (head_for (mode_in i) i.source.format i) ≡ done (head_bytes_of i)
  unfolding layout.head_len
  length_head = head_len_lem (mode_in i) i ok.nine_endpoints ok.three_gammas direct

  pub head_small : head_bytes_of i ≤ 1162
  unfolding layout.head_len
  head_small = omega (arith, rest_small (mode_in i) i ok.nine_endpoints ok.three_gammas, few_entries i)

  pub raw_small : raw_bytes i ≤ 8589934588 * 2147483647
  unfolding raw_len
  raw_small =
      let s : row_stride i.source.width (depth_in i) ≤ 8589934588 = omega (arith, stride_small i.source.width (depth_in i) (subst (λ n. n ≤ 32) sizes.depth sizes.bits), k.wide) in
      mul-le-mul {n₁ = row_stride i.source.width (depth_in i)} {m₁ = i.source.height} {n₂ = 8589934588} {m₂ = 2147483647} s (omega (arith, k.tall))

  abbrev rows : Rows
  rows = rows_for (pack_of (pack_in i)) i

  pub raw_is : rows.stride * i.source.height ≡ raw_bytes i
  unfolding raw_len
  raw_is = ap (λ d. row_stride i.source.width d * i.source.height) sizes.depth

  -- what Sizes::new is called with
  called : (limit : ℕ) → sizes_of (head_for (mode_in i) i.source.format i) rows limit
      ≡ new_sizes (head_bytes_of i) (raw_bytes i) (length (tail_of i)) (given (rle_planned i) (2 * i.source.width + 2)) limit (2 ^ 64 - 1)
  unfolding sizes_of wants_rle
  called limit =
      let product : rows.stride * i.source.height < 2 ^ 64 = omega (arith, raw_is, raw_small) in
      rw (checked_mul_lem rows.stride i.source.height product, tail_slack (mode_in i) i rows ok.width, length_head, raw_is)

  -- Sizes::of follows row 14
  pub sizes_follow : (limit : ℕ) → limit ≤ max_file → Follows ((file_too_large limit i, FileTooLarge) ∷ []) (sizes_of (head_for (mode_in i) i.source.format i) rows limit) (done (sizes_for limit i))
  unfolding file_too_large bound_of plain_size_of budget
  sizes_follow limit most = follow.from ((file_too_large limit i, FileTooLarge) ∷ []) _ _ _ (called limit) (go (rle_planned i) refl)
    where
      w : ℕ
      w = i.source.width

      go : (b : Bool) → rle_planned i ≡ b
          → Follows ((not b && ltb limit (plain_size_of i), FileTooLarge) ∷ []) (new_sizes (head_bytes_of i) (raw_bytes i) (length (tail_of i)) (given b (2 * w + 2)) limit (2 ^ 64 - 1))
          (done (record {
            head = head_bytes_of i;
            raw = raw_bytes i;
            file = plain_size_of i;
            file_fits = leb (plain_size_of i) limit;
            rle_budget = given b (budget limit i);
            bound = cond b (head_bytes_of i + max (budget limit i + 2 * w + 2) (cond (leb (plain_size_of i) limit) (raw_bytes i) 0)) (plain_size_of i);
            limit = limit;
          }))
      go false e = sizes_plain limit most (head_bytes_of i) (raw_bytes i) (length (tail_of i)) (omega (arith, head_small, raw_small))
      go true e =
          let z : length (tail_of i) ≡ 0 = no_tail i (planned_in i e) in
          let file : head_bytes_of i + raw_bytes i + 0 ≡ plain_size_of i = ap (λ n. head_bytes_of i + raw_bytes i + n) (sym z) in
          let room : ℕ = cond (leb (plain_size_of i) limit) (raw_bytes i) 0 in
          let bound : max (budget limit i + (2 * w + 2)) (cond (leb (head_bytes_of i + raw_bytes i + 0) limit) (raw_bytes i) 0) + head_bytes_of i ≡ head_bytes_of i + max (budget limit i + 2 * w + 2) room =
          ap (λ (n : ℕ). max (budget limit i + (2 * w + 2)) (cond (leb n limit) (raw_bytes i) 0) + head_bytes_of i) file
          ∙ ap (λ (n : ℕ). max n room + head_bytes_of i) (sym (add_assoc (budget limit i) (2 * w) 2))
          ∙ add_comm (max (budget limit i + 2 * w + 2) room) (head_bytes_of i) in
          let found =
          ap (λ n. new_sizes (head_bytes_of i) (raw_bytes i) n (some (2 * w + 2)) limit (2 ^ 64 - 1)) z
          ∙ sizes_coded limit most (head_bytes_of i) (raw_bytes i) (2 * w + 2) (omega (arith, head_small, raw_small)) (omega (arith, head_small, k.wide)) in
          follow.from ((false, FileTooLarge) ∷ []) _ _ _
          (found ∙ (λ x. done (record { head = head_bytes_of i; raw = raw_bytes i; file = file x; file_fits = leb (file x) limit; rle_budget = some (budget limit i); bound = bound x; limit = limit })))
          (follow.row_passes false FileTooLarge _ refl)
