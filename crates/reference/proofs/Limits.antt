-- The original's `with_limit`. `Plan::new` has already checked the file against the largest one: what it refuses then, a smaller limit refuses too. At the largest file
-- `with_limit` changes no plan.
use mathlib.Core.Path.{◌≡◌, refl, sym, ap, subst, ◌∙◌}
use mathlib.Core.Bool.{Bool, true, false, not, cond, ◌&&◌, ◌||◌}
use mathlib.Core.List.{List, [], ◌∷◌}
use Prim.Native.Nat.{ℕ, ◌≤◌}
use native.Mathlib.Omega.{arith}
use borrow.Author.Tests.{ltb-true, lt-ltb}
use lib.Dec.{ltb, eqb}
use Rattle.leaves.specs.declared.error.Refusal.TheVariants.{FileTooLarge}
use Rattle.leaves.specs.declared.options.CalibratedRgb.{CalibratedRgb}
use Rattle.leaves.specs.Refusals.{first_of}
use Rattle.format.specs.File.{rle_planned, mode_in, pack_in, plain_size_of}
use Rattle.format.specs.Input.{Input}
use Rattle.format.specs.Refusals.{file_too_large}
use Rattle.format.proofs.Acceptance.{Checked}
use Rattle.reference.specs.Rust.{zero_dimension, requires_palette, mutually_exclusive, Run, done, fails, panics, ◌>>=◌, Option, some, none, fail_if, is_some, usize, add}
use Rattle.reference.specs.Types.{BmpBitfields, EncodeSource, EncodeOptions, is_indexed}
use Rattle.reference.specs.Bitfields.{validate}
use Rattle.reference.specs.Packing.{pack_masks, Rows, new_rows}
use Rattle.reference.specs.Plan.{Head, V3Masks, V4Calibrated, V5Profile, Sizes, Plan, max_file, sizes_of, assemble, plain_head, plain, plan_bitfields, colour_rows, from_bool, plan_for, new_plan, with_limit}
use Rattle.reference.specs.Compared.{Typed, limited_plan}
use Rattle.reference.proofs.PackingLaws.{pack_of}
use Rattle.reference.proofs.NewRows.{rows_for}
use Rattle.reference.proofs.NewPlan.{plan_in, sized_in, bind_bind}
use Rattle.reference.proofs.PlanHeads.{head_for}
use Rattle.reference.proofs.PlanSizes.{sizes_for, sizes_follow}
use Rattle.reference.proofs.Follows as follow
use Rattle.reference.proofs.Follows.{Follows}

-- ---- at the largest file

-- a plan that comes to the same with its sizes made anew
abbrev Kept : Run Plan → Type 0
Kept m = (m >>= λ p. with_limit p max_file) ≡ m

kept_behind : {A : Type 0} (m : Run A) (f : A → Run Plan) → ((a : A) → Kept (f a)) → Kept (m >>= f)
kept_behind (done a) f k = k a
kept_behind (fails e) f k = refl
kept_behind panics f k = refl

-- whatever a plan is made into, its sizes are those of its head and rows at the largest file
kept_sized : (head : Head) (rows : Rows) (made : Sizes → Plan) → ((s : Sizes) → with_limit (made s) max_file ≡ (sizes_of head rows max_file >>= λ t. done (made t)))
    → Kept (sizes_of head rows max_file >>= λ s. done (made s))
kept_sized head rows made again = go (sizes_of head rows max_file) refl
  where
    go : (m : Run Sizes) → sizes_of head rows max_file ≡ m → Kept (m >>= λ s. done (made s))
    go (done s) e = again s ∙ rw e
    go (fails x) e = refl
    go panics e = refl

kept_assembled : (src : EncodeSource) (head : Head) (rows : Rows) → Kept (assemble src head rows)
unfolding assemble with_limit
kept_assembled src head rows = kept_sized head rows _ (λ s. refl)

kept_masks : (src : EncodeSource) (masks : BmpBitfields) (options : EncodeOptions) → Kept (plan_bitfields src masks options)
unfolding plan_bitfields assemble with_limit
kept_masks src masks options =
    kept_behind (validate masks) _ (λ u.
    kept_behind (pack_masks src.format masks) _ (λ pack.
    kept_behind (new_rows src.plane pack src.width src.height options.top_down) _ (λ rows.
    subst Kept (sym (bind_bind (sizes_of (V3Masks masks) rows max_file) _ _)) (kept_sized (V3Masks masks) rows _ (λ s. refl)))))

kept_for : (src : EncodeSource) (options : EncodeOptions) (masks : Option BmpBitfields) (cal : Option CalibratedRgb) (profile : Option (List ℕ × ℕ)) → Kept (plan_for src options masks cal profile)
unfolding plan_for plain
kept_for src options (some masks) cal profile = kept_masks src masks options
kept_for src options none (some cal) profile = kept_behind (colour_rows src options) _ (λ (rows, header). kept_assembled src (V4Calibrated header cal) rows)
kept_for src options none none (some (blob, space)) =
    kept_behind (colour_rows src options) _ (λ (rows, header). kept_assembled src (V5Profile header space options.rendering_intent blob) rows)
kept_for src options none none none =
    kept_behind (plain_head src.format src options) _ (λ (head, pack).
    kept_behind (new_rows src.plane pack src.width src.height options.top_down) _ (λ rows. kept_assembled src head rows))

-- so `encode_source` is `with_limit`'s case at the largest file
pub largest : (src : EncodeSource) (options : EncodeOptions) → limited_plan src options max_file ≡ new_plan src options
unfolding new_plan
largest src options =
    kept_behind (fail_if (eqb src.width 0 || eqb src.height 0) zero_dimension) _ (λ a.
    kept_behind (fail_if (is_indexed src.format && not (is_some src.palette)) requires_palette) _ (λ b.
    kept_behind (add usize (from_bool (is_some options.bitfields)) (from_bool (is_some options.calibrated_rgb))) _ (λ two.
    kept_behind (add usize two (from_bool (is_some options.linked_icc || is_some (cond options.embed_icc src.icc none)))) _ (λ requested.
    kept_behind (fail_if (ltb 1 requested) mutually_exclusive) _ (λ c. kept_for src options _ _ _)))))

-- ---- below it

-- a file over the largest is over a smaller limit
over_smaller : (limit : ℕ) (i : Input) → limit ≤ max_file → file_too_large max_file i ≡ true → file_too_large limit i ≡ true
unfolding file_too_large
over_smaller limit i most e = go (rle_planned i) e
  where
    go : (b : Bool) → (not b && ltb max_file (plain_size_of i)) ≡ true → (not b && ltb limit (plain_size_of i)) ≡ true
    go true e = e
    go false e = lt-ltb limit (plain_size_of i) (omega (arith, ltb-true max_file (plain_size_of i) e, most))

module _ (i : Input) (ok : Typed i) (k : Checked i) (limit : ℕ) (most : limit ≤ max_file) where
  abbrev rows : Rows
  rows = rows_for (pack_of (pack_in i)) i

  abbrev made : Sizes → Plan
  made sizes = plan_in (mode_in i) i rows sizes

  -- the sizes at the largest file, and then at the limit, follow row 14 at the limit
  pub limited_follow : Follows ((file_too_large limit i, FileTooLarge) ∷ []) (sized_in (mode_in i) i rows >>= λ p. with_limit p limit) (done (made (sizes_for limit i)))
  unfolding with_limit
  limited_follow = go (file_too_large max_file i) refl
    where
      first : Follows ((file_too_large max_file i, FileTooLarge) ∷ []) (sizes_of (head_for (mode_in i) i.source.format i) rows max_file) (done (sizes_for max_file i))
      first = sizes_follow i ok k max_file (omega arith)

      after : Run Sizes → Run Plan
      after m = m >>= (λ sizes. done (made sizes)) >>= λ p. with_limit p limit

      go : (b : Bool) → file_too_large max_file i ≡ b → Follows ((file_too_large limit i, FileTooLarge) ∷ []) (sized_in (mode_in i) i rows >>= λ p. with_limit p limit) (done (made (sizes_for limit i)))
      go true e =
          let r = first.refused FileTooLarge (ap (λ (b : Bool). first_of ((b, FileTooLarge) ∷ [])) e) in
          subst (λ (b : Bool). Follows ((b, FileTooLarge) ∷ []) (sized_in (mode_in i) i rows >>= λ p. with_limit p limit) (done (made (sizes_for limit i)))) (sym (over_smaller limit i most e))
          (follow.row_stops FileTooLarge _ _ (record { error = r.error; number = r.number; is = ap after r.is }))
      go false e =
          follow.from ((file_too_large limit i, FileTooLarge) ∷ []) _ _ _ (ap after (first.passed (ap (λ (b : Bool). first_of ((b, FileTooLarge) ∷ [])) e)))
          (follow.on ((file_too_large limit i, FileTooLarge) ∷ []) _ _ (λ sizes. done (made sizes)) (sizes_follow i ok k limit most))
