-- Which file is written: the stream, or the stored rows, or none.
use mathlib.Core.Path.{◌≡◌, refl, sym, ap, subst, ◌∙◌}
use mathlib.Core.Bool.{Bool, true, false, not, cond, ◌&&◌}
use mathlib.Core.List.{List, [], ◌∷◌}
use Prim.Native.Nat.{ℕ, ◌+◌, ◌*◌, ◌≤◌, ◌<◌, max}
use native.Mathlib.Omega.{arith}
use borrow.Author.Tests.{leb-true, leb-false, ltb-true, ltb-false, lt-ltb, le-ltb}
use lib.Dec.{leb, ltb}
use lib.ListN.{length}
use Rattle.leaves.specs.declared.error.Refusal.TheVariants.{StreamOverBudget}
use Rattle.leaves.specs.Refusals.{first_of}
use Rattle.rows.specs.declared.rle.Rle.{Rle}
use Rattle.rows.specs.RleCodes.{is_rle4, depth_of}
use Rattle.rows.specs.Stream.{stream, is_under, counted_bytes, Counted}
use Rattle.std.specs.Prelude.{Option, Some, None, is_some}
use Rattle.format.specs.declared.layout.Layout.{Layout}
use Rattle.format.specs.File.{rle_planned, raw_bytes, head_bytes_of, stream_of, max_file, limit_in, budget, stream_used, plain_size_of}
use Rattle.format.specs.Input.{Input}
use Rattle.format.specs.Layout.{layout_of}
use Rattle.format.specs.Refusals.{file_too_large, stream_over_budget}
use Rattle.format.proofs.Acceptance.{plan_passed}
use Rattle.format.proofs.Modes.{planned_in, no_tail}
use Rattle.planner.specs.declared.plan.Sizes.{Sizes}
use Rattle.planner.specs.Answers.{EncodeAnswer, later_for}
use Rattle.planner.specs.Plans.{sizes_by, Planned, Streamed, encoded_for, stream_check, noted_for}
use Rattle.planner.proofs.FileWrites.{sizes_head, sizes_raw, sizes_file, sizes_parts, stream_planned, stream-coded}
use Rattle.planner.proofs.LayoutLaws.{coding_planned}

-- a budget has 32 bits
pub budget_fits : (i : Input) (l : Layout) (s : Sizes) → Planned i l s → s.rle_budget ≤ 4294967296
unfolding sizes_by
budget_fits i l s p = omega (arith, ap (λ (t : Sizes). t.rle_budget) p.sizes_are, (plan_passed i p.passed).0.limited)

-- ---- what a count says

module _ (n limit : ℕ) (count : Option ℕ) (k : Counted n limit count) where
  under_is : (len : ℕ) → count ≡ Some len → (ltb n limit ≡ true) × (len ≡ n)
  under_is len e =
      let q : ltb n limit ≡ true = sym k.under ∙ ap is_under e in
      (q, sym (ap counted_bytes e) ∙ k.bytes ∙ ap (λ (b : Bool). cond b n 0) q)

  over_is : count ≡ None → ltb n limit ≡ false
  over_is e = sym k.under ∙ ap is_under e

-- ---- stream or rows

-- where no stream is used, and the rows fit
pub record RowsFit (i : Input) (s : Sizes) : Type 0 where
  pub unused : stream_used (limit_in i) i ≡ false
  pub over : stream_over_budget (limit_in i) i ≡ false
  pub fits : s.file ≤ max_file
  pub room : s.file ≤ s.bound

module _ (i : Input) (l : Layout) (s : Sizes) (p : Planned i l s) where
  bound_is : (b : Bool) → rle_planned i ≡ b
      → s.bound ≡ cond b (head_bytes_of i + max (budget (limit_in i) i + 2 * i.source.width + 2) (cond (leb (plain_size_of i) (limit_in i)) (raw_bytes i) 0)) (plain_size_of i)
  unfolding sizes_by budget plain_size_of
  bound_is b e =
      ap (λ (t : Sizes). t.bound) p.sizes_are
      ∙ ap (λ (x : Bool). cond x (head_bytes_of i + max (budget (limit_in i) i + 2 * i.source.width + 2) (cond (leb (plain_size_of i) (limit_in i)) (raw_bytes i) 0)) (plain_size_of i)) e

  fits_is : s.file_fits ≡ leb (plain_size_of i) (limit_in i)
  unfolding sizes_by plain_size_of
  fits_is = ap (λ (t : Sizes). t.file_fits) p.sizes_are

  -- without a planned stream the rows fit
  pub rows_alone : l.coding ≡ None → RowsFit i s
  unfolding stream_used stream_over_budget file_too_large layout_of
  rows_alone none =
      let q : rle_planned i ≡ false = sym (coding_planned i.source i.options) ∙ sym (ap (λ (x : Layout). is_some x.coding) p.layout_is) ∙ ap is_some none in
      let small : plain_size_of i ≤ limit_in i = ltb-false (limit_in i) (plain_size_of i) (sym (ap (λ (b : Bool). not b && ltb (limit_in i) (plain_size_of i)) q) ∙ (plan_passed i p.passed).1) in
      let file = sizes_file i s p.sizes_are in
      record { unused = rw q; over = rw q; fits = omega (arith, file, small, (plan_passed i p.passed).0.limited); room = omega (arith, file, bound_is false q) }

  -- by the count of a planned stream
  module _ (rle : Rle) (count : Option ℕ) (ec : l.coding ≡ Some rle)
      (en : Counted (length (stream (depth_of (is_rle4 rle)) i.source.width i.source.height i.plane i.source.stride)) s.rle_budget count) where
    is_planned : rle_planned i ≡ true
    is_planned = stream_planned i l rle p.layout_is ec

    count_is : Counted (length (stream_of i)) (budget (limit_in i) i) count
    unfolding sizes_by budget
    count_is =
        subst (λ (b : ℕ). Counted (length (stream_of i)) b count) (ap (λ (t : Sizes). t.rle_budget) p.sizes_are)
        (subst (λ (x : List ℕ). Counted (length x) s.rle_budget count) (stream-coded i l rle p.layout_is ec) en)

    -- under the budget the stream is written, and there is room for it
    pub stream_under : (len : ℕ) → count ≡ Some len → Streamed i l s rle len × ((stream_over_budget (limit_in i) i ≡ false) × (s.head + len ≤ s.bound))
    unfolding stream_used stream_over_budget
    stream_under len u =
        let n = length (stream_of i) in
        let b = budget (limit_in i) i in
        let both = under_is n b count count_is len u in
        let under : n < b = ltb-true n b both.0 in (
          record { planned = p; coded = ec; used = rw (is_planned, both.0); long = both.1 },
          (
            rw (is_planned, both.0) (and_none (ltb (limit_in i) (plain_size_of i))),
            omega (arith, both.1, under, sizes_head i s p.sizes_are, bound_is true is_planned),
          ),
        )
      where
        and_none : (t : Bool) → (t && false) ≡ false
        and_none true = refl
        and_none false = refl

    -- over it the rows are, if they fit
    pub rows_instead : count ≡ None → s.file_fits ≡ true → RowsFit i s
    unfolding stream_used stream_over_budget
    rows_instead o f =
        let q = over_is (length (stream_of i)) (budget (limit_in i) i) count count_is o in
        let yes : leb (plain_size_of i) (limit_in i) ≡ true = sym fits_is ∙ f in
        let small : plain_size_of i ≤ limit_in i = leb-true (plain_size_of i) (limit_in i) yes in
        let bound : s.bound ≡ head_bytes_of i + max (budget (limit_in i) i + 2 * i.source.width + 2) (raw_bytes i)
        = bound_is true is_planned ∙ ap (λ (b : Bool). head_bytes_of i + max (budget (limit_in i) i + 2 * i.source.width + 2) (cond b (raw_bytes i) 0)) yes in
        let e = p.sizes_are in
        record {
          unused = rw (is_planned, q);
          over = rw (is_planned, le-ltb (limit_in i) (plain_size_of i) small);
          fits = omega (arith, sizes_file i s e, small, (plan_passed i p.passed).0.limited);
          room = omega (arith, bound, sizes_parts i s e, sizes_head i s e, sizes_raw i s e, no_tail i (planned_in i is_planned));
        }

    -- and else it is 16
    pub stream_over : count ≡ None → s.file_fits ≡ false → stream_over_budget (limit_in i) i ≡ true
    unfolding stream_over_budget
    stream_over o f =
        let q = over_is (length (stream_of i)) (budget (limit_in i) i) count count_is o in
        rw (is_planned, q, lt-ltb (limit_in i) (plain_size_of i) (leb-false (plain_size_of i) (limit_in i) (sym fits_is ∙ f)))

-- answer, buffer and list by that test
module _ (i : Input) (b : Bool) (e : stream_over_budget (limit_in i) i ≡ b) where
  pub answer_by : (r : EncodeAnswer) → r ≡ encoded_for (first_of ((b, StreamOverBudget) ∷ [])) i → r ≡ encoded_for (stream_check i) i
  answer_by r q = q ∙ sym (ap (λ (t : Bool). encoded_for (first_of ((t, StreamOverBudget) ∷ [])) i) e)

  pub later_by : (at : ℕ) (d x : List ℕ) → x ≡ later_for (first_of ((b, StreamOverBudget) ∷ [])) i at d → x ≡ later_for (stream_check i) i at d
  later_by at d x q = q ∙ sym (ap (λ (t : Bool). later_for (first_of ((t, StreamOverBudget) ∷ [])) i at d) e)

  pub noted_by : (d x : List ℕ) → x ≡ noted_for (first_of ((b, StreamOverBudget) ∷ [])) i d → x ≡ noted_for (stream_check i) i d
  noted_by d x q = q ∙ sym (ap (λ (t : Bool). noted_for (first_of ((t, StreamOverBudget) ∷ [])) i d) e)
