-- With the promises of its calls, the port answers as the original.
use mathlib.Core.Path.{◌≡◌, refl, sym, ap, ◌∙◌, subst}
use mathlib.Core.Bool.{Bool, true, false, cond}
use mathlib.Core.List.{List, [], ◌∷◌}
use Prim.Native.Nat.{ℕ}
use lib.ListN.{length}
use Rattle.std.proofs.Common.{Ok, Err}
use Rattle.leaves.specs.declared.error.Refusal.{Refusal}
use Rattle.leaves.specs.declared.error.Refusal.TheVariants.{BufferTooShort, StreamOverBudget}
use Rattle.leaves.specs.Refusals.{check_number, first_of, first_number, or_else, Check}
use Rattle.leaves.proofs.FirstOf.{first-or}
use Rattle.format.specs.File.{limit_in, max_file, file_of, bound_of, format_of}
use Rattle.format.specs.Input.{Input}
use Rattle.format.specs.Refusals.{plan_rows, buffer_too_short, stream_over_budget, write_rows}
use Rattle.format.proofs.HeadFields.{length_file}
use Rattle.planner.specs.Answers.{EncodeAnswer, BoundAnswer, bytes_for, format_for, later_for, bound_for, Written, Sized}
use Rattle.reference.specs.Rust.{◌>>=◌}
use Rattle.reference.specs.Plan.{new_plan, encode_source}
use Rattle.reference.specs.Compared.{source_of, options_of, outcome, answer, agreed_file, Typed, Domain, limited_plan, size_bound, encode_plan, file_rows}
use Rattle.reference.specs.PortCalls.{WritesAs, BoundsAs}
use Rattle.reference.proofs.Theorem.{same_plan, same_answers}

-- where 15 is not the answer, the writing call's rows decide as those of the file
without_15 : (i : Input) (room offset : ℕ) → (first_number (write_rows (limit_in i) i room offset) ≡ 15 → ⊥) → first_of (write_rows (limit_in i) i room offset) ≡ first_of (file_rows i)
unfolding write_rows file_rows
without_15 i room offset not-15 =
    let all = first-or (plan_rows (limit_in i) i) ((buffer_too_short (limit_in i) i room offset, BufferTooShort) ∷ over) in
    all ∙ go (first_of (plan_rows (limit_in i) i)) (buffer_too_short (limit_in i) i room offset) (λ e. not-15 (ap check_number all ∙ e)) ∙ sym (first-or (plan_rows (limit_in i) i) over)
  where
    over : List (Bool × Refusal)
    over = (stream_over_budget (limit_in i) i, StreamOverBudget) ∷ []

    go : (c : Check) (b : Bool) → (check_number (or_else c (cond b (Err BufferTooShort) (first_of over))) ≡ 15 → ⊥) → or_else c (cond b (Err BufferTooShort) (first_of over)) ≡ or_else c (first_of over)
    go (Ok passed) true not-15 = absurd (not-15 refl)
    go (Ok passed) false not-15 = refl
    go (Err why) b not-15 = refl

module _ (i : Input) (ok : Typed i) (domain : Domain i) where
  -- `encode_into` writes what the original writes, with the agreed differences
  pub writes_as : (offset : ℕ) (was later : List ℕ) (r : EncodeAnswer) → (first_number (write_rows (limit_in i) i (length was) offset) ≡ 15 → ⊥) → Written i offset was later r
      → WritesAs (outcome (encode_plan (limited_plan (source_of i) (options_of i) (limit_in i)) >>= agreed_file i)) offset was later r
  writes_as offset was later r not-15 w = subst (λ o. WritesAs o offset was later r) (sym (same_answers i ok domain).file) (go (first_of (file_rows i)) (without_15 i (length was) offset not-15))
    where
      go : (c : Check) → first_of (write_rows (limit_in i) i (length was) offset) ≡ c → WritesAs (answer c (file_of (limit_in i) i, format_of (limit_in i) i)) offset was later r
      go (Ok passed) e =
          (w.number ∙ ap check_number e, w.format ∙ ap (λ c. format_for c i) e, w.bytes ∙ ap (λ c. bytes_for c i) e ∙ sym (length_file i), w.buffer ∙ ap (λ c. later_for c i offset was) e)
      go (Err why) e = (w.number ∙ ap check_number e, w.buffer ∙ ap (λ c. later_for c i offset was) e)

  -- `encoded_size_bound` gives the original's bound
  pub bounds_as : (r : BoundAnswer) → Sized i r → BoundsAs (outcome (size_bound (limited_plan (source_of i) (options_of i) (limit_in i)))) r
  bounds_as r s = subst (λ o. BoundsAs o r) (sym (same_answers i ok domain).bound) (go (first_of (plan_rows (limit_in i) i)) refl)
    where
      go : (c : Check) → first_of (plan_rows (limit_in i) i) ≡ c → BoundsAs (answer c (bound_of (limit_in i) i)) r
      go (Ok passed) e = (s.number ∙ ap check_number e, s.bytes ∙ ap (λ c. bound_for c i) e)
      go (Err why) e = s.number ∙ ap check_number e

  -- a call with the largest limit: what `encode_source` and its plan themselves give
  module _ (e : limit_in i ≡ max_file) where
    pub writes_as_source : (offset : ℕ) (was later : List ℕ) (r : EncodeAnswer) → (first_number (write_rows (limit_in i) i (length was) offset) ≡ 15 → ⊥) → Written i offset was later r
        → WritesAs (outcome (encode_source (source_of i) (options_of i) >>= agreed_file i)) offset was later r
    unfolding encode_source
    writes_as_source offset was later r not-15 w = subst (λ plan. WritesAs (outcome (encode_plan plan >>= agreed_file i)) offset was later r) (same_plan i ok domain e) (writes_as offset was later r not-15 w)

    pub bounds_as_source : (r : BoundAnswer) → Sized i r → BoundsAs (outcome (size_bound (new_plan (source_of i) (options_of i)))) r
    bounds_as_source r s = subst (λ plan. BoundsAs (outcome (size_bound plan)) r) (same_plan i ok domain e) (bounds_as r s)
