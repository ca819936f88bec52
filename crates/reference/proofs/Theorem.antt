-- The original's answers are the document's.
use mathlib.Core.Path.{◌≡◌, refl, ap, subst, ◌∙◌}
use mathlib.Core.Bool.{Bool, true, false, not, cond}
use mathlib.Core.List.{List, [], ◌∷◌, ◌++◌}
use Prim.Native.Nat.{ℕ, ◌+◌, ◌-◌, ◌*◌, ◌^◌, ◌≤◌, ◌<◌, min, max}
use native.Mathlib.Omega.{arith}
use borrow.Author.Tests.{ltb-false, leb-true}
use lib.Dec.{ltb, leb}
use lib.ListN.{length}
use lib.Seq.{take-append_seam, drop-append_seam}
use Rattle.std.proofs.Common.{Ok}
use Rattle.leaves.specs.declared.error.Refusal.TheVariants.{FileTooLarge, StreamOverBudget}
use Rattle.leaves.specs.Refusals.{first_of}
use Rattle.format.specs.File.{limit_in, mode_in, pack_in, rle_planned, raw_bytes, head_bytes_of, budget, file_of, plain_size_of, bound_of, format_of}
use Rattle.format.specs.Input.{Input}
use Rattle.format.specs.Refusals.{call_rows, file_too_large, plan_rows, stream_over_budget}
use Rattle.format.proofs.Acceptance.{Checked, checked, plan_passed}
use Rattle.format.proofs.Passing.{first_parts, and_false}
use Rattle.reference.specs.Rust.{Run, done, ◌>>=◌, rle_over_limit}
use Rattle.reference.specs.Plan.{Plan, max_file, wrote, refused, appended, new_plan, with_limit, write_into, encode_source}
use Rattle.reference.specs.Compared.{source_of, options_of, outcome, answer, agreed, size_of, agreed_file, agreed_behind, Typed, Domain, limited_plan, size_bound, encode_behind, encode_plan, file_rows, SameAnswers, SameAsSource}
use Rattle.reference.proofs.Original.{original_file}
use Rattle.reference.proofs.Bridge.{bridge, same_length}
use Rattle.reference.proofs.PackingLaws.{pack_of}
use Rattle.reference.proofs.NewRows.{rows_for}
use Rattle.reference.proofs.NewPlan.{plan_in, quads, new_plan_lem}
use Rattle.reference.proofs.Limits.{largest, limited_follow}
use Rattle.reference.proofs.PlanSizes.{sizes_for, head_small}
use Rattle.reference.proofs.FileLaws.{write_is}
use Rattle.reference.proofs.Follows as follow
use Rattle.reference.proofs.Follows.{Follows}

-- the bound of a plan that 14 lets through
bound_small : (limit : ℕ) → limit ≤ max_file → (i : Input) → Typed i → Checked i → file_too_large limit i ≡ false → bound_of limit i < 2 ^ 63
unfolding bound_of file_too_large budget plain_size_of
bound_small limit most i ok k large = go (rle_planned i) refl
  where
    go : (b : Bool) → rle_planned i ≡ b → cond b (head_bytes_of i + max (min (raw_bytes i) (limit + 1 - head_bytes_of i) + 2 * i.source.width + 2) (cond (leb (plain_size_of i) limit) (raw_bytes i) 0)) (plain_size_of i) < 2 ^ 63
    go true e = fits (leb (plain_size_of i) limit) refl
      where
        fits : (t : Bool) → leb (plain_size_of i) limit ≡ t → head_bytes_of i + max (min (raw_bytes i) (limit + 1 - head_bytes_of i) + 2 * i.source.width + 2) (cond t (raw_bytes i) 0) < 2 ^ 63
        fits true q = omega (arith, leb-true (plain_size_of i) limit q, head_small i ok k, k.wide)
        fits false q = omega (arith, head_small i ok k, k.wide)
    go false e = omega (arith, ltb-false limit (plain_size_of i) (and_false (not (rle_planned i)) (ltb limit (plain_size_of i)) large (ap not e)))

checks_passed : (i : Input) → first_of (plan_rows (limit_in i) i) ≡ Ok tt → first_of (call_rows i) ≡ Ok tt
unfolding plan_rows
checks_passed i p = (first_parts (call_rows i) ((file_too_large (limit_in i) i, FileTooLarge) ∷ []) p).0

module _ (i : Input) (ok : Typed i) (domain : Domain i) where
  abbrev made : Plan
  made = plan_in (mode_in i) i (rows_for (pack_of (pack_in i)) i) (sizes_for (limit_in i) i)

  -- what `Plan::new` and then `with_limit` are asked
  abbrev run : Run Plan
  run = limited_plan (source_of i) (options_of i) (limit_in i)

  -- they follow the rows 1 to 14
  plan_follows : Follows (plan_rows (limit_in i) i) run (done made)
  unfolding plan_rows
  plan_follows =
      follow.then (call_rows i) ((file_too_large (limit_in i) i, FileTooLarge) ∷ []) _ _ _ (follow.on (call_rows i) _ _ (λ p. with_limit p (limit_in i)) (new_plan_lem i ok domain))
      (λ p. let k = checked i p in limited_follow i ok k (limit_in i) k.limited)

  bound_follows : Follows (plan_rows (limit_in i) i) (size_bound run) (done (bound_of (limit_in i) i))
  bound_follows = follow.on (plan_rows (limit_in i) i) _ _ (λ plan. done plan.sizes.bound) plan_follows

  -- the file is written behind what `out` holds
  written_is : (p : first_of (plan_rows (limit_in i) i) ≡ Ok tt) (out : List ℕ) → length out + bound_of (limit_in i) i < 2 ^ 63
      → write_into made out ≡ done (cond (stream_over_budget (limit_in i) i) (refused rle_over_limit out) (wrote (format_of (limit_in i) i) (out ++ original_file (limit_in i) i)))
  written_is p out room = let k = plan_passed i p in write_is (limit_in i) k.0.limited i ok k.0 domain.product (quads i ok domain (checks_passed i p)) k.1 out room

  document_is : first_of (plan_rows (limit_in i) i) ≡ Ok tt → agreed i (original_file (limit_in i) i) (format_of (limit_in i) i) ≡ file_of (limit_in i) i
  document_is p = bridge i ok (plan_passed i p).0 (limit_in i)

  behind_follows : (out : List ℕ) → (first_of (plan_rows (limit_in i) i) ≡ Ok tt → length out + bound_of (limit_in i) i < 2 ^ 63)
      → Follows (plan_rows (limit_in i) i) (encode_behind run out >>= agreed_behind i out) (done (cond (stream_over_budget (limit_in i) i) (refused rle_over_limit out) (wrote (format_of (limit_in i) i) (out ++ file_of (limit_in i) i))))
  behind_follows out room =
      follow.to (plan_rows (limit_in i) i) _ _ _ (follow.on (plan_rows (limit_in i) i) _ _ (agreed_behind i out) (follow.on (plan_rows (limit_in i) i) _ _ (λ plan. write_into plan out) plan_follows))
      (λ p. ap (λ r. r >>= agreed_behind i out) (written_is p out (room p)) ∙ go (stream_over_budget (limit_in i) i) ∙ ap (λ x. done (cond (stream_over_budget (limit_in i) i) (refused rle_over_limit out) (wrote (format_of (limit_in i) i) (out ++ x)))) (document_is p))
    where
      go : (b : Bool) → agreed_behind i out (cond b (refused rle_over_limit out) (wrote (format_of (limit_in i) i) (out ++ original_file (limit_in i) i)))
          ≡ done (cond b (refused rle_over_limit out) (wrote (format_of (limit_in i) i) (out ++ agreed i (original_file (limit_in i) i) (format_of (limit_in i) i))))
      go true = refl
      go false = rw (take-append_seam out (original_file (limit_in i) i), drop-append_seam out (original_file (limit_in i) i))

  -- the file as the original itself writes it
  own_follows : Follows (file_rows i) (encode_plan run) (done (original_file (limit_in i) i, format_of (limit_in i) i))
  unfolding file_rows
  own_follows =
      let over = stream_over_budget (limit_in i) i in
      follow.then (plan_rows (limit_in i) i) ((over, StreamOverBudget) ∷ []) _ _ _ (follow.on (plan_rows (limit_in i) i) _ _ (λ plan. write_into plan [] >>= appended) plan_follows)
      (λ p. follow.from ((over, StreamOverBudget) ∷ []) _ _ _ (ap (λ r. r >>= appended) (written_is p [] (omega (arith, bound_small (limit_in i) (plan_passed i p).0.limited i ok (plan_passed i p).0 (plan_passed i p).1)))) (last over))
    where
      last : (b : Bool) → Follows ((b, StreamOverBudget) ∷ []) (appended (cond b (refused rle_over_limit []) (wrote (format_of (limit_in i) i) (original_file (limit_in i) i)))) (done (original_file (limit_in i) i, format_of (limit_in i) i))
      last true = follow.row_fails_lem true StreamOverBudget rle_over_limit _ refl
      last false = follow.row_passes false StreamOverBudget _ refl

  passed_plan : first_of (file_rows i) ≡ Ok tt → first_of (plan_rows (limit_in i) i) ≡ Ok tt
  unfolding file_rows
  passed_plan p = (first_parts (plan_rows (limit_in i) i) ((stream_over_budget (limit_in i) i, StreamOverBudget) ∷ []) p).0

  size_follows : Follows (file_rows i) (encode_plan run >>= size_of) (done (length (file_of (limit_in i) i), format_of (limit_in i) i))
  size_follows =
      follow.to (file_rows i) _ _ _ (follow.on (file_rows i) _ _ size_of own_follows)
      (λ p. ap (λ n. done (n, format_of (limit_in i) i)) (same_length i ok (plan_passed i (passed_plan p)).0 (limit_in i)))

  file_follows : Follows (file_rows i) (encode_plan run >>= agreed_file i) (done (file_of (limit_in i) i, format_of (limit_in i) i))
  file_follows =
      follow.to (file_rows i) _ _ _ (follow.on (file_rows i) _ _ (agreed_file i) own_follows) (λ p. ap (λ x. done (x, format_of (limit_in i) i)) (document_is (passed_plan p)))

  -- the original's own file, before the agreed differences
  pub own_answer : outcome (encode_plan run) ≡ answer (first_of (file_rows i)) (original_file (limit_in i) i, format_of (limit_in i) i)
  own_answer = follow.answered (file_rows i) _ _ own_follows

  -- bound, length, file, format and refusal
  pub same_answers : SameAnswers i run
  same_answers =
      record {
        bound = follow.answered (plan_rows (limit_in i) i) _ _ bound_follows;
        size = follow.answered (file_rows i) _ _ size_follows;
        file = follow.answered (file_rows i) _ _ file_follows;
        behind = λ out room. follow.answered (plan_rows (limit_in i) i) _ _ (behind_follows out room);
      }

  -- `encode_source` has no other limit than the largest file: for that one it is compared itself
  pub same_plan : limit_in i ≡ max_file → run ≡ new_plan (source_of i) (options_of i)
  same_plan e = ap (limited_plan (source_of i) (options_of i)) e ∙ largest (source_of i) (options_of i)

  pub same_as_source : limit_in i ≡ max_file → SameAsSource i
  unfolding encode_source
  same_as_source e =
      record {
        answers = subst (SameAnswers i) (same_plan e) same_answers;
        returned = refl;
      }
