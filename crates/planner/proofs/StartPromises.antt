-- What the promise of the call that fills a list of row starts amounts to: it determines answer, buffer and list, is the first call's where the list is long
-- enough, and changes no entry past the height, nor anything with a refusal.
use mathlib.Core.Path.{◌≡◌, refl, sym, ap, subst, ◌∙◌}
use mathlib.Core.List.{List}
use Prim.Native.Nat.{ℕ, ◌+◌, ◌≤◌}
use native.Mathlib.Omega.{arith}
use lib.ListN.{length, drop}
use Rattle.std.proofs.Common.{Ok, Err}
use Rattle.leaves.specs.declared.error.Refusal.{Refusal}
use Rattle.leaves.specs.Put.{put}
use Rattle.leaves.specs.Refusals.{first_of, Check}
use Rattle.leaves.proofs.FirstOf.{check_determined}
use Rattle.leaves.proofs.ListLaws.{length-tab}
use Rattle.leaves.proofs.Puts.{after_put}
use Rattle.format.specs.File.{limit_in}
use Rattle.format.specs.Input.{Input}
use Rattle.format.specs.Refusals.{starts_rows}
use Rattle.format.specs.Starts.{row_start, starts_of}
use Rattle.planner.specs.Answers.{EncodeAnswer, encoded_number, later_for, starts_for, WrittenBy, Written, WrittenWithStarts}
use Rattle.planner.proofs.CallLaws.{long_list, as_starts}
use Rattle.planner.proofs.Promises.{by_determined}

module _ (i : Input) (offset : ℕ) (was later starts later_starts : List ℕ) (r : EncodeAnswer) (p : WrittenWithStarts i offset was later starts later_starts r) where
  abbrev decides : Check
  decides = first_of (starts_rows (limit_in i) i (length was) offset (length starts))

  -- two answers of which the promise holds are one, and so are the buffers and the lists
  pub starts_determined : (other other_starts : List ℕ) (s : EncodeAnswer) → WrittenWithStarts i offset was other starts other_starts s → (r ≡ s) × (later ≡ other) × (later_starts ≡ other_starts)
  starts_determined other other_starts s q =
      let same = by_determined decides i offset was later other r s p.written q.written in
      (same.0, same.1, p.list ∙ sym q.list)

  -- "otherwise like the first": with a list that is long enough the promise of the first call holds
  pub like_the_first : i.source.height ≤ length starts → Written i offset was later r
  like_the_first h =
      subst (λ (c : Check). WrittenBy c i offset was later r)
      (ap first_of (sym (as_starts i (length was) offset (length starts))) ∙ long_list i (length was) offset (length starts) i.source.height h) p.written

  -- "List entries past the height keep their values"
  pub entries_stay : drop i.source.height later_starts ≡ drop i.source.height starts
  unfolding starts_of
  entries_stay = ap (drop i.source.height) p.list ∙ go decides
    where
      go : (c : Check) → drop i.source.height (starts_for c i starts) ≡ drop i.source.height starts
      go (Ok passed) =
          let n : 0 + length (starts_of (limit_in i) i) ≡ i.source.height = omega (arith, length-tab (row_start (limit_in i) i) i.source.height) in
          ap (λ (k : ℕ). drop k (put starts 0 (starts_of (limit_in i) i))) (sym n) ∙ after_put starts 0 (starts_of (limit_in i) i) (omega arith) ∙ ap (λ (k : ℕ). drop k starts) n
      go (Err why) = refl

  -- "and so does the whole list on any refusal"; "neither list nor buffer changes"
  pub refusal_keeps : (why : Refusal) → r ≡ Err why → (later ≡ was) × (later_starts ≡ starts)
  refusal_keeps why e =
      let c : decides ≡ Err why = check_determined decides (Err why) (sym p.written.number ∙ ap encoded_number e) in
      (p.written.buffer ∙ ap (λ (k : Check). later_for k i offset was) c, p.list ∙ ap (λ (k : Check). starts_for k i starts) c)
