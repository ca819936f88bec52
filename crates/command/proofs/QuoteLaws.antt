-- A grid painted from prices, case by case.
use mathlib.Core.Path.{◌≡◌, refl, sym, ap, subst, ◌∙◌}
use mathlib.Core.Bool.{true, false}
use mathlib.Core.Logic.{inl, inr}
use mathlib.Core.List.{List, []}
use Prim.Native.Nat.{ℕ, zero, suc, ◌≤◌, ◌<◌}
use native.Mathlib.Omega.{arith}
use borrow.Author.Tests.{eq-eqb, ne_eqb, le-leb, lt-leb, leb-true}
use lib.Dec.{eqb, leb}
use lib.Ieee.{Float}
use lib.ListN.{length, take}
use Rattle.leaves.specs.Texts.{bytes_of}
use Rattle.leaves.proofs.Puts.{inside_put}
use Rattle.arguments.specs.Options.{option_names, option_named, value_of}
use Rattle.arguments.specs.Words.{up_to, place_among, alike, item_at}
use Rattle.messages.specs.Messages.{decimal, filled, Says}
use Rattle.messages.proofs.MessageLaws.{says_as, says_none}
use Rattle.format.proofs.Modes.{both}
use Rattle.grids.specs.Scale.{number_of, indices_of, Shaded}
use Rattle.grids.specs.declared.scale.ShadeRefusal.{ShadeRefusal}
use Rattle.grids.specs.declared.scale.ShadeRefusal.TheVariants.{ListsTooShort, NotScale, NotQuote}
use Rattle.grids.proofs.Placing.{length_indices}
use Rattle.command.specs.Commands.{check_status}
use Rattle.command.specs.Runs.{causes, refused_line, told_answer, Checked}
use Rattle.command.specs.SheetReads.{refused_answer}
use Rattle.command.specs.QuoteRuns.{lists_fit, counts_line, no_cells_line, counts_text, lists_text, shaded_answer, Quoted, QuoteRan}
use Rattle.command.specs.declared.CommandAnswer.{CommandAnswer}
use Rattle.command.proofs.RunLaws.{nothing_said, no_message, status_is}

-- the files' names and the counts
pub counts_said : (ws : List (List ℕ)) (lows highs : ℕ) (a c : List ℕ) → a ≡ value_of 28 ws → c ≡ value_of 27 ws → filled a (decimal highs) c (decimal lows) counts_line ≡ counts_text ws lows highs
unfolding counts_text bytes_of option_names option_named place_among alike up_to
counts_said ws lows highs a c e f = rw (e, f)

number_nonzero : (why : ShadeRefusal) → number_of why ≡ 0 → ⊥
number_nonzero ListsTooShort e = omega arith
number_nonzero NotScale e = omega arith
number_nonzero NotQuote e = omega arith

module _ (ws : List (List ℕ)) (edges lows highs : List Float) (was : List ℕ) where
  -- ---- lists that do not fit

  module _ {text_was text_later message : List ℕ} {answer : CommandAnswer} {n : ℕ} (e : answer ≡ told_answer 2 n) (said : Says text_was 0 message text_later n) where
    unfit : lists_fit (length lows) (length highs) (length was) ≡ false → message ≡ lists_text ws (length lows) (length highs) → Quoted ws edges lows highs was was text_was text_later answer
    unfit trouble m =
        let k : answer.text ≡ n = ap (λ (x : CommandAnswer). x.text) e in
        inl (record {
          trouble = trouble;
          numbers = e ∙ ap (told_answer 2) (sym k);
          message = subst (λ (x : ℕ). Says text_was 0 (lists_text ws (length lows) (length highs)) text_later x) (sym k) (says_as m said);
          same = refl;
        })

    pub counts_differ : (length highs ≡ length lows → ⊥) → message ≡ counts_text ws (length lows) (length highs) → Quoted ws edges lows highs was was text_was text_later answer
    unfolding lists_fit lists_text
    counts_differ ne m = unfit (rw (ne_eqb (length highs) (length lows) ne)) (rw (ne_eqb (length highs) (length lows) ne) m)

    pub too_few_cells : length highs ≡ length lows → length was < length lows → message ≡ filled [] [] [] [] no_cells_line → Quoted ws edges lows highs was was text_was text_later answer
    unfolding lists_fit lists_text
    too_few_cells eq h m = unfit (rw (eq-eqb (length highs) (length lows) eq, lt-leb (length lows) (length was) h)) (rw (eq-eqb (length highs) (length lows) eq) m)

  -- ---- lists that do

  module _ (eq : length highs ≡ length lows) (h : length lows ≤ length was) where
    fits : lists_fit (length lows) (length highs) (length was) ≡ true
    unfolding lists_fit
    fits = rw (eq-eqb (length highs) (length lows) eq, le-leb (length lows) (length was) h)

    pub not_painted : {later text_was text_later : List ℕ} {answer : CommandAnswer} (why : ShadeRefusal) (number : ℕ) → number ≡ number_of why → Shaded edges lows highs was later (number_of why)
        → answer ≡ refused_answer number 0 answer.text → Says text_was 0 (filled (decimal number) (item_at causes number) [] [] refused_line) text_later answer.text
        → Quoted ws edges lows highs was later text_was text_later answer
    not_painted {later} why zero n shaded e said = let z : ⊥ = number_nonzero why (sym n) in absurd z
    not_painted {later} why (suc m) n shaded e said =
        inr (record { fit = fits; number = suc m; shaded = subst (Shaded edges lows highs was later) (sym n) shaded; numbers = e; message = said })

    pub painted : {later text_was : List ℕ} {answer : CommandAnswer} → Shaded edges lows highs was later 0 → answer ≡ told_answer 3 0 → Quoted ws edges lows highs was later text_was text_was answer
    painted {later} {text_was} {answer} shaded e =
        let k : answer.text ≡ 0 = ap (λ (x : CommandAnswer). x.text) e in
        inr (record {
          fit = fits;
          number = 0;
          shaded = shaded;
          numbers = e ∙ ap (told_answer 3) (sym k);
          message = subst (λ (x : ℕ). Says text_was 0 [] text_was x) (sym k) (says_none text_was 0);
        })

-- ---- the run

module _ {ws : List (List ℕ)} {text_was text_mid : List ℕ} {r : CommandAnswer} (checked : Checked ws text_was text_mid r) where
  pub not_quoted : (edges lows highs : List Float) (was : List ℕ) → (r.status ≡ 3 → ⊥) → QuoteRan ws edges lows highs was was text_was text_mid r
  not_quoted edges lows highs was n = inl (record { status = λ e. n (status_is checked ∙ e); checked = checked; buffer = refl })

  pub has_quoted : {edges lows highs : List Float} {was later text_later : List ℕ} {answer : CommandAnswer} → r.status ≡ 3 → Quoted ws edges lows highs was later text_mid text_later answer
      → QuoteRan ws edges lows highs was later text_was text_later answer
  has_quoted {edges} {lows} {highs} {was} {later} {text_later} {answer} e done =
      let go : check_status ws ≡ 3 = sym (status_is checked) ∙ e in
      let same : text_mid ≡ text_was = nothing_said (no_message ws go) checked.message in
      inr (go, subst (λ (x : List ℕ). Quoted ws edges lows highs was later x text_later answer) same done)

-- ---- status 3: the cells, which are lent as the plane then, have each quote's index

module _ (edges lows highs : List Float) (was later : List ℕ) where
  first-cells : length lows ≤ length was → Shaded edges lows highs was later 0 → take (length lows) later ≡ indices_of edges lows highs
  first-cells h s =
      let cells = indices_of edges lows highs in
      ap (λ (k : ℕ). take k later) (sym (length_indices edges lows highs)) ∙ ap (take (length cells)) s.plane ∙ inside_put was 0 cells (omega (arith, length_indices edges lows highs, h))

  enough : lists_fit (length lows) (length highs) (length was) ≡ true → length lows ≤ length was
  unfolding lists_fit
  enough e = leb-true (length lows) (length was) (both (eqb (length highs) (length lows)) (leb (length lows) (length was)) e).1

  pub plane_painted : {ws : List (List ℕ)} {text_was text_later : List ℕ} {answer : CommandAnswer} → QuoteRan ws edges lows highs was later text_was text_later answer → answer.status ≡ 3
      → take (length lows) later ≡ indices_of edges lows highs
  plane_painted (inl n) e = absurd (n.status (sym (status_is n.checked) ∙ e))
  plane_painted (inr (go, inl u)) e = let z : ⊥ = omega (arith, e, ap (λ (x : CommandAnswer). x.status) u.numbers) in absurd z
  plane_painted {answer = answer} (inr (go, inr p)) e = by p.number p.shaded p.numbers
    where
      by : (number : ℕ) → Shaded edges lows highs was later number → answer ≡ shaded_answer number answer.text → take (length lows) later ≡ indices_of edges lows highs
      by zero s a = first-cells (enough p.fit) s
      by (suc n) s a = let z : ⊥ = omega (arith, e, ap (λ (x : CommandAnswer). x.status) a) in absurd z
