-- The loop that writes numbers: what has been put so far.
use mathlib.Core.Path.{◌≡◌, refl, sym, ap, ◌∙◌}
use mathlib.Core.List.{List, [], ◌∷◌, ◌++◌}
use Prim.Native.Nat.{ℕ, ◌+◌, ◌*◌, ◌≤◌, ◌<◌}
use native.Mathlib.Numerals.{add-one}
use native.Mathlib.Omega.{arith}
use lib.ListN.{length, get_or, set, length-append}
use Rattle.leaves.specs.Lists.{cat}
use Rattle.leaves.specs.Put.{put}
use Rattle.leaves.proofs.Puts.{length-put, put-nil, put-cons, put-append}
use Rattle.messages.specs.Messages.{decimal}
use Rattle.sheets.specs.SheetTexts.{mark_behind, entry_text, sheet_text}

-- ---- a number and its mark

pub number_put : (was : List ℕ) (at : ℕ) (s : List ℕ) (mark : ℕ) (y : List ℕ) (p : ℕ) → y ≡ put was at s → p ≡ at + length s → p < length was
    → (p + 1 ≡ at + length (s ++ (mark ∷ []))) × (set y p mark ≡ put was at (s ++ (mark ∷ [])))
number_put was at s mark y p e q h =
    let l : length y ≡ length was = ap length e ∙ length-put was at s (omega arith) in (
      omega (arith, length-append s (mark ∷ [])),
      sym (put-nil (set y p mark) (p + 1)) ∙ sym (put-cons y p mark [] (omega arith)) ∙ ap (λ (k : ℕ). put y k (mark ∷ [])) q
          ∙ ap (λ (x : List ℕ). put x (at + length s) (mark ∷ [])) e
          ∙ put-append was at s (mark ∷ []) (omega arith),
    )

-- ---- the loop

-- the entries before i stand in the text, and `at` is the place behind them
pub record TextSoFar (width : ℕ) (cells was : List ℕ) (text : List ℕ) (at i : ℕ) : Type 0 where
  pub long : length text ≡ length was
  pub within : i ≤ length cells
  pub place : at ≡ length (cat (entry_text width cells) i)
  pub few : at ≤ 11 * i
  pub same : text ≡ put was 0 (cat (entry_text width cells) i)

module _ {width : ℕ} {cells was : List ℕ} (room : 11 * length cells ≤ length was) where
  pub text_start : TextSoFar width cells was was 0 0
  unfolding cat
  text_start = record { long = refl; within = omega arith; place = refl; few = omega arith; same = sym (put-nil was 0) }

  module _ {text : List ℕ} {at i : ℕ} (l : TextSoFar width cells was text at i) where
    module _ (inside : i < length cells) where
      pub text_room : at + 11 ≤ length text
      text_room = omega (arith, l.few, l.long)

      pub text_turn : (mark later-at : ℕ) (later : List ℕ) → mark ≡ mark_behind width i
          → later-at ≡ at + length (decimal (get_or cells i 0) ++ (mark ∷ [])) → later-at ≤ at + 11 → later ≡ put text at (decimal (get_or cells i 0) ++ (mark ∷ []))
          → TextSoFar width cells was later later-at (i + 1)
      unfolding cat entry_text
      text_turn mark later-at later m e h q =
          let piece : decimal (get_or cells i 0) ++ (mark ∷ []) ≡ entry_text width cells i = ap (λ (x : ℕ). decimal (get_or cells i 0) ++ (x ∷ [])) m in
          let one : cat (entry_text width cells) (i + 1) ≡ cat (entry_text width cells) i ++ entry_text width cells i = rw (add-one i) in
          let put-room : 0 + length (cat (entry_text width cells) i) ≤ length was = omega (arith, l.place, l.few) in
          let behind : at ≡ 0 + length (cat (entry_text width cells) i) = omega (arith, l.place) in
          let all : later ≡ put was 0 (cat (entry_text width cells) (i + 1)) =
          q ∙ ap (put text at) piece ∙ ap (λ (k : ℕ). put text k (entry_text width cells i)) behind
          ∙ ap (λ (x : List ℕ). put x (0 + length (cat (entry_text width cells) i)) (entry_text width cells i)) l.same
          ∙ put-append was 0 (cat (entry_text width cells) i) (entry_text width cells i) put-room
          ∙ ap (put was 0) (sym one) in
          let count : later-at ≡ length (cat (entry_text width cells) (i + 1)) =
          omega (arith, e, ap length piece, ap length one, length-append (cat (entry_text width cells) i) (entry_text width cells i), l.place) in
          record {
            long = ap length all ∙ length-put was 0 (cat (entry_text width cells) (i + 1)) (omega (arith, count, l.few));
            within = omega arith;
            place = count;
            few = omega (arith, l.few);
            same = all;
          }

    pub text_end : length cells ≤ i → (at ≡ length (sheet_text width cells)) × (at ≤ length was) × (text ≡ put was 0 (sheet_text width cells))
    unfolding sheet_text
    text_end h =
        let e : i ≡ length cells = omega (arith, l.within) in
        (l.place ∙ ap (λ (k : ℕ). length (cat (entry_text width cells) k)) e, omega (arith, l.few, l.within), l.same ∙ ap (λ (k : ℕ). put was 0 (cat (entry_text width cells) k)) e)
