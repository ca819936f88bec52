-- Laws of the options at a place of a command's text.
use mathlib.Core.Path.{◌≡◌, refl, sym, ap, ◌∙◌}
use mathlib.Core.Logic.{◌⊎◌, inl, inr}
use mathlib.Core.Bool.{Bool, true, false, cond, not}
use mathlib.Core.List.{List, [], ◌∷◌}
use Prim.Native.Nat.{ℕ, ◌+◌, ◌≤◌, ◌<◌}
use native.Mathlib.Omega.{arith}
use borrow.Author.Tests.{ltb-true, ltb-false, eq-eqb, ne_eqb}
use lib.Dec.{eqb, ltb}
use lib.ListN.{length, drop}
use Rattle.std.specs.Prelude.{is_some as is_something, Option, Some, None, MatchOption, IfSome}
use Rattle.arguments.specs.Words.{up_to, item_at, words_of}
use Rattle.arguments.specs.Options.{option_named, carries_value, carried, value_in, is_given, is_whole, options_in, first, second, is_none, last_of, last_given, fault_at, first_of, first_fault}
use Rattle.arguments.proofs.Pieces.{first_word, words_end, words_at, up_end}

pub is_some : (text : List ℕ) (at : ℕ) → at < length text → is_none (words_of (drop at text)) ≡ false
unfolding is_none
is_some text at inside = rw (words_at text at inside)

-- where no option is, there is no value
pub no_value : [] ≡ value_in []
unfolding value_in first second carries_value carried item_at up_to
no_value = refl

-- ---- from one option to the next

alone : (w : List ℕ) (ws : List (List ℕ)) → (is_whole w ≡ true) ⊎ (ws ≡ []) → options_in (w ∷ ws) ≡ (w ∷ ws) ∷ options_in ws
unfolding options_in
alone w [] h = refl
alone w (v ∷ ws) (inl e) = rw e
alone w (v ∷ ws) (inr e) = let z : ⊥ = omega (arith, ap length e) in absurd z

with_value : (w v : List ℕ) (ws : List (List ℕ)) → is_whole w ≡ false → options_in (w ∷ v ∷ ws) ≡ (w ∷ v ∷ ws) ∷ options_in ws
unfolding options_in
with_value w v ws e = rw e

module _ (text : List ℕ) (at next : ℕ) (after : next ≡ at + length (up_to 0 (drop at text)) + 1) where
  -- the second word
  pub second_word : second (words_of (drop at text)) ≡ up_to 0 (drop next text)
  unfolding second item_at
  second_word = go (ltb at (length text)) refl
    where
      go : (b : Bool) → ltb at (length text) ≡ b → second (words_of (drop at text)) ≡ up_to 0 (drop next text)
      go true q = rw (words_at text at (ltb-true at (length text) q), ← after) (first_word (drop next text))
      go false q =
          let h : length text ≤ at = ltb-false at (length text) q in
          let k : length text ≤ next = omega arith in
          rw (words_end text at h, up_end 0 text next k)

  -- whether words follow the first
  pub none_behind : length text ≤ next → is_none (drop 1 (words_of (drop at text))) ≡ true
  unfolding is_none
  none_behind h = go (ltb at (length text)) refl
    where
      go : (b : Bool) → ltb at (length text) ≡ b → is_none (drop 1 (words_of (drop at text))) ≡ true
      go true q = rw (words_at text at (ltb-true at (length text) q), ← after, words_end text next h)
      go false q = rw (words_end text at (ltb-false at (length text) q))

  pub some_behind : next < length text → is_none (drop 1 (words_of (drop at text))) ≡ false
  some_behind h =
      let inside : at < length text = omega arith in
      rw (words_at text at inside, ← after) (is_some text next h)

  pub followed : not (is_none (drop 1 (words_of (drop at text)))) ≡ ltb next (length text)
  followed = go (ltb next (length text)) refl
    where
      go : (b : Bool) → ltb next (length text) ≡ b → not (is_none (drop 1 (words_of (drop at text)))) ≡ ltb next (length text)
      go true q = rw (q, some_behind (ltb-true next (length text) q))
      go false q = rw (q, none_behind (ltb-false next (length text) q))

  module _ (inside : at < length text) where
    -- the words from a place on
    pub words_next : words_of (drop at text) ≡ up_to 0 (drop at text) ∷ words_of (drop next text)
    words_next = rw after (words_at text at inside)

    pub after_alone : (is_whole (up_to 0 (drop at text)) ≡ true) ⊎ (length text ≤ next)
        → options_in (words_of (drop at text)) ≡ words_of (drop at text) ∷ options_in (words_of (drop next text))
    after_alone h = rw words_next (alone (up_to 0 (drop at text)) (words_of (drop next text)) (go h))
      where
        go : (is_whole (up_to 0 (drop at text)) ≡ true) ⊎ (length text ≤ next)
            → (is_whole (up_to 0 (drop at text)) ≡ true) ⊎ (words_of (drop next text) ≡ [])
        go (inl e) = inl e
        go (inr l) = inr (words_end text next l)

    pub after_value : (last : ℕ) → last ≡ next + length (up_to 0 (drop next text)) + 1 → is_whole (up_to 0 (drop at text)) ≡ false
        → options_in (words_of (drop at text)) ≡ words_of (drop at text) ∷ options_in (words_of (drop last text))
    after_value last e n = go (ltb next (length text)) refl
      where
        go : (b : Bool) → ltb next (length text) ≡ b → options_in (words_of (drop at text)) ≡ words_of (drop at text) ∷ options_in (words_of (drop last text))
        go true q =
            let value : words_of (drop next text) ≡ up_to 0 (drop next text) ∷ words_of (drop last text) = rw e (words_at text next (ltb-true next (length text) q)) in
            rw (words_next, value) (with_value (up_to 0 (drop at text)) (up_to 0 (drop next text)) (words_of (drop last text)) n)
        go false q =
            let h : length text ≤ next = ltb-false next (length text) q in
            let k : length text ≤ last = omega arith in
            let none : words_of (drop last text) ≡ words_of (drop next text) = words_end text last k ∙ sym (words_end text next h) in
            rw none (after_alone (inr h))

-- ---- the last that gives an option

-- what was found before, unless it is found again
abbrev pub or_else : List (List ℕ) → List (List ℕ) → List (List ℕ)
or_else found later = cond (is_none later) found later

none_found : (later : List (List ℕ)) → later ≡ or_else [] later
unfolding is_none
none_found [] = refl
none_found (w ∷ ws) = refl

found_here : (found later ws : List (List ℕ)) → is_none ws ≡ false → or_else found (or_else ws later) ≡ or_else ws later
unfolding is_none
found_here found [] ws e = rw e
found_here found (v ∷ vs) ws e = refl

found_before : (found later : List (List ℕ)) → or_else found (or_else [] later) ≡ or_else found later
unfolding is_none
found_before found [] = refl
found_before found (w ∷ ws) = refl

-- the words from the place that was found
abbrev pub words_found : List ℕ → Option ℕ → List (List ℕ)
words_found text None = []
words_found text (Some at) = words_of (drop at text)

module _ (option : ℕ) (text : List ℕ) where
  pub last_start : last_given option (words_of text) ≡ or_else [] (last_given option (words_of text))
  last_start = none_found (last_given option (words_of text))

  pub last_end : (found : List (List ℕ)) (at : ℕ) → length text ≤ at → or_else found (last_given option (words_of (drop at text))) ≡ found
  unfolding is_none last_given last_of options_in
  last_end found at h = rw (words_end text at h)

  module _ (at next : ℕ) (inside : at < length text) (after : options_in (words_of (drop at text)) ≡ words_of (drop at text) ∷ options_in (words_of (drop next text))) where
    last_step : last_given option (words_of (drop at text))
        ≡ or_else (cond (eqb (option_named (up_to 0 (drop at text))) option) (words_of (drop at text)) []) (last_given option (words_of (drop next text)))
    unfolding last_given last_of first
    last_step = rw (after, first_word (drop at text))

    pub last_here : (found : List (List ℕ)) → option_named (up_to 0 (drop at text)) ≡ option
        → or_else found (last_given option (words_of (drop at text))) ≡ or_else (words_of (drop at text)) (last_given option (words_of (drop next text)))
    last_here found e =
        rw (last_step, eq-eqb (option_named (up_to 0 (drop at text))) option e)
        (found_here found (last_given option (words_of (drop next text))) (words_of (drop at text)) (is_some text at inside))

    pub last_other : (found : List (List ℕ)) → (option_named (up_to 0 (drop at text)) ≡ option → ⊥)
        → or_else found (last_given option (words_of (drop at text))) ≡ or_else found (last_given option (words_of (drop next text)))
    last_other found n =
        rw (last_step, ne_eqb (option_named (up_to 0 (drop at text))) option n) (found_before found (last_given option (words_of (drop next text))))

pub found_last : (option : ℕ) (text : List ℕ) (found : Option ℕ) → IfSome found (λ at. at < length text) → last_given option (words_of text) ≡ words_found text found
    → MatchOption found (last_given option (words_of text) ≡ []) (λ at. (at < length text) × (words_of (drop at text) ≡ last_given option (words_of text)))
found_last option text None h e = e
found_last option text (Some at) h e = (h, sym e)

-- whether an option is given, by the place where it is
pub given_at : (option : ℕ) (text : List ℕ) (found : Option ℕ)
    → MatchOption found (last_given option (words_of text) ≡ []) (λ at. (at < length text) × (words_of (drop at text) ≡ last_given option (words_of text))) → is_something found ≡ is_given option (words_of text)
unfolding is_given is_none
given_at option text None e = rw e
given_at option text (Some at) h = rw (← h.1) (sym (ap not (is_some text at h.0)))

-- ---- the first that is not understood

fault_first : (w : List ℕ) (ws : List (List ℕ)) → is_something (fault_at (w ∷ ws)) ≡ true → w ∷ ws ≡ first_fault (w ∷ ws)
unfolding first_fault first_of options_in
fault_first w [] e = rw e
fault_first w (v ∷ ws) e = rw e

module _ (text : List ℕ) where
  pub fault_end : (at : ℕ) → length text ≤ at → first_fault (words_of (drop at text)) ≡ []
  unfolding first_fault first_of options_in
  fault_end at h = rw (words_end text at h)

  pub fault_here : (at : ℕ) → at < length text → is_something (fault_at (words_of (drop at text))) ≡ true → words_of (drop at text) ≡ first_fault (words_of (drop at text))
  fault_here at h e =
      let is = words_at text at h in
      let m = rw is at e in
      rw is (fault_first (up_to 0 (drop at text)) (words_of (drop (at + length (up_to 0 (drop at text)) + 1) text)) m)

  module _ (at next : ℕ) (after : options_in (words_of (drop at text)) ≡ words_of (drop at text) ∷ options_in (words_of (drop next text))) where
    pub fault_later : is_something (fault_at (words_of (drop at text))) ≡ false → first_fault (words_of (drop next text)) ≡ first_fault (words_of (drop at text))
    unfolding first_fault first_of
    fault_later e = rw (after, e)
