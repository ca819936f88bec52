use mathlib.Core.Bool.{true, false}
use mathlib.Core.List.{List}
use mathlib.Core.Path.{sym, ap, ◌∙◌, ◌≡◌}
use Prim.Native.Nat.{ℕ, ◌+◌}
use native.Mathlib.Omega.{arith}
use lib.ListN.{length, drop}
use Rattle.arguments.specs.Options.{carries_value, carried, first, value_in}
use Rattle.arguments.specs.Words.{up_to, words_of}
use Rattle.arguments.proofs.OptionLaws.{second_word}
use Rattle.arguments.proofs.Pieces.{first_word, up_end}
use Rattle.arguments.proofs.options.value_at.Goals as goal

module _ (text : List ℕ) (at : ℕ) where
  -- in the word itself
  inside : carries_value (up_to 0 (drop at text)) ≡ true → carried (up_to 0 (drop at text)) ≡ value_in (words_of (drop at text))
  unfolding value_in first
  inside e = rw (first_word (drop at text), e)

  -- in the word behind it
  behind : (next : ℕ) → next ≡ at + length (up_to 0 (drop at text)) + 1 → carries_value (up_to 0 (drop at text)) ≡ false → up_to 0 (drop next text) ≡ value_in (words_of (drop at text))
  unfolding value_in first
  behind next after e = rw (first_word (drop at text), e) (sym (second_word text at next after))

pub returns-then-carries_value : goal.returns-then-carries_value
returns-then-carries_value c =
    let a = c.args in
    let given = c.word-given in
    let carries = c.carries_value.ensures ∙ ap carries_value given.ensures in
    c.carried.ensures ∙ ap carried given.ensures ∙ inside a.words.now a.at (sym carries ∙ c.if-carries_value.true)

pub returns-then-next-words : goal.returns-then-next-words
returns-then-next-words c =
    let a = c.args in
    let text = a.words.now in
    let carries = c.carries_value.ensures ∙ ap carries_value c.word-given.ensures in
    let next = c.after_word-next in
    sym (up_end 0 text next.result (omega arith)) ∙ behind text a.at next.result next.ensures (sym carries ∙ c.if-carries_value.false)

pub returns : goal.returns
returns c =
    let a = c.args in
    let carries = c.carries_value.ensures ∙ ap carries_value c.word-given.ensures in
    let next = c.after_word-next in
    c.word.ensures ∙ behind a.words.now a.at next.result next.ensures (sym carries ∙ c.if-carries_value.false)
