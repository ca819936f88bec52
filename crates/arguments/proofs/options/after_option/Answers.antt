use mathlib.Core.Logic.{inl, inr}
use mathlib.Core.Path.{sym, ap, ◌∙◌}
use native.Mathlib.Omega.{arith}
use borrow.Author.Tests.{ltb-true, ltb-false}
use lib.ListN.{length}
use Rattle.arguments.specs.Options.{is_whole}
use Rattle.arguments.proofs.OptionLaws.{after_alone, after_value}
use Rattle.arguments.proofs.options.after_option.Goals.{then-is_whole-via-else-is_whole+then-next-words, then-is_whole-via-then-is_whole}
use Rattle.arguments.proofs.options.after_option.Goals as goal

pub returns-then-is_whole : goal.returns-then-is_whole
returns-then-is_whole c =
    let a = c.args in
    let next = c.after_word-next in
    let is = c.is_whole.ensures ∙ ap is_whole c.word.ensures in (
      omega arith,
      λ h. after_alone a.words.now a.at next.result next.ensures h
          (elim (c.then-is_whole.branch) [ then-is_whole-via-then-is_whole w ↦ inl (sym is ∙ w.if-is_whole.true) | then-is_whole-via-else-is_whole+then-next-words w ↦ inr (omega (arith, ltb-true (length a.words.now) next.result w.if-next-words.true-raw)) ]),
    )

pub after_word-requires : goal.after_word-requires
after_word-requires c = omega (arith, ltb-false)

pub returns : goal.returns
returns c =
    let a = c.args in
    let next = c.after_word-next in
    let is = c.is_whole.ensures ∙ ap is_whole c.word.ensures in
    (omega arith, λ h. after_value a.words.now a.at next.result next.ensures h c.after_word.result c.after_word.ensures (sym is ∙ c.if-is_whole.false))
