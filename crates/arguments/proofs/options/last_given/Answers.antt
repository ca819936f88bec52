use mathlib.Core.Path.{sym, ap, ◌∙◌}
use borrow.Author.Tests.{eqb-true, eqb-false}
use Rattle.arguments.specs.Options.{option_named}
use Rattle.arguments.proofs.OptionLaws.{words_found, last_start, last_end, last_here, last_other, found_last}
use Rattle.arguments.proofs.options.last_given.Goals.{else-place_named-option, then-place_named-option}
use Rattle.arguments.proofs.options.last_given.Goals as goal

pub loop-at-init : goal.loop-at-init
loop-at-init c = (tt {0}, last_start c.args.option c.args.words.now)

pub loop-at-preserved : goal.loop-at-preserved
loop-at-preserved c =
    let text = c.args.words.now in
    let option = c.args.option in
    let l = c.loop-at in
    let next = c.after_option-at in
    let inside = c.loop-at-test.true in
    let is = sym (c.place_named.ensures ∙ ap option_named c.word.ensures) in
    elim (c.if-place_named-option.branch) [ then-place_named-option w ↦ rw w.last-is (inside, l.invariant.1 ∙ last_here option text l.at next.result inside (next.ensures.1 inside) (words_found text l.last) (is ∙ w.if-place_named-option.true)) | else-place_named-option w ↦ rw w.last-is (l.invariant.0, l.invariant.1 ∙ last_other option text l.at next.result inside (next.ensures.1 inside) (words_found text l.last) (λ e. w.if-place_named-option.false (sym is ∙ e))) ]

pub returns : goal.returns
returns c =
    let text = c.args.words.now in
    let option = c.args.option in
    let l = c.loop-at in
    found_last option text l.last l.invariant.0 (l.invariant.1 ∙ last_end option text (words_found text l.last) l.at c.loop-at-test.false)
