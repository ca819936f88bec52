use mathlib.Core.Path.{refl, sym, ap, ◌∙◌}
use mathlib.Core.Bool.{true, false}
use lib.IntN.{pos}
use Rattle.arguments.specs.Numbers.{number_of}
use Rattle.arguments.proofs.NumberLaws.{sign_turned, behind_sign, without_sign, not_signed, is_signed}
use Rattle.arguments.proofs.numbers.signed32.Goals as goal

pub returns-in_err-number-in-Some : goal.returns-in_err-number-in-Some
returns-in_err-number-in-Some c =
    let text = c.args.text.now in
    let h = c.in-Some.ensures.cases in
    c.from_residual.ensures ∙ not_signed text true h.0 (c.in_err-number-in-Some.ensures.value ∙ ap number_of h.1 ∙ sym (behind_sign text true h.0 refl))

pub returns-in_err-number-in-None : goal.returns-in_err-number-in-None
returns-in_err-number-in-None c =
    let text = c.args.text.now in
    let h = c.in-None.ensures.cases in
    c.from_residual-in_err-number-in-None.ensures ∙ not_signed text false h (c.in_err-number-in-None.ensures.value ∙ sym (without_sign text false h refl))

pub returns-in_ok-number-in-Some : goal.returns-in_ok-number-in-Some
returns-in_ok-number-in-Some c =
    let text = c.args.text.now in
    let h = c.in-Some.ensures.cases in
    let n = c.in_ok-number-in-Some in
    c.ok.ensures.value
    ∙ is_signed text true h.0 n.field-0 _ (sign_turned n.field-0 n.ensures.bound) c.try_from.result c.try_from.ensures (n.ensures.value ∙ ap number_of h.1 ∙ sym (behind_sign text true h.0 refl))

pub returns-in_ok-number-in-None : goal.returns-in_ok-number-in-None
returns-in_ok-number-in-None c =
    let text = c.args.text.now in
    let h = c.in-None.ensures.cases in
    let n = c.in_ok-number-in-None in
    c.ok-in-None.ensures.value
    ∙ is_signed text false h n.field-0 (pos n.field-0) refl c.try_from-in-None.result c.try_from-in-None.ensures (n.ensures.value ∙ sym (without_sign text false h refl))
