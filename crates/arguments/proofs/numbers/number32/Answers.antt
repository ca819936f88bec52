use mathlib.Core.Path.{refl, ◌∙◌}
use Rattle.arguments.specs.Numbers.{number_of, number32}
use Rattle.arguments.proofs.NumberLaws.{none_at_most, low_bits}
use Rattle.arguments.proofs.numbers.number32.Goals as goal

pub returns-in_err-number : goal.returns-in_err-number
unfolding number32
returns-in_err-number c = c.from_residual.ensures ∙ none_at_most 0xFFFFFFFF (number_of c.args.text.now) c.in_err-number.ensures.value

pub returns : goal.returns
unfolding number32
returns c =
    c.ok.ensures.value ∙ low_bits 32 0xFFFFFFFF c.in_ok-number.field-0 c.try_from.result c.try_from.ensures refl (number_of c.args.text.now) c.in_ok-number.ensures.value
