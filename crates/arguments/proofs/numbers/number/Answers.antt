use mathlib.Core.Path.{refl, ap, ◌∙◌}
use mathlib.Core.Bool.{true, false}
use Rattle.arguments.specs.Numbers.{digits_of_of}
use Rattle.arguments.proofs.NumberLaws.{hexadecimal, decimal}
use Rattle.arguments.proofs.numbers.number.Goals as goal

pub returns-in-Some-clause-value : goal.returns-in-Some-clause-value
returns-in-Some-clause-value c =
    let cases = c.in-Some.ensures.cases in
    c.number_in.ensures.value ∙ ap (digits_of_of 16) cases.1 ∙ hexadecimal c.args.text.now true cases.0 refl

pub returns-in-None-clause-value : goal.returns-in-None-clause-value
returns-in-None-clause-value c = c.number_in-in-None.ensures.value ∙ decimal c.args.text.now false c.in-None.ensures.cases refl
