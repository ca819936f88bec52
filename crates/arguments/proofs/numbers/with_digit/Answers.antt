use mathlib.Core.Path.{◌∙◌}
use native.Mathlib.Omega.{arith}
use Rattle.arguments.proofs.NumberLaws.{no_digit, no_room, one_more}
use Rattle.arguments.proofs.numbers.with_digit.Goals as goal

pub returns-in_err-digit-clause-value : goal.returns-in_err-digit-clause-value
returns-in_err-digit-clause-value c =
    let a = c.args in
    c.from_residual.ensures ∙ no_digit a.base a.number a.byte c.requires (omega arith) (rw c.from.ensures at c.in_err-digit.ensures.value)

pub returns-then-number-clause-value : goal.returns-then-number-clause-value
returns-then-number-clause-value c =
    let a = c.args in
    no_room a.base a.number a.byte c.requires (omega arith) c.in_ok-digit.digit (rw c.from.ensures at c.in_ok-digit.ensures.value) c.if-number.true

pub returns-clause-value : goal.returns-clause-value
returns-clause-value c =
    let a = c.args in
    rw (c.from-2.ensures, c.from-3.ensures) (one_more a.base a.number a.byte c.requires (omega arith) c.in_ok-digit.digit (rw c.from.ensures at c.in_ok-digit.ensures.value) c.if-number.false)
