use mathlib.Core.Path.{sym, ◌∙◌}
use native.Mathlib.Omega.{arith}
use borrow.Author.Tests.{eqb-true, eqb-false}
use lib.ListN.{length}
use Rattle.arguments.proofs.NumberLaws.{no_digits, some_digits, digits_end, digits_stop, digits_more}
use Rattle.arguments.proofs.numbers.number_in.Goals as goal

pub returns-then-is_empty-clause-value : goal.returns-then-is_empty-clause-value
returns-then-is_empty-clause-value c =
    let a = c.args in
    no_digits a.base a.digits.now (eqb-true (length a.digits.now) 0 (sym c.is_empty.ensures ∙ c.if-is_empty.true))

pub loop-byte-init : goal.loop-byte-init
loop-byte-init c =
    let a = c.args in
    (omega arith, some_digits a.base a.digits.now (eqb-false (length a.digits.now) 0 (sym c.is_empty.ensures ∙ c.if-is_empty.false)))

pub returns-in_err-number-clause-value : goal.returns-in_err-number-clause-value
returns-in_err-number-clause-value c =
    let a = c.args in
    let l = c.loop-byte in
    c.from_residual.ensures ∙ digits_stop a.base l.number a.digits.now l.byte-index (omega arith) c.in_err-number.ensures.value ∙ l.invariant.1

pub loop-byte-preserved : goal.loop-byte-preserved
loop-byte-preserved c =
    let a = c.args in
    let l = c.loop-byte in
    let next = c.in_ok-number in
    (next.ensures.bound, digits_more a.base l.number a.digits.now l.byte-index (omega arith) next.number next.ensures.value ∙ l.invariant.1)

pub returns-clause-value : goal.returns-clause-value
returns-clause-value c =
    let a = c.args in
    let l = c.loop-byte in
    digits_end a.base l.number a.digits.now l.byte-index (omega arith) ∙ l.invariant.1
