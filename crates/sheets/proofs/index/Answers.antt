use mathlib.Core.Path.{◌∙◌, ap}
use native.Mathlib.Omega.{arith}
use Rattle.arguments.specs.Numbers.{number_of}
use Rattle.sheets.proofs.SheetLaws.{no_number, number_is}
use Rattle.sheets.proofs.index.Goals as goal

pub returns-in_err-n : goal.returns-in_err-n
returns-in_err-n c =
    let a = c.args in
    rw c.from_residual.ensures (no_number a.cell.now a.most (omega arith) (c.in_err-n.ensures.value ∙ ap number_of c.after_blanks.ensures))

pub returns-then-n-from : goal.returns-then-n-from
returns-then-n-from c =
    let a = c.args in
    let is = number_is a.cell.now a.most (omega arith) c.in_ok-n.n (c.in_ok-n.ensures.value ∙ ap number_of c.after_blanks.ensures) in
    λ h. omega (arith, is, c.from.ensures, c.if-n-from.true)

pub returns : goal.returns
returns c =
    let a = c.args in
    let is = number_is a.cell.now a.most (omega arith) c.in_ok-n.n (c.in_ok-n.ensures.value ∙ ap number_of c.after_blanks.ensures) in
    (omega (arith, is, c.from.ensures, c.if-n-from.false), is)
