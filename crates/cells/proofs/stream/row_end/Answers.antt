use Rattle.cells.proofs.RowCodes.{row_fault, row_turn, row_whole}
use Rattle.std.proofs.Common.{rules, None}
use mathlib.Core.Path.{◌≡◌, refl, sym, ◌∙◌}
use native.Mathlib.Omega.{arith}
use Rattle.cells.proofs.stream.row_end.Goals as goal

pub loop-room-init : goal.loop-room-init
loop-room-init c = (omega arith, omega arith, refl)

pub loop-room-preserved : goal.loop-room-preserved
loop-room-preserved c =
    let l = c.loop-room in
    let k = c.in_ok-code.ensures in (omega (arith, k.bounds.1), omega (arith, k.bounds.0, k.bounds.1, k.bounds.2, l.invariant.1), l.invariant.2 ∙ row_turn c.args.file.now c.args.depth l.at l.room c.in_ok-code.code c.loop-room-test.true k.code)

pub returns : goal.returns
returns c =
    let l = c.loop-room in
    sym (l.invariant.2 ∙ row_whole c.args.file.now c.args.depth l.at l.room (omega arith))

pub returns-in_err-code : goal.returns-in_err-code
returns-in_err-code c =
    let l = c.loop-room in
    let none : c.from_residual.result ≡ None = search rules in
    none ∙ sym (l.invariant.2 ∙ row_fault c.args.file.now c.args.depth l.at l.room c.loop-room-test.true c.in_err-code.ensures.code)
