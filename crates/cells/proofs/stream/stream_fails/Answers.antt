use borrow.Author.Tests.{not-true, not-false}
use mathlib.Core.Path.{◌≡◌, sym, ◌∙◌}
use Prim.Native.Nat.{◌+◌, ◌-◌}
use native.Mathlib.Omega.{arith}
use Rattle.cells.proofs.Trials.{trial_start, trial_place, trial_fault, trial_unmarked, trial_turn, trial_done}
use Rattle.cells.proofs.stream.stream_fails.Goals as goal

pub loop-below-init : goal.loop-below-init
loop-below-init c = let a = c.args in trial_start a.file.now a.depth a.width a.offset (a.height - 1)

pub row_end-requires-clause-start_bound : goal.row_end-requires-clause-start_bound
row_end-requires-clause-start_bound c =
    let a = c.args in
    omega (arith, trial_place a.file.now a.depth a.width a.offset (a.height - 1) c.loop-below.invariant)

pub returns-in_default : goal.returns-in_default
returns-in_default c =
    let a = c.args in
    trial_fault a.file.now a.depth a.width a.offset (a.height - 1) c.loop-below.invariant c.in_default.ensures

pub returns-then-not-marks_end : goal.returns-then-not-marks_end
returns-then-not-marks_end c =
    let a = c.args in
    trial_unmarked a.file.now a.depth a.width a.offset (a.height - 1) c.loop-below.invariant c.in-Some.end c.in-Some.ensures (omega arith) (sym c.marks_end.ensures ∙ not-true _ c.if-not-marks_end.true-raw)

pub loop-below-preserved : goal.loop-below-preserved
loop-below-preserved c =
    let a = c.args in
    let n : a.height - c.loop-below.below - 1 ≡ a.height - (c.loop-below.below + 1) = omega arith in
    rw n at (trial_turn a.file.now a.depth a.width a.offset (a.height - 1) c.loop-below.invariant c.in-Some.end c.in-Some.ensures (omega arith) (sym c.marks_end.ensures ∙ not-false _ c.if-not-marks_end.false-raw))

pub row_end-requires-2-clause-start_bound : goal.row_end-requires-2-clause-start_bound
row_end-requires-2-clause-start_bound c =
    let a = c.args in
    omega (arith, trial_place a.file.now a.depth a.width a.offset (a.height - 1) c.loop-below.invariant)

pub returns : goal.returns
returns c =
    let a = c.args in
    trial_done a.file.now a.depth a.width a.offset (a.height - 1) c.loop-below.invariant (omega arith) c.row_end-2.result c.row_end-2.ensures c.is_none.result c.is_none.ensures
