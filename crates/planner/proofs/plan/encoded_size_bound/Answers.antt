use mathlib.Core.Path.{sym, ap, subst, ◌∙◌}
use lib.ListN.{length}
use Rattle.format.specs.declared.layout.Mode.{Mode}
use Rattle.format.specs.Layout.{tail_in}
use Rattle.std.proofs.Common.{Err}
use Rattle.std.proofs.lemmas.Result.{err_from_is_err_and}
use Rattle.planner.specs.Answers.{Sized}
use Rattle.planner.specs.Calls.{called}
use Rattle.planner.proofs.PlanLaws.{stream_alone, sized_ready, sized_refused}
use Rattle.planner.proofs.plan.encoded_size_bound.Goals as goal

pub plan_for-requires : goal.plan_for-requires
plan_for-requires c =
    let a = c.args in
    let i = called a.src a.options a.plane.now a.palette.now a.icc.now a.linked_icc.now in
    let m = c.mode_of-mode in
    let tail = ap length (c.tail-profile.ensures ∙ ap (λ (x : Mode). tail_in x a.src.has_linked_icc a.icc.now a.linked_icc.now) m.ensures) in
    record { mode_chosen = m.ensures; stream_unprofiled = stream_alone i (length c.tail-profile.result.now) tail }

pub returns : goal.returns
returns c =
    let a = c.args in
    let i = called a.src a.options a.plane.now a.palette.now a.icc.now a.linked_icc.now in
    let p = c.plan_for in
    let m = c.mode_of-mode in
    let t = c.tail-profile in
    let tail = ap length (t.ensures ∙ ap (λ (x : Mode). tail_in x a.src.has_linked_icc a.icc.now a.linked_icc.now) m.ensures) in
    sized_ready i p.result (length t.result.now) tail p.ensures c.in_ok-plan.plan c.in_ok-plan.was

pub returns-in_err-plan : goal.returns-in_err-plan
returns-in_err-plan c =
    let a = c.args in
    let i = called a.src a.options a.plane.now a.palette.now a.icc.now a.linked_icc.now in
    let p = c.plan_for in
    let m = c.mode_of-mode in
    let t = c.tail-profile in
    let tail = ap length (t.ensures ∙ ap (λ (x : Mode). tail_in x a.src.has_linked_icc a.icc.now a.linked_icc.now) m.ensures) in
    let e = err_from_is_err_and c.from_residual.result c.from_residual.ensures.1 in
    subst (Sized i) (sym (e.1 ∙ ap Err e.2)) (sized_refused i p.result (length t.result.now) tail p.ensures c.in_err-plan.field-0.0 c.in_err-plan.was)
