use mathlib.Core.Path.{sym, ap, ◌∙◌}
use Rattle.std.proofs.Common.{Err}
use Rattle.std.proofs.lemmas.Result.{err_from_is_err_and}
use Prim.Native.Nat.{◌*◌}
use native.Mathlib.Omega.{arith}
use Rattle.format.proofs.Acceptance.{checks_passed}
use Rattle.planner.proofs.PlanLaws.{raw_fits, raw_is, stream_planned, plan_stops, plan_sizes_lem}
use Rattle.planner.proofs.plan.plan_for.Goals as goal

pub returns-in_err-checks : goal.returns-in_err-checks
returns-in_err-checks c =
    let a = c.args in
    let p = err_from_is_err_and c.from_residual.result c.from_residual.ensures.1 in
    plan_stops a.src a.options a.plane_bytes a.palette_bytes a.profile_bytes c.in_err-checks.field-0.0 c.from_residual.result c.in_err-checks.ensures (p.1 ∙ ap Err p.2)

pub layout_of-layout-requires : goal.layout_of-layout-requires
layout_of-layout-requires c =
    let a = c.args in
    let passed = sym c.checks.ensures ∙ c.in_ok-checks.was in
    record { mode_chosen = c.requires.mode_chosen; masks_checked = λ q. ((checks_passed a.src a.options a.plane_bytes a.palette_bytes passed).masks q).runs }

pub head_len-head-requires : goal.head_len-head-requires
head_len-head-requires c = c.layout_of-layout.ensures

pub overflow_mul-raw : goal.overflow_mul-raw
overflow_mul-raw c =
    let a = c.args in
    let passed = sym c.checks.ensures ∙ c.in_ok-checks.was in
    let k = checks_passed a.src a.options a.plane_bytes a.palette_bytes passed in
    record { fits = omega (arith, raw_is a.src a.options a.palette_bytes c.row_stride.result c.layout_of-layout.result c.layout_of-layout.ensures c.row_stride.ensures, raw_fits a.src a.options a.plane_bytes k) }

pub sizes_for-requires : goal.sizes_for-requires
sizes_for-requires c =
    let a = c.args in
    let passed = sym c.checks.ensures ∙ c.in_ok-checks.was in
    let k = checks_passed a.src a.options a.plane_bytes a.palette_bytes passed in
    let l = c.layout_of-layout in record { limit_le_max_file = k.limited; head_bound = c.head_len-head.ensures.1; raw_bound = omega (arith, raw_is a.src a.options a.palette_bytes c.row_stride.result l.result l.ensures c.row_stride.ensures, raw_fits a.src a.options a.plane_bytes k); stream_unprofiled = λ q. c.requires.stream_unprofiled (sym (stream_planned a.src a.options a.palette_bytes l.result l.ensures) ∙ q) }

pub returns : goal.returns
returns c =
    let a = c.args in
    let passed = sym c.checks.ensures ∙ c.in_ok-checks.was in
    let l = c.layout_of-layout in
    plan_sizes_lem a.src a.options a.plane_bytes a.palette_bytes a.profile_bytes c.head_len-head.result (c.row_stride.result * a.src.height) l.result c.sizes_for.result passed
    l.ensures c.head_len-head.ensures.0 (raw_is a.src a.options a.palette_bytes c.row_stride.result l.result l.ensures c.row_stride.ensures) c.sizes_for.ensures
