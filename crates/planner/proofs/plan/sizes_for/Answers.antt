use mathlib.Core.Path.{◌≡◌, sym, ap, ◌∙◌}
use mathlib.Core.Bool.{cond}
use Prim.Native.Nat.{ℕ, ◌+◌, ◌*◌, ◌≤◌, max}
use borrow.Author.Tests.{leb-true}
use native.Mathlib.Omega.{arith}
use Rattle.planner.proofs.PlanLaws.{stream_plan, rows_plan, no_plan}
use Rattle.planner.proofs.plan.sizes_for.Goals.{else-file_fits, then-file_fits}
use Rattle.planner.proofs.plan.sizes_for.Goals as goal

pub overflow_add-sizes : goal.overflow_add-sizes
overflow_add-sizes c =
    let a = c.args in
    let most : c.if-file_fits.fallback ≤ a.raw = elim (c.if-file_fits.branch) [ then-file_fits w ↦ omega (arith, w.fallback-is) | else-file_fits w ↦ omega (arith, w.fallback-is) ] in
    record { fits = omega (arith, c.max.ensures, c.budget-rle_budget.ensures, most) }

pub returns-then-is_some : goal.returns-then-is_some
returns-then-is_some c =
    let a = c.args in
    let stream = sym c.is_some.ensures ∙ c.if-is_some.true in
    let least : c.if-file_fits.fallback ≡ cond c.fits-file_fits.result a.raw 0 = elim (c.if-file_fits.branch) [ then-file_fits w ↦ rw w.if-file_fits.true w.fallback-is | else-file_fits w ↦ rw w.if-file_fits.false w.fallback-is ] in
    stream_plan a.limit a.head a.raw a.profile_bytes a.width c.budget-rle_budget.result (a.head + c.max.result) a.layout c.fits-file_fits.result stream (c.requires.stream_unprofiled stream)
    c.fits-file_fits.ensures c.budget-rle_budget.ensures (ap (λ (n : ℕ). a.head + n) (c.max.ensures ∙ ap (max (c.budget-rle_budget.result + 2 * a.width + 2)) least))

pub overflow_add-file : goal.overflow_add-file
overflow_add-file c =
    let a = c.args in
    let all = leb-true (a.head + a.raw + a.profile_bytes) a.limit (sym c.fits-file_fits.ensures ∙ c.if-not-file_fits.false) in
    record { fits = omega (arith, all, c.requires.limit_le_max_file) }

pub returns-then-not-file_fits : goal.returns-then-not-file_fits
returns-then-not-file_fits c =
    let a = c.args in
    no_plan a.limit a.head a.raw a.profile_bytes a.width a.layout c.fits-file_fits.result (sym c.is_some.ensures ∙ c.if-is_some.false) c.fits-file_fits.ensures c.if-not-file_fits.true

pub returns : goal.returns
returns c =
    let a = c.args in
    rows_plan a.limit a.head a.raw a.profile_bytes a.width c.budget-rle_budget.result a.layout c.fits-file_fits.result (sym c.is_some.ensures ∙ c.if-is_some.false)
    c.fits-file_fits.ensures c.if-not-file_fits.false c.budget-rle_budget.ensures
