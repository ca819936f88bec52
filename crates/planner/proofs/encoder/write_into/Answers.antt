use mathlib.Core.Path.{refl, sym, ap, subst, ◌∙◌}
use mathlib.Core.Bool.{true, false}
use mathlib.Core.List.{List}
use Prim.Native.Nat.{ℕ}
use native.Mathlib.Omega.{arith}
use borrow.Author.Tests.{not-true, not-false}
use Rattle.std.proofs.Common.{Ok}
use Rattle.leaves.specs.Put.{put}
use Rattle.format.specs.File.{file_of}
use Rattle.format.proofs.Acceptance.{plan_passed}
use Rattle.format.proofs.Modes.{tail_empty, used_in}
use Rattle.planner.specs.Calls.{chosen}
use Rattle.planner.specs.Plans.{Streamed, encoded_in, noted_for}
use Rattle.planner.proofs.FileWrites.{stream_inside}
use Rattle.planner.proofs.WriteChoice.{budget_fits, RowsFit, rows_alone, stream_under, rows_instead, stream_over, answer_by, later_by, noted_by}
use Rattle.planner.proofs.encoder.write_into.Goals.{in-Some+in_default-count+else-not-plan, in_default}
use Rattle.planner.proofs.encoder.write_into.Goals as goal

pub rle_len-count-requires : goal.rle_len-count-requires
rle_len-count-requires c =
    let a = c.args in
    let i = chosen a.src a.options a.plane.now a.palette.now a.profile.now in
    let p = c.requires.planned in
    let checked = (plan_passed i p.passed).0 in
    record { width_le_stride = stream_inside i a.plan.layout c.in-Some.rle p.layout_is c.in-Some.is checked.rows_inside; height_in_bounds = checked.plane_long; budget_bound = budget_fits i a.plan.layout a.plan.sizes p }

pub write_stream-requires : goal.write_stream-requires
write_stream-requires c =
    let a = c.args in
    let i = chosen a.src a.options a.plane.now a.palette.now a.profile.now in
    let p = c.requires.planned in
    let n = c.rle_len-count in
    let g = stream_under i a.plan.layout a.plan.sizes p c.in-Some.rle n.result c.in-Some.is n.ensures c.in-Some-count.len c.in-Some-count.is in
    let none = c.requires.profile_written ∙ tail_empty i (used_in a.options.limit i g.0.used).planned in
    record { streamed = subst (λ (x : List ℕ). Streamed (chosen a.src a.options a.plane.now a.palette.now x) a.plan.layout a.plan.sizes c.in-Some.rle c.in-Some-count.len) none g.0; len_in_bounds = omega (arith, g.1.1, c.requires.bound_in_bounds) }

pub returns-in-Some-count : goal.returns-in-Some-count
returns-in-Some-count c =
    let a = c.args in
    let i = chosen a.src a.options a.plane.now a.palette.now a.profile.now in
    let p = c.requires.planned in
    let n = c.rle_len-count in
    let g = stream_under i a.plan.layout a.plan.sizes p c.in-Some.rle n.result c.in-Some.is n.ensures c.in-Some-count.len c.in-Some-count.is in
    let none = c.requires.profile_written ∙ tail_empty i (used_in a.options.limit i g.0.used).planned in
    let w = c.write_stream in record {
      answer = answer_by i false g.1.0 (Ok w.result) (ap Ok (w.ensures.answer ∙ ap (λ (x : List ℕ). encoded_in (chosen a.src a.options a.plane.now a.palette.now x)) (sym none)));
      buf_after = later_by i false g.1.0 a.at a.buf.now w.new.buf
          (w.ensures.buf_after ∙ ap (λ (x : List ℕ). put a.buf.now a.at (file_of a.options.limit (chosen a.src a.options a.plane.now a.palette.now x))) (sym none));
      starts_after = noted_by i false g.1.0 a.starts.now w.new.starts
          (w.ensures.starts_after ∙ ap (λ (x : List ℕ). noted_for (Ok tt) (chosen a.src a.options a.plane.now a.palette.now x) a.starts.now) (sym none));
    }

pub returns-then-not-plan : goal.returns-then-not-plan
returns-then-not-plan c =
    let a = c.args in
    let i = chosen a.src a.options a.plane.now a.palette.now a.profile.now in
    let p = c.requires.planned in
    let n = c.rle_len-count in
    let o = stream_over i a.plan.layout a.plan.sizes p c.in-Some.rle n.result c.in-Some.is n.ensures c.in_default-count.is (not-true a.plan.sizes.file_fits c.if-not-plan.true) in
    record { answer = answer_by i true o _ refl; buf_after = later_by i true o a.at a.buf.now a.buf.now refl; starts_after = noted_by i true o a.starts.now a.starts.now refl }

pub write_rows-requires : goal.write_rows-requires
write_rows-requires c =
    let a = c.args in
    let i = chosen a.src a.options a.plane.now a.palette.now a.profile.now in
    let p = c.requires.planned in
    let g : RowsFit i a.plan.sizes = elim (c.match-plan.branch) [
      | in-Some+in_default-count+else-not-plan w ↦ rows_instead i a.plan.layout a.plan.sizes p w.in-Some.rle w.rle_len-count.result w.in-Some.is w.rle_len-count.ensures w.in_default-count.is (not-false a.plan.sizes.file_fits w.if-not-plan.false)
      | in_default w ↦ rows_alone i a.plan.layout a.plan.sizes p w.in_default.is
    ] in
    record { planned = p; stream_unused = g.unused; profile_written = c.requires.profile_written; file_le_max_file = g.fits; file_in_bounds = omega (arith, g.room, c.requires.bound_in_bounds) }

pub returns : goal.returns
returns c =
    let a = c.args in
    let i = chosen a.src a.options a.plane.now a.palette.now a.profile.now in
    let p = c.requires.planned in
    let g : RowsFit i a.plan.sizes = elim (c.match-plan.branch) [
      | in-Some+in_default-count+else-not-plan w ↦ rows_instead i a.plan.layout a.plan.sizes p w.in-Some.rle w.rle_len-count.result w.in-Some.is w.rle_len-count.ensures w.in_default-count.is (not-false a.plan.sizes.file_fits w.if-not-plan.false)
      | in_default w ↦ rows_alone i a.plan.layout a.plan.sizes p w.in_default.is
    ] in
    let w = c.write_rows in
    record { answer = answer_by i false g.over (Ok w.result) (ap Ok w.ensures.answer); buf_after = later_by i false g.over a.at a.buf.now w.new.buf w.ensures.buf_after; starts_after = noted_by i false g.over a.starts.now w.new.starts w.ensures.starts_after }
