use mathlib.Core.Path.{ap}
use native.Mathlib.Omega.{arith}
use mathlib.Core.List.{[]}
use lib.ListN.{length}
use Rattle.format.proofs.Acceptance.{plan_passed}
use Rattle.planner.specs.Calls.{chosen}
use Rattle.planner.proofs.FileWrites.{mode_is, sizes_head, head_asked, stream_small, stream-coded, stream_inside, stream-answer, stream_written, stream-noted}
use Rattle.planner.proofs.encoder.write_stream.Goals as goal

pub overflow_add-size : goal.overflow_add-size
overflow_add-size c =
    let a = c.args in
    record { fits = omega (arith, stream_small (chosen a.src a.options a.plane.now a.palette.now []) a.plan.layout a.plan.sizes a.rle a.len c.requires.streamed) }

pub overflow_cast-len : goal.overflow_cast-len
overflow_cast-len c =
    let a = c.args in
    record { fits = omega (arith, stream_small (chosen a.src a.options a.plane.now a.palette.now []) a.plan.layout a.plan.sizes a.rle a.len c.requires.streamed) }

pub overflow_cast-size : goal.overflow_cast-size
overflow_cast-size c =
    let a = c.args in
    record { fits = omega (arith, stream_small (chosen a.src a.options a.plane.now a.palette.now []) a.plan.layout a.plan.sizes a.rle a.len c.requires.streamed) }

pub write_head-requires : goal.write_head-requires
write_head-requires c =
    let a = c.args in
    let i = chosen a.src a.options a.plane.now a.palette.now [] in
    let k = c.requires.streamed in
    let head = sizes_head i a.plan.sizes k.planned.sizes_are in
    let asked = head_asked i a.plan.layout a.plan.sizes.head k.planned.layout_is head in
    record { height_nonzero = (plan_passed i k.planned.passed).0.some_height; mode_chosen = mode_is i a.plan.layout k.planned.layout_is; entries_bound = asked.0; head_le_max_file = omega (arith, stream_small i a.plan.layout a.plan.sizes a.rle a.len k); head_length = asked.1; head_in_bounds = omega (arith, c.requires.len_in_bounds) }

pub overflow_add-at : goal.overflow_add-at
overflow_add-at c = record { fits = omega (arith, c.requires.len_in_bounds, c.well_formed.1.1.1.1.1.1.1.1.0) }

pub rle_into-requires : goal.rle_into-requires
rle_into-requires c =
    let a = c.args in
    let i = chosen a.src a.options a.plane.now a.palette.now [] in
    let k = c.requires.streamed in
    let head = sizes_head i a.plan.sizes k.planned.sizes_are in
    let checked = (plan_passed i k.planned.passed).0 in
    let w = c.write_head in record { width_le_stride = stream_inside i a.plan.layout a.rle k.planned.layout_is k.coded checked.rows_inside; height_in_bounds = checked.plane_long; stride_in_bounds = omega (arith, ap length (stream-coded i a.plan.layout a.rle k.planned.layout_is k.coded), k.long, c.requires.len_in_bounds, w.auto.buf); origin_le_at = omega arith }

pub returns : goal.returns
returns c =
    let a = c.args in
    let i = chosen a.src a.options a.plane.now a.palette.now [] in
    let k = c.requires.streamed in
    let head = sizes_head i a.plan.sizes k.planned.sizes_are in
    let w = c.write_head in
    let t = c.rle_into in record { answer = stream-answer i a.plan.layout a.plan.sizes a.rle a.len k c.format.result c.format.ensures; buf_after = stream_written i a.plan.layout a.plan.sizes a.rle a.len k a.buf.now w.new.buf t.new.buf a.at c.compression.result c.compression.ensures c.requires.len_in_bounds w.ensures t.ensures.answer.1; starts_after = stream-noted i a.plan.layout a.plan.sizes a.rle a.len k a.at a.starts.now t.new.starts t.ensures.starts_after }
