use mathlib.Core.Path.{◌≡◌, ap}
use Prim.Native.Nat.{◌+◌}
use Rattle.format.specs.File.{tail_of}
use native.Mathlib.Omega.{arith}
use lib.ListN.{length}
use Rattle.format.proofs.Acceptance.{plan_passed}
use Rattle.format.specs.Layout.{head_len}
use Rattle.planner.specs.Calls.{chosen}
use Rattle.planner.proofs.FileWrites.{mode_is, sizes_head, sizes_parts, head_asked, pack_asked, rows_answer, rows_written, rows_noted}
use Rattle.planner.proofs.encoder.write_rows.Goals.{Start}
use Rattle.planner.proofs.encoder.write_rows.Goals as goal

-- the file has its head, the raw bytes and the profile
whole : (c : Start) → c.args.plan.sizes.file ≡ c.args.plan.sizes.head + c.args.plan.sizes.raw + length (tail_of (chosen c.args.src c.args.options c.args.plane.now c.args.palette.now c.args.profile.now))
whole c = let a = c.args in sizes_parts (chosen a.src a.options a.plane.now a.palette.now a.profile.now) a.plan.sizes c.requires.planned.sizes_are

pub overflow_cast-raw : goal.overflow_cast-raw
overflow_cast-raw c = record { fits = omega (arith, whole (goal.at.overflow_cast-raw c).Start) }

pub overflow_add-pixels : goal.overflow_add-pixels
overflow_add-pixels c = record { fits = omega (arith, whole (goal.at.overflow_add-pixels c).Start, c.well_formed.1.1.1.1.1.1.1.0) }

pub overflow_cast-sizes : goal.overflow_cast-sizes
overflow_cast-sizes c = record { fits = omega (arith, c.requires.file_le_max_file) }

pub overflow_cast-profile : goal.overflow_cast-profile
overflow_cast-profile c = record { fits = omega (arith, whole (goal.at.overflow_cast-profile c).Start, ap length c.requires.profile_written) }

pub overflow_sub-head : goal.overflow_sub-head
unfolding head_len
overflow_sub-head c =
    let a = c.args in omega (arith, sizes_head (chosen a.src a.options a.plane.now a.palette.now a.profile.now) a.plan.sizes c.requires.planned.sizes_are)

pub overflow_cast-head : goal.overflow_cast-head
overflow_cast-head c = record { fits = omega (arith, whole (goal.at.overflow_cast-head c).Start) }

pub overflow_add-head : goal.overflow_add-head
overflow_add-head c = record { fits = omega (arith, whole (goal.at.overflow_add-head c).Start) }

pub write_head-requires : goal.write_head-requires
write_head-requires c =
    let a = c.args in
    let i = chosen a.src a.options a.plane.now a.palette.now a.profile.now in
    let p = c.requires.planned in
    let parts = whole (goal.at.write_head-requires c).Start in
    let asked = head_asked i a.plan.layout a.plan.sizes.head p.layout_is (sizes_head i a.plan.sizes p.sizes_are) in
    record { height_nonzero = (plan_passed i p.passed).0.some_height; mode_chosen = mode_is i a.plan.layout p.layout_is; entries_bound = asked.0; head_le_max_file = omega (arith, parts); head_length = asked.1; head_in_bounds = omega (arith, parts) }

pub pack_all-requires : goal.pack_all-requires
pack_all-requires c =
    let a = c.args in
    let i = chosen a.src a.options a.plane.now a.palette.now a.profile.now in
    let p = c.requires.planned in
    let parts = whole (goal.at.pack_all-requires c).Start in
    let asked = pack_asked i a.plan.layout a.plan.sizes p in
    let w = c.write_head in
    record { pack_ok = asked.0; self_bound = asked.1.0; height_in_bounds = (plan_passed i p.passed).0.plane_long; dst_in_bounds = omega (arith, asked.1.1, parts, w.auto.buf); origin_le_at = omega arith }

pub overflow_add-pixels-2 : goal.overflow_add-pixels-2
overflow_add-pixels-2 c = record { fits = omega (arith, whole (goal.at.overflow_add-pixels-2 c).Start, c.well_formed.1.1.1.1.1.1.1.0) }

pub put_slice-requires : goal.put_slice-requires
put_slice-requires c = omega (arith, whole (goal.at.put_slice-requires c).Start, ap length c.requires.profile_written, c.pack_all.auto.dst, c.write_head.auto.buf)

pub returns : goal.returns
returns c =
    let a = c.args in
    let i = chosen a.src a.options a.plane.now a.palette.now a.profile.now in
    let p = c.requires.planned in
    let parts = whole (goal.at.returns c).Start in
    let m = c.image_size in
    let w = c.write_head in
    let t = c.pack_all in
    let e = c.put_slice in record { answer = rows_answer i a.plan.layout a.plan.sizes p c.requires.stream_unused; buf_after = rows_written i a.plan.layout a.plan.sizes p c.requires.stream_unused a.buf.now w.new.buf t.new.dst e.new.buf a.profile.now a.at m.result c.requires.profile_written m.ensures (omega (arith, parts)) w.ensures t.ensures.dst_after e.ensures; starts_after = rows_noted i a.plan.layout a.plan.sizes p c.requires.stream_unused a.at a.starts.now t.new.starts t.ensures.starts_after }
