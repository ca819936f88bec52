use mathlib.Core.Path.{◌≡◌, refl, sym, ap, ◌∙◌}
use lib.ListN.{length}
use Rattle.std.proofs.Common.{Option, Some, None}
use Rattle.leaves.specs.declared.options.CalibratedRgb.{CalibratedRgb}
use Rattle.leaves.specs.Options.{calibrated_in}
use Rattle.leaves.specs.declared.error.Refusal.TheVariants.{BufferTooShort, StartsTooShort}
use Rattle.leaves.specs.Refusals.{first_of, Check}
use Rattle.format.specs.declared.layout.Mode.{Mode}
use Rattle.format.specs.File.{tail_of}
use Rattle.format.specs.Layout.{tail_in}
use Rattle.format.proofs.Acceptance.{accepted}
use Rattle.std.proofs.Common.{Err}
use Rattle.planner.specs.Calls.{called}
use Rattle.planner.specs.Answers.{later_for}
use Rattle.planner.specs.Plans.{Planned, encoded_for, noted_for, list_rows}
use Rattle.planner.proofs.CallLaws.{RoomLeft, refused_plan, short_stops, room_left, starts_stop, starts_left, list_passed, own_tail, same_plan, same_answer, same_later, same_noted, wrote_refused}
use Rattle.planner.proofs.PlanLaws.{plan_ready, plan_refused, plan_bound_lem, stream_alone}
use Rattle.planner.proofs.encoder.encode_source.Goals.{After-tail-profile, In-Ok, Else-too_short}
use Rattle.planner.proofs.encoder.encode_source.Goals as goal

-- calibrated colour has nine endpoints and three gammas, given or not
counts : (c : After-tail-profile) → (length (calibrated_in c.args.options).endpoints ≡ 9) × (length (calibrated_in c.args.options).gamma ≡ 3)
counts c = go c.args.options.calibrated_rgb refl
  where
    go : (o : Option CalibratedRgb) → c.args.options.calibrated_rgb ≡ o → (length (calibrated_in c.args.options).endpoints ≡ 9) × (length (calibrated_in c.args.options).gamma ≡ 3)
    go None q = (rw q, rw q)
    go (Some x) q = let k = (rw q at c.well_formed.1.0.1.1.1.1.1.1.1.1.0).1.1.1.1.0.1.1 in (rw q k.0.1.0.1, rw q k.1.0.1.0.1)

-- the profile is the call's tail
own : (c : After-tail-profile) → c.tail-profile.result.now ≡ tail_of (called c.args.src c.args.options c.args.plane.now c.args.palette.now c.args.icc.now c.args.linked_icc.now)
own c = let a = c.args in c.tail-profile.ensures ∙ ap (λ (x : Mode). tail_in x a.src.has_linked_icc a.icc.now a.linked_icc.now) c.mode_of-mode.ensures

-- the plan is the call's
ready : (c : In-Ok) → Planned (called c.args.src c.args.options c.args.plane.now c.args.palette.now c.args.icc.now c.args.linked_icc.now) c.in-Ok.plan.layout c.in-Ok.plan.sizes
ready c =
    let a = c.args in
    let i = called a.src a.options a.plane.now a.palette.now a.icc.now a.linked_icc.now in
    plan_ready i c.plan_for-planned.result (length c.tail-profile.result.now) (ap length (own (goal.at.In-Ok c).After-tail-profile)) c.plan_for-planned.ensures c.in-Ok.plan c.in-Ok.is

-- and there is room for it
room : (c : Else-too_short) → RoomLeft (called c.args.src c.args.options c.args.plane.now c.args.palette.now c.args.icc.now c.args.linked_icc.now) (length c.args.out.now) c.args.offset (length c.args.starts.now) c.args.needed c.in-Ok.plan.sizes.bound
room c =
    let a = c.args in
    let i = called a.src a.options a.plane.now a.palette.now a.icc.now a.linked_icc.now in
    let p = ready (goal.at.Else-too_short c).In-Ok in
    room_left i (length a.out.now) a.offset (length a.starts.now) a.needed c.in-Ok.plan.sizes.bound c.too_short.result p.passed (plan_bound_lem i c.in-Ok.plan.sizes p.sizes_are) c.too_short.ensures c.if-too_short.false

pub plan_for-planned-requires : goal.plan_for-planned-requires
plan_for-planned-requires c =
    let a = c.args in
    let i = called a.src a.options a.plane.now a.palette.now a.icc.now a.linked_icc.now in
    record { mode_chosen = c.mode_of-mode.ensures; stream_unprofiled = stream_alone i (length c.tail-profile.result.now) (ap length (own (goal.at.plan_for-planned-requires c).After-tail-profile)) }

pub returns-in_default : goal.returns-in_default
returns-in_default c =
    let a = c.args in
    let i = called a.src a.options a.plane.now a.palette.now a.icc.now a.linked_icc.now in
    let why = c.unwrap_err.result in
    let p = plan_refused i c.plan_for-planned.result (length c.tail-profile.result.now) (ap length (own (goal.at.returns-in_default c).After-tail-profile)) c.plan_for-planned.ensures why c.unwrap_err.ensures in
    wrote_refused _ i a.offset a.out.now a.starts.now (Err why) why (refused_plan i (length a.out.now) a.offset (length a.starts.now) a.needed why p) refl

pub returns-then-too_short : goal.returns-then-too_short
returns-then-too_short c =
    let a = c.args in
    let i = called a.src a.options a.plane.now a.palette.now a.icc.now a.linked_icc.now in
    let p = ready (goal.at.returns-then-too_short c).In-Ok in
    wrote_refused _ i a.offset a.out.now a.starts.now (Err BufferTooShort) BufferTooShort
    (short_stops i (length a.out.now) a.offset (length a.starts.now) a.needed c.in-Ok.plan.sizes.bound c.too_short.result p.passed (plan_bound_lem i c.in-Ok.plan.sizes p.sizes_are) c.too_short.ensures c.if-too_short.true) refl

pub returns-then-starts-needed : goal.returns-then-starts-needed
returns-then-starts-needed c =
    let a = c.args in
    let i = called a.src a.options a.plane.now a.palette.now a.icc.now a.linked_icc.now in
    let r = room (goal.at.returns-then-starts-needed c).Else-too_short in
    wrote_refused _ i a.offset a.out.now a.starts.now (Err StartsTooShort) StartsTooShort
    (starts_stop i (length a.out.now) a.offset (length a.starts.now) a.needed r c.if-starts-needed.true) refl

pub write_into-requires : goal.write_into-requires
write_into-requires c =
    let a = c.args in
    let i = called a.src a.options a.plane.now a.palette.now a.icc.now a.linked_icc.now in
    let r = room (goal.at.write_into-requires c).Else-too_short in
    let mine = own (goal.at.write_into-requires c).After-tail-profile in
    record { planned = same_plan i c.tail-profile.result.now mine c.in-Ok.plan.layout c.in-Ok.plan.sizes (ready (goal.at.write_into-requires c).In-Ok); profile_written = own_tail i c.tail-profile.result.now mine; bound_in_bounds = r.long }

pub returns : goal.returns
returns c =
    let a = c.args in
    let i = called a.src a.options a.plane.now a.palette.now a.icc.now a.linked_icc.now in
    let t = c.tail-profile.result.now in
    let mine = own (goal.at.returns c).After-tail-profile in
    let r = room (goal.at.returns c).Else-too_short in
    let n = counts (goal.at.returns c).After-tail-profile in
    let w = c.write_into in
    let outcome = starts_left i (length a.out.now) a.offset (length a.starts.now) a.needed r c.if-starts-needed.false in
    let decides = first_of (list_rows a.options.limit i (length a.out.now) a.offset (length a.starts.now) a.needed) in
    record {
      answers = w.ensures.answer ∙ same_answer i t mine ∙ ap (λ (k : Check). encoded_for k i) (sym outcome);
      buffer = w.ensures.buf_after ∙ same_later i t mine a.offset a.out.now ∙ ap (λ (k : Check). later_for k i a.offset a.out.now) (sym outcome);
      list = w.ensures.starts_after ∙ same_noted i t mine a.starts.now ∙ ap (λ (k : Check). noted_for k i a.starts.now) (sym outcome);
      inside = λ q. r.inside;
      accepted = λ q. accepted i (length a.out.now) a.offset (λ n. (c.shared_slice_known-1.given n).fits) (λ n. (c.shared_slice_known-2-1.given n).fits) n.0 n.1
          (list_passed i (length a.out.now) a.offset (length a.starts.now) a.needed q).0;
    }
