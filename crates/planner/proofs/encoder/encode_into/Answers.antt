use Rattle.planner.specs.Calls.{called}
use Rattle.planner.proofs.CallLaws.{written_alone}
use Rattle.planner.proofs.encoder.encode_into.Goals as goal

pub returns : goal.returns
returns c =
    let a = c.args in
    let w = c.encode_source in
    written_alone (called a.src a.options a.plane.now a.palette.now a.icc.now a.linked_icc.now) a.offset _ a.out.now _ _ _ w.result w.ensures
