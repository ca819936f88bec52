use Rattle.planner.specs.Calls.{called}
use Rattle.planner.proofs.CallLaws.{written_with_starts}
use Rattle.planner.proofs.encoder.encode_with_starts.Goals as goal

pub returns : goal.returns
returns c =
    let a = c.args in
    let w = c.encode_source in
    written_with_starts (called a.src a.options a.plane.now a.palette.now a.icc.now a.linked_icc.now) a.offset a.out.now _ a.starts.now _ w.result w.ensures
