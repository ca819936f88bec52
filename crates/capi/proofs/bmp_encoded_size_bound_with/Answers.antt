use Rattle.capi.proofs.InterfaceLaws.{bound_known, bound_unknown}
use Rattle.capi.specs.Interface.{format_at}
use Rattle.capi.proofs.bmp_encoded_size_bound_with.Goals as goal

pub returns-in_default : goal.returns-in_default
returns-in_default c =
    let a = c.args in
    let l = format_at a.source.format in
    bound_unknown l a.source a.options a.settings a.plane.now a.palette.now a.icc.now a.linked_icc.now c.refused.result c.in_default.ensures c.refused.ensures

pub returns : goal.returns
returns c =
    let a = c.args in
    let l = format_at a.source.format in
    let e = c.encoded_size_bound-answer in
    bound_known l c.in-Some.format a.source a.options a.settings a.plane.now a.palette.now a.icc.now a.linked_icc.now c.source_of-src.result c.options_of-chosen.result (c.in-Some.ensures) c.source_of-src.ensures c.options_of-chosen.ensures
    e.result c.bound_answer.result e.ensures c.bound_answer.ensures
