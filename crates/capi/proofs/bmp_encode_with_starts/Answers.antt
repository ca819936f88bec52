use Rattle.capi.proofs.InterfaceLaws.{starts_known, starts_unknown}
use Rattle.capi.specs.Interface.{format_at}
use Rattle.capi.proofs.bmp_encode_with_starts.Goals as goal

pub returns-in_default : goal.returns-in_default
returns-in_default c =
    let a = c.args in
    let l = format_at a.source.format in
    starts_unknown l a.source a.options a.settings a.plane.now a.palette.now a.icc.now a.linked_icc.now a.offset a.out.now a.starts.now c.refused.result c.in_default.ensures c.refused.ensures

pub returns : goal.returns
returns c =
    let a = c.args in
    let l = format_at a.source.format in
    let e = c.encode_with_starts-answer in
    starts_known l c.in-Some.format a.source a.options a.settings a.plane.now a.palette.now a.icc.now a.linked_icc.now c.source_of-src.result c.options_of-chosen.result (c.in-Some.ensures) c.source_of-src.ensures c.options_of-chosen.ensures
    a.offset a.out.now e.new.out a.starts.now e.new.starts e.result c.encode_answer.result e.ensures c.encode_answer.ensures
