use native.Mathlib.Omega.{arith}
use Rattle.planner.proofs.HeadLaws.{v4_written}
use Rattle.planner.proofs.heads.write_v4_fields.Goals as goal

pub returns : goal.returns
returns c =
    let a = c.args in
    let d1 = c.put_dwords in
    let d2 = c.put_number in
    let d3 = c.put_longs in
    let d4 = c.put_dwords-2 in
    v4_written a.buf.now d1.new.buf d2.new.buf d3.new.buf d4.new.buf a.masks a.endpoints a.gamma a.at a.color_space c.well_formed.1.1.0.1.0.1 c.well_formed.1.1.1.1.0.1.0.1 (omega arith) d1.ensures d2.ensures d3.ensures d4.ensures
