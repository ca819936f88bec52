use native.Mathlib.Omega.{arith}
use Rattle.planner.proofs.HeadLaws.{first-dwords}
use Rattle.planner.proofs.heads.write_first_fields.Goals as goal

pub returns : goal.returns
returns c =
    let a = c.args in
    first-dwords a.buf.now c.put_number.new.buf c.put_dwords.new.buf a.at a.h (omega arith) (omega arith) c.put_number.ensures c.put_dwords.ensures
