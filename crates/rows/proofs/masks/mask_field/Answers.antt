use Rattle.std.proofs.Common.{arith}
use Rattle.rows.proofs.MaskCells.{field_is}
use Rattle.rows.proofs.masks.mask_field.Goals as goal

pub returns : goal.returns
returns c =
    let a = c.args in
    field_is a.channel a.sample c.quantise.result c.quantise.ensures (omega arith) (omega arith)
