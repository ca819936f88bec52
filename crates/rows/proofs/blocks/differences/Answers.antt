use Rattle.rows.proofs.WordCells.{differ}
use Rattle.rows.specs.RleCodes.{is_rle4}
use Rattle.std.proofs.Common.{arith}
use Rattle.rows.proofs.blocks.differences.Goals as goal

pub returns : goal.returns
returns c =
    let a = c.args in
    differ a.row.now a.k (λ i. omega (arith, c.shared_slice_known-1.given i)) (is_rle4 a.rle) c.le64.result c.le64-2.result c.mask.result c.le64.ensures c.le64-2.ensures c.mask.ensures
