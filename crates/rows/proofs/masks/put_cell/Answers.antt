use Rattle.std.proofs.Common.{◌∙◌, take, ap, arith, length-take-le}
use Rattle.leaves.specs.Bytes.{le32, length-le32}
use Rattle.leaves.proofs.ListLaws.{le32_bytes}
use Rattle.leaves.proofs.Puts.{part_put}
use Rattle.rows.proofs.masks.put_cell.Goals as goal

pub returns : goal.returns
returns g c =
    let a = c.args in
    let k = g.row.BYTES in
    part_put a.dst.now _ (take k (le32 a.word)) a.at k (c.copy_from_slice.ensures.after ∙ ap (take k) (c.to_le_bytes.ensures ∙ le32_bytes a.word))
    (length-take-le k (le32 a.word) (omega (arith, length-le32 a.word)))
