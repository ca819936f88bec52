use Rattle.std.proofs.Common.{◌+◌, ◌-◌, length, refl, arith}
use Rattle.rows.proofs.PackLaws.{put-padded}
use Rattle.rows.proofs.pack.copy_row.Goals as goal

pub returns : goal.returns
returns c =
    let a = c.args in
    put-padded a.dst.now _ _ a.src.now a.at (a.at + length a.src.now) (a.stored - length a.src.now) a.stored
    c.put_slice.ensures c.put_zeros.ensures refl refl (omega arith)
