use Rattle.std.proofs.Common.{◌+◌, ◌*◌, get_or, ap, ◌∙◌, arith}
use Rattle.leaves.specs.Put.{put}
use Rattle.rows.proofs.PackLaws.{stores3}
use Rattle.rows.proofs.Cells.{exchanged-cell24}
use Rattle.rows.proofs.exchange.exchange_cell.Goals as goal

pub returns : goal.returns
returns c =
    let a = c.args in
    let row = a.src.now in
    let s = a.x * 3 in
    stores3 a.dst.now a.at (get_or row (s + 2) 0) (get_or row (s + 1) 0) (get_or row s 0) (omega arith) ∙ ap (put a.dst.now a.at) (exchanged-cell24 row a.x)
