use Rattle.std.proofs.Common.{arith}
use Rattle.rows.proofs.Exchanges.{masked_byte}
use Rattle.rows.proofs.exchange.exchanged_byte.Goals as goal

pub returns : goal.returns
returns c =
    let a = c.args in
    masked_byte a.j a.after a.here a.before c.place_mask.result c.place_mask-2.result c.place_mask-3.result
    c.place_mask.ensures c.place_mask-2.ensures c.place_mask-3.ensures (omega arith) (omega arith) (omega arith)
