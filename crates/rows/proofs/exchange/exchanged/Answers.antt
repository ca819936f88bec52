use Rattle.std.proofs.Common.{arith}
use Rattle.rows.proofs.Cells.{exchange_word}
use Rattle.rows.proofs.exchange.exchanged.Goals as goal

pub returns : goal.returns
returns c = exchange_word c.args.word (omega arith)
