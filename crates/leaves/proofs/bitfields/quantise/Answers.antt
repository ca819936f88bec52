use Rattle.std.proofs.Common.{arith}
use Rattle.leaves.proofs.Fitting.{narrow, wide}
use Rattle.leaves.proofs.bitfields.quantise.Goals as goal

pub returns-then-n-le8 : goal.returns-then-n-le8
returns-then-n-le8 c = let a = c.args in narrow a.n a.sample (omega arith)

pub returns : goal.returns
returns c = let a = c.args in wide a.n a.sample (omega arith) (omega arith)
