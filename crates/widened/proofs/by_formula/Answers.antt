use Rattle.std.proofs.Common.{arith}
use Rattle.leaves.proofs.Fitting.{middle}
use Rattle.widened.proofs.by_formula.Goals as goal

pub returns : goal.returns
returns c = let a = c.args in middle a.n a.sample (omega arith) (omega arith) (omega arith)
