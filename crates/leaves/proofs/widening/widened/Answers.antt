use Rattle.std.proofs.Common.{arith}
use Rattle.leaves.proofs.Fitting.{fits_word}
use Rattle.leaves.proofs.widening.widened.Goals as goal

pub bounds-table-n : goal.bounds-table-n
bounds-table-n c = omega (arith, c.requires.widens.count)

pub overflow_cast-result-2 : goal.overflow_cast-result-2
overflow_cast-result-2 c =
    fits_word c.args.n c.args.sample _ (omega arith) (omega arith) (c.requires.widens.entry c.args.n c.args.sample (omega arith) (omega arith) (omega arith))

pub returns : goal.returns
returns c = c.requires.widens.entry c.args.n c.args.sample (omega arith) (omega arith) (omega arith)
