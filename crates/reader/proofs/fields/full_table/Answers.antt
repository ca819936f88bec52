use lib.Pow.{pow_mono}
use borrow.Author.Tests.{le-leb, lt-leb}
use native.Mathlib.Omega.{arith}
use Rattle.reader.proofs.fields.full_table.Goals as goal

pub returns-then-depth-gt8 : goal.returns-then-depth-gt8
returns-then-depth-gt8 c = rw (lt-leb c.args.depth 8 c.if-depth-gt8.true)

pub returns : goal.returns
returns c = rw (le-leb c.args.depth 8 c.if-depth-gt8.false) (omega (arith, pow_mono {j = 8} c.if-depth-gt8.false))
