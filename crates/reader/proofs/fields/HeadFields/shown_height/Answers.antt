use borrow.Author.Tests.{le-leb, lt-leb}
use native.Mathlib.Omega.{arith}
use Rattle.reader.proofs.fields.HeadFields.shown_height.Goals as goal

pub returns-then-self-ge2147483648 : goal.returns-then-self-ge2147483648
returns-then-self-ge2147483648 c = rw (le-leb 2147483648 c.args.self.height c.if-self-ge2147483648.true) (omega arith)

pub returns : goal.returns
returns c = rw (lt-leb 2147483648 c.args.self.height c.if-self-ge2147483648.false)
