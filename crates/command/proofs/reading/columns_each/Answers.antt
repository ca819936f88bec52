use borrow.Author.Tests.{le-leb, lt-leb}
use Rattle.command.proofs.reading.columns_each.Goals as goal

pub returns-then-depth-le8 : goal.returns-then-depth-le8
returns-then-depth-le8 c = rw (le-leb c.args.depth 8 c.if-depth-le8.true)

pub returns-else-depth-le8 : goal.returns-else-depth-le8
returns-else-depth-le8 c = rw (lt-leb c.args.depth 8 c.if-depth-le8.false)
