use borrow.Author.Tests.{lt-ltb, le-ltb}
use Rattle.planner.proofs.encoder.too_short.Goals as goal

pub returns-then-room-offset : goal.returns-then-room-offset
returns-then-room-offset c = rw (lt-ltb c.args.room c.args.offset c.if-room-offset.true)

pub returns-else-room-offset : goal.returns-else-room-offset
returns-else-room-offset c = rw (le-ltb c.args.room c.args.offset c.if-room-offset.false)
