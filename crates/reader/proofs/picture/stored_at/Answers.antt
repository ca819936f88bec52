use native.Mathlib.Omega.{arith}
use Rattle.reader.proofs.picture.stored_at.Goals as goal

pub returns-then-top_first : goal.returns-then-top_first
returns-then-top_first c = (rw c.if-top_first.true, c.requires)

pub returns : goal.returns
returns c = (rw c.if-top_first.false, omega arith)
