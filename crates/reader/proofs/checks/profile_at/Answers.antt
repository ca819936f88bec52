use Rattle.reader.specs.Numbers.{profile_at_of}
use borrow.Author.Tests.{ne_eqb}
use native.Mathlib.Omega.{arith}
use Rattle.reader.proofs.checks.profile_at.Goals as goal

pub returns-then-bytes-eq0 : goal.returns-then-bytes-eq0
unfolding profile_at_of
returns-then-bytes-eq0 c = (rw (← c.requires, c.if-bytes-eq0.true), omega arith)

pub returns : goal.returns
unfolding profile_at_of
returns c = (rw (← c.requires, ne_eqb c.args.bytes 0 c.if-bytes-eq0.false, c.dword_at.ensures), omega arith)
