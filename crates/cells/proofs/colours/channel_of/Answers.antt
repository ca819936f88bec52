use Rattle.leaves.proofs.Runs.{ends_within}
use borrow.Author.Tests.{ne_eqb}
use native.Mathlib.Omega.{arith}
use Rattle.cells.proofs.colours.channel_of.Goals as goal

pub returns-then-mask-eq0 : goal.returns-then-mask-eq0
returns-then-mask-eq0 c = (rw c.if-mask-eq0.true, omega arith)

pub returns : goal.returns
returns c = (rw (ne_eqb c.args.mask 0 c.if-mask-eq0.false), omega (arith, ends_within c.args.mask (omega (arith, c.if-mask-eq0.false)) c.ranges.mask.fits))
