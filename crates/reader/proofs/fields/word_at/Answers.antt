use Rattle.format.specs.Readers.{word_at}
use native.Mathlib.Omega.{arith}
use Rattle.reader.proofs.fields.word_at.Goals as goal

pub returns : goal.returns
unfolding word_at
returns c = (rw (c.byte_at.ensures.0, c.byte_at-2.ensures.0), omega (arith, c.byte_at.ensures.1, c.byte_at-2.ensures.1))
