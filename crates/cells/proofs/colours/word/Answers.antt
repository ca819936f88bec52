use Rattle.format.specs.Readers.{word_at}
use native.Mathlib.Omega.{arith}
use Rattle.cells.proofs.colours.word.Goals as goal

pub overflow_mul-result : goal.overflow_mul-result
overflow_mul-result c = omega (arith, c.byte-2.ensures.1)

pub overflow_add-result : goal.overflow_add-result
overflow_add-result c = omega (arith, c.byte.ensures.1, c.byte-2.ensures.1)

pub returns : goal.returns
unfolding word_at
returns c = (rw (c.byte.ensures.0, c.byte-2.ensures.0), omega (arith, c.byte.ensures.1, c.byte-2.ensures.1))
