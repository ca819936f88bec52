use Rattle.format.specs.Readers.{dword_at}
use native.Mathlib.Omega.{arith}
use Rattle.cells.proofs.colours.dword.Goals as goal

pub overflow_mul-result : goal.overflow_mul-result
overflow_mul-result c = omega (arith, c.word-2.ensures.1)

pub overflow_add-result : goal.overflow_add-result
overflow_add-result c = omega (arith, c.word.ensures.1, c.word-2.ensures.1)

pub returns : goal.returns
unfolding dword_at
returns c = rw (c.word.ensures.0, c.word-2.ensures.0)
