use Rattle.cells.proofs.CellLaws.{two_bytes, four_bytes}
use borrow.Author.Tests.{ne_eqb}
use native.Mathlib.Omega.{arith}
use Rattle.cells.proofs.colours.cell_word.Goals as goal

pub word-requires : goal.word-requires
word-requires c = omega (arith, two_bytes c.args.depth c.requires.known_depth)

pub returns-then-depth-eq16 : goal.returns-then-depth-eq16
returns-then-depth-eq16 c = rw c.if-depth-eq16.true c.word.ensures.0

pub dword-requires : goal.dword-requires
dword-requires c = omega (arith, four_bytes c.args.depth c.requires.known_depth c.if-depth-eq16.false)

pub returns : goal.returns
returns c = rw (ne_eqb c.args.depth 16 c.if-depth-eq16.false) c.dword.ensures
