use borrow.Author.Tests.{ne_eqb, eq-eqb}
use Prim.Native.Nat.{◌+◌, ◌%◌}
use Rattle.sheets.specs.SheetTexts.{mark_behind}
use Rattle.sheets.proofs.write.mark_behind.Goals as goal

pub returns-then-k-width-eq0 : goal.returns-then-k-width-eq0
unfolding mark_behind
returns-then-k-width-eq0 c = let a = c.args in rw (eq-eqb ((a.k + 1) % a.width) 0 c.if-k-width-eq0.true)

pub returns-else-k-width-eq0 : goal.returns-else-k-width-eq0
unfolding mark_behind
returns-else-k-width-eq0 c = let a = c.args in rw (ne_eqb ((a.k + 1) % a.width) 0 c.if-k-width-eq0.false)
