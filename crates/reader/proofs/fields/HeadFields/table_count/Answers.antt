use mathlib.Core.Path.{◌∙◌}
use Rattle.format.specs.Readers.{table_count}
use borrow.Author.Tests.{le-leb, lt-leb, ne_eqb}
use Rattle.reader.proofs.fields.HeadFields.table_count.Goals as goal

pub returns-then-self-gt8 : goal.returns-then-self-gt8
unfolding table_count
returns-then-self-gt8 c = rw (lt-leb c.args.self.depth 8 c.if-self-gt8.true)

pub returns-then-self-eq0 : goal.returns-then-self-eq0
unfolding table_count
returns-then-self-eq0 c = rw (le-leb c.args.self.depth 8 c.if-self-gt8.false, c.if-self-eq0.true) (c.full_table.ensures ∙ rw (le-leb c.args.self.depth 8 c.if-self-gt8.false))

pub returns : goal.returns
unfolding table_count
returns c = rw (le-leb c.args.self.depth 8 c.if-self-gt8.false, ne_eqb c.args.self.colours 0 c.if-self-eq0.false)
