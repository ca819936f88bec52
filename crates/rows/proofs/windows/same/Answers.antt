use Rattle.std.proofs.Common.{sym, ap, eq-eqb, ne_eqb}
use Rattle.rows.specs.Windows.{bit}
use Rattle.rows.proofs.windows.same.Goals as goal

pub returns-then-a-b : goal.returns-then-a-b
returns-then-a-b c = sym (ap bit (eq-eqb c.args.a c.args.b c.if-a-b.true))

pub returns-else-a-b : goal.returns-else-a-b
returns-else-a-b c = sym (ap bit (ne_eqb c.args.a c.args.b c.if-a-b.false))
