use borrow.Author.Tests.{ne_eqb}
use Rattle.reader.proofs.checks.masks_end.Goals as goal

pub returns-then-compression-eq-BI_ALPHABITFIELDS : goal.returns-then-compression-eq-BI_ALPHABITFIELDS
returns-then-compression-eq-BI_ALPHABITFIELDS c = rw c.if-compression-eq-BI_ALPHABITFIELDS.true

pub returns : goal.returns
returns c = rw (ne_eqb c.args.compression 6 c.if-compression-eq-BI_ALPHABITFIELDS.false)
