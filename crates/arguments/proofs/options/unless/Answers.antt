use Rattle.arguments.specs.Options.{unless}
use Rattle.arguments.proofs.options.unless.Goals as goal

pub returns-then-good : goal.returns-then-good
unfolding unless
returns-then-good c = rw c.if-good.true

pub returns-else-good : goal.returns-else-good
unfolding unless
returns-else-good c = rw c.if-good.false
