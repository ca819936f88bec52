use Rattle.std.proofs.Common.{refl}
use Rattle.leaves.specs.Fit.{fit}
use Rattle.leaves.proofs.TableRule.{widens}
use Rattle.leaves.proofs.widening.widening_table.Goals as goal

pub returns : goal.returns
unfolding fit
returns c = widens _ refl tt
