use Rattle.std.proofs.Common.{refl}
use Rattle.rows.proofs.Charges.{charge_law}
use Rattle.rows.proofs.windows.charges.Goals as goal

pub returns : goal.returns
returns c = charge_law c.args.e _ refl
