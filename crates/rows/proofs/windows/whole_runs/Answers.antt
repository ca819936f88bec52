use Rattle.std.proofs.Common.{arith}
use Rattle.rows.proofs.Charges.{whole_law, last_law}
use Rattle.rows.proofs.windows.whole_runs.Goals as goal

pub returns : goal.returns
returns c = (whole_law c.args.e, omega arith, last_law c.args.e)
