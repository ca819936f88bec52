use Rattle.std.proofs.Common.{◌-◌}
use lib.Count.{trailing_le}
use Rattle.rows.proofs.ShownBlocks.{set_law}
use Rattle.rows.proofs.windows.flags_set.Goals as goal

pub returns : goal.returns
returns c = (λ f h. set_law c.args.e f h, trailing_le 64 (18446744073709551615 - c.args.e))
