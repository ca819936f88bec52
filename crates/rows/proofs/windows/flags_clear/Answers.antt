use lib.Count.{trailing_le}
use Rattle.rows.proofs.ShownBlocks.{clear_law}
use Rattle.rows.proofs.windows.flags_clear.Goals as goal

pub returns : goal.returns
returns c = (λ f h. clear_law c.args.e f h, trailing_le 64 c.args.e)
