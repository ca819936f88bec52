use Rattle.rows.proofs.FlagBytes.{low_law}
use Rattle.rows.proofs.windows.low_bits.Goals as goal

pub returns : goal.returns
returns c = low_law c.args.w
