use Rattle.std.proofs.Common.{arith}
use Rattle.rows.specs.RleCodes.{is_rle4, depth_of}
use Rattle.rows.proofs.RleBlocks.{depth_le, row_short}
use Rattle.examples.proofs.encode.Goals as goal

pub encode_rle_row-requires : goal.encode_rle_row-requires
encode_rle_row-requires c = let a = c.args in let four = is_rle4 a.rle in omega (arith, row_short (depth_of four) (depth_le four) a.row.now)

pub returns : goal.returns
returns c = let a = c.args in let four = is_rle4 a.rle in omega (arith, row_short (depth_of four) (depth_le four) a.row.now)
