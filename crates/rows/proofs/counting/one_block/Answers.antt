use Rattle.rows.specs.RleCodes.{is_rle4, depth_of}
use Rattle.rows.proofs.RleBlocks.{depth_le}
use Rattle.rows.proofs.RleBlocks as Codes
use Rattle.std.proofs.Common.{arith}
use Rattle.rows.proofs.counting.one_block.Goals as goal

pub len-bytes-requires : goal.len-bytes-requires
len-bytes-requires c =
    let a = c.args in
    (Codes.sound_at (depth_of (is_rle4 a.rle)) (depth_le (is_rle4 a.rle)) a.row.now a.at (omega arith) _ c.block_from-b.ensures).most

pub returns : goal.returns
returns c =
    let a = c.args in
    let t = Codes.turn (depth_of (is_rle4 a.rle)) (depth_le (is_rle4 a.rle)) a.row.now a.at (omega arith) _ c.block_from-b.ensures _ _ c.width-cells.ensures c.len-bytes.ensures in
    (t.some, t.within, t.split)
