use Rattle.std.proofs.Common.{length, ap, zero-add, arith}
use Rattle.rows.proofs.RleBlocks.{depth_le}
use Rattle.rows.proofs.RleBlocks as Codes
use Rattle.rows.specs.RleCodes.{is_rle4, depth_of, row_codes}
use Rattle.rows.proofs.counting.rle_row_len.Goals as goal

pub loop-at-init : goal.loop-at-init
unfolding row_codes
loop-at-init c =
    (omega arith, zero-add _)

pub overflow_add-len : goal.overflow_add-len
overflow_add-len c =
    let a = c.args in
    omega (arith, Codes.row_short (depth_of (is_rle4 a.rle)) (depth_le (is_rle4 a.rle)) a.row.now, c.blocks_at-blocks.ensures.2)

pub returns : goal.returns
returns c =
    let a = c.args in
    let h = Codes.row_short (depth_of (is_rle4 a.rle)) (depth_le (is_rle4 a.rle)) a.row.now in
    let e = ap length (Codes.codes_none (depth_of (is_rle4 a.rle)) a.row.now c.loop-at.at c.loop-at-test.false) in
    omega arith
