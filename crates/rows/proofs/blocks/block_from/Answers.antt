use Rattle.std.proofs.Common.{◌+◌, ◌≤◌, length, arith, drop_of_length-le}
use Rattle.rows.specs.RleCodes.{is_rle4, depth_of, cells}
use Rattle.rows.proofs.Scans.{length-cells}
use Rattle.rows.proofs.RleBlocks as Codes
use Rattle.rows.proofs.blocks.block_from.Goals as goal

pub returns-else-at-row : goal.returns-else-at-row
returns-else-at-row c =
    let xs = cells (depth_of (is_rle4 c.args.rle)) c.args.row.now in
    let e : length xs ≤ c.args.at + 1 = omega (arith, length-cells (depth_of (is_rle4 c.args.rle)) c.args.row.now) in
    Codes.block_single xs c.args.at _ _ c.requires.2 c.requires.1 _ c.gather-gathered.ensures
    c.if-run-gt1.false _ (rw (drop_of_length-le xs e)) c.if-gathered-gt2.false
