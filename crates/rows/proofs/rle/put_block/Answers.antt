use Rattle.std.proofs.Common.{length, drop, arith, length-set}
use Rattle.rows.specs.RleCodes.{is_rle4, depth_of, cells}
use Rattle.rows.proofs.RleBlocks.{depth_le}
use Rattle.rows.proofs.RleBytes.{pair_asks, absolute_asks, pair_stored, absolute_stored}
use Rattle.rows.proofs.rle.put_block.Goals as goal

pub overflow_cast-buf : goal.overflow_cast-buf
overflow_cast-buf c =
    let a = c.args in
    let k = pair_asks (depth_of (is_rle4 a.rle)) (depth_le (is_rle4 a.rle)) a.row.now a.i c.requires.0 a.b c.requires.1 a.at (length a.buf.now) c.requires.2 c.in-Pair.n c.in-Pair.v c.in-Pair.w c.in-Pair.is in
    omega arith

pub pair_byte-requires : goal.pair_byte-requires
pair_byte-requires c =
    let a = c.args in
    let k = pair_asks (depth_of (is_rle4 a.rle)) (depth_le (is_rle4 a.rle)) a.row.now a.i c.requires.0 a.b c.requires.1 a.at (length a.buf.now) c.requires.2 c.in-Pair.n c.in-Pair.v c.in-Pair.w c.in-Pair.is in
    k.2

pub overflow_cast-buf-in-Absolute : goal.overflow_cast-buf-in-Absolute
overflow_cast-buf-in-Absolute c =
    let a = c.args in
    let k = absolute_asks (depth_of (is_rle4 a.rle)) (depth_le (is_rle4 a.rle)) a.row.now a.i c.requires.0 a.b c.requires.1 a.at (length a.buf.now) c.requires.2 c.in-Absolute.n c.in-Absolute.is in
    omega arith

pub put_data-requires : goal.put_data-requires
put_data-requires c =
    let a = c.args in
    let k = absolute_asks (depth_of (is_rle4 a.rle)) (depth_le (is_rle4 a.rle)) a.row.now a.i c.requires.0 a.b c.requires.1 a.at (length a.buf.now) c.requires.2 c.in-Absolute.n c.in-Absolute.is in
    simp length-set (omega arith)

pub returns-in-Pair : goal.returns-in-Pair
returns-in-Pair c =
    let a = c.args in
    let k = pair_asks (depth_of (is_rle4 a.rle)) (depth_le (is_rle4 a.rle)) a.row.now a.i c.requires.0 a.b c.requires.1 a.at (length a.buf.now) c.requires.2 c.in-Pair.n c.in-Pair.v c.in-Pair.w c.in-Pair.is in
    pair_stored (depth_of (is_rle4 a.rle)) a.b (drop a.i (cells (depth_of (is_rle4 a.rle)) a.row.now)) a.buf.now a.at c.in-Pair.n k.1 c.in-Pair.v c.in-Pair.w c.pair_byte.result c.in-Pair.is c.pair_byte.ensures

pub returns-in-Absolute : goal.returns-in-Absolute
returns-in-Absolute c =
    let a = c.args in
    let k = absolute_asks (depth_of (is_rle4 a.rle)) (depth_le (is_rle4 a.rle)) a.row.now a.i c.requires.0 a.b c.requires.1 a.at (length a.buf.now) c.requires.2 c.in-Absolute.n c.in-Absolute.is in
    let p = c.put_data in
    absolute_stored (depth_of (is_rle4 a.rle)) a.b (drop a.i (cells (depth_of (is_rle4 a.rle)) a.row.now)) a.buf.now a.at c.in-Absolute.n (omega arith) p.result p.new.buf c.in-Absolute.is p.ensures.0 p.ensures.1
