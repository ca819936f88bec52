use Rattle.cells.proofs.CellLaws.{bits_left, table_depth, one_shifted, packed_is, bits_small}
use lib.Pow.{pow_pos}
use Rattle.cells.proofs.CellLaws.{bits_left, table_depth, one_shifted, packed_is}
use native.Mathlib.Omega.{arith}
use Rattle.cells.proofs.indices.packed_index.Goals as goal

pub overflow_mul-bit : goal.overflow_mul-bit
overflow_mul-bit c = omega (arith, bits_small c.args.depth c.args.x c.requires.table_depth c.requires.x_bound)

pub overflow_sub-result : goal.overflow_sub-result
overflow_sub-result c = table_depth c.args.depth c.requires.table_depth

pub overflow_sub-result-2 : goal.overflow_sub-result-2
overflow_sub-result-2 c = bits_left c.args.depth c.args.x c.requires.table_depth

pub overflow_shl-result : goal.overflow_shl-result
overflow_shl-result c = omega (arith, table_depth c.args.depth c.requires.table_depth)

pub overflow_sub-result-3 : goal.overflow_sub-result-3
overflow_sub-result-3 c = rw (one_shifted c.args.depth (table_depth c.args.depth c.requires.table_depth)) (pow_pos c.args.depth)

pub returns : goal.returns
returns c = rw c.byte.ensures.0 (packed_is c.args.file.now c.args.from c.args.depth c.args.x c.requires.table_depth)
