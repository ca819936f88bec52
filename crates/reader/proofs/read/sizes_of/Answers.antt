use Rattle.std.proofs.Common.{rules}
use Rattle.reader.proofs.Calls.{few_each}
use Rattle.reader.proofs.Calls.{sizes_refused, sizes_told, product_small, opened_at}
use Rattle.reader.specs.Fields.{fields_in}
use mathlib.Core.Path.{sym}
use native.Mathlib.Omega.{arith}
use Rattle.reader.proofs.read.sizes_of.Goals as goal

pub returns-in_err-check_open : goal.returns-in_err-check_open
returns-in_err-check_open c = sizes_refused c.args.file.now c.in_err-check_open.field-0.0 c.from_residual.result (search rules) c.in_err-check_open.ensures

pub overflow_mul-result-2 : goal.overflow_mul-result-2
overflow_mul-result-2 c = let a = c.args in let t = fields_in a.t in omega (arith, product_small t c.shown_height-height.result 4 (opened_at a.file.now t (λ k. (c.shared_slice_known-1.given k).fits) c.requires (sym c.in_ok-check_open.ensures)).head.sound c.shown_height-height.ensures (omega arith))

pub overflow_mul-result-3 : goal.overflow_mul-result-3
overflow_mul-result-3 c = let a = c.args in let t = fields_in a.t in omega (arith, product_small t c.shown_height-height.result c.numbers_each.result (opened_at a.file.now t (λ k. (c.shared_slice_known-1.given k).fits) c.requires (sym c.in_ok-check_open.ensures)).head.sound c.shown_height-height.ensures (few_each a.t.depth c.numbers_each.ensures))

pub returns : goal.returns
returns c = let a = c.args in let t = fields_in a.t in sizes_told a.file.now t _ _ _ c.requires c.in_ok-check_open.ensures c.shown_height-height.ensures c.table_count.ensures c.numbers_each.ensures
