use Rattle.std.proofs.Common.{rules}
use Rattle.reader.proofs.Calls.{long_enough, part_fits, cells_fit}
use Rattle.reader.proofs.Calls.{long_enough, part_fits}
use Rattle.reader.specs.Answers.{SizesAnswer, sizes_answered}
use lib.Dec.{ltb}
use mathlib.Core.Bool.{◌||◌}
use Rattle.reader.proofs.Calls.{number_short, number_fails, sizes_open, table_inside, read_refused, read_stopped, read_done}
use Rattle.reader.specs.Fields.{fields_in}
use lib.ListN.{length}
use Prim.Native.Nat.{◌+◌, ◌-◌}
use mathlib.Core.Path.{refl, sym, ap, ◌∙◌}
use Rattle.std.specs.Prelude.{Ok}
use native.Mathlib.Omega.{arith}
use Rattle.reader.proofs.read.read.Goals as goal

pub returns-in_err-sizes : goal.returns-in_err-sizes
returns-in_err-sizes c =
    let a = c.args in
    read_stopped a.file.now a.head.now a.table.now a.cells.now c.in_err-sizes.field-0.0 c.from_residual.result (search rules) c.in_err-sizes.ensures

pub returns-then-head-head_bytes : goal.returns-then-head-head_bytes
returns-then-head-head_bytes c = let a = c.args in let f = a.file.now in let o = sizes_open f (sizes_answered (Ok c.in_ok-sizes.sizes)) c.in_ok-sizes.ensures refl in read_refused f a.head.now a.table.now a.cells.now 15 _ (number_short f (length a.head.now) (length a.table.now) (length a.cells.now) o.never o.outside (ap (λ (k : SizesAnswer). ltb (length a.head.now) k.head_bytes || ltb (length a.table.now) k.table_bytes || ltb (length a.cells.now) k.cell_numbers) (sym o.sizes) ∙ c.if-head-head_bytes.true)) (λ z. omega arith) refl

pub fails-requires : goal.fails-requires
fails-requires c = let a = c.args in let f = a.file.now in let o = sizes_open f (sizes_answered (Ok c.in_ok-sizes.sizes)) c.in_ok-sizes.ensures refl in record { fields_read = c.fields_of-t.ensures; not_17 = o.never; not_18 = o.outside }

pub returns-then-fails : goal.returns-then-fails
returns-then-fails c = let a = c.args in let f = a.file.now in let o = sizes_open f (sizes_answered (Ok c.in_ok-sizes.sizes)) c.in_ok-sizes.ensures refl in read_refused f a.head.now a.table.now a.cells.now 19 _ (number_fails f (length a.head.now) (length a.table.now) (length a.cells.now) o.never o.outside (ap (λ (k : SizesAnswer). ltb (length a.head.now) k.head_bytes || ltb (length a.table.now) k.table_bytes || ltb (length a.cells.now) k.cell_numbers) (sym o.sizes) ∙ c.if-head-head_bytes.false) (sym c.fails.ensures ∙ c.if-fails.true)) (λ z. omega arith) refl

pub slice_bounds-put_slice-end : goal.slice_bounds-put_slice-end
slice_bounds-put_slice-end c = let a = c.args in let f = a.file.now in let o = sizes_open f (sizes_answered (Ok c.in_ok-sizes.sizes)) c.in_ok-sizes.ensures refl in omega (arith, table_inside f o.outside, (ap (λ (k : SizesAnswer). k.head_bytes) o.sizes))

pub put_slice-requires : goal.put_slice-requires
put_slice-requires c = let a = c.args in let f = a.file.now in let o = sizes_open f (sizes_answered (Ok c.in_ok-sizes.sizes)) c.in_ok-sizes.ensures refl in part_fits (c.in_ok-sizes.sizes.head_bytes - 0) 0 (length a.head.now) f (omega (arith, (long_enough (length a.head.now) (length a.table.now) (length a.cells.now) (sizes_answered (Ok c.in_ok-sizes.sizes)) c.if-head-head_bytes.false).0))

pub overflow_add-table_end : goal.overflow_add-table_end
overflow_add-table_end c = let a = c.args in let f = a.file.now in let o = sizes_open f (sizes_answered (Ok c.in_ok-sizes.sizes)) c.in_ok-sizes.ensures refl in omega (arith, table_inside f o.outside, (ap (λ (k : SizesAnswer). k.head_bytes) o.sizes), (ap (λ (k : SizesAnswer). k.table_bytes) o.sizes), c.well_formed)

pub slice_bounds-put_slice-start-2 : goal.slice_bounds-put_slice-start-2
slice_bounds-put_slice-start-2 c = let a = c.args in let f = a.file.now in let o = sizes_open f (sizes_answered (Ok c.in_ok-sizes.sizes)) c.in_ok-sizes.ensures refl in omega (arith, table_inside f o.outside, (ap (λ (k : SizesAnswer). k.head_bytes) o.sizes), (ap (λ (k : SizesAnswer). k.table_bytes) o.sizes))

pub slice_bounds-put_slice-end-2 : goal.slice_bounds-put_slice-end-2
slice_bounds-put_slice-end-2 c = let a = c.args in let f = a.file.now in let o = sizes_open f (sizes_answered (Ok c.in_ok-sizes.sizes)) c.in_ok-sizes.ensures refl in omega (arith, table_inside f o.outside, (ap (λ (k : SizesAnswer). k.head_bytes) o.sizes), (ap (λ (k : SizesAnswer). k.table_bytes) o.sizes))

pub put_slice-requires-2 : goal.put_slice-requires-2
put_slice-requires-2 c = let a = c.args in let f = a.file.now in let o = sizes_open f (sizes_answered (Ok c.in_ok-sizes.sizes)) c.in_ok-sizes.ensures refl in part_fits (c.in_ok-sizes.sizes.head_bytes + c.in_ok-sizes.sizes.table_bytes - c.in_ok-sizes.sizes.head_bytes) c.in_ok-sizes.sizes.head_bytes (length a.table.now) f (omega (arith, (long_enough (length a.head.now) (length a.table.now) (length a.cells.now) (sizes_answered (Ok c.in_ok-sizes.sizes)) c.if-head-head_bytes.false).1))

pub fill_cells-requires : goal.fill_cells-requires
fill_cells-requires c = let a = c.args in let f = a.file.now in let o = sizes_open f (sizes_answered (Ok c.in_ok-sizes.sizes)) c.in_ok-sizes.ensures refl in record { fields_read = c.fields_of-t.ensures; not_17 = o.never; not_18 = o.outside; not_19 = sym c.fails.ensures ∙ c.if-fails.false; t_in_bounds = cells_fit f (fields_in c.fields_of-t.result) (sizes_answered (Ok c.in_ok-sizes.sizes)) (length a.cells.now) c.fields_of-t.ensures o.sizes (long_enough (length a.head.now) (length a.table.now) (length a.cells.now) (sizes_answered (Ok c.in_ok-sizes.sizes)) c.if-head-head_bytes.false).2 }

pub profile_bytes-profile-requires : goal.profile_bytes-profile-requires
profile_bytes-profile-requires c = c.fields_of-t.ensures

pub profile_at-requires : goal.profile_at-requires
profile_at-requires c = c.profile_bytes-profile.ensures

pub returns : goal.returns
returns c = let a = c.args in let f = a.file.now in let o = sizes_open f (sizes_answered (Ok c.in_ok-sizes.sizes)) c.in_ok-sizes.ensures refl in read_done f a.head.now a.table.now a.cells.now (λ k. (c.shared_slice_known-1.given k).fits) (sizes_answered (Ok c.in_ok-sizes.sizes)) _ _ _ _ _ o c.if-head-head_bytes.false (sym c.fails.ensures ∙ c.if-fails.false) c.put_slice.ensures c.put_slice-2.ensures c.fill_cells.ensures c.profile_at.ensures.0 c.profile_bytes-profile.ensures
