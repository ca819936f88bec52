use Rattle.command.specs.SheetReads.{room_for}
use Rattle.command.proofs.ReadLaws.{room_enough, line_small, numbered, number_short, number_refused, no_room, room_of, out_refused, out_done}
use lib.ListN.{length}
use Prim.Native.Nat.{◌*◌, ◌≤◌}
use mathlib.Core.Path.{refl, ap}
use Rattle.std.specs.Prelude.{Ok, Err}
use Rattle.reader.specs.Answers.{answered}
use Rattle.reader.specs.Refusals.{number_of}
use Rattle.reader.proofs.Calls.{number_some}
use native.Mathlib.Omega.{arith}
use Rattle.command.proofs.reading.sheet_out.Goals as goal

pub returns-in-Err : goal.returns-in-Err
returns-in-Err c =
    let a = c.args in
    let r = answered (Err c.in-Err.why) in
    let z = number_some c.in-Err.why in
    let said = c.refused.ensures in
    out_refused a.file.now a.head.now a.table.now a.cells.now _ _ _ r c.in-Err.ensures (number_of c.in-Err.why) 0 (number_refused a.file.now a.head.now a.table.now a.cells.now _ _ _ r c.in-Err.ensures (length a.out.now) z) z (no_room a.file.now a.head.now a.table.now a.cells.now _ _ _ r c.in-Err.ensures z) (rw c.number.ensures at said.0) (rw c.number.ensures at said.1)

pub overflow_mul-line : goal.overflow_mul-line
overflow_mul-line c = let a = c.args in let r = answered (Ok c.in-Ok.reading) in let p = c.in-Ok.ensures in omega (arith, line_small r.width r.depth c.columns_each.ensures (omega arith))

pub overflow_mul-count : goal.overflow_mul-count
overflow_mul-count c = let a = c.args in let r = answered (Ok c.in-Ok.reading) in let p = c.in-Ok.ensures in omega (arith, (numbered a.file.now a.head.now a.table.now a.cells.now _ _ _ r p (λ k. (c.shared_slice_known-1.given k).fits) refl c.columns_each.result c.columns_each.ensures).fits, c.well_formed)

pub returns-then-out-bound : goal.returns-then-out-bound
returns-then-out-bound c = let a = c.args in let r = answered (Ok c.in-Ok.reading) in let p = c.in-Ok.ensures in let b = room_of a.file.now a.head.now a.table.now a.cells.now _ _ _ r p c.columns_each.result c.columns_each.ensures c.room_for-bound.result c.room_for-bound.ensures in out_refused a.file.now a.head.now a.table.now a.cells.now _ _ _ r p 15 c.room_for-bound.result (number_short a.file.now a.head.now a.table.now a.cells.now _ _ _ r p (length a.out.now) refl (omega (arith, b, c.if-out-bound.true))) (λ z. omega arith) b c.refused-then-out-bound.ensures.0 c.refused-then-out-bound.ensures.1

pub slice_bounds-write_sheet-end : goal.slice_bounds-write_sheet-end
slice_bounds-write_sheet-end c = let a = c.args in let r = answered (Ok c.in-Ok.reading) in let p = c.in-Ok.ensures in omega (arith, (numbered a.file.now a.head.now a.table.now a.cells.now _ _ _ r p (λ k. (c.shared_slice_known-1.given k).fits) refl c.columns_each.result c.columns_each.ensures).fits, (numbered a.file.now a.head.now a.table.now a.cells.now _ _ _ r p (λ k. (c.shared_slice_known-1.given k).fits) refl c.columns_each.result c.columns_each.ensures).long)

pub write_sheet-bytes-requires : goal.write_sheet-bytes-requires
write_sheet-bytes-requires c = let a = c.args in let r = answered (Ok c.in-Ok.reading) in let p = c.in-Ok.ensures in let k = (numbered a.file.now a.head.now a.table.now a.cells.now _ _ _ r p (λ k. (c.shared_slice_known-1.given k).fits) refl c.columns_each.result c.columns_each.ensures) in let b : room_for (r.width * c.columns_each.result * r.height) ≤ length a.out.now = omega (arith, c.room_for-bound.ensures, c.if-out-bound.false) in record { width_nonzero = k.some; cells_in_bounds = omega (arith, room_enough (r.width * c.columns_each.result * r.height) (length a.out.now) b (omega (arith, c.well_formed)), ap length k.taken, k.count) }

pub returns : goal.returns
returns c = let a = c.args in let r = answered (Ok c.in-Ok.reading) in let p = c.in-Ok.ensures in out_done a.file.now a.head.now a.table.now a.cells.now _ _ _ r p c.columns_each.result c.room_for-bound.result c.write_sheet-bytes.result c.tell_read-n.result refl c.columns_each.ensures (numbered a.file.now a.head.now a.table.now a.cells.now _ _ _ r p (λ k. (c.shared_slice_known-1.given k).fits) refl c.columns_each.result c.columns_each.ensures) c.room_for-bound.ensures c.if-out-bound.false c.write_sheet-bytes.ensures.0 c.write_sheet-bytes.ensures.2 c.tell_read-n.ensures
