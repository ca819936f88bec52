use Rattle.reader.specs.Numbers.{numbers_each}
use Rattle.format.specs.Readers.{shown_height, stored_at, row_from}
use Rattle.leaves.specs.Sizes.{row_stride}
use lib.Dec.{leb}
use Rattle.cells.proofs.Loops.{cat_start, cat_turn}
use Rattle.reader.proofs.PlainRows.{row_at, few_numbers, part_inside, stored_is, row_put, rows_done}
use Rattle.reader.proofs.PlainRows.{way, row_numbers_lem}
use Rattle.reader.specs.Fields.{fields_in}
use lib.ListN.{length}
use Prim.Native.Nat.{ℕ, ◌*◌}
use mathlib.Core.Path.{refl, sym, ap, ◌∙◌}
use native.Mathlib.Omega.{arith}
use Rattle.reader.proofs.picture.fill_rows.Goals as goal

pub overflow_mul-numbers : goal.overflow_mul-numbers
overflow_mul-numbers c = let a = c.args in let t = fields_in a.t in omega (arith, few_numbers a.t.width c.numbers_each.result (leb a.t.depth 8) c.struct_known-1.given.1.1.0.fits c.numbers_each.ensures)

pub loop-y-init : goal.loop-y-init
loop-y-init c = let a = c.args in let t = fields_in a.t in (cat_start (row_at a.file.now t) (a.t.width * c.numbers_each.result) (λ x. row_numbers_lem a.file.now t (row_from a.file.now t (stored_at t x)) (way t c.requires.written_kind) ∙ ap (λ (n : ℕ). a.t.width * n) (sym c.numbers_each.ensures)))

pub stored_at-stored-requires : goal.stored_at-stored-requires
stored_at-stored-requires c = c.loop-y-test.true

pub overflow_mul-stored : goal.overflow_mul-stored
overflow_mul-stored c = let a = c.args in let t = fields_in a.t in let l = c.loop-y in omega (arith, part_inside a.t.offset c.shown_height-height.result c.stored_at-stored.result c.row_stride-stride.result (shown_height t) (row_stride a.t.width a.t.depth) (length a.file.now) c.shown_height-height.ensures c.row_stride-stride.ensures c.requires.depth_in_bounds c.stored_at-stored.ensures.1)

pub overflow_add-t : goal.overflow_add-t
overflow_add-t c = let a = c.args in let t = fields_in a.t in let l = c.loop-y in omega (arith, part_inside a.t.offset c.shown_height-height.result c.stored_at-stored.result c.row_stride-stride.result (shown_height t) (row_stride a.t.width a.t.depth) (length a.file.now) c.shown_height-height.ensures c.row_stride-stride.ensures c.requires.depth_in_bounds c.stored_at-stored.ensures.1)

pub put_row-requires : goal.put_row-requires
put_row-requires c = let a = c.args in let t = fields_in a.t in let l = c.loop-y in record { written_kind = c.requires.written_kind; channels_read = c.channels_of-channels.ensures.0; channels_ok = c.channels_of-channels.ensures.1; depth_in_bounds = rw (← c.row_stride-stride.ensures) (part_inside a.t.offset c.shown_height-height.result c.stored_at-stored.result c.row_stride-stride.result (shown_height t) (row_stride a.t.width a.t.depth) (length a.file.now) c.shown_height-height.ensures c.row_stride-stride.ensures c.requires.depth_in_bounds c.stored_at-stored.ensures.1); t_in_bounds = rw (← c.numbers_each.ensures) (omega (arith, l.invariant.long, part_inside 0 c.shown_height-height.result l.y (a.t.width * c.numbers_each.result) (shown_height t) (a.t.width * numbers_each t) (length a.cells.now) c.shown_height-height.ensures (ap (λ (n : ℕ). a.t.width * n) c.numbers_each.ensures) (omega (arith, c.requires.t_in_bounds)) c.loop-y-test.true)) }

pub overflow_mul-y : goal.overflow_mul-y
overflow_mul-y c = let a = c.args in let t = fields_in a.t in let l = c.loop-y in omega (arith, few_numbers a.t.width c.numbers_each.result (leb a.t.depth 8) c.struct_known-1.given.1.1.0.fits c.numbers_each.ensures, part_inside 0 c.shown_height-height.result l.y (a.t.width * c.numbers_each.result) (shown_height t) (a.t.width * numbers_each t) (length a.cells.now) c.shown_height-height.ensures (ap (λ (n : ℕ). a.t.width * n) c.numbers_each.ensures) (omega (arith, c.requires.t_in_bounds)) c.loop-y-test.true, c.well_formed)

pub loop-y-preserved : goal.loop-y-preserved
loop-y-preserved c = let a = c.args in let t = fields_in a.t in let l = c.loop-y in (cat_turn (row_at a.file.now t) (a.t.width * c.numbers_each.result) (λ x. row_numbers_lem a.file.now t (row_from a.file.now t (stored_at t x)) (way t c.requires.written_kind) ∙ ap (λ (n : ℕ). a.t.width * n) (sym c.numbers_each.ensures)) l.y _ l.invariant (part_inside 0 c.shown_height-height.result l.y (a.t.width * c.numbers_each.result) (shown_height t) (a.t.width * numbers_each t) (length a.cells.now) c.shown_height-height.ensures (ap (λ (n : ℕ). a.t.width * n) c.numbers_each.ensures) (omega (arith, c.requires.t_in_bounds)) c.loop-y-test.true) (row_put a.file.now l.cells _ t l.y c.stored_at-stored.result c.row_stride-stride.result (l.y * (a.t.width * c.numbers_each.result)) (a.t.width * c.numbers_each.result) (stored_is t l.y c.stored_at-stored.result c.shown_height-height.result c.top_first-top.result c.top_first-top.ensures c.shown_height-height.ensures c.stored_at-stored.ensures.0) c.row_stride-stride.ensures refl c.put_row.ensures))

pub shape_of-cells : goal.shape_of-cells
shape_of-cells c = c.loop-y.invariant.long

pub returns : goal.returns
returns c = let a = c.args in let t = fields_in a.t in let l = c.loop-y in rows_done a.file.now a.cells.now _ t l.y l.invariant.same (omega (arith, c.shown_height-height.ensures))
