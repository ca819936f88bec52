use Rattle.reader.proofs.StreamRows.{rising_start, rising_place, rising_good, rising_room, rising_turn, rising_end}
use native.Mathlib.Omega.{arith}
use Rattle.reader.proofs.picture.fill_stream.Goals as goal

pub loop-above-init : goal.loop-above-init
loop-above-init c = let a = c.args in λ some good. rising_start a.file.now a.depth a.width a.offset a.height some good a.cells.now

pub overflow_mul-above : goal.overflow_mul-above
overflow_mul-above c = let a = c.args in let l = c.loop-above in let i = l.invariant c.requires.height_nonzero c.requires.not_refused in omega (arith, i.long, rising_room a.file.now a.depth a.width a.offset a.height c.requires.height_nonzero c.requires.not_refused i c.loop-above-test.true c.requires.width_in_bounds)

pub fill_row-end-requires : goal.fill_row-end-requires
fill_row-end-requires c = let a = c.args in let l = c.loop-above in let i = l.invariant c.requires.height_nonzero c.requires.not_refused in record { start_bound = omega (arith, rising_place a.file.now a.depth a.width a.offset a.height c.requires.height_nonzero c.requires.not_refused i c.loop-above-test.true, c.requires.offset_bound); known_depth = c.requires.known_depth; width_bound = c.requires.width_bound; not_refused = rising_good a.file.now a.depth a.width a.offset a.height c.requires.height_nonzero c.requires.not_refused i c.loop-above-test.true; width_in_bounds = rising_room a.file.now a.depth a.width a.offset a.height c.requires.height_nonzero c.requires.not_refused i c.loop-above-test.true c.requires.width_in_bounds }

pub overflow_add-at : goal.overflow_add-at
overflow_add-at c = let a = c.args in let l = c.loop-above in let i = l.invariant c.requires.height_nonzero c.requires.not_refused in omega (arith, c.fill_row-end.ensures.answer.1, rising_place a.file.now a.depth a.width a.offset a.height c.requires.height_nonzero c.requires.not_refused i c.loop-above-test.true, c.requires.offset_bound, c.requires.width_bound)

pub loop-above-preserved : goal.loop-above-preserved
loop-above-preserved c = let a = c.args in let l = c.loop-above in λ some good. rising_turn a.file.now a.depth a.width a.offset a.height some good (l.invariant some good) c.loop-above-test.true _ _ c.fill_row-end.ensures.answer.0 c.requires.width_in_bounds c.fill_row-end.ensures.cells_after

pub shape_of-cells : goal.shape_of-cells
shape_of-cells c = let a = c.args in let l = c.loop-above in (l.invariant c.requires.height_nonzero c.requires.not_refused).long

pub returns : goal.returns
returns c = let a = c.args in let l = c.loop-above in rising_end a.file.now a.depth a.width a.offset a.height c.requires.height_nonzero c.requires.not_refused (l.invariant c.requires.height_nonzero c.requires.not_refused) (omega arith)
