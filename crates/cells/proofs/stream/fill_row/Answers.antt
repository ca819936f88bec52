use Rattle.cells.proofs.RowCodes.{code_fits}
use Rattle.cells.proofs.RowCodes.{fill_start, fill_code_good, fill_turn, fill_end}
use native.Mathlib.Omega.{arith}
use Rattle.cells.proofs.stream.fill_row.Goals as goal

pub loop-x-init : goal.loop-x-init
loop-x-init c = fill_start c.requires.not_refused

pub overflow_add-to : goal.overflow_add-to
overflow_add-to c = omega (arith, c.requires.width_in_bounds)

pub fill_code-code-requires : goal.fill_code-code-requires
fill_code-code-requires c = record { room_nonzero = omega arith; known_depth = c.requires.known_depth; not_refused = fill_code_good c.loop-x.invariant c.loop-x-test.true; room_in_bounds = omega (arith, c.requires.width_in_bounds, c.loop-x.invariant.so_far.long) }

pub overflow_add-x : goal.overflow_add-x
overflow_add-x c = omega (arith, (code_fits c.loop-x.invariant c.loop-x-test.true c.fill_code-code.result c.fill_code-code.ensures.answer.0).1, c.requires.width_bound)

pub overflow_add-at : goal.overflow_add-at
overflow_add-at c = omega (arith, c.loop-x.invariant.small, c.fill_code-code.ensures.answer.1, c.requires.start_bound, c.requires.width_bound)

pub loop-x-smaller : goal.loop-x-smaller
loop-x-smaller c = let q = code_fits c.loop-x.invariant c.loop-x-test.true c.fill_code-code.result c.fill_code-code.ensures.answer.0 in omega (arith, q.0, q.1)

pub loop-x-preserved : goal.loop-x-preserved
loop-x-preserved c = let k = c.fill_code-code in fill_turn c.loop-x.invariant c.loop-x-test.true k.result _ k.ensures.answer.0 k.ensures.answer.1 c.requires.width_in_bounds k.ensures.put_within

pub shape_of-cells : goal.shape_of-cells
shape_of-cells c = c.loop-x.invariant.so_far.long

pub returns : goal.returns
returns c = let q = fill_end c.loop-x.invariant c.loop-x-test.false in record { answer = (q.0, omega (arith, c.loop-x.invariant.small)); cells_after = q.1 }
