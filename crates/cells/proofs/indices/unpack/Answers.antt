use Rattle.cells.proofs.Blocks.{tab_turns, at_first, at_next, bytes_room, in_byte, cell_on}
use Rattle.cells.proofs.Loops.{tab_start, tab_end}
use Rattle.format.specs.Decode.{cell_at}
use lib.ListN.{drop}
use Prim.Native.Nat.{◌-◌, ◌/◌}
use native.Mathlib.Omega.{arith}
use Rattle.cells.proofs.indices.unpack.Goals as goal

pub nonzero_div-in_byte : goal.nonzero_div-in_byte
nonzero_div-in_byte c = let a = c.args in omega (arith, (in_byte a.depth c.requires.table_depth).0)

pub loop-x-init : goal.loop-x-init
loop-x-init c = let a = c.args in (omega arith, at_first a.depth a.from, tab_start (cell_at a.depth (drop a.from a.file.now)))

pub overflow_sub-n : goal.overflow_sub-n
overflow_sub-n c = c.loop-x.invariant.0

pub overflow_add-to : goal.overflow_add-to
overflow_add-to c = let a = c.args in let l = c.loop-x in let t = c.requires.table_depth in omega (arith, c.well_formed)

pub each_index-requires : goal.each_index-requires
each_index-requires c = let a = c.args in let l = c.loop-x in let t = c.requires.table_depth in record { table_depth = t; n_bound = omega (arith, (in_byte a.depth t).2); depth_in_bounds = omega (arith, bytes_room a.depth a.from l.x l.p (8 / a.depth) a.n t l.invariant.1 (omega arith)); n_in_bounds = omega (arith, l.invariant.2.long) }

pub overflow_add-x : goal.overflow_add-x
overflow_add-x c = let a = c.args in let l = c.loop-x in let t = c.requires.table_depth in omega arith

pub overflow_add-p : goal.overflow_add-p
overflow_add-p c = let a = c.args in let l = c.loop-x in let t = c.requires.table_depth in omega (arith, bytes_room a.depth a.from l.x l.p (8 / a.depth) a.n t l.invariant.1 (omega arith), (in_byte a.depth t).1, c.well_formed)

pub loop-x-smaller : goal.loop-x-smaller
loop-x-smaller c = let a = c.args in let l = c.loop-x in let t = c.requires.table_depth in omega (arith, (in_byte a.depth t).1)

pub loop-x-preserved : goal.loop-x-preserved
loop-x-preserved c = let a = c.args in let l = c.loop-x in let t = c.requires.table_depth in (omega arith, at_next a.depth a.from l.x l.p t l.invariant.1, tab_turns (cell_at a.depth (drop a.from a.file.now)) (cell_at a.depth (drop l.p a.file.now)) l.x (8 / a.depth) _ l.invariant.2 (omega arith) (λ i h. cell_on a.file.now a.depth a.from l.x l.p i t l.invariant.1) c.each_index.ensures)

pub overflow_sub-n-2 : goal.overflow_sub-n-2
overflow_sub-n-2 c = c.loop-x.invariant.0

pub overflow_add-to-2 : goal.overflow_add-to-2
overflow_add-to-2 c = let a = c.args in let l = c.loop-x in let t = c.requires.table_depth in omega (arith, c.well_formed)

pub each_index-requires-2 : goal.each_index-requires-2
each_index-requires-2 c = let a = c.args in let l = c.loop-x in let t = c.requires.table_depth in record { table_depth = t; n_bound = omega arith; depth_in_bounds = omega (arith, bytes_room a.depth a.from l.x l.p (a.n - l.x) a.n t l.invariant.1 (omega arith)); n_in_bounds = omega (arith, l.invariant.2.long) }

pub shape_of-cells : goal.shape_of-cells
shape_of-cells c = let a = c.args in let l = c.loop-x in let t = c.requires.table_depth in omega (arith, l.invariant.2.long)

pub returns : goal.returns
returns c = let a = c.args in let l = c.loop-x in let t = c.requires.table_depth in tab_end (cell_at a.depth (drop a.from a.file.now)) (tab_turns (cell_at a.depth (drop a.from a.file.now)) (cell_at a.depth (drop l.p a.file.now)) l.x (a.n - l.x) _ l.invariant.2 (omega arith) (λ i h. cell_on a.file.now a.depth a.from l.x l.p i t l.invariant.1) c.each_index-2.ensures) (omega arith)
