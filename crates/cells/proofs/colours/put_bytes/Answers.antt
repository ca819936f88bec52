use Rattle.leaves.specs.Put.{put}
use Rattle.cells.proofs.Blocks.{cat_turns, quad_on, three_or_four, cells_room, two_before, next_cells, cat-put}
use Rattle.cells.proofs.Loops.{cat_end}
use Rattle.cells.proofs.CellLaws.{bytes-length}
use Rattle.cells.specs.Quads.{bytes_quad}
use Rattle.leaves.specs.Lists.{cat}
use Prim.Native.Nat.{ℕ, ◌-◌}
use mathlib.Core.Path.{refl, ap, ◌∙◌}
use native.Mathlib.Omega.{arith}
use Rattle.cells.proofs.colours.put_bytes.Goals as goal

pub each_cell-requires : goal.each_cell-requires
each_cell-requires c = let a = c.args in record { le_size = (three_or_four a.size c.requires.known_size).0; size_in_bounds = c.requires.size_in_bounds; n_in_bounds = c.requires.n_in_bounds }

pub returns-then-n-lt2 : goal.returns-then-n-lt2
returns-then-n-lt2 c = c.each_cell.ensures

pub each_cell-requires-2 : goal.each_cell-requires-2
each_cell-requires-2 c = let a = c.args in record { le_size = (three_or_four a.size c.requires.known_size).0; size_in_bounds = omega (arith, c.requires.size_in_bounds, cells_room a.size (0) (2) a.n (omega arith)); n_in_bounds = omega arith }

pub overflow_mul-p : goal.overflow_mul-p
overflow_mul-p c = let a = c.args in omega (arith, three_or_four a.size c.requires.known_size)

pub overflow_add-p : goal.overflow_add-p
overflow_add-p c = let a = c.args in omega (arith, c.requires.size_in_bounds, cells_room a.size (0) (2) a.n (omega arith), c.well_formed)

pub overflow_add-q : goal.overflow_add-q
overflow_add-q c = let a = c.args in omega (arith, c.well_formed)

pub loop-x-init : goal.loop-x-init
loop-x-init c = let a = c.args in (omega arith, omega arith, omega arith, omega arith, refl, λ was r. r)

pub overflow_sub-n : goal.overflow_sub-n
overflow_sub-n c = c.loop-x.invariant.1

pub four_cells-requires : goal.four_cells-requires
four_cells-requires c = let a = c.args in let l = c.loop-x in record { known_size = c.requires.known_size; le_from = omega (arith, l.invariant.2, l.invariant.0, three_or_four a.size c.requires.known_size, two_before a.size l.x l.invariant.0); from_in_bounds = omega (arith, l.invariant.2, c.requires.size_in_bounds, three_or_four a.size c.requires.known_size, cells_room a.size l.x (6) a.n (omega arith)); to_in_bounds = omega (arith, l.invariant.3, l.invariant.4, c.cells-2-1.given) }

pub overflow_mul-p-in-loop-x : goal.overflow_mul-p-in-loop-x
overflow_mul-p-in-loop-x c = let a = c.args in let l = c.loop-x in omega (arith, three_or_four a.size c.requires.known_size)

pub overflow_add-p-in-loop-x : goal.overflow_add-p-in-loop-x
overflow_add-p-in-loop-x c = let a = c.args in let l = c.loop-x in omega (arith, l.invariant.2, c.requires.size_in_bounds, cells_room a.size l.x (4) a.n (omega arith), c.well_formed)

pub overflow_add-q-in-loop-x : goal.overflow_add-q-in-loop-x
overflow_add-q-in-loop-x c = let a = c.args in let l = c.loop-x in omega (arith, l.invariant.3, c.well_formed)

pub loop-x-preserved : goal.loop-x-preserved
loop-x-preserved c = let a = c.args in let l = c.loop-x in (omega arith, omega arith, next_cells a.from a.size l.x l.p 4 l.invariant.2, next_cells a.to 4 l.x l.q 4 l.invariant.3, omega (arith, l.invariant.4), λ was r. cat_turns (bytes_quad a.file.now a.from a.size) (bytes_quad a.file.now l.p a.size) 4 (bytes-length a.file.now a.from a.size) l.x (4) _ (l.invariant.5 was r) (omega (arith, r.long, l.invariant.4)) (λ i h. quad_on a.file.now a.from a.size l.x l.p i l.invariant.2) (c.four_cells.ensures ∙ ap (λ (k : ℕ). put l.cells k (cat (bytes_quad a.file.now l.p a.size) 4)) l.invariant.3))

pub overflow_sub-n-2 : goal.overflow_sub-n-2
overflow_sub-n-2 c = c.loop-x.invariant.1

pub each_cell-requires-3 : goal.each_cell-requires-3
each_cell-requires-3 c = let a = c.args in let l = c.loop-x in record { le_size = (three_or_four a.size c.requires.known_size).0; size_in_bounds = omega (arith, l.invariant.2, c.requires.size_in_bounds, cells_room a.size l.x (a.n - l.x) a.n (omega arith)); n_in_bounds = omega (arith, l.invariant.3, l.invariant.4) }

pub shape_of-cells : goal.shape_of-cells
shape_of-cells c = let a = c.args in let l = c.loop-x in omega (arith, l.invariant.4)

pub returns : goal.returns
returns c = let a = c.args in let r0 = cat-put (bytes_quad a.file.now a.from a.size) 4 (bytes-length a.file.now a.from a.size) a.cells.now _ a.to 2 (omega (arith, c.requires.n_in_bounds)) c.each_cell-2.ensures in let l = c.loop-x in let r = l.invariant.5 _ r0 in cat_end (bytes_quad a.file.now a.from a.size) 4 (bytes-length a.file.now a.from a.size) (cat_turns (bytes_quad a.file.now a.from a.size) (bytes_quad a.file.now l.p a.size) 4 (bytes-length a.file.now a.from a.size) l.x (a.n - l.x) _ (r) (omega (arith, r.long, l.invariant.4)) (λ i h. quad_on a.file.now a.from a.size l.x l.p i l.invariant.2) (c.each_cell-3.ensures ∙ ap (λ (k : ℕ). put l.cells k (cat (bytes_quad a.file.now l.p a.size) (a.n - l.x))) l.invariant.3)) (omega arith)
