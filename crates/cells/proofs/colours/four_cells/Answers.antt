use Rattle.cells.proofs.Blocks.{number_at, four_numbers, widened}
use Rattle.rows.proofs.Nibbles.{fill, filled}
use Rattle.leaves.specs.Put.{put}
use Rattle.leaves.specs.Lists.{tab}
use lib.ListN.{length-set}
use mathlib.Core.Path.{refl, sym, ap, ◌∙◌}
use native.Mathlib.Omega.{arith}
use Rattle.cells.proofs.colours.four_cells.Goals as goal

pub loop-k-init : goal.loop-k-init
unfolding tab
loop-k-init c = (refl, refl)

pub known_place-requires : goal.known_place-requires
known_place-requires c = record { known_size = c.requires.known_size; k_bound = omega arith }

pub bounds-numbers-k : goal.bounds-numbers-k
bounds-numbers-k c = omega (arith, c.loop-k.invariant.0)

pub loop-k-preserved : goal.loop-k-preserved
loop-k-preserved c = let a = c.args in let l = c.loop-k in (simp length-set l.invariant.0, fill l.numbers (number_at a.file.now a.from a.size) l.k _ (omega (arith, l.invariant.0)) l.invariant.1 (rw (← c.known_place.ensures) c.byte_of_eight.ensures))

pub slice_bounds-widen-end : goal.slice_bounds-widen-end
slice_bounds-widen-end c = sym c.loop-k.invariant.0

pub widen-requires : goal.widen-requires
widen-requires c = record { n_in_bounds = omega (arith, c.loop-k.invariant.0); cells_in_bounds = omega arith }

pub returns : goal.returns
returns c = let a = c.args in let l = c.loop-k in c.widen.ensures ∙ ap (put a.cells.now a.to) (widened a.file.now l.numbers a.from a.size (λ i. (c.shared_slice_known-1.given i).fits) (filled l.numbers (number_at a.file.now a.from a.size) l.k 16 l.invariant.0 (omega arith) (omega arith) l.invariant.1) ∙ four_numbers a.file.now a.from a.size c.requires.known_size (omega arith))
