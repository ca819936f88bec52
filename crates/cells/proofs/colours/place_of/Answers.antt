use Rattle.cells.proofs.Blocks.{four_quarters}
use Rattle.cells.specs.Quads.{number_place}
use mathlib.Core.Path.{refl}
use native.Mathlib.Omega.{arith}
use Rattle.cells.proofs.colours.place_of.Goals as goal

pub overflow_mul-result : goal.overflow_mul-result
overflow_mul-result c = let q = four_quarters c.args.size c.args.k c.requires.known_size c.requires.k_bound in omega (arith, q.0)

pub overflow_add-result : goal.overflow_add-result
overflow_add-result c = let q = four_quarters c.args.size c.args.k c.requires.known_size c.requires.k_bound in omega (arith, q.0)

pub overflow_add-result-2 : goal.overflow_add-result-2
overflow_add-result-2 c = let q = four_quarters c.args.size c.args.k c.requires.known_size c.requires.k_bound in omega (arith, q.0)

pub overflow_sub-result : goal.overflow_sub-result
overflow_sub-result c = let q = four_quarters c.args.size c.args.k c.requires.known_size c.requires.k_bound in omega (arith, q.0, q.1)

pub overflow_sub-result-2 : goal.overflow_sub-result-2
overflow_sub-result-2 c = let q = four_quarters c.args.size c.args.k c.requires.known_size c.requires.k_bound in omega (arith, q.0, q.1)

pub returns : goal.returns
unfolding number_place
returns c = refl
