use Rattle.std.proofs.Common.{rules}
use lib.ListN.{get_or}
use mathlib.Core.Path.{ap, ◌∙◌}
use native.Mathlib.Omega.{arith}
use Rattle.leaves.specs.Put.{put}
use Rattle.cells.proofs.Loops.{put_four_is, quad_is}
use Rattle.cells.proofs.colours.put_quad.Goals as goal

pub returns : goal.returns
returns c =
    let a = c.args in
    put_four_is a.cells.now a.at (get_or a.quad 0 0) (get_or a.quad 1 0) (get_or a.quad 2 0) (get_or a.quad 3 0) (omega arith) ∙ ap (put a.cells.now a.at) (quad_is a.quad (search rules))
