use Rattle.std.proofs.Common.{refl, arith}
use Rattle.rows.proofs.rle.put_shown.Goals as goal

pub returns-then-at-row : goal.returns-then-at-row
returns-then-at-row c = c.put_window.ensures

pub returns : goal.returns
returns c = record { on = omega arith; within = omega arith; left = refl; put_left = refl }
