use native.Mathlib.Omega.{arith}
use Rattle.planner.proofs.encoder.stored_height.Goals as goal

pub returns-then-top_down : goal.returns-then-top_down
returns-then-top_down c = rw c.if-top_down.true (omega arith)
