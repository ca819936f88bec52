use borrow.Author.Tests.{lt-leb}
use native.Mathlib.Omega.{arith}
use Prim.Native.Nat.{◌+◌}
use Rattle.planner.proofs.PlanLaws.{fits_below}
use Rattle.planner.proofs.plan.fits.Goals as goal

pub returns-then-body-limit : goal.returns-then-body-limit
returns-then-body-limit c = fits_below c.args.body c.args.profile_bytes c.args.limit c.if-body-limit.true

pub returns-else-body-limit : goal.returns-else-body-limit
returns-else-body-limit c = rw (lt-leb c.args.body c.args.limit (omega arith), lt-leb (c.args.body + c.args.profile_bytes) c.args.limit (omega arith))
