use native.Mathlib.Omega.{arith}
use Prim.Native.Nat.{ℕ, ◌-◌, ◌*◌, ◌≤◌, ◌<◌}
use native.Mathlib.Nat.{mul-le-mul_right}
use Rattle.command.proofs.sample.between.Goals as goal

-- a share of a channel is a share of 255
share : (v k : ℕ) → v < 256 → v * k ≤ 255 * k
share v k h = mul-le-mul_right k (omega arith)

pub overflow_mul-result : goal.overflow_mul-result
overflow_mul-result c = omega (arith, share c.args.low (64 - c.args.far) c.requires.low_bound, share c.args.high c.args.far c.requires.high_bound)

pub overflow_mul-result-2 : goal.overflow_mul-result-2
overflow_mul-result-2 c = omega (arith, share c.args.low (64 - c.args.far) c.requires.low_bound, share c.args.high c.args.far c.requires.high_bound)

pub overflow_add-result : goal.overflow_add-result
overflow_add-result c = omega (arith, share c.args.low (64 - c.args.far) c.requires.low_bound, share c.args.high c.args.far c.requires.high_bound)

pub overflow_cast-result : goal.overflow_cast-result
overflow_cast-result c = omega (arith, share c.args.low (64 - c.args.far) c.requires.low_bound, share c.args.high c.args.far c.requires.high_bound)
