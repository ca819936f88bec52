use native.Mathlib.Nat.{mul-le-mul}
use Prim.Native.Nat.{ℕ, ◌*◌, ◌≤◌, ◌<◌}
use mathlib.Core.Path.{refl}
use native.Mathlib.Omega.{arith}
use Rattle.cells.proofs.stream.data_bytes.Goals as goal

-- at most 255 bytes
small : (n d : ℕ) → n < 256 → d ≤ 8 → n * d ≤ 2040
small n d h k =
    let l : n ≤ 255 = omega arith in
    let m : n * d ≤ 255 * 8 = mul-le-mul l k in
    omega arith

pub overflow_mul-result : goal.overflow_mul-result
overflow_mul-result c = omega (arith, small c.args.n c.args.depth c.requires.n_bound c.requires.depth_bound)

pub overflow_add-result : goal.overflow_add-result
overflow_add-result c = omega (arith, small c.args.n c.args.depth c.requires.n_bound c.requires.depth_bound)

pub returns : goal.returns
returns c = (refl, omega (arith, small c.args.n c.args.depth c.requires.n_bound c.requires.depth_bound))
