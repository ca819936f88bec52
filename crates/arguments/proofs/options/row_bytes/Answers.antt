use mathlib.Core.Path.{ap}
use Prim.Native.Nat.{ℕ, ◌*◌, ◌≤◌}
use native.Mathlib.Nat.{mul-le-mul_right}
use native.Mathlib.Omega.{arith}
use Rattle.leaves.specs.Formats.{bytes_per_pixel}
use Rattle.leaves.specs.declared.image.BmpPixelFormat.TheVariants.{Rgba, Rgb24, Bgra, Bgr24, Rgb555, Rgb565, Pal8, Indexed4, Indexed2, Indexed1}
use Rattle.leaves.specs.declared.image.BmpPixelFormat.{BmpPixelFormat}
use Rattle.arguments.proofs.options.row_bytes.Goals as goal

at-most-four : (f : BmpPixelFormat) → bytes_per_pixel f ≤ 4
at-most-four Rgba = omega arith
at-most-four Rgb24 = omega arith
at-most-four Bgra = omega arith
at-most-four Bgr24 = omega arith
at-most-four Rgb555 = omega arith
at-most-four Rgb565 = omega arith
at-most-four Pal8 = omega arith
at-most-four Indexed4 = omega arith
at-most-four Indexed2 = omega arith
at-most-four Indexed1 = omega arith

pub overflow_mul-result : goal.overflow_mul-result
overflow_mul-result c =
    let n = c.bytes_per_pixel.result in
    let h : n ≤ 4 = omega (arith, at-most-four c.args.format) in
    omega (arith, mul-le-mul_right c.args.width h)

pub returns : goal.returns
returns c = ap (λ (n : ℕ). n * c.args.width) c.bytes_per_pixel.ensures
