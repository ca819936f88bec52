use Rattle.std.proofs.Common.{ℕ, ◌*◌, ◌^◌, ◌<◌, refl, lt_of_le_of_lt, le_of_lt, mul-le-mul_left, mul-lt-mul_of_pos_right, arith, lit<}
use Rattle.leaves.specs.Sizes.{row_stride}
use Rattle.leaves.proofs.types.row_stride.Goals as goal

-- a row's bits fit 48 bits
bits : (width depth : ℕ) → width < 2 ^ 32 → depth < 2 ^ 16 → width * depth < 2 ^ 48
bits width depth w d = lt_of_le_of_lt (mul-le-mul_left width (le_of_lt d)) (mul-lt-mul_of_pos_right w (lit< tt))

pub overflow_mul-result : goal.overflow_mul-result
overflow_mul-result c = omega (arith, bits c.args.width c.args.bpp c.ranges.width.fits c.ranges.bpp.fits)

pub overflow_add-result : goal.overflow_add-result
overflow_add-result c = omega (arith, bits c.args.width c.args.bpp c.ranges.width.fits c.ranges.bpp.fits)

pub overflow_mul-result-2 : goal.overflow_mul-result-2
overflow_mul-result-2 c = omega (arith, bits c.args.width c.args.bpp c.ranges.width.fits c.ranges.bpp.fits)

pub returns : goal.returns
unfolding row_stride
returns c = refl
