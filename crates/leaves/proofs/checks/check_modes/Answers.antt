use Rattle.std.proofs.Common.{◌≡◌, ◌+◌, ◌<◌, ◌≤◌, Bool, true, false, refl, arith, le-ltb, lt-ltb}
use mir.Val.{bool_byte}
use Rattle.leaves.specs.Refusals.{one, several_modes, mode_rows}
use Rattle.leaves.proofs.Tests.{tests}
use Rattle.leaves.proofs.checks.check_modes.Goals as goal

bit : (b : Bool) → bool_byte b ≤ 1
bit true = omega arith
bit false = omega arith

-- the code's sum is the definition's
sum : (a b c : Bool) → bool_byte a + bool_byte b + bool_byte c ≡ one a + one b + one c
sum true true true = refl
sum true true false = refl
sum true false true = refl
sum true false false = refl
sum false true true = refl
sum false true false = refl
sum false false true = refl
sum false false false = refl

several : (a b c : Bool) → 1 < bool_byte a + bool_byte b + bool_byte c → several_modes a b c ≡ true
several a b c h = lt-ltb 1 (one a + one b + one c) (omega (arith, sum a b c))

at_most_one : (a b c : Bool) → bool_byte a + bool_byte b + bool_byte c ≤ 1 → several_modes a b c ≡ false
at_most_one a b c h = le-ltb 1 (one a + one b + one c) (omega (arith, sum a b c))

pub overflow_add-requested : goal.overflow_add-requested
overflow_add-requested c = omega (arith, bit c.args.bitfields, bit c.args.calibrated_rgb)

pub overflow_add-requested-2 : goal.overflow_add-requested-2
overflow_add-requested-2 c = omega (arith, bit c.args.bitfields, bit c.args.calibrated_rgb, bit c.args.profile)

pub returns-then-requested-gt1 : goal.returns-then-requested-gt1
unfolding mode_rows
returns-then-requested-gt1 c = let t = several c.args.bitfields c.args.calibrated_rgb c.args.profile c.if-requested-gt1.true in search tests

pub returns : goal.returns
unfolding mode_rows
returns c = let t = at_most_one c.args.bitfields c.args.calibrated_rgb c.args.profile c.if-requested-gt1.false in search tests
