use mathlib.Core.Bool.{Bool, true, false}
use mathlib.Core.Path.{◌∙◌, ◌≡◌}
use Prim.Native.Nat.{ℕ}
use Rattle.std.proofs.Common.{arith, tests}
use Rattle.std.specs.Char.{to_ascii_lowercase}
use Rattle.arguments.specs.Words.{lowered, byte_in}
use Rattle.arguments.proofs.words.byte_in.Goals as goal

lower : (byte : ℕ) (any : Bool) → any ≡ true → to_ascii_lowercase byte ≡ byte_in any byte
unfolding byte_in lowered
lower byte any e = rw e (grind (arith, tests))

as_is : (byte : ℕ) (any : Bool) → any ≡ false → byte ≡ byte_in any byte
unfolding byte_in
as_is byte any e = rw e

pub returns-then-any_case : goal.returns-then-any_case
returns-then-any_case c = c.to_ascii_lowercase.ensures.value ∙ lower c.args.byte c.args.any_case c.if-any_case.true

pub returns-else-any_case : goal.returns-else-any_case
returns-else-any_case c = as_is c.args.byte c.args.any_case c.if-any_case.false
