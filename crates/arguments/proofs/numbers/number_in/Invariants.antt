use mathlib.Core.Path.{◌≡◌}
use Prim.Native.Nat.{◌<◌, ◌^◌}
use lib.ListN.{drop}
use Rattle.arguments.specs.Numbers.{digits_from, digits_of_of}
use Rattle.arguments.proofs.numbers.number_in.Given as goal

abbrev pub invariant-loop-byte : goal.invariant-loop-byte
invariant-loop-byte l = (l.number < 2 ^ 60) × (digits_from l.base l.number (drop l.byte-index l.digits) ≡ digits_of_of l.base l.digits)
