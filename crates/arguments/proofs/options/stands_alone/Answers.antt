use mathlib.Core.Path.{ap}
use Prim.Native.Nat.{ℕ}
use lib.Dec.{leb}
use Rattle.arguments.specs.Options.{stands_alone}
use Rattle.arguments.proofs.OptionPlaces.{tag_is}
use Rattle.arguments.proofs.options.stands_alone.Goals as goal

pub returns : goal.returns
unfolding stands_alone
returns c = ap (λ (n : ℕ). leb n 9) (tag_is c.args.option)
