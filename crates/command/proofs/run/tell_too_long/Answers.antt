use mathlib.Core.List.{[]}
use mathlib.Core.Path.{ap}
use Prim.Native.Nat.{ℕ}
use Rattle.leaves.specs.Texts.{bytes_of}
use Rattle.messages.specs.Messages.{decimal, filled}
use Rattle.messages.proofs.MessageLaws.{says_as}
use Rattle.command.specs.Runs.{too_long_line}
use Rattle.command.proofs.run.tell_too_long.Goals as goal

pub returns : goal.returns
unfolding too_long_line bytes_of
returns c = says_as (ap (λ (h : ℕ). filled (decimal c.args.bytes) (decimal c.args.stride) (decimal h) [] too_long_line) c.from.ensures) c.tell.ensures
