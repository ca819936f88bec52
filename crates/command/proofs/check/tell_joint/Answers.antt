use mathlib.Core.List.{List, []}
use mathlib.Core.Path.{ap}
use Prim.Native.Nat.{ℕ}
use Rattle.messages.specs.Messages.{filled}
use Rattle.messages.proofs.MessageLaws.{says_as}
use Rattle.command.specs.Commands.{joint_text}
use Rattle.command.proofs.check.tell_joint.Goals as goal

pub returns : goal.returns
unfolding joint_text
returns c = says_as (ap (λ (line : List ℕ). filled [] [] [] [] line) c.joint_line.ensures) c.tell_line.ensures
