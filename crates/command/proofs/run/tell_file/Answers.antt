use mathlib.Core.Path.{ap, ◌∙◌}
use Prim.Native.Nat.{ℕ}
use lib.ListN.{length}
use Rattle.leaves.specs.Texts.{bytes_of}
use Rattle.messages.specs.Messages.{decimal, filled}
use Rattle.messages.proofs.MessageLaws.{says_as}
use Rattle.command.specs.Runs.{written_line}
use Rattle.command.proofs.run.tell_file.Goals as goal

pub returns : goal.returns
unfolding written_line bytes_of
returns c =
    let a = c.args in
    says_as (ap (λ (n : ℕ). filled a.name.now a.format.now (decimal (length a.file.now)) (decimal n) written_line) (c.from.ensures ∙ c.checksum.ensures)) c.tell.ensures
