use Rattle.leaves.specs.Texts.{bytes_of}
use Rattle.command.specs.Commands.{version_text}
use Rattle.command.proofs.check.tell_version.Goals as goal

pub returns : goal.returns
unfolding version_text bytes_of
returns c = c.tell_line.ensures
