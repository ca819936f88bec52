use Rattle.leaves.specs.Texts.{bytes_of, joined}
use Rattle.command.specs.Commands.{help_lines, help_text}
use Rattle.command.proofs.check.tell_help.Goals as goal

pub returns : goal.returns
unfolding help_text help_lines joined bytes_of
returns c = c.tell_line.ensures
