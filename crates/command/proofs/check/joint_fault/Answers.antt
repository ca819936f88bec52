use mathlib.Core.Path.{sym, ◌∙◌}
use Rattle.arguments.specs.Words.{words_of}
use Rattle.command.proofs.CheckLaws.{joint_reads, joint_writes}
use Rattle.command.proofs.check.joint_fault.Goals as goal

pub returns-then-is_given : goal.returns-then-is_given
returns-then-is_given c = c.read_fault.ensures ∙ joint_reads (words_of c.args.words.now) (sym c.is_given.ensures ∙ c.if-is_given.true)

pub returns-else-is_given : goal.returns-else-is_given
returns-else-is_given c = c.write_fault.ensures ∙ joint_writes (words_of c.args.words.now) (sym c.is_given.ensures ∙ c.if-is_given.false)
