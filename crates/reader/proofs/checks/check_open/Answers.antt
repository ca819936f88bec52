use mathlib.Core.Path.{sym, ◌∙◌}
use Rattle.reader.proofs.Heads.{number_never, number_outside, number_opens}
use Rattle.reader.proofs.checks.check_open.Goals as goal

pub never_written-requires : goal.never_written-requires
never_written-requires c = c.requires

pub returns-then-never_written : goal.returns-then-never_written
returns-then-never_written c = number_never _ _ c.never_written.ensures c.if-never_written.true

pub outside_file-requires : goal.outside_file-requires
outside_file-requires c = record { fields_read = c.requires; not_17 = sym c.never_written.ensures ∙ c.if-never_written.false }

pub returns-then-outside_file : goal.returns-then-outside_file
returns-then-outside_file c = number_outside _ _ _ c.never_written.ensures c.if-never_written.false c.outside_file.ensures c.if-outside_file.true

pub returns : goal.returns
returns c = number_opens _ _ _ c.never_written.ensures c.if-never_written.false c.outside_file.ensures c.if-outside_file.false
