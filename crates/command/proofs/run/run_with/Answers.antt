use mathlib.Core.Path.{sym, ◌∙◌}
use Rattle.leaves.specs.Texts.{bytes_of}
use Rattle.arguments.specs.Options.{option_names, option_named}
use Rattle.arguments.specs.Words.{up_to, place_among, alike, words_of}
use Rattle.command.proofs.RunLaws.{sheet_runs, plane_runs}
use Rattle.command.proofs.run.run_with.Goals as goal

pub returns-then-is_given : goal.returns-then-is_given
unfolding bytes_of option_names option_named place_among alike up_to
returns-then-is_given c =
    let a = c.args in
    let run = c.run_sheet in
    sheet_runs (words_of a.words.now) a.plane.now a.palette.now a.icc.now a.linked_icc.now a.cells.now a.out.now run.new.out a.text.now run.new.text run.result
    (sym c.is_given.ensures ∙ c.if-is_given.true) run.ensures

pub returns : goal.returns
unfolding bytes_of option_names option_named place_among alike up_to
returns c =
    let a = c.args in
    let run = c.encode in
    let source = c.source_asked in
    plane_runs (words_of a.words.now) a.plane.now a.palette.now a.icc.now a.linked_icc.now a.cells.now a.out.now run.new.out a.text.now run.new.text run.result
    source.result (sym c.is_given.ensures ∙ c.if-is_given.false) source.ensures run.ensures
