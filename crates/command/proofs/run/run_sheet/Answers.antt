use mathlib.Core.Path.{ap, ◌∙◌}
use Rattle.arguments.specs.Words.{words_of}
use Rattle.command.specs.Runs.{most_index}
use Rattle.command.proofs.RunLaws.{grid_run}
use Rattle.command.proofs.run.run_sheet.Goals as goal

pub returns-in-Ok : goal.returns-in-Ok
returns-in-Ok c =
    let a = c.args in
    let ws = words_of a.words.now in
    let most = c.most_index-most.ensures ∙ ap most_index c.format_asked.ensures in
    let read = c.read_sheet in
    let source = c.sheet_source-source in
    let plane = c.head_of in
    grid_run ws a.sheet.now a.palette.now a.icc.now a.linked_icc.now a.cells.now c.most_index-most.result read.new.cells most read.result read.ensures c.in-Ok.grid c.in-Ok.is
    source.result plane.result.now source.ensures plane.ensures c.encode.ensures
