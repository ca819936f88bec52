use mathlib.Core.Path.{refl}
use Rattle.leaves.specs.Texts.{bytes_of}
use Rattle.arguments.specs.Words.{words_of}
use Rattle.command.specs.QuoteRuns.{no_cells_line}
use Rattle.command.proofs.QuoteLaws.{counts_differ, too_few_cells, not_painted, painted}
use Rattle.command.proofs.quotes.paint.Goals as goal

pub returns-then-highs-n : goal.returns-then-highs-n
returns-then-highs-n c =
    let a = c.args in
    counts_differ (words_of a.words.now) a.edges.now a.lows.now a.highs.now a.cells.now c.told.ensures c.tell_counts.ensures c.if-highs-n.true refl

pub returns-then-cells-n : goal.returns-then-cells-n
unfolding no_cells_line bytes_of
returns-then-cells-n c =
    let a = c.args in
    too_few_cells (words_of a.words.now) a.edges.now a.lows.now a.highs.now a.cells.now c.told-then-cells-n.ensures c.tell_line.ensures c.if-highs-n.false c.if-cells-n.true refl

pub returns-in-Err : goal.returns-in-Err
returns-in-Err c =
    let a = c.args in
    not_painted (words_of a.words.now) a.edges.now a.lows.now a.highs.now a.cells.now c.if-highs-n.false c.if-cells-n.false c.in-Err.why c.number.result c.number.ensures c.in-Err.ensures c.refused.ensures.0 c.refused.ensures.1

pub returns : goal.returns
returns c =
    let a = c.args in
    painted (words_of a.words.now) a.edges.now a.lows.now a.highs.now a.cells.now c.if-highs-n.false c.if-cells-n.false c.in_default.ensures c.told-2.ensures
