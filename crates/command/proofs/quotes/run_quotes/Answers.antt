use Rattle.command.proofs.QuoteLaws.{not_quoted, has_quoted}
use Rattle.command.proofs.quotes.run_quotes.Goals as goal

pub returns-then-checked-ne3 : goal.returns-then-checked-ne3
returns-then-checked-ne3 c =
    let a = c.args in
    not_quoted c.check-checked.ensures a.edges.now a.lows.now a.highs.now a.cells.now c.if-checked-ne3.true

pub returns : goal.returns
returns c = has_quoted c.check-checked.ensures c.if-checked-ne3.false c.paint.ensures
