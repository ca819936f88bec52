use Rattle.grids.proofs.Scales.{quote_test}
use Rattle.grids.proofs.scale.Quote.is_quote.Goals as goal

pub returns : goal.returns
returns c = quote_test c.args.self
