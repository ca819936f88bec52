use mathlib.Core.Path.{◌≡◌}
use mathlib.Core.Bool.{true, false}
use borrow.Author.Tests.{tests}
use Rattle.std.proofs.Common.{rules, refl}
use Rattle.std.proofs.lemmas.Iterator.{cases_from_all, YieldsList-from_slice, YieldsList-from_zip}
use Rattle.grids.specs.Scale.{not_quote}
use Rattle.grids.proofs.Placing.{fails}
use Rattle.grids.proofs.Scales.{quotes_by_pairs}
use Rattle.grids.proofs.scale.are_quotes.Goals as goal

pub returns : goal.returns
returns c = quotes_by_pairs c.args.lows.now c.args.highs.now c.requires c.all.result (cases_from_all c.all.new.self _ _ (λ p. not_quote (record { low = p.0; high = p.1 }) ≡ false) (λ p. not_quote (record { low = p.0; high = p.1 }) ≡ true) c.all.ensures.ran (YieldsList-from_zip {s = c.zip.result} (YieldsList-from_slice {s = c.zip.result.a} c.args.lows.now (search rules)) (YieldsList-from_slice {s = c.zip.result.b} c.args.highs.now (search rules))) (λ x q k. search (rules, tests)) (λ x q k. fails false _ (search rules) refl))
