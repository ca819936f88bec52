use Rattle.leaves.specs.Formats.{mask_source}
use borrow.Author.Tests.{not-true, not-false}
use mathlib.Core.Path.{sym, ◌∙◌}
use Rattle.planner.proofs.plan.check_source.Goals as goal

pub returns-then-takes_masks : goal.returns-then-takes_masks
returns-then-takes_masks c = rw (not-true (mask_source c.args.format) (sym c.takes_masks.ensures ∙ c.if-takes_masks.true))

pub returns : goal.returns
returns c = rw (not-false (mask_source c.args.format) (sym c.takes_masks.ensures ∙ c.if-takes_masks.false))
