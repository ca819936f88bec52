use Rattle.planner.proofs.layout.mask_format.Goals as goal

pub returns-then-has_alpha : goal.returns-then-has_alpha
returns-then-has_alpha c = rw (← c.has_alpha.ensures, c.if-has_alpha.true)

pub returns : goal.returns
returns c = rw (← c.has_alpha.ensures, c.if-has_alpha.false)
