use Rattle.format.specs.Layout.{tail_in}
use Rattle.planner.proofs.layout.tail.Goals as goal

pub returns-then-linked : goal.returns-then-linked
unfolding tail_in
returns-then-linked c = rw (← c.is_profiled.ensures, c.if-is_profiled.true, c.if-linked.true)

pub returns-then-is_profiled : goal.returns-then-is_profiled
unfolding tail_in
returns-then-is_profiled c = rw (← c.is_profiled.ensures, c.if-is_profiled.true, c.if-linked.false)

pub returns : goal.returns
unfolding tail_in
returns c = rw (← c.is_profiled.ensures, c.if-is_profiled.false)
