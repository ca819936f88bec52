use Rattle.format.specs.Layout.{mode_of}
use Rattle.planner.proofs.layout.mode_of.Goals as goal

pub returns-then-is_some : goal.returns-then-is_some
unfolding mode_of
returns-then-is_some c = rw (← c.is_some.ensures, c.if-is_some.true)

pub returns-then-is_some-2 : goal.returns-then-is_some-2
unfolding mode_of
returns-then-is_some-2 c = rw (← c.is_some.ensures, c.if-is_some.false, ← c.is_some-2.ensures, c.if-is_some-2.true)

pub returns-then-profile_mode : goal.returns-then-profile_mode
unfolding mode_of
returns-then-profile_mode c = rw (← c.is_some.ensures, c.if-is_some.false, ← c.is_some-2.ensures, c.if-is_some-2.false, ← c.profile_mode.ensures, c.if-profile_mode.true)

pub returns : goal.returns
unfolding mode_of
returns c = rw (← c.is_some.ensures, c.if-is_some.false, ← c.is_some-2.ensures, c.if-is_some-2.false, ← c.profile_mode.ensures, c.if-profile_mode.false)
