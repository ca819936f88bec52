use Rattle.std.proofs.Common.{eq-eqb, ne_eqb}
use Rattle.rows.proofs.words.place_mask.Goals as goal

pub returns-then-place-wanted : goal.returns-then-place-wanted
returns-then-place-wanted c = let a = c.args in rw (eq-eqb a.place a.wanted c.if-place-wanted.true)

pub returns : goal.returns
returns c = let a = c.args in rw (ne_eqb a.place a.wanted c.if-place-wanted.false)
