use Rattle.arguments.specs.Numbers.{is_number32, is_signed32}
use Rattle.arguments.proofs.numbers.is_item.Goals as goal

pub returns-then-signed : goal.returns-then-signed
unfolding is_signed32
returns-then-signed c = rw (c.if-signed.true, ← c.signed32.ensures) c.is_some.ensures

pub returns-else-signed : goal.returns-else-signed
unfolding is_number32
returns-else-signed c = rw (c.if-signed.false, ← c.number32.ensures) c.is_some-else-signed.ensures
