use Rattle.command.proofs.ReadLaws.{room_over, room_is}
use native.Mathlib.Omega.{arith}
use Rattle.command.proofs.reading.room_for.Goals as goal

pub returns-then-numbers-gt1676976733973595601 : goal.returns-then-numbers-gt1676976733973595601
returns-then-numbers-gt1676976733973595601 c = room_over c.args.numbers c.if-numbers-gt1676976733973595601.true

pub overflow_mul-result : goal.overflow_mul-result
overflow_mul-result c = omega (arith, c.if-numbers-gt1676976733973595601.false)

pub returns : goal.returns
returns c = room_is c.args.numbers c.if-numbers-gt1676976733973595601.false
