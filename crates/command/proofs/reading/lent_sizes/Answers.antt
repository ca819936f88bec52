use Rattle.command.proofs.ReadLaws.{sizes_lent, none_lent}
use Rattle.command.proofs.reading.lent_sizes.Goals as goal

pub returns-in-Ok : goal.returns-in-Ok
returns-in-Ok c = sizes_lent c.in-Ok.sizes _ c.room_for.result c.room_for.ensures c.in-Ok.ensures

pub returns-in-Err : goal.returns-in-Err
returns-in-Err c = none_lent c.in-Err.field-0 _ c.in-Err.ensures
