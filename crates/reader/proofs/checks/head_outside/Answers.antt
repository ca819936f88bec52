use Rattle.reader.specs.Fields.{fields_in}
use Rattle.reader.proofs.Heads.{head_computed}
use Rattle.reader.proofs.checks.head_outside.Goals as goal

pub returns : goal.returns
returns c = let a = c.args in head_computed a.n (fields_in a.t) _ _ _ c.table_count.ensures c.masks_end.ensures c.has_masks.ensures
