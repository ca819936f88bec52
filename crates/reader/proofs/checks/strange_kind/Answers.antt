use Rattle.reader.specs.Fields.{fields_in}
use Rattle.reader.proofs.Heads.{kind_computed}
use Rattle.reader.proofs.checks.strange_kind.Goals as goal

pub returns : goal.returns
returns c = kind_computed c.args.n (fields_in c.args.t) _ _ _ c.full_table-full.ensures c.has_masks.ensures c.is_coded.ensures
