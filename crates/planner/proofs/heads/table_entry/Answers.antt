use mathlib.Core.List.{[], ◌∷◌}
use Rattle.format.specs.File.{table_entry}
use Rattle.planner.proofs.heads.table_entry.Goals as goal

pub returns : goal.returns
unfolding table_entry
returns c = λ z. c.byte_or_zero-blue.ensures z ∷ c.byte_or_zero-green.ensures z ∷ c.byte_or_zero-red.ensures z ∷ 0 ∷ []
