use Rattle.rows.proofs.WordCells as Laws
use Rattle.rows.proofs.blocks.lone_of.Goals as goal

pub returns : goal.returns
returns c = λ four row k e. Laws.lone_law four row k _ e
