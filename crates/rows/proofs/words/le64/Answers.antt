use Rattle.std.proofs.Common.{◌∙◌, get_or}
use Rattle.rows.proofs.WordLaws.{word_8}
use Rattle.rows.proofs.words.le64.Goals as goal

pub returns : goal.returns
returns c = let a = c.args in c.from_le_bytes.ensures ∙ word_8 (λ i. get_or a.row.now i 0) a.k
