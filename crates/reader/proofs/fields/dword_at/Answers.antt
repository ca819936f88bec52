use Rattle.format.specs.Readers.{dword_at}
use Rattle.reader.proofs.fields.dword_at.Goals as goal

pub returns : goal.returns
unfolding dword_at
returns c = rw (c.word_at.ensures.0, c.word_at-2.ensures.0)
