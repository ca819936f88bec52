use Rattle.format.specs.Readers.{fields_of}
use Rattle.reader.proofs.fields.fields_of.Goals as goal

pub returns : goal.returns
unfolding fields_of
returns c = rw (c.dword_at.ensures, c.dword_at-2.ensures, c.dword_at-3.ensures, c.dword_at-4.ensures, c.word_at.ensures.0, c.dword_at-5.ensures, c.dword_at-6.ensures)
