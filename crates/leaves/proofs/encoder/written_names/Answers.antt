use Rattle.std.proofs.Common.{refl}
use Rattle.leaves.specs.Formats.{written_names}
use Rattle.leaves.specs.Texts.{bytes_of, joined}
use Rattle.leaves.proofs.encoder.written_names.Goals as goal

pub returns : goal.returns
unfolding joined written_names bytes_of
returns c = refl
