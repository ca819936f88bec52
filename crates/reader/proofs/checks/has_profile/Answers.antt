use Rattle.reader.specs.Numbers.{has_profile}
use Rattle.format.specs.Readers.{Fields, dword_at}
use lib.Dec.{eqb}
use mathlib.Core.Bool.{◌&&◌, ◌||◌}
use mathlib.Core.Path.{ap}
use Rattle.reader.proofs.checks.has_profile.Goals as goal

pub returns : goal.returns
unfolding has_profile
returns c = rw c.dword_at-space.ensures (ap (λ (t : Fields). eqb t.header_size_of 124 && (eqb (dword_at c.args.file.now 70) 1279872587 || eqb (dword_at c.args.file.now 70) 1296188740)) c.requires)
