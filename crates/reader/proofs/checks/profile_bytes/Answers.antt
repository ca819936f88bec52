use Rattle.reader.specs.Numbers.{profile_bytes_of}
use mathlib.Core.Path.{sym, ◌∙◌}
use Rattle.reader.proofs.checks.profile_bytes.Goals as goal

pub has_profile-requires : goal.has_profile-requires
has_profile-requires c = c.requires

pub returns-then-has_profile : goal.returns-then-has_profile
unfolding profile_bytes_of
returns-then-has_profile c = rw (sym c.has_profile.ensures ∙ c.if-has_profile.true) c.dword_at.ensures

pub returns : goal.returns
unfolding profile_bytes_of
returns c = rw (sym c.has_profile.ensures ∙ c.if-has_profile.false)
