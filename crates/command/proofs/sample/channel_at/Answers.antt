use mathlib.Core.Path.{◌∙◌, ◌≡◌}
use Prim.Native.Nat.{ℕ, ◌+◌, ◌-◌, ◌*◌, ◌/◌, ◌%◌}
use lib.ListN.{get_or}
use Rattle.command.specs.Sample.{stops, channel_at}
use Rattle.command.proofs.sample.channel_at.Goals as goal

made : (entry channel low high : ℕ) → low ≡ get_or stops (entry / 64 * 3 + channel) 0 → high ≡ get_or stops (entry / 64 * 3 + channel + 3) 0
    → (low * (64 - entry % 64) + high * (entry % 64)) / 64 ≡ channel_at entry channel
unfolding channel_at
made entry channel low high e f = rw (e, f)

pub returns : goal.returns
returns c =
    let a = c.args in
    c.between.ensures ∙ made a.entry a.channel c.stop.result c.stop-2.result c.stop.ensures.0 c.stop-2.ensures.0
