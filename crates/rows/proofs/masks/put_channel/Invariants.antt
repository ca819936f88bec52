use Rattle.std.proofs.Common.{◌≡◌}
use Rattle.leaves.specs.Lists.{tab}
use Rattle.leaves.specs.Put.{put}
use Rattle.rows.specs.StoredRows.{field}
use Rattle.rows.proofs.masks.put_channel.Given as goal

abbrev pub invariant-loop-sample : goal.invariant-loop-sample
invariant-loop-sample l = l.fields ≡ put l.initial.fields l.at (tab (field l.channel) l.sample)
