use Rattle.leaves.proofs.Fitting.{narrow}
use Rattle.rows.proofs.MaskCells.{field_is}
use Rattle.rows.proofs.masks.short_field.Goals as goal

pub returns : goal.returns
returns c =
    let a = c.args in
    field_is a.channel a.sample _ (narrow a.channel.len a.sample c.requires.len_bound) c.requires.sample_bound c.requires.channel_in_word
