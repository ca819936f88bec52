use Rattle.std.proofs.Common.{◌∙◌}
use Rattle.rows.proofs.FieldLists.{four_channels, fields_ordered}
use Rattle.rows.proofs.masks.MaskLayout.put_fields.Goals as goal

pub returns : goal.returns
returns c =
    let o = c.ordered-layout in
    let red = c.put_channel in
    let green = c.put_channel-2 in
    let blue = c.put_channel-3 in
    let alpha = c.put_channel-4 in
    four_channels o.result c.args.fields.now red.new.fields green.new.fields blue.new.fields alpha.new.fields c.requires.fields_len
    red.ensures green.ensures blue.ensures alpha.ensures
    ∙ fields_ordered c.args.self o.result c.args.bgr o.ensures
