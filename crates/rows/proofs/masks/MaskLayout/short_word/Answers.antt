use Rattle.rows.proofs.ShortFields.{of_fields}
use Rattle.rows.proofs.masks.MaskLayout.short_word.Goals as goal

pub returns : goal.returns
returns c =
    let a = c.args in
    of_fields a.self a.pixel c.short_field-r.result c.short_field-g.result c.short_field-b.result c.short_field-a.result
    c.short_field-r.ensures c.short_field-g.ensures c.short_field-b.ensures c.short_field-a.ensures
