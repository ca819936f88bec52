use mathlib.Core.Path.{subst}
use Rattle.capi.specs.declared.BmpSettings.{BmpSettings}
use Rattle.capi.specs.Interface.{format_at, BoundPromise}
use Rattle.capi.proofs.bmp_encoded_size_bound.Goals as goal

pub returns : goal.returns
returns c =
    let a = c.args in
    let e = c.bmp_encoded_size_bound_with in
    subst
    (λ (s : BmpSettings). BoundPromise (format_at a.source.format) a.source a.options s a.plane.now a.palette.now a.icc.now a.linked_icc.now e.result)
    c.default_settings-settings.ensures
    e.ensures
