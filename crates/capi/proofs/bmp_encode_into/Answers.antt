use mathlib.Core.Path.{subst}
use Rattle.capi.specs.declared.BmpSettings.{BmpSettings}
use Rattle.capi.specs.Interface.{format_at, EncodePromise}
use Rattle.capi.proofs.bmp_encode_into.Goals as goal

pub returns : goal.returns
returns c =
    let a = c.args in
    let e = c.bmp_encode_into_with in
    subst
    (λ (s : BmpSettings). EncodePromise (format_at a.source.format) a.source a.options s a.plane.now a.palette.now a.icc.now a.linked_icc.now a.offset a.out.now e.new.out e.result)
    c.default_settings-settings.ensures
    e.ensures
