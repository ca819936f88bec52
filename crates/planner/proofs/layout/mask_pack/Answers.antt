use Rattle.rows.specs.declared.pack.RowPack.TheVariants.{Masks}
use Rattle.planner.proofs.LayoutLaws.{channels_are}
use Rattle.planner.proofs.layout.mask_pack.Goals as goal

pub returns : goal.returns
returns c =
    let a = c.args in
    let e = c.new-layout.ensures in
    let l = channels_are a.bpp a.masks c.new-layout.result c.requires e.0 e.1 e.2 e.3 e.4 in
    λ z. Masks (c.bytes_per_pixel-in_bpp.ensures z) (c.is_blue_first-bgr.ensures z) (l z)
