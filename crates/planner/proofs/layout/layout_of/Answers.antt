use mathlib.Core.Path.{◌≡◌, sym, ap, ◌∙◌}
use Rattle.std.proofs.Common.{is_some}
use Rattle.leaves.specs.declared.bitfields.BmpBitfields.{BmpBitfields}
use Rattle.leaves.specs.Masks.{mask_compression}
use Rattle.leaves.specs.Options.{bitfields_in}
use mathlib.Core.Bool.{true, false}
use Rattle.format.proofs.Modes.{given_mode}
use Rattle.format.specs.Layout.{is_masked, mask_pack, mask_format}
use Rattle.planner.proofs.LayoutLaws.{layout_is}
use Rattle.planner.proofs.layout.layout_of.Goals as goal

pub mask_pack-pack-requires : goal.mask_pack-pack-requires
mask_pack-pack-requires c =
    let a = c.args in
    let masks = c.requires.masks_checked (ap is_some c.in-Some.is) in
    rw c.in-Some.is at masks

pub returns-in-Some : goal.returns-in-Some
returns-in-Some c =
    let a = c.args in
    let masked = ap is_masked c.requires.mode_chosen ∙ sym (given_mode a.src a.options) in
    let given : c.in-Some.bitfields ≡ bitfields_in a.options = rw c.in-Some.is in
    layout_is a.src a.options a.palette_bytes a.mode true _ _ _ _ _ _ _ c.requires.mode_chosen (masked ∙ ap is_some c.in-Some.is) c.header_size-header_size.ensures c.table_entries-entries.ensures.0
    c.coding_of-coding.ensures (ap (λ (b : BmpBitfields). b.bpp) given) (c.mask_pack-pack.ensures ∙ ap (λ (b : BmpBitfields). mask_pack a.src.format b.bpp b.masks) given)
    (c.compression.ensures ∙ ap (λ (b : BmpBitfields). mask_compression b.masks) given) (c.mask_format-written.ensures ∙ ap (λ (b : BmpBitfields). mask_format b.masks) given)

pub returns : goal.returns
returns c =
    let a = c.args in
    let masked = ap is_masked c.requires.mode_chosen ∙ sym (given_mode a.src a.options) in
    layout_is a.src a.options a.palette_bytes a.mode false _ _ _ _ _ _ _ c.requires.mode_chosen (masked ∙ ap is_some c.in_default.is) c.header_size-header_size.ensures c.table_entries-entries.ensures.0
    c.coding_of-coding.ensures c.bits_per_pixel.ensures c.plain_pack-pack.ensures c.plain_compression.ensures c.plain_token-written.ensures
