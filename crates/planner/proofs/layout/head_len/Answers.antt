use mathlib.Core.Path.{◌≡◌, refl, ap, ◌∙◌}
use mathlib.Core.Bool.{Bool, cond}
use Prim.Native.Nat.{◌+◌, ◌*◌, ◌≤◌}
use native.Mathlib.Omega.{arith}
use lib.ListN.{length}
use Rattle.std.proofs.Common.{Option, Some, None}
use Rattle.leaves.specs.declared.options.CalibratedRgb.{CalibratedRgb}
use Rattle.leaves.specs.Masks.{has_alpha_mask}
use Rattle.leaves.specs.Options.{bitfields_in, calibrated_in}
use Rattle.format.specs.declared.layout.Layout.{Layout}
use Rattle.format.specs.Layout.{head_len, layout_of}
use Rattle.format.proofs.Modes.{given_mode}
use Rattle.planner.proofs.LayoutLaws.{head_is}
use Rattle.planner.proofs.layout.head_len.Goals.{After-mask_bytes}
use Rattle.planner.proofs.layout.head_len.Goals as goal

-- calibrated colour has nine endpoints and three gammas, given or not
counts : (c : After-mask_bytes) → (length (calibrated_in c.args.options).endpoints ≡ 9) × (length (calibrated_in c.args.options).gamma ≡ 3)
counts c = go c.args.options.calibrated_rgb refl
  where
    go : (o : Option CalibratedRgb) → c.args.options.calibrated_rgb ≡ o → (length (calibrated_in c.args.options).endpoints ≡ 9) × (length (calibrated_in c.args.options).gamma ≡ 3)
    go None q = (rw q, rw q)
    go (Some x) q = let k = (rw q at c.well_formed.1.1.0.1.1.1.1.1.1.1.1.0).1.1.1.1.0.1.1 in (rw q k.0.1.0.1, rw q k.1.0.1.0.1)

-- header, masks and table, as the layout handed in has them, make the head
whole : (c : After-mask_bytes) → (14 + c.args.layout.header_size + c.mask_bytes.result + 4 * c.args.layout.entries ≡ head_len c.args.src c.args.options c.args.palette_bytes)
    × (head_len c.args.src c.args.options c.args.palette_bytes ≤ 1162)
unfolding layout_of
whole c =
    let a = c.args in
    let size = ap (λ (l : Layout). l.header_size) c.requires in
    let entries = ap (λ (l : Layout). l.entries) c.requires in
    let masks = c.mask_bytes.ensures ∙ ap (λ (b : Bool). cond b (cond (has_alpha_mask (bitfields_in a.options).masks) 16 12) 0) (given_mode a.src a.options) in
    let n = counts c in
    let h = head_is a.src a.options a.palette_bytes c.mask_bytes.result n.0 n.1 masks in
    (omega (arith, h.0, size, entries), h.1)

pub overflow_add-result-2 : goal.overflow_add-result-2
overflow_add-result-2 c = let h = whole (goal.at.overflow_add-result-2 c).After-mask_bytes in record { fits = omega (arith, h.0, h.1) }

pub overflow_mul-result : goal.overflow_mul-result
overflow_mul-result c = let h = whole (goal.at.overflow_mul-result c).After-mask_bytes in record { fits = omega (arith, h.0, h.1) }

pub overflow_add-result-3 : goal.overflow_add-result-3
overflow_add-result-3 c = let h = whole (goal.at.overflow_add-result-3 c).After-mask_bytes in record { fits = omega (arith, h.0, h.1) }

pub returns : goal.returns
returns c = let h = whole (goal.at.returns c).After-mask_bytes in (h.0, omega (arith, h.0, h.1))
