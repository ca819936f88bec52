use mathlib.Core.Path.{◌≡◌, sym, ap, ◌∙◌}
use mathlib.Core.Bool.{Bool, cond}
use Prim.Native.Nat.{ℕ}
use native.Mathlib.Omega.{arith}
use lib.ListN.{length}
use Rattle.leaves.specs.declared.bitfields.BmpBitfields.{BmpBitfields}
use Rattle.leaves.specs.declared.options.CalibratedRgb.{CalibratedRgb}
use Rattle.leaves.specs.Options.{bitfields_in, calibrated_in}
use Rattle.format.specs.Headers.{v4_fields, longs}
use Rattle.format.specs.Layout.{mask_tail}
use Rattle.leaves.specs.Put.{put}
use Rattle.format.specs.declared.layout.Mode.{Mode}
use Rattle.planner.specs.Plans.{rest_len}
use Rattle.planner.proofs.HeadWrites.{masks_given, colour_given, rest_masked, rest_calibrated, rest_profiled, rest_long, rest_none}
use Rattle.planner.proofs.encoder.write_rest.Goals as goal

pub unwrap-bitfields-requires : goal.unwrap-bitfields-requires
unwrap-bitfields-requires c = let a = c.args in masks_given a.mode a.src a.options c.requires.mode_chosen c.in-Masked.is

pub unwrap-given-requires : goal.unwrap-given-requires
unwrap-given-requires c = let a = c.args in colour_given a.mode a.src a.options c.requires.mode_chosen c.in-Calibrated.is

pub write_masks-requires : goal.write_masks-requires
write_masks-requires c =
    let a = c.args in
    let e = ap (λ (m : Mode). rest_len m a.src a.options) c.in-Masked.is in
    let given : bitfields_in a.options ≡ c.unwrap-bitfields.result = rw c.unwrap-bitfields.ensures in
    omega (arith, e, ap (λ (b : BmpBitfields). length (mask_tail b.masks)) given)

pub write_v4_fields-requires : goal.write_v4_fields-requires
write_v4_fields-requires c =
    let a = c.args in
    let e = ap (λ (m : Mode). rest_len m a.src a.options) c.in-Calibrated.is in
    omega (arith, e)

pub write_v4_fields-requires-in-Profiled : goal.write_v4_fields-requires-in-Profiled
write_v4_fields-requires-in-Profiled c =
    let a = c.args in
    let e = ap (λ (m : Mode). rest_len m a.src a.options) c.in-Profiled.is in
    omega (arith, e)

pub put_dwords-requires : goal.put_dwords-requires
put_dwords-requires c =
    let a = c.args in
    let e = ap (λ (m : Mode). rest_len m a.src a.options) c.in-Profiled.is in
    record { src_len_bound = omega arith; src_in_bounds = omega (arith, e, c.write_v4_fields-in-Profiled.auto.buf) }

pub write_v4_fields-requires-then-is_rgb565 : goal.write_v4_fields-requires-then-is_rgb565
write_v4_fields-requires-then-is_rgb565 c =
    let a = c.args in
    let e = ap (λ (m : Mode). rest_len m a.src a.options) c.in-Plain.is in
    let long = ap (λ (x : Bool). cond {A = ℕ} x 68 0) (sym c.is_rgb565.ensures ∙ c.if-is_rgb565.true) in
    omega (arith, e, long)

pub returns-in-Masked : goal.returns-in-Masked
returns-in-Masked c =
    let a = c.args in
    let given : c.unwrap-bitfields.result ≡ bitfields_in a.options = rw c.unwrap-bitfields.ensures in
    c.write_masks.ensures ∙ ap (put a.buf.now a.at) (ap (λ (b : BmpBitfields). mask_tail b.masks) given ∙ rest_masked a.mode a.src a.options a.profile_size a.profile_data c.in-Masked.is)

pub returns-in-Calibrated : goal.returns-in-Calibrated
returns-in-Calibrated c =
    let a = c.args in
    let l = c.long_masks-masks in
    let given : c.unwrap-given.result ≡ calibrated_in a.options = rw c.unwrap-given.ensures in
    c.write_v4_fields.ensures ∙ ap (put a.buf.now a.at) (ap (λ (x : CalibratedRgb). v4_fields l.result 0 (longs x.endpoints) x.gamma) given ∙ rest_calibrated a.mode a.src a.options a.profile_size a.profile_data l.result c.in-Calibrated.is l.ensures)

pub returns-in-Profiled : goal.returns-in-Profiled
returns-in-Profiled c =
    let a = c.args in
    let l = c.long_masks-masks in
    let space = c.profile_space-space in
    let v = c.write_v4_fields-in-Profiled in
    let p = c.put_dwords in
    let room = ap (λ (m : Mode). rest_len m a.src a.options) c.in-Profiled.is in
    rest_profiled a.mode a.src a.options a.profile_size a.profile_data a.buf.now v.new.buf p.new.buf l.result a.at space.result c.in-Profiled.is l.ensures space.ensures (omega (arith, room)) v.ensures p.ensures

pub returns-then-is_rgb565 : goal.returns-then-is_rgb565
returns-then-is_rgb565 c =
    let a = c.args in
    let l = c.long_masks-masks in
    c.write_v4_fields-then-is_rgb565.ensures
    ∙ ap (put a.buf.now a.at) (rest_long a.mode a.src a.options a.profile_size a.profile_data l.result c.in-Plain.is l.ensures (sym c.is_rgb565.ensures ∙ c.if-is_rgb565.true))

pub returns-else-is_rgb565 : goal.returns-else-is_rgb565
returns-else-is_rgb565 c =
    let a = c.args in
    rest_none a.mode a.src a.options a.profile_size a.profile_data a.buf.now a.at c.in-Plain.is (sym c.is_rgb565.ensures ∙ c.if-is_rgb565.false)
