-- Rows::new follows the rows 12 and 13.
use mathlib.Core.Path.{◌≡◌, refl}
use mathlib.Core.List.{[], ◌∷◌}
use Prim.Native.Nat.{◌*◌, ◌^◌, ◌≤◌, ◌<◌, min}
use native.Mathlib.Nat.{min-eq_left, mul-le-mul}
use native.Mathlib.Omega.{arith}
use lib.ListN.{length}
use Rattle.leaves.specs.declared.error.Refusal.TheVariants.{PlaneTooShort, StrideTooShort}
use Rattle.leaves.specs.Refusals.{plane_too_short, stride_too_short, plane_rows}
use Rattle.leaves.specs.Sizes as document
use Rattle.format.specs.Input.{Input}
use Rattle.reference.specs.Rust.{done, plane_truncated, stride_below_row}
use Rattle.reference.specs.Packing.{RowPack, pack_bits, source_bytes, Rows, new_rows}
use Rattle.reference.proofs.RunLaws.{mul_is}
use Rattle.reference.proofs.PackingLaws.{stride_is}
use Rattle.reference.proofs.Follows as follow
use Rattle.reference.proofs.Follows.{Follows}

-- the rows of a call in a pack
abbrev pub rows_for : RowPack → Input → Rows
rows_for pack i =
    record {
      plane = record { stride = i.source.stride; «data» = i.plane };
      pack = pack;
      width = i.source.width;
      height = i.source.height;
      top_down = i.options.top_down;
      stride = document.row_stride i.source.width (pack_bits pack);
    }

pub new_rows_lem : (i : Input) (p : RowPack) → i.source.width < 2 ^ 32 → i.source.stride * i.source.height < 2 ^ 64 → source_bytes p ≤ 4 → pack_bits p ≤ 32
    → Follows (plane_rows i.source.width i.source.height i.source.stride (source_bytes p) (length i.plane))
    (new_rows (record { stride = i.source.stride; «data» = i.plane }) p i.source.width i.source.height i.options.top_down) (done (rows_for p i))
unfolding new_rows plane_rows
new_rows_lem i p wide product bytes bits =
    let w = i.source.width in
    let m : w * source_bytes p ≤ 4294967295 * 4 = mul-le-mul {n₁ = w} {m₁ = source_bytes p} {n₂ = 4294967295} {m₂ = 4} (omega (arith, wide)) bytes in
    let s : min (w * source_bytes p) 18446744073709551615 ≡ w * source_bytes p = min-eq_left (omega (arith, m)) in
    rw (mul_is 64 i.source.stride i.source.height product, s, stride_is w (pack_bits p) wide bits)
    (follow.then ((plane_too_short i.source.stride i.source.height (length i.plane), PlaneTooShort) ∷ []) ((stride_too_short i.source.stride w (source_bytes p), StrideTooShort) ∷ []) _ _ _
    (follow.row_fails_lem (plane_too_short i.source.stride i.source.height (length i.plane)) PlaneTooShort plane_truncated _ refl)
    (λ _. follow.row_fails_lem (stride_too_short i.source.stride w (source_bytes p)) StrideTooShort stride_below_row _ refl))
