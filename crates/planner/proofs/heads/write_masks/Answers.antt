use mathlib.Core.Path.{refl, sym, ap, ◌∙◌}
use mathlib.Core.List.{[], ◌∷◌}
use Prim.Native.Nat.{◌+◌}
use native.Mathlib.Omega.{arith}
use lib.ListN.{get_or}
use Rattle.leaves.specs.Bytes.{le32}
use Rattle.leaves.specs.Put.{put}
use Rattle.format.specs.Headers.{dwords}
use Rattle.format.proofs.HeadTable.{dwords-length}
use Rattle.planner.proofs.HeadLaws.{put_next, tail_alpha, tail_none, tail_long, tail-length}
use Rattle.planner.proofs.heads.write_masks.Goals as goal

pub put_dwords-requires : goal.put_dwords-requires
put_dwords-requires c = record { src_len_bound = omega arith; src_in_bounds = omega (arith, tail_long c.args.masks) }

pub put_number-requires : goal.put_number-requires
put_number-requires c = omega (arith, tail-length c.args.masks c.if-alpha-ne0.true)

pub returns-then-alpha-ne0 : goal.returns-then-alpha-ne0
returns-then-alpha-ne0 c =
    let a = c.args in
    let p = c.put_dwords in
    let q = c.put_number in
    let some = c.if-alpha-ne0.true in
    put_next a.buf.now p.new.buf q.new.buf (dwords (get_or a.masks 0 0 ∷ get_or a.masks 1 0 ∷ get_or a.masks 2 0 ∷ [])) (le32 (get_or a.masks 3 0)) a.at 12 (a.at + 12)
    (dwords-length (get_or a.masks 0 0 ∷ get_or a.masks 1 0 ∷ get_or a.masks 2 0 ∷ [])) refl (omega (arith, tail_long a.masks)) p.ensures q.ensures
    ∙ ap (put a.buf.now a.at) (sym (tail_alpha a.masks some))

pub returns-else-alpha-ne0 : goal.returns-else-alpha-ne0
returns-else-alpha-ne0 c =
    let a = c.args in
    c.put_dwords.ensures ∙ ap (put a.buf.now a.at) (sym (tail_none a.masks c.if-alpha-ne0.false))
