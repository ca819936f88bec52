use Rattle.std.proofs.Common.{◌+◌, get_or, refl, ◌∙◌, arith, length-set}
use Rattle.leaves.specs.Lists.{tab}
use Rattle.leaves.proofs.ListLaws.{length-tab}
use Rattle.leaves.proofs.Puts.{part_put}
use Rattle.rows.proofs.Nibbles.{byte_4, fill, filled}
use Rattle.rows.proofs.indices.pack_sixteen.Invariants.{byte}
use Rattle.rows.proofs.indices.pack_sixteen.Goals as goal

pub loop-j-init : goal.loop-j-init
unfolding tab
loop-j-init c = (refl, refl)

pub loop-j-preserved : goal.loop-j-preserved
loop-j-preserved c =
    let l = c.loop-j in
    let a = c.args in (
      simp length-set l.invariant.0,
      fill l.bytes (byte a.src.now a.i) l.j c.nibbles.result (omega arith) l.invariant.1 (c.nibbles.ensures ∙ byte_4 (λ x. get_or a.src.now x 0) (a.i + l.j)),
    )

pub returns : goal.returns
returns c =
    let l = c.loop-j in
    let a = c.args in
    let f = byte a.src.now a.i in
    part_put a.dst.now _ (tab f 16) a.at 16 (c.copy_from_slice.ensures.after ∙ filled l.bytes f l.j 16 l.invariant.0 (omega arith) (omega arith) l.invariant.1) (length-tab f 16)
