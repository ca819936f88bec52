use Rattle.std.proofs.Common.{refl, ◌∙◌, arith, length-set}
use Rattle.leaves.specs.Lists.{tab}
use Rattle.leaves.proofs.Puts.{part_put}
use Rattle.leaves.proofs.ListLaws.{length-tab}
use Rattle.rows.proofs.Nibbles.{fill, filled}
use Rattle.rows.proofs.Exchanges.{byte_at}
use Rattle.rows.proofs.exchange.exchange_sixteen.Invariants.{byte}
use Rattle.rows.proofs.exchange.exchange_sixteen.Goals as goal

pub loop-j-init : goal.loop-j-init
unfolding tab
loop-j-init c = (refl, refl)

pub loop-j-preserved : goal.loop-j-preserved
loop-j-preserved c =
    let l = c.loop-j in
    let a = c.args in (
      simp length-set l.invariant.0,
      fill l.bytes (byte a.src.now a.i) l.j c.exchanged_byte.result (omega arith) l.invariant.1 (byte_at a.src.now a.i l.j c.exchanged_byte.result c.requires.cell_start c.exchanged_byte.ensures),
    )

pub returns : goal.returns
returns c =
    let l = c.loop-j in
    let a = c.args in
    let f = byte a.src.now a.i in
    part_put a.dst.now _ (tab f 48) a.at 48 (c.copy_from_slice.ensures.after ∙ filled l.bytes f l.j 48 l.invariant.0 (omega arith) (omega arith) l.invariant.1) (length-tab f 48)
