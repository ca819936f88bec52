use mathlib.Core.Path.{refl, sym}
use Prim.Native.Nat.{◌+◌, ◌*◌}
use native.Mathlib.Omega.{arith}
use Rattle.format.specs.Headers.{dwords}
use Rattle.leaves.proofs.Puts.{put-nil}
use Rattle.planner.proofs.HeadLaws.{next_dword, all_dwords}
use Rattle.planner.proofs.heads.put_dwords.Goals as goal

pub loop-i-init : goal.loop-i-init
unfolding dwords
loop-i-init c = (refl, sym (put-nil c.args.buf.now c.args.at))

pub loop-i-preserved : goal.loop-i-preserved
loop-i-preserved c =
    let l = c.loop-i in
    let a = c.args in
    let p = c.put_number in (
      omega arith,
      next_dword a.src.now a.buf.now l.buf p.new.buf a.at l.i (a.at + 4 * l.i) (omega arith) (omega arith) refl l.invariant.1 p.ensures,
    )

pub shape_of-buf : goal.shape_of-buf
shape_of-buf c = c.loop-i.invariant.0

pub returns : goal.returns
returns c =
    let a = c.args in
    all_dwords a.src.now a.buf.now c.loop-i.buf a.at c.loop-i.i (omega arith) c.loop-i.invariant.1
