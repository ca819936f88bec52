use mathlib.Core.Path.{◌≡◌, refl, sym, ap, ◌∙◌}
use Prim.Native.Nat.{ℕ, ◌+◌, ◌*◌}
use native.Mathlib.Omega.{arith}
use Rattle.leaves.specs.Lists.{cat}
use Rattle.leaves.specs.Put.{put}
use Rattle.format.specs.File.{table_entry}
use Rattle.leaves.proofs.Puts.{put-nil}
use Rattle.planner.proofs.HeadLaws.{next_entry}
use Rattle.planner.proofs.heads.write_color_table.Goals as goal

pub loop-k-init : goal.loop-k-init
unfolding cat
loop-k-init c = (refl, sym (put-nil c.args.buf.now c.args.at))

pub loop-k-preserved : goal.loop-k-preserved
loop-k-preserved c =
    let l = c.loop-k in
    let a = c.args in
    let p = c.put_slice in
    let e = p.ensures ∙ ap (put l.buf (a.at + l.k * 4)) c.table_entry-entry.ensures in (
      omega arith,
      next_entry a.palette.now a.buf.now l.buf p.new.buf a.at l.k (a.at + l.k * 4) a.entries (omega arith) (omega arith) refl l.invariant.1 e,
    )

pub shape_of-buf : goal.shape_of-buf
shape_of-buf c = c.loop-k.invariant.0

pub returns : goal.returns
returns c =
    let a = c.args in
    let done : c.loop-k.k ≡ a.entries = omega arith in
    c.loop-k.invariant.1 ∙ ap (λ (n : ℕ). put a.buf.now a.at (cat (table_entry a.palette.now) n)) done
