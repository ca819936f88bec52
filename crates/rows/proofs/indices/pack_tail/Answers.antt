use Rattle.std.proofs.Common.{◌≡◌, ℕ, length, get_or, sym, ◌∙◌, arith}
use Rattle.leaves.specs.Lists.{tab}
use Rattle.rows.specs.Packing.{packed_byte_of, packed}
use Rattle.leaves.proofs.ListLaws.{length-tab, get_or-tab}
use Rattle.leaves.proofs.Puts.{put_step, put_done}
use Rattle.rows.proofs.indices.pack_tail.Goals as goal

pub loop-i-preserved : goal.loop-i-preserved
unfolding packed
loop-i-preserved c =
    let l = c.loop-i in
    let a = c.args in
    let g : ℕ → ℕ = packed_byte_of a.bpp (λ x. get_or a.src.now x 0) in
    let s = tab g a.n in
    let n : length s ≡ a.n = length-tab g a.n in
    put_step l.dst a.at s l.i c.packed_byte.result (c.packed_byte.ensures ∙ sym (get_or-tab g a.n l.i 0 (omega arith))) (omega arith) (omega arith) ∙ l.invariant

pub returns : goal.returns
unfolding packed
returns c =
    let l = c.loop-i in
    let a = c.args in
    let g : ℕ → ℕ = packed_byte_of a.bpp (λ x. get_or a.src.now x 0) in
    let n : length (tab g a.n) ≡ a.n = length-tab g a.n in
    sym (put_done l.dst a.at (tab g a.n) l.i (omega arith)) ∙ l.invariant
