use Rattle.std.proofs.Common.{ℕ, replicate, ap, ◌∙◌, arith, length-take, length-drop}
use Rattle.std.proofs.lemmas.List.{length-replicate}
use Rattle.leaves.proofs.Puts.{part_put}
use Rattle.leaves.proofs.buffer.put_zeros.Goals as goal

pub returns : goal.returns
returns c =
    let a = c.args in
    part_put a.buf.now _ (replicate a.n 0) a.at a.n (c.fill.ensures.after (λ y e. e) ∙ ap (λ (k : ℕ). replicate k 0) (simp (length-take, length-drop) (omega arith))) (length-replicate a.n 0)
