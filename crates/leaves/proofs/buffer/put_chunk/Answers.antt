use Rattle.std.proofs.Common.{◌∙◌, length, rules, refl}
use Rattle.std.proofs.lemmas.Slice.{overwrites}
use Rattle.leaves.proofs.Puts.{part_put}
use Rattle.leaves.proofs.buffer.put_chunk.Goals as goal

pub returns : goal.returns
returns c =
    let a = c.args in
    let n = length a.src.now in
    part_put a.buf.now _ a.src.now a.at n (c.copy_from_slice-2.ensures.after ∙ search (rules, overwrites)) refl
