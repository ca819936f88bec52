use Rattle.std.proofs.Common.{◌∙◌}
use Rattle.leaves.specs.Bytes.{le16, length-le16}
use Rattle.leaves.proofs.ListLaws.{le16_bytes}
use Rattle.leaves.proofs.Puts.{part_put}
use Rattle.leaves.proofs.buffer.U16LittleEndian.put.Goals as goal

pub returns : goal.returns
returns c =
    let a = c.args in
    part_put a.buf.now _ (le16 a.self) a.at 2 (c.copy_from_slice.ensures.after ∙ c.to_le_bytes.ensures ∙ le16_bytes a.self) (length-le16 a.self)
