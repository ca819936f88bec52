use Rattle.std.proofs.Common.{◌∙◌}
use Rattle.leaves.specs.Bytes.{le32, length-le32}
use Rattle.leaves.proofs.ListLaws.{le32_bytes}
use Rattle.leaves.proofs.Puts.{part_put}
use Rattle.leaves.proofs.buffer.U32LittleEndian.put.Goals as goal

pub returns : goal.returns
returns c =
    let a = c.args in
    part_put a.buf.now _ (le32 a.self) a.at 4 (c.copy_from_slice.ensures.after ∙ c.to_le_bytes.ensures ∙ le32_bytes a.self) (length-le32 a.self)
