use Rattle.std.proofs.Common.{ℕ, ◌+◌, ◌*◌, ◌<◌, get_or, ap, ◌∙◌, arith}
use Rattle.leaves.specs.Bytes.{le32}
use Rattle.rows.proofs.Cells.{le32_made, reversed_cell}
use Rattle.rows.proofs.exchange.cell_word24.Goals as goal

pub returns : goal.returns
returns c =
    let a = c.args in
    let small : (i : ℕ) → get_or a.src.now i 0 < 256 = λ i. omega (arith, c.type_inv.src i) in
    let s = a.x * 3 in
    ap le32 c.from_le_bytes.ensures ∙ le32_made _ _ _ _ (small (s + 2)) (small (s + 1)) (small s) (omega arith) ∙ reversed_cell a.src.now a.x
