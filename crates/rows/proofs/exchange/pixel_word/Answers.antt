use Rattle.std.proofs.Common.{ℕ, ◌+◌, ◌*◌, ◌<◌, get_or, ap, ◌∙◌, arith}
use Rattle.leaves.specs.Bytes.{le32}
use Rattle.rows.proofs.Cells.{le32_made, pixel_bytes_lem}
use Rattle.rows.proofs.exchange.pixel_word.Goals as goal

pub returns : goal.returns
returns c =
    let a = c.args in
    let small : (i : ℕ) → get_or a.src.now i 0 < 256 = λ i. omega (arith, c.type_inv.src i) in
    let s = a.x * 4 in
    ap le32 c.from_le_bytes.ensures ∙ le32_made _ _ _ _ (small s) (small (s + 1)) (small (s + 2)) (small (s + 3)) ∙ pixel_bytes_lem a.src.now a.x
