use Rattle.std.proofs.Common.{ℕ, get_or, sym, ap, ◌∙◌, zero-add}
use Rattle.rows.specs.Windows.{bit}
use Rattle.rows.proofs.WordLaws.{word_moved}
use Rattle.rows.proofs.windows.flag_byte.Goals as goal

pub returns : goal.returns
returns c f h =
    let a = c.args in
    c.low_bits.ensures f
    (c.le64.ensures
    ∙ word_moved (λ i. get_or a.flags.now i 0) (λ k. bit (f k)) 8 a.i 0 (λ k l. h k l ∙ ap (λ (z : ℕ). bit (f z)) (sym (zero-add k))))
