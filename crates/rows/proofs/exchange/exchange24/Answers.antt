use Rattle.std.proofs.Common.{◌≡◌, ℕ, ◌+◌, ◌-◌, ◌*◌, false, [], ◌∷◌, refl, ap, ◌∙◌, arith}
use Rattle.leaves.specs.Put.{put}
use Rattle.rows.specs.StoredRows.{cell24}
use Rattle.rows.proofs.Cells.{length-cell24, cell_and_more}
use Rattle.rows.proofs.Exchanges.{last_exchanged}
use Rattle.rows.proofs.exchange.exchange24.Goals as goal

pub loop-x-preserved : goal.loop-x-preserved
loop-x-preserved c =
    let l = c.loop-x in
    let a = c.args in
    let p = c.put_number in
    cell_and_more (cell24 false a.src.now) 3 (length-cell24 false a.src.now) a.width l.x (a.at + l.x * 3) a.at l.dst p.new.buf (0 ∷ []) (omega arith) (omega arith) refl (omega arith)
    (p.ensures ∙ ap (put l.dst (a.at + l.x * 3)) c.cell_word24.ensures)
    ∙ l.invariant

pub returns : goal.returns
returns c =
    let l = c.loop-x in
    let a = c.args in
    let m = c.exchange_most-done in
    let e = c.exchange_cell in
    let last : a.width - 1 ≡ l.x = omega arith in
    last_exchanged a.src.now a.dst.now m.new.dst l.dst a.at m.result l.x a.width m.ensures.0 (omega arith) m.ensures.1 l.invariant e.new.dst (omega arith) (omega arith) (omega arith)
    (e.ensures ∙ ap (λ (x : ℕ). put l.dst (a.at + x * 3) (cell24 false a.src.now x)) last)
