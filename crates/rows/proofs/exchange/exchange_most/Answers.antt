use Rattle.std.proofs.Common.{◌≡◌, ℕ, ◌+◌, ◌*◌, ◌/◌, false, ap, ◌∙◌, arith}
use Rattle.leaves.specs.Lists.{cat}
use Rattle.leaves.specs.Put.{put}
use Rattle.rows.specs.StoredRows.{cell24}
use Rattle.rows.proofs.MaskCells.{no_cells}
use Rattle.rows.proofs.Exchanges.{first_cell, sixteen_cells}
use Rattle.rows.proofs.exchange.exchange_most.Goals as goal

pub returns-then-w-eq0 : goal.returns-then-w-eq0
returns-then-w-eq0 c =
    let a = c.args in
    (omega arith, no_cells (cell24 false a.src.now) a.dst.now a.at)

pub loop-turn-preserved : goal.loop-turn-preserved
loop-turn-preserved c =
    let l = c.loop-turn in
    let a = c.args in
    let p = c.exchange_sixteen in
    λ d room e. sixteen_cells a.src.now d l.dst p.new.dst a.at (1 + l.turn * 16) (1 + (l.turn + 1) * 16) (l.invariant d room e) p.ensures (omega arith) (omega arith)

pub returns : goal.returns
returns c =
    let a = c.args in
    let l = c.loop-turn in
    let all : l.turn ≡ c.saturating_sub-turns.result / 16 = omega arith in (
      omega arith,
      l.invariant a.dst.now (omega arith) (first_cell a.src.now a.dst.now a.at c.exchange_cell.new.dst c.exchange_cell.ensures)
          ∙ ap (λ (n : ℕ). put a.dst.now a.at (cat (cell24 false a.src.now) (1 + n * 16))) all,
    )
