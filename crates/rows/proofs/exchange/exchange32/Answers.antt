use Rattle.std.proofs.Common.{◌+◌, ◌*◌, false, refl, ap, ◌∙◌, arith}
use Rattle.leaves.specs.Put.{put}
use Rattle.rows.specs.StoredRows.{cell32}
use Rattle.rows.proofs.Cells.{exchange_pixel, length-cell32}
use Rattle.rows.proofs.MaskCells.{no_cells}
use Rattle.rows.proofs.PackLaws.{put_cell}
use Rattle.rows.proofs.exchange.exchange32.Goals as goal

pub loop-x-init : goal.loop-x-init
loop-x-init c = let a = c.args in no_cells (cell32 false a.src.now) a.dst.now a.at

pub loop-x-preserved : goal.loop-x-preserved
loop-x-preserved c =
    let l = c.loop-x in
    let a = c.args in
    let o = a.at + l.x * 4 in
    let w = c.pixel_word in
    let e = c.exchanged in
    let p = c.put_number in
    put_cell a.dst.now l.dst p.new.buf a.at 4 l.x (l.x + 1) o (cell32 false a.src.now) (length-cell32 false a.src.now) l.invariant
    (p.ensures ∙ ap (put l.dst o) (exchange_pixel a.src.now l.x w.result e.result w.ensures e.ensures)) refl refl (omega arith)
