use Rattle.std.proofs.Common.{false, arith}
use Rattle.rows.specs.StoredRows.{mask_cell}
use Rattle.rows.proofs.MaskCells.{no_cells, word_turn, all_put}
use Rattle.rows.proofs.masks.MaskLayout.long_cells.Goals as goal

pub loop-x-init : goal.loop-x-init
loop-x-init g c = let a = c.args in no_cells (mask_cell a.self a.in_bpp false a.src.now) a.dst.now a.at

pub loop-x-preserved : goal.loop-x-preserved
loop-x-preserved g c =
    let l = c.loop-x in
    let a = c.args in
    word_turn a.self a.in_bpp a.src.now a.dst.now l.dst c.put_cell.new.dst a.at g.row.BYTES l.x a.width c.word-word.result c.requires.layout_ok.depth c.requires.depth c.loop-x-test.true c.requires.width_in_bounds l.invariant
    c.word-word.ensures c.put_cell.ensures

pub returns : goal.returns
returns g c =
    let a = c.args in
    let l = c.loop-x in
    all_put (mask_cell a.self a.in_bpp false a.src.now) a.dst.now l.dst a.at l.x a.width (omega arith) l.invariant
