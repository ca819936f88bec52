use Rattle.std.proofs.Common.{false, arith}
use Rattle.rows.specs.StoredRows.{mask_cell}
use Rattle.rows.proofs.MaskCells.{no_cells, word_turn, all_put}
use Rattle.rows.proofs.ShortFields.{of_pixel}
use Rattle.rows.proofs.masks.MaskLayout.short_cells.Goals as goal

pub loop-x-init : goal.loop-x-init
loop-x-init g c = let a = c.args in no_cells (mask_cell a.self 4 false a.src.now) a.dst.now a.at

pub loop-x-preserved : goal.loop-x-preserved
loop-x-preserved g c =
    let l = c.loop-x in
    let a = c.args in
    word_turn a.self 4 a.src.now a.dst.now l.dst c.put_cell.new.dst a.at g.row.BYTES l.x a.width c.short_word-word.result c.requires.layout_ok.depth c.requires.depth c.loop-x-test.true c.requires.width_in_bounds l.invariant
    (of_pixel a.self a.src.now l.x c.pixel_word.result c.short_word-word.result c.pixel_word.ensures c.short_word-word.ensures) c.put_cell.ensures

pub returns : goal.returns
returns g c =
    let a = c.args in
    let l = c.loop-x in
    all_put (mask_cell a.self 4 false a.src.now) a.dst.now l.dst a.at l.x a.width (omega arith) l.invariant
