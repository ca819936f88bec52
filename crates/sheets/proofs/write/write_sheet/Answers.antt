use Rattle.sheets.proofs.TextLoop.{text_start, text_turn, text_end}
use Rattle.sheets.proofs.write.write_sheet.Goals as goal

pub loop-k-init : goal.loop-k-init
loop-k-init c = text_start c.requires.cells_in_bounds

pub loop-k-preserved : goal.loop-k-preserved
loop-k-preserved c =
    let put = c.put_number-at.ensures in
    text_turn c.requires.cells_in_bounds c.loop-k.invariant c.loop-k-test.true c.mark_behind.result c.put_number-at.result c.put_number-at.new.text c.mark_behind.ensures put.0 put.1 put.2

pub returns : goal.returns
returns c = text_end c.requires.cells_in_bounds c.loop-k.invariant c.loop-k-test.false
