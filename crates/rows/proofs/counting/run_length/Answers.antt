use Rattle.std.proofs.Common.{arith}
use Rattle.rows.specs.RleCodes.{is_rle4, depth_of}
use Rattle.rows.proofs.Scans as Laws
use Rattle.rows.proofs.counting.run_length.Goals.{else-most-gt8, then-most-gt8+else-same-lt8}
use Rattle.rows.proofs.counting.run_length.Goals as goal

pub returns-then-same-lt8 : goal.returns-then-same-lt8
returns-then-same-lt8 c =
    let a = c.args in
    Laws.run_first_stop (depth_of (is_rle4 a.rle)) a.row.now a.at c.same_of-same.result (c.same_of-same.ensures (is_rle4 a.rle) a.row.now a.at (c.requires.2 (omega arith))) (omega arith) c.if-same-lt8.true

pub long_run-count-requires : goal.long_run-count-requires
long_run-count-requires c =
    let a = c.args in
    (Laws.run_first_on (depth_of (is_rle4 a.rle)) a.row.now a.at c.same_of-same.result (c.same_of-same.ensures (is_rle4 a.rle) a.row.now a.at (c.requires.2 (omega arith))) (omega arith) c.if-same-lt8.false, c.min-most.ensures, omega arith)

pub loop-count-preserved-then-most-count-gt7 : goal.loop-count-preserved-then-most-count-gt7
loop-count-preserved-then-most-count-gt7 c =
    let a = c.args in
    let l = c.loop-count in
    Laws.run_eight_on (depth_of (is_rle4 a.rle)) a.row.now a.at l.count l.invariant c.same_of-same-then-most-count-gt7.result (c.same_of-same-then-most-count-gt7.ensures (is_rle4 a.rle) a.row.now _ c.differences.ensures) (omega arith) (omega arith) c.if-same-lt8-2.false

pub loop-count-preserved : goal.loop-count-preserved
loop-count-preserved c =
    let a = c.args in
    let l = c.loop-count in
    Laws.run_on (depth_of (is_rle4 a.rle)) a.row.now a.at l.count l.invariant (omega arith) a.v c.cell-w.result c.requires.1 c.cell-w.ensures.0 (omega arith) c.if-w-v.false

pub returns-then-same-lt8-2 : goal.returns-then-same-lt8-2
returns-then-same-lt8-2 c =
    let a = c.args in
    let l = c.loop-count in
    Laws.run_eight_stop (depth_of (is_rle4 a.rle)) a.row.now a.at l.count l.invariant c.same_of-same-then-most-count-gt7.result (c.same_of-same-then-most-count-gt7.ensures (is_rle4 a.rle) a.row.now _ c.differences.ensures) (omega arith) (omega arith) c.if-same-lt8-2.true

pub returns-then-most-count : goal.returns-then-most-count
returns-then-most-count c =
    let a = c.args in
    let l = c.loop-count in
    Laws.run_end (depth_of (is_rle4 a.rle)) a.row.now a.at l.count l.invariant c.min-most.result c.min-most.ensures c.if-most-count.true

pub returns-then-w-v : goal.returns-then-w-v
returns-then-w-v c =
    let a = c.args in
    let l = c.loop-count in
    Laws.run_stop (depth_of (is_rle4 a.rle)) a.row.now a.at l.count l.invariant (omega arith) a.v c.cell-w.result c.requires.1 c.cell-w.ensures.0 c.if-w-v.true
