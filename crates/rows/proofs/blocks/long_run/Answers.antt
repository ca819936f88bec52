use Rattle.std.proofs.Common.{refl, arith}
use Rattle.rows.specs.RleCodes.{is_rle4}
use Rattle.rows.proofs.LongRuns.{run_on_32}
use Rattle.rows.proofs.blocks.long_run.Goals as goal

pub loop-n-preserved : goal.loop-n-preserved
loop-n-preserved c =
    let a = c.args in
    let l = c.loop-n in (
      run_on_32 (is_rle4 a.rle) a.row.now a.at l.n _ _ _ _ _ l.invariant.0 refl c.differences.ensures c.differences-in-loop-n.ensures c.differences-in-loop-n-2.ensures c.differences-in-loop-n-3.ensures c.if-x-ne0.false (omega arith) (omega arith),
      omega arith,
      omega arith,
    )
