use Rattle.std.proofs.Common.{sym, arith}
use Rattle.leaves.proofs.Runs.{is_one_run_lem, contiguous, ends_within}
use Rattle.leaves.proofs.bitfields.is_contiguous.Goals as goal

pub returns-then-mask-eq0 : goal.returns-then-mask-eq0
returns-then-mask-eq0 c = sym (is_one_run_lem c.args.mask c.ranges.mask.fits (record { from = 0; count = 0; is = c.if-mask-eq0.true }))

pub overflow_shr-normalised : goal.overflow_shr-normalised
overflow_shr-normalised c = omega (arith, ends_within c.args.mask (omega (arith, c.if-mask-eq0.false)) c.ranges.mask.fits)

pub returns : goal.returns
returns c = contiguous c.args.mask c.ranges.mask.fits
