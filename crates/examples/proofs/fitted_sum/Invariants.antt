use Rattle.std.proofs.Common.{◌*◌, ◌≤◌}
use Rattle.examples.proofs.fitted_sum.Given as goal

abbrev pub invariant-loop-sample : goal.invariant-loop-sample
invariant-loop-sample l = l.sum ≤ l.sample * 4294967295
