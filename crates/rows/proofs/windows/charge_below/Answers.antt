use Rattle.std.proofs.Common.{ℕ, ◌*◌, ap, arith}
use Rattle.rows.specs.Windows.{charged}
use Rattle.rows.proofs.Charges.{below_law, below_le}
use Rattle.rows.proofs.windows.charge_below.Goals as goal

pub returns : goal.returns
returns c =
    let x = c.charges.result in
    let v = c.args.v in
    (λ f h. ap (λ (z : ℕ). 2 * z) (below_law x v (omega arith) (charged f) (c.charges.ensures f h)), omega (arith, below_le x v))
