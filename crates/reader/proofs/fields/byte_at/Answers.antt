use lib.ListN.{get_or-eq_default}
use mathlib.Core.Path.{refl, sym}
use native.Mathlib.Omega.{arith}
use Rattle.reader.proofs.fields.byte_at.Goals as goal

pub overflow_cast-result : goal.overflow_cast-result
overflow_cast-result c = omega (arith, c.shared_slice_known-1.given c.args.at)

pub returns-then-at-file : goal.returns-then-at-file
returns-then-at-file c = (refl, omega (arith, c.shared_slice_known-1.given c.args.at))

pub returns : goal.returns
returns c = (sym (get_or-eq_default c.args.file.now 0 c.if-at-file.false), omega arith)
