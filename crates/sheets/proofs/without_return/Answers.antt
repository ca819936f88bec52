use denote.Ref.{Bor}
use mathlib.Core.List.{List}
use mathlib.Core.Path.{ap, ◌∙◌}
use Prim.Native.Nat.{ℕ}
use Rattle.sheets.proofs.SheetLaws.{stripped}
use Rattle.sheets.proofs.without_return.Goals as goal

pub returns : goal.returns
returns c = ap (λ (b : Bor (List ℕ)). b.now) c.unwrap_or.ensures ∙ stripped c.args.line c.strip_suffix.result c.strip_suffix.ensures.cases
