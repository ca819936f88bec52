use Rattle.std.proofs.Common.{rules}
use mathlib.Core.Path.{sym, ap, ◌∙◌}
use mathlib.Core.Bool.{not}
use native.Mathlib.Omega.{arith}
use lib.Ieee.{lt}
use Rattle.std.proofs.lemmas.List.Sorted.{answers_always}
use Rattle.grids.proofs.Scales.{no_edge, many_edges, first_nan, scale_by_neighbours}
use Rattle.grids.proofs.scale.is_scale.Goals as goal

pub returns-then-n-lt1 : goal.returns-then-n-lt1
returns-then-n-lt1 c = ap not (sym (no_edge c.args.edges.now c.if-n-lt1.true))

pub returns-then-n-gt254 : goal.returns-then-n-gt254
returns-then-n-gt254 c = ap not (sym (many_edges c.args.edges.now (omega arith) (omega arith)))

pub returns-then-is_nan : goal.returns-then-is_nan
returns-then-is_nan c = ap not (sym (first_nan c.args.edges.now (omega arith) (omega arith) (sym c.is_nan.ensures.value ∙ c.if-is_nan.true)))

pub returns : goal.returns
returns c = scale_by_neighbours c.args.edges.now c.is_sorted_by.result (omega arith) (omega arith) (sym c.is_nan.ensures.value ∙ c.if-is_nan.false) (c.is_sorted_by.ensures.cases lt (answers_always _ _ _ (λ f a r g h. search rules)))
