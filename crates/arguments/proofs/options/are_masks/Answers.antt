use mathlib.Core.Path.{sym, ap, ◌∙◌}
use Prim.Native.Nat.{ℕ}
use Rattle.std.proofs.Common.{rules, tests}
use Rattle.std.specs.Prelude.{Option, is_some}
use Rattle.arguments.specs.Numbers.{number_of, number16, at_most}
use Rattle.arguments.specs.Options.{are_masks}
use Rattle.arguments.proofs.NumberLaws.{within}
use Rattle.arguments.proofs.options.are_masks.Goals as goal

pub returns-then-are_numbers : goal.returns-then-are_numbers
unfolding are_masks number16
returns-then-are_numbers c =
    let e = sym c.are_numbers.ensures ∙ c.if-are_numbers.true in
    rw e (within 0xFFFF c.number.result c.is_some_and.result _ c.is_some_and.ensures (λ k h. search (rules, tests)) ∙ ap (λ (n : Option ℕ). is_some (at_most 0xFFFF n)) (c.number.ensures.value ∙ ap number_of c.item.ensures))

pub returns-else-are_numbers : goal.returns-else-are_numbers
unfolding are_masks
returns-else-are_numbers c =
    let e = sym c.are_numbers.ensures ∙ c.if-are_numbers.false in
    rw e c.if-are_numbers.false
