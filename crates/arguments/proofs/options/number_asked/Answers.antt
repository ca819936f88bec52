use mathlib.Core.Path.{sym, ap, ◌∙◌}
use Prim.Native.Nat.{ℕ, ◌^◌}
use Rattle.std.specs.Prelude.{Option}
use Rattle.std.specs.Option.{unwrap_or}
use Rattle.arguments.specs.Numbers.{number_of}
use Rattle.arguments.specs.Options.{number_asked}
use Rattle.arguments.proofs.options.number_asked.Goals as goal

pub returns-then-is_given : goal.returns-then-is_given
unfolding number_asked
returns-then-is_given c =
    let e = sym c.is_given.ensures ∙ c.if-is_given.true in
    rw e (c.unwrap_or.ensures ∙ ap (λ (n : Option ℕ). unwrap_or n (2 ^ 60)) (c.number.ensures.value ∙ ap number_of c.value_of.ensures))

pub returns : goal.returns
unfolding number_asked
returns c =
    let e = sym c.is_given.ensures ∙ c.if-is_given.false in
    rw e
