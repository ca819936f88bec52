use mathlib.Core.Path.{sym, ap, ◌∙◌}
use Rattle.std.specs.Prelude.{is_some}
use Rattle.arguments.proofs.OptionLaws.{fault_end, fault_here, fault_later}
use Rattle.arguments.proofs.options.first_fault.Goals as goal

pub returns-then-is_some : goal.returns-then-is_some
returns-then-is_some c =
    let text = c.args.words.now in
    let l = c.loop-at in
    (c.loop-at-test.true, fault_here text l.at c.loop-at-test.true (sym (c.is_some.ensures ∙ ap is_some c.fault_at.ensures) ∙ c.if-is_some.true) ∙ l.invariant)

pub loop-at-preserved : goal.loop-at-preserved
loop-at-preserved c =
    let text = c.args.words.now in
    let l = c.loop-at in
    let next = c.after_option-at in
    fault_later text l.at next.result (next.ensures.1 c.loop-at-test.true) (sym (c.is_some.ensures ∙ ap is_some c.fault_at.ensures) ∙ c.if-is_some.false) ∙ l.invariant

pub returns : goal.returns
returns c = sym c.loop-at.invariant ∙ fault_end c.args.words.now c.loop-at.at c.loop-at-test.false
