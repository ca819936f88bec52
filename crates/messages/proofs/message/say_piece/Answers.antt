use mathlib.Core.Path.{sym, ap, ◌∙◌}
use native.Mathlib.Omega.{arith}
use Rattle.std.specs.Prelude.{Some}
use Rattle.messages.specs.Messages.{bytes_or_none}
use Rattle.messages.proofs.MessageLaws.{says_as, says_none, decimal_is, got_is, got_none}
use Rattle.messages.proofs.message.say_piece.Goals as goal

pub returns-in-Some-Number : goal.returns-in-Some-Number
returns-in-Some-Number c =
    let a = c.args in
    let n = c.in-Some-Number.n in
    let digits = c.as_bytes.ensures.value ∙ c.format.ensures.text ∙ decimal_is n (omega arith) in
    says_as (digits ∙ sym (ap bytes_or_none (got_is a.pieces.now a.k c.in-Some-Number.field-0 c.in-Some-Number.ensures.lookup ∙ ap (λ p. Some p) c.in-Some-Number.field-0-is))) c.say-in-Some-Number.ensures

pub returns-in-None : goal.returns-in-None
returns-in-None c =
    let a = c.args in
    says_as (sym (ap bytes_or_none (got_none a.pieces.now a.k c.in-None.ensures.lookup))) (says_none a.text.now a.at)
