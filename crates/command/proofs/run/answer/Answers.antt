use Rattle.command.specs.Runs.{causes, refused_line}
use Rattle.messages.specs.Messages.{decimal, filled}
use Rattle.arguments.specs.Words.{item_at}
use Prim.Native.Nat.{ℕ}
use mathlib.Core.List.{[]}
use mathlib.Core.Path.{sym, ap, ◌∙◌}
use Rattle.arguments.specs.Words.{words_of}
use Rattle.messages.proofs.MessageLaws.{says_as}
use Rattle.command.specs.Runs.{written_answer}
use Rattle.command.proofs.RunLaws.{file_text, refused_text}
use Rattle.command.proofs.run.answer.Goals as goal

pub returns-in-Ok : goal.returns-in-Ok
returns-in-Ok c =
    let a = c.args in
    let said = c.tell_written-n in
    let name = c.value_of in
    let file = c.head_of in (
      sym (ap (written_answer a.bound said.result) c.in-Ok.is),
      says_as (file_text (words_of a.words.now) a.out.now name.result.now file.result.now c.in-Ok.file a.encoded c.in-Ok.is name.ensures file.ensures) said.ensures,
    )

pub returns-in-Err : goal.returns-in-Err
returns-in-Err c = let a = c.args in let number = c.number-number in let said = c.tell_refused-n in ((λ z. record { bytes = 0; bound = a.bound; text = said.result; status = 1; refusal = number.ensures z }) ∙ sym (ap (written_answer a.bound said.result) c.in-Err.is), says_as (ap (λ (n : ℕ). filled (decimal n) (item_at causes n) [] [] refused_line) number.ensures ∙ refused_text (words_of a.words.now) a.out.now c.in-Err.why a.encoded c.in-Err.is) said.ensures)
