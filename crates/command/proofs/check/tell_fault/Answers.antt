use mathlib.Core.List.{List, []}
use mathlib.Core.Path.{◌≡◌}
use Prim.Native.Nat.{ℕ}
use lib.ListN.{drop}
use Rattle.std.specs.Prelude.{Some, None}
use Rattle.arguments.specs.declared.options.Fault.{Fault}
use Rattle.arguments.specs.Options.{first, value_in, fault_at}
use Rattle.arguments.specs.Words.{up_to, words_of}
use Rattle.arguments.proofs.Pieces.{first_word}
use Rattle.messages.specs.Messages.{filled}
use Rattle.messages.proofs.MessageLaws.{says_as, says_none}
use Rattle.command.specs.Commands.{fault_line, fault_text, fault_text_at}
use Rattle.command.proofs.check.tell_fault.Goals as goal

nothing : (ws : List (List ℕ)) → None ≡ fault_at ws → [] ≡ fault_text_at ws
unfolding fault_text
nothing ws e = rw (← e)

text_is : (words : List ℕ) (at : ℕ) (name value line : List ℕ) (fault : Fault) → name ≡ up_to 61 (up_to 0 (drop at words)) → value ≡ value_in (words_of (drop at words)) → line ≡ fault_line fault
    → Some fault ≡ fault_at (words_of (drop at words)) → filled name value [] [] line ≡ fault_text_at (words_of (drop at words))
unfolding fault_text first
text_is words at name value line fault en ev el e = rw (← e, en, ev, el, first_word (drop at words))

pub returns-in_default : goal.returns-in_default
returns-in_default c =
    let a = c.args in
    says_as (nothing (words_of (drop a.at a.words.now)) c.in_default.ensures) (says_none a.text.now 0)

pub returns : goal.returns
returns c =
    let a = c.args in
    says_as (text_is a.words.now a.at c.name_at.result.now c.value_at.result.now c.fault_line.result.now c.in-Some.fault c.name_at.ensures c.value_at.ensures c.fault_line.ensures c.in-Some.ensures) c.tell.ensures
