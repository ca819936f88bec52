use mathlib.Core.Path.{sym, ap, ◌∙◌}
use Rattle.arguments.specs.Words.{words_of}
use Rattle.messages.proofs.MessageLaws.{says_none, says_as}
use Rattle.command.specs.Commands.{fault_text_at}
use Rattle.command.proofs.CheckLaws.{checked, some_fault, no_fault, fault_status, fault_text, asks, help_status, help_text_lem, version_status, version_text_lem, joint_status, joint_text_lem, run_status, run_text}
use Rattle.command.proofs.check.check.Goals as goal

pub returns-in-Some : goal.returns-in-Some
returns-in-Some c =
    let words = c.args.words.now in
    let ws = words_of words in
    let at = c.in-Some.ensures in
    let some = some_fault words c.in-Some.at at in
    checked c.told.ensures (fault_status ws some) (fault_text ws some) (says_as (ap fault_text_at at.1) c.tell_fault.ensures)

pub returns-then-is_given : goal.returns-then-is_given
returns-then-is_given c =
    let words = c.args.words.now in
    let ws = words_of words in
    let none = no_fault words c.in_default.ensures in
    let help = asks ws c.is_given.result c.is_given-2.result c.is_given.ensures c.is_given-2.ensures in
    let asked = sym help ∙ c.if-is_given.true in
    checked c.told-then-is_given.ensures (help_status ws none asked) (help_text_lem ws none asked) c.tell_help.ensures

pub returns-then-is_given-2 : goal.returns-then-is_given-2
returns-then-is_given-2 c =
    let words = c.args.words.now in
    let ws = words_of words in
    let none = no_fault words c.in_default.ensures in
    let help = asks ws c.is_given.result c.is_given-2.result c.is_given.ensures c.is_given-2.ensures in
    let no-help = sym help ∙ c.if-is_given.false in
    let asked = sym c.is_given-3.ensures ∙ c.if-is_given-2.true in
    checked c.told-then-is_given-2.ensures (version_status ws none no-help asked) (version_text_lem ws none no-help asked) c.tell_version.ensures

pub returns-in-Some-joint_fault : goal.returns-in-Some-joint_fault
returns-in-Some-joint_fault c =
    let words = c.args.words.now in
    let ws = words_of words in
    let none = no_fault words c.in_default.ensures in
    let help = asks ws c.is_given.result c.is_given-2.result c.is_given.ensures c.is_given-2.ensures in
    let no-help = sym help ∙ c.if-is_given.false in
    let no-version = sym c.is_given-3.ensures ∙ c.if-is_given-2.false in
    let fault = c.in-Some-joint_fault in
    checked c.told-in-Some-joint_fault.ensures (joint_status ws none no-help no-version fault.fault fault.ensures) (joint_text_lem ws none no-help no-version fault.fault fault.ensures) c.tell_joint.ensures

pub returns : goal.returns
returns c =
    let words = c.args.words.now in
    let ws = words_of words in
    let none = no_fault words c.in_default.ensures in
    let help = asks ws c.is_given.result c.is_given-2.result c.is_given.ensures c.is_given-2.ensures in
    let no-help = sym help ∙ c.if-is_given.false in
    let no-version = sym c.is_given-3.ensures ∙ c.if-is_given-2.false in
    let well = c.in_default-joint_fault.ensures in
    checked c.told-2.ensures (run_status ws none no-help no-version well) (run_text ws none no-help no-version well) (says_none c.args.text.now 0)
