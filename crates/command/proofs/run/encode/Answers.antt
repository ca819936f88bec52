use mathlib.Core.Path.{subst, ◌∙◌}
use lib.ListN.{length}
use Rattle.leaves.specs.declared.options.EncodeOptions.{EncodeOptions}
use Rattle.planner.specs.Calls.{called}
use Rattle.arguments.specs.Words.{words_of}
use Rattle.command.specs.Runs.{Encodes}
use Rattle.command.proofs.RunLaws.{bound_told, is_flag, too_long, writes}
use Rattle.command.proofs.run.encode.Goals as goal

pub returns-then-is_too_long : goal.returns-then-is_too_long
returns-then-is_too_long c =
    let a = c.args in
    let ws = words_of a.words.now in
    let options = c.options_asked-options in
    let bound = c.encoded_size_bound-bound in
    let more = c.is_given in
    let long = c.is_too_long in
    let flag = is_flag ws bound.result a.source (length a.plane.now) more.result long.result _ long.ensures more.ensures c.if-is_too_long.true in
    subst (λ (o : EncodeOptions). Encodes ws (called a.source o a.plane.now a.palette.now a.icc.now a.linked_icc.now) a.out.now a.out.now a.text.now c.tell_too_long.new.text c.told.result) options.ensures
    (too_long bound.ensures flag c.told.ensures c.tell_too_long.ensures)

pub returns : goal.returns
returns c =
    let a = c.args in
    let ws = words_of a.words.now in
    let options = c.options_asked-options in
    let bound = c.encoded_size_bound-bound in
    let more = c.is_given in
    let long = c.is_too_long in
    let flag = is_flag ws bound.result a.source (length a.plane.now) more.result long.result _ long.ensures more.ensures c.if-is_too_long.false in
    let encoded = c.encode_into-encoded in
    let said = c.answer in
    subst (λ (o : EncodeOptions). Encodes ws (called a.source o a.plane.now a.palette.now a.icc.now a.linked_icc.now) a.out.now encoded.new.out a.text.now said.new.text said.result) options.ensures
    (writes bound.ensures flag encoded.ensures (c.unwrap_or.ensures ∙ bound_told bound.result) said.ensures.0 said.ensures.1)
