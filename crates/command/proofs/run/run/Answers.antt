use mathlib.Core.Path.{sym, ◌∙◌}
use Rattle.leaves.specs.Texts.{bytes_of}
use Rattle.arguments.specs.Options.{option_names, option_named}
use Rattle.arguments.specs.Words.{up_to, place_among, alike, words_of}
use Rattle.command.proofs.RunLaws.{not-run, has_run, sample-chosen, lent_chosen}
use Rattle.command.proofs.run.run.Goals as goal

pub returns-then-checked-ne3 : goal.returns-then-checked-ne3
returns-then-checked-ne3 c =
    let a = c.args in
    not-run c.check-checked.ensures a.plane.now a.palette.now a.icc.now a.linked_icc.now a.cells.now a.out.now c.if-checked-ne3.true

pub returns-then-is_given : goal.returns-then-is_given
unfolding bytes_of option_names option_named place_among alike up_to
returns-then-is_given c =
    let a = c.args in
    let run = c.run_with in
    let palette = c.sample_palette-mixed in
    has_run c.check-checked.ensures a.plane.now a.palette.now a.icc.now a.linked_icc.now a.cells.now a.out.now c.if-checked-ne3.false
    (palette.ensures.0 ∙ sample-chosen (words_of a.words.now) a.palette.now (sym c.is_given.ensures ∙ c.if-is_given.true)) run.ensures

pub returns : goal.returns
unfolding bytes_of option_names option_named place_among alike up_to
returns c =
    let a = c.args in
    let run = c.run_with-2 in
    has_run c.check-checked.ensures a.plane.now a.palette.now a.icc.now a.linked_icc.now a.cells.now a.out.now c.if-checked-ne3.false
    (lent_chosen (words_of a.words.now) a.palette.now (sym c.is_given.ensures ∙ c.if-is_given.false)) run.ensures
