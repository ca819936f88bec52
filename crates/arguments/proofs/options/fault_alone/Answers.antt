use mathlib.Core.Path.{sym, ◌∙◌}
use Rattle.leaves.specs.Texts.{bytes_of}
use Rattle.arguments.specs.declared.options.CommandOption.TheVariants.{EndOfOptions}
use Rattle.arguments.specs.Options.{option_names, option_named, fault_alone}
use Rattle.arguments.specs.Words.{up_to, place_among, alike}
use Rattle.arguments.proofs.OptionPlaces.{same_place}
use Rattle.arguments.proofs.options.fault_alone.Goals.{else-eq-via-then-eq+else-followed, else-eq-via-else-eq}
use Rattle.arguments.proofs.options.fault_alone.Goals as goal

pub returns-then-valued : goal.returns-then-valued
unfolding fault_alone
returns-then-valued c = rw c.if-valued.true

pub returns-then-followed : goal.returns-then-followed
unfolding fault_alone bytes_of option_names option_named place_among alike up_to
returns-then-followed c =
    let same = sym (c.eq.ensures ∙ same_place c.args.option EndOfOptions) ∙ c.if-eq.true in
    rw (c.if-valued.false, same, c.if-followed.true)

pub returns-else-eq : goal.returns-else-eq
unfolding fault_alone bytes_of option_names option_named place_among alike up_to
returns-else-eq c =
    let place = c.eq.ensures ∙ same_place c.args.option EndOfOptions in
    elim (c.else-eq.branch) [ else-eq-via-then-eq+else-followed w ↦ rw (c.if-valued.false, sym place ∙ w.if-eq.true, w.if-followed.false) | else-eq-via-else-eq w ↦ rw (c.if-valued.false, sym place ∙ w.if-eq.false) ]
