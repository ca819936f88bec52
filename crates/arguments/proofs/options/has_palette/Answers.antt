use mathlib.Core.Path.{sym, ◌∙◌}
use Rattle.leaves.specs.Texts.{bytes_of}
use Rattle.arguments.specs.Options.{option_names, option_named, has_palette_of}
use Rattle.arguments.specs.Words.{up_to, place_among, alike}
use Rattle.arguments.proofs.options.has_palette.Goals as goal

pub returns-then-is_given : goal.returns-then-is_given
unfolding has_palette_of bytes_of option_names option_named place_among alike up_to
returns-then-is_given c =
    let e = sym c.is_given.ensures ∙ c.if-is_given.true in
    rw e c.if-is_given.true

pub returns-else-is_given : goal.returns-else-is_given
unfolding has_palette_of bytes_of option_names option_named place_among alike up_to
returns-else-is_given c =
    let e = sym c.is_given.ensures ∙ c.if-is_given.false in
    rw e c.is_given-else-is_given.ensures
