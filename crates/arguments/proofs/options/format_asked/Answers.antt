use mathlib.Core.Path.{ap, ◌∙◌}
use Rattle.leaves.specs.Texts.{bytes_of}
use Rattle.leaves.specs.declared.image.BmpPixelFormat.{BmpPixelFormat}
use Rattle.leaves.specs.declared.image.BmpPixelFormat.TheVariants.{Pal8}
use Rattle.std.specs.Prelude.{Option}
use Rattle.std.specs.Option.{unwrap_or}
use Rattle.std.proofs.lemmas.Option.{unwrap_or-slice_get}
use Rattle.arguments.specs.Options.{option_names, option_named, formats, format_numbered, format_named, format_asked}
use Rattle.arguments.specs.Words.{up_to, place_among, alike}
use Rattle.arguments.proofs.options.format_asked.Goals as goal

pub returns : goal.returns
unfolding format_asked format_named bytes_of option_names option_named place_among alike up_to
returns c =
    c.unwrap_or.ensures ∙ ap (λ (f : Option BmpPixelFormat). unwrap_or f Pal8) c.format_called.ensures
    ∙ unwrap_or-slice_get formats (format_numbered c.value_of.result.now) Pal8 ∙ ap format_named c.value_of.ensures
