use mathlib.Core.Bool.{true}
use mathlib.Core.Path.{refl, ◌∙◌, ◌≡◌}
use native.Mathlib.Omega.{arith}
use lib.ListN.{length}
use Rattle.leaves.specs.Texts.{bytes_of}
use Rattle.leaves.specs.declared.image.BmpPixelFormat.TheVariants.{Rgba}
use Rattle.arguments.specs.Options.{formats, format_names, format_numbered}
use Rattle.arguments.specs.Words.{onto, pieces, items_of, in_case}
use Rattle.arguments.proofs.Pieces.{no_place, at_place}
use Rattle.arguments.proofs.formats.format_called.Goals as goal

names : items_of 44 (bytes_of "rgba,rgb24,bgra,bgr24,rgb555,rgb565,indexed4,indexed2,indexed1,pal8") ≡ format_names
unfolding bytes_of items_of pieces onto format_names
names = refl

as_many : length format_names ≡ length formats
unfolding format_names formats
as_many = refl

pub returns-in_err-place : goal.returns-in_err-place
unfolding bytes_of format_numbered
returns-in_err-place c = c.from_residual.ensures ∙ no_place formats format_names (in_case true c.args.name.now) as_many (rw names at c.in_err-place.ensures)

pub bounds-place-place : goal.bounds-place-place
unfolding bytes_of format_names
bounds-place-place c = let h = (rw names at c.in_ok-place.ensures) in omega (arith, h.0)

pub returns : goal.returns
unfolding bytes_of format_numbered formats
returns c = at_place formats format_names (in_case true c.args.name.now) as_many c.in_ok-place.place (rw names at c.in_ok-place.ensures) Rgba
