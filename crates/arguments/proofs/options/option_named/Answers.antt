use mathlib.Core.List.{List}
use mathlib.Core.Path.{refl, ap, ◌∙◌, ◌≡◌}
use Prim.Native.Nat.{ℕ}
use native.Mathlib.Omega.{arith}
use lib.ListN.{length}
use Rattle.std.specs.List.{slice_get}
use Rattle.leaves.specs.Texts.{bytes_of}
use Rattle.arguments.specs.declared.options.CommandOption.TheVariants.{TopDown}
use Rattle.arguments.specs.Options.{all_options, option_names, option_named}
use Rattle.arguments.specs.Words.{onto, pieces, items_of, in_case, place_among}
use Rattle.arguments.proofs.Pieces.{no_place, at_place}
use Rattle.arguments.proofs.options.option_named.Goals as goal

names : items_of 44 (bytes_of "--top-down,--minimal-palette,--no-rle,--no-embed-icc,--more-follows,--sample-palette,--help,-h,--version,--,--format,--width,--height,--stride,--rendering-intent,--bitfields,--calibrated-rgb,--limit,--pels,--plane,--csv,--palette,--icc,--linked-icc,--out,--read,--edges,--lows,--highs") ≡ option_names
unfolding bytes_of items_of pieces onto option_names
names = refl

as_many : length option_names ≡ length all_options
unfolding option_names all_options
as_many = refl

pub returns-in_err-place : goal.returns-in_err-place
unfolding bytes_of option_named in_case
returns-in_err-place c =
    c.from_residual.ensures ∙ no_place all_options option_names c.piece.result.now as_many (rw names at c.in_err-place.ensures)
    ∙ ap (λ (w : List ℕ). slice_get all_options (place_among option_names w)) c.piece.ensures

pub bounds-place-place : goal.bounds-place-place
unfolding bytes_of option_names
bounds-place-place c = let h = (rw names at c.in_ok-place.ensures) in omega (arith, h.0)

pub returns : goal.returns
unfolding bytes_of option_named in_case all_options
returns c =
    at_place all_options option_names c.piece.result.now as_many c.in_ok-place.place (rw names at c.in_ok-place.ensures) TopDown
    ∙ ap (λ (w : List ℕ). slice_get all_options (place_among option_names w)) c.piece.ensures
