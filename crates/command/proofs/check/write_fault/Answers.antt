use mathlib.Core.Bool.{Bool, not, ◌&&◌, ◌||◌}
use mathlib.Core.List.{List, [], ◌∷◌}
use mathlib.Core.Path.{refl, ap, ◌∙◌, ◌≡◌}
use Prim.Native.Nat.{ℕ}
use lib.Dec.{eqb}
use Rattle.leaves.specs.Formats.{is_indexed, bits_per_pixel}
use Rattle.arguments.specs.Options.{is_given, format_asked}
use Rattle.leaves.specs.Texts.{bytes_of}
use Rattle.arguments.specs.Options.{option_names, option_named}
use Rattle.arguments.specs.Words.{up_to, place_among, alike, words_of}
use Rattle.arguments.specs.declared.options.CommandOption.TheVariants.{Edges, Lows, Highs}
use Rattle.command.specs.declared.check.JointFault.TheVariants.{NoWidth, NoHeight, SizeWithCsv, CsvNotIndexed, PricesNotPal8, TwoPalettes, NoOut}
use Rattle.command.specs.Commands.{first_found, one_given, some_prices, cells_fault, write_fault}
use Rattle.command.proofs.CheckLaws.{or_three, given_any, next_test}
use Rattle.command.proofs.check.write_fault.Goals as goal

-- the tests one after the other
joined : (ws : List (List ℕ)) (csv prices plane width height stride palette sample indexed out : Bool) (depth : ℕ) → csv ≡ is_given 20 ws → prices ≡ one_given 26 3 ws → plane ≡ is_given 19 ws
    → width ≡ is_given 11 ws → height ≡ is_given 12 ws → stride ≡ is_given 13 ws → palette ≡ is_given 21 ws → sample ≡ is_given 5 ws → indexed ≡ is_indexed (format_asked ws) → out ≡ is_given 24 ws
    → depth ≡ bits_per_pixel (format_asked ws)
    → first_found
    (first_found
    (first_found
    (first_found
    (first_found (first_found (first_found (cells_fault ws) ((plane || prices) && not width) NoWidth) ((plane || prices) && not height) NoHeight) (csv && (width || height || stride)) SizeWithCsv)
    (csv && not indexed) CsvNotIndexed)
    (prices && not (eqb depth 8)) PricesNotPal8)
    (palette && sample) TwoPalettes)
    (not out) NoOut
    ≡ write_fault ws
unfolding write_fault some_prices bytes_of option_names option_named place_among alike up_to
joined ws csv prices plane width height stride palette sample indexed out depth a b c d e f g h i j k = rw (or_three width height stride, a, b, c, d, e, f, g, h, i, j, k)

pub returns : goal.returns
returns c =
    let ws = words_of c.args.words.now in
    let format = c.format_asked-format in
    next_test NoOut _ c.or-7.ensures c.then_some-7.ensures
    (next_test TwoPalettes _ c.or-6.ensures c.then_some-6.ensures
    (next_test PricesNotPal8 _ c.or-5.ensures c.then_some-5.ensures
    (next_test CsvNotIndexed _ c.or-4.ensures c.then_some-4.ensures
    (next_test SizeWithCsv _ c.or-3.ensures c.then_some-3.ensures
    (next_test NoHeight _ c.or-2.ensures c.then_some-2.ensures (next_test NoWidth _ c.or.ensures c.then_some.ensures c.cells_fault.ensures))))))
    ∙ joined ws c.is_given-csv.result c.any_given-prices.result c.is_given.result c.is_given-width.result c.is_given-height.result c.is_given-2.result c.is_given-3.result c.is_given-4.result
    c.is_indexed-indexed.result c.is_given-5.result c.bits_per_pixel-depth.result c.is_given-csv.ensures (c.any_given-prices.ensures ∙ given_any ws 26 (Edges ∷ Lows ∷ Highs ∷ []) refl)
    c.is_given.ensures c.is_given-width.ensures c.is_given-height.ensures c.is_given-2.ensures c.is_given-3.ensures c.is_given-4.ensures (c.is_indexed-indexed.ensures ∙ ap is_indexed format.ensures)
    c.is_given-5.ensures (c.bits_per_pixel-depth.ensures ∙ ap bits_per_pixel format.ensures)
