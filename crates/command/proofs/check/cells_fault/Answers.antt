use mathlib.Core.Bool.{Bool, true, false, not, ◌&&◌, ◌||◌}
use mathlib.Core.List.{List, [], ◌∷◌}
use mathlib.Core.Path.{refl, ◌∙◌, ◌≡◌}
use Prim.Native.Nat.{ℕ}
use Rattle.std.specs.Prelude.{None}
use Rattle.arguments.specs.Options.{is_given}
use Rattle.leaves.specs.Texts.{bytes_of}
use Rattle.arguments.specs.Options.{option_names, option_named}
use Rattle.arguments.specs.Words.{up_to, place_among, alike, words_of}
use Rattle.arguments.specs.declared.options.CommandOption.TheVariants.{Edges, Lows, Highs}
use Rattle.command.specs.declared.check.JointFault.TheVariants.{NoCells, PlaneAndCsv, PricesBesideCells, PricesApart}
use Rattle.command.specs.Commands.{first_found, one_given, some_prices, all_prices, cells_fault}
use Rattle.command.proofs.CheckLaws.{or_three, given_any, first_test, next_test}
use Rattle.command.proofs.check.cells_fault.Goals as goal

-- the tests one after the other
joined : (ws : List (List ℕ)) (plane csv prices all : Bool) → plane ≡ is_given 19 ws → csv ≡ is_given 20 ws → prices ≡ one_given 26 3 ws
    → all ≡ (is_given 26 ws && (is_given 27 ws && (is_given 28 ws && true)))
    → first_found (first_found (first_found (first_found None (not (plane || csv || prices)) NoCells) (plane && csv) PlaneAndCsv) (prices && (plane || csv)) PricesBesideCells) (prices && not all) PricesApart
    ≡ cells_fault ws
unfolding cells_fault some_prices all_prices bytes_of option_names option_named place_among alike up_to
joined ws plane csv prices all p c q l = rw (or_three plane csv prices, p, c, q, l, and_true (is_given 28 ws))
  where
    and_true : (b : Bool) → (b && true) ≡ b
    and_true true = refl
    and_true false = refl

pub returns : goal.returns
returns c =
    let ws = words_of c.args.words.now in
    next_test PricesApart _ c.or-3.ensures c.then_some-4.ensures
    (next_test PricesBesideCells _ c.or-2.ensures c.then_some-3.ensures (next_test PlaneAndCsv _ c.or.ensures c.then_some-2.ensures (first_test NoCells _ c.then_some.ensures)))
    ∙ joined ws c.is_given-plane.result c.is_given-csv.result c.any_given-prices.result c.all_given.result c.is_given-plane.ensures c.is_given-csv.ensures
    (c.any_given-prices.ensures ∙ given_any ws 26 (Edges ∷ Lows ∷ Highs ∷ []) refl) c.all_given.ensures
