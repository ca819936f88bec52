use mathlib.Core.Bool.{Bool, true, false, ◌||◌}
use mathlib.Core.List.{List, [], ◌∷◌}
use mathlib.Core.Path.{refl, ◌∙◌, ◌≡◌}
use Prim.Native.Nat.{ℕ}
use Rattle.leaves.specs.Texts.{bytes_of}
use Rattle.arguments.specs.Options.{option_names, option_named}
use Rattle.arguments.specs.Words.{up_to, place_among, alike, words_of}
use Rattle.arguments.specs.declared.options.CommandOption.TheVariants.{TopDown, MinimalPalette, NoRle, NoEmbedIcc, MoreFollows, SamplePalette, Format, Width, Height, Stride, RenderingIntent, Bitfields, Calibrated, Limit, Pels, Plane, Palette, Icc, LinkedIcc, Out, Edges, Lows, Highs}
use Rattle.command.specs.Commands.{one_given, some_prices, asks_writing}
use Rattle.command.proofs.CheckLaws.{given_any}
use Rattle.command.proofs.check.asks_writing.Goals as goal

joined : (ws : List (List ℕ)) (flags values files prices : Bool) → flags ≡ one_given 0 6 ws → values ≡ one_given 10 10 ws → files ≡ one_given 21 4 ws → prices ≡ one_given 26 3 ws
    → (flags || values || files || prices) ≡ asks_writing ws
unfolding asks_writing some_prices bytes_of option_names option_named place_among alike up_to
joined ws flags values files prices a b c d = four flags values files prices ∙ rw (a, b, c, d)
  where
    four : (a b c d : Bool) → (a || b || c || d) ≡ (a || (b || (c || d)))
    four true b c d = refl
    four false true c d = refl
    four false false c d = refl

pub returns : goal.returns
returns c =
    let ws = words_of c.args.words.now in
    joined ws c.any_given.result c.any_given-2.result c.any_given-3.result c.any_given-4.result
    (c.any_given.ensures ∙ given_any ws 0 (TopDown ∷ MinimalPalette ∷ NoRle ∷ NoEmbedIcc ∷ MoreFollows ∷ SamplePalette ∷ []) refl)
    (c.any_given-2.ensures ∙ given_any ws 10 (Format ∷ Width ∷ Height ∷ Stride ∷ RenderingIntent ∷ Bitfields ∷ Calibrated ∷ Limit ∷ Pels ∷ Plane ∷ []) refl)
    (c.any_given-3.ensures ∙ given_any ws 21 (Palette ∷ Icc ∷ LinkedIcc ∷ Out ∷ []) refl)
    (c.any_given-4.ensures ∙ given_any ws 26 (Edges ∷ Lows ∷ Highs ∷ []) refl)
