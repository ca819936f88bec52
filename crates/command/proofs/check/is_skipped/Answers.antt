use mathlib.Core.Bool.{Bool, true, false, ◌&&◌, ◌||◌}
use mathlib.Core.List.{List}
use mathlib.Core.Path.{refl, ◌≡◌}
use Prim.Native.Nat.{ℕ}
use lib.Dec.{eqb}
use Rattle.arguments.specs.Options.{is_given}
use Rattle.leaves.specs.Texts.{bytes_of}
use Rattle.arguments.specs.Options.{option_names, option_named}
use Rattle.arguments.specs.Words.{up_to, place_among, alike, words_of}
use Rattle.command.specs.Commands.{is_skipped}
use Rattle.command.proofs.check.is_skipped.Goals as goal

skips : (file : ℕ) (ws : List (List ℕ)) (a b : Bool) → a ≡ is_given 3 ws → b ≡ is_given 23 ws → ((a || b) && eqb file 3) ≡ is_skipped file ws
unfolding is_skipped bytes_of option_names option_named place_among alike up_to
skips file ws a b e f = rw (e, f) (turned (is_given 3 ws || is_given 23 ws) (eqb file 3))
  where
    turned : (x y : Bool) → (x && y) ≡ (y && x)
    turned true true = refl
    turned true false = refl
    turned false true = refl
    turned false false = refl

pub returns : goal.returns
returns c = skips c.args.file (words_of c.args.words.now) c.is_given.result c.is_given-2.result c.is_given.ensures c.is_given-2.ensures
