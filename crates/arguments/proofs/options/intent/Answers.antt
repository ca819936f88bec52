use mathlib.Core.List.{List}
use mathlib.Core.Bool.{true, false}
use mathlib.Core.Path.{sym, ap, ◌∙◌, ◌≡◌}
use Prim.Native.Nat.{ℕ}
use Rattle.std.specs.Prelude.{Option}
use Rattle.std.specs.Option.{unwrap_or}
use Rattle.arguments.specs.Options.{option_names, option_named, is_given, value_of, intent_asked}
use Rattle.arguments.specs.Words.{up_to, place_among, alike, words_of}
use Rattle.leaves.specs.Texts.{bytes_of}
use Rattle.arguments.specs.Numbers.{number32}
use Rattle.arguments.proofs.options.intent.Goals as goal

asked : (ws : List (List ℕ)) → is_given 14 ws ≡ true → unwrap_or (number32 (value_of 14 ws)) 0 ≡ intent_asked ws
unfolding intent_asked bytes_of option_names option_named place_among alike up_to
asked ws e = rw e

usual : (ws : List (List ℕ)) → is_given 14 ws ≡ false → 4 ≡ intent_asked ws
unfolding intent_asked bytes_of option_names option_named place_among alike up_to
usual ws e = rw e

pub returns-then-is_given : goal.returns-then-is_given
returns-then-is_given c =
    c.unwrap_or.ensures ∙ ap (λ (n : Option ℕ). unwrap_or n 0) (c.number32.ensures ∙ ap number32 c.value_of.ensures) ∙ asked (words_of c.args.words.now) (sym c.is_given.ensures ∙ c.if-is_given.true)

pub returns : goal.returns
returns c = usual (words_of c.args.words.now) (sym c.is_given.ensures ∙ c.if-is_given.false)
