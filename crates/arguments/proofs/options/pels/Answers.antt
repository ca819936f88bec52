use mathlib.Core.List.{List}
use mathlib.Core.Bool.{true, false}
use mathlib.Core.Path.{sym, ap, ◌∙◌, ◌≡◌}
use Prim.Native.Nat.{ℕ}
use Rattle.std.specs.Option.{unwrap_or}
use lib.IntN.{pos}
use Rattle.leaves.specs.Texts.{bytes_of}
use Rattle.arguments.specs.Options.{option_names, option_named, is_given, value_of, pels_asked}
use Rattle.arguments.specs.Words.{up_to, place_among, alike, items_of, item_at, words_of}
use Rattle.arguments.specs.Numbers.{signed32}
use Rattle.leaves.proofs.Signs.{read_back}
use Rattle.arguments.proofs.options.pels.Goals as goal

module _ (k : ℕ) (ws : List (List ℕ)) where
  given : is_given 18 ws ≡ true → unwrap_or (signed32 (item_at (items_of 44 (value_of 18 ws)) k)) (pos 0) ≡ pels_asked k ws
  unfolding pels_asked bytes_of option_names option_named place_among alike up_to
  given e = rw e

  not-given : is_given 18 ws ≡ false → pos 2835 ≡ pels_asked k ws
  unfolding pels_asked bytes_of option_names option_named place_among alike up_to
  not-given e = rw e

pub returns-then-is_given : goal.returns-then-is_given
returns-then-is_given c =
    let a = c.args in
    read_back c.endpoint.result (pels_asked a.k (words_of a.words.now)) c.endpoint.type_inv
    (c.endpoint.ensures ∙ ap (λ (list : List ℕ). unwrap_or (signed32 (item_at (items_of 44 list) a.k)) (pos 0)) c.value_of.ensures ∙ given a.k (words_of a.words.now) (sym c.is_given.ensures ∙ c.if-is_given.true))

pub returns : goal.returns
returns c =
    let a = c.args in
    not-given a.k (words_of a.words.now) (sym c.is_given.ensures ∙ c.if-is_given.false)
