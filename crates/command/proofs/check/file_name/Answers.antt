use mathlib.Core.Bool.{Bool, true, false, cond}
use mathlib.Core.List.{List, [], ◌∷◌}
use mathlib.Core.Path.{refl, sym, ◌∙◌, ◌≡◌}
use Prim.Native.Nat.{ℕ, ◌+◌, ◌≤◌, ◌<◌}
use native.Mathlib.Omega.{arith}
use borrow.Author.Tests.{lt-ltb, le-ltb}
use lib.Dec.{ltb}
use Rattle.arguments.specs.Options.{value_of}
use Rattle.leaves.specs.Texts.{bytes_of}
use Rattle.arguments.specs.Options.{option_names, option_named}
use Rattle.arguments.specs.Words.{up_to, place_among, alike, words_of}
use Rattle.arguments.specs.declared.options.CommandOption.{CommandOption}
use Rattle.arguments.specs.declared.options.CommandOption.TheVariants.{Plane, Csv, Palette, Icc, LinkedIcc, Out, Read, Edges, Lows, Highs}
use Rattle.arguments.proofs.OptionPlaces.{in_row}
use Rattle.messages.proofs.MessageLaws.{got_is}
use Rattle.command.specs.Commands.{is_skipped, file_named}
use Rattle.command.proofs.check.file_name.Goals as goal

abbrev files : List CommandOption
files = Plane ∷ Csv ∷ Palette ∷ Icc ∷ LinkedIcc ∷ Out ∷ Read ∷ Edges ∷ Lows ∷ Highs ∷ []

module _ (file : ℕ) (ws : List (List ℕ)) where
  no_file : 10 ≤ file → [] ≡ file_named file ws
  unfolding file_named
  no_file h = rw (lt-ltb 9 file (omega arith))

  skipped : is_skipped file ws ≡ true → [] ≡ file_named file ws
  unfolding file_named bytes_of option_names option_named place_among alike up_to
  skipped e = rw e (go (ltb 9 file))
    where
      go : (b : Bool) → [] ≡ cond b [] (cond true [] (value_of (19 + file) ws))
      go true = refl
      go false = refl

  named : file < 10 → is_skipped file ws ≡ false → (n : ℕ) → n ≡ 19 + file → value_of n ws ≡ file_named file ws
  unfolding file_named bytes_of option_names option_named place_among alike up_to
  named h e n is = rw (is, le-ltb 9 file (omega arith), e)

pub returns-then-is_skipped : goal.returns-then-is_skipped
returns-then-is_skipped c =
    let a = c.args in
    skipped a.file (words_of a.words.now) (sym c.is_skipped.ensures ∙ c.if-is_skipped.true)

pub returns : goal.returns
returns c =
    let a = c.args in
    let row = in_row 19 10 files refl a.file c.in-Some.option.now (got_is files a.file c.in-Some.option c.in-Some.ensures.lookup) in
    c.value_of.ensures ∙ named a.file (words_of a.words.now) row.1 (sym c.is_skipped.ensures ∙ c.if-is_skipped.false) _ row.0

pub returns-in_default : goal.returns-in_default
returns-in_default c = no_file c.args.file (words_of c.args.words.now) c.in_default.ensures.lookup.3
