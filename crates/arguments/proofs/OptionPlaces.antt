-- An option's place in the list.
use mathlib.Core.Path.{◌≡◌, refl, sym, ap, ◌∙◌}
use mathlib.Core.Bool.{Bool, true, false, cond}
use mathlib.Core.List.{List, [], ◌∷◌, map}
use Prim.Native.Nat.{ℕ, suc, ◌+◌, ◌≤◌, ◌<◌}
use native.Mathlib.Omega.{arith}
use denote.Enum.Declared.{tag_of}
use denote.Enum.Bare.{sameb}
use borrow.Author.Tests.{ne_eqb, ltb-true, ltb-false, lt-leb}
use lib.Dec.{eqb, ltb}
use lib.ListN.{length, get_or}
use Rattle.std.specs.List.{slice_get, range_with_len}
use Rattle.std.specs.Prelude.{Option, Some, None}
use Rattle.std.specs.Option.{option_map, option_eq, MatchOption}
use Rattle.std.proofs.lemmas.Option.{slice_get-map, slice_get_within, get_or_from_slice_get, slice_get-get_or, none-some}
use Rattle.std.proofs.lemmas.List.FromFn.{length-range_with_len, get_or-range_with_len}
use Rattle.arguments.specs.contracts.options.CommandOption.{the_type}
use Rattle.arguments.specs.declared.options.CommandOption.{CommandOption}
use Rattle.arguments.specs.declared.options.CommandOption.TheVariants.{TopDown, MinimalPalette, NoRle, NoEmbedIcc, MoreFollows, SamplePalette, Help, ShortHelp, Version, EndOfOptions, Format, Width, Height, Stride, RenderingIntent, Bitfields, Calibrated, Limit, Pels, Plane, Csv, Palette, Icc, LinkedIcc, Out, Read, Edges, Lows, Highs}
use Rattle.arguments.specs.Options.{all_options, place_of, option_names, option_named, stands_alone}
use Rattle.arguments.specs.Words.{up_to, alike, place_among}

-- the place of an option of some that stand in a row
pub in_row : (from count : ℕ) (os : List CommandOption) → map place_of os ≡ range_with_len from count → (n : ℕ) (o : CommandOption) → slice_get os n ≡ Some o → (place_of o ≡ from + n) × (n < count)
in_row from count os e n o f =
    let at : slice_get (range_with_len from count) n ≡ Some (place_of o) = ap (λ (ns : List ℕ). slice_get ns n) (sym e) ∙ slice_get-map place_of os n ∙ ap (option_map place_of) f in
    let within : n < length (range_with_len from count) = slice_get_within (range_with_len from count) n (place_of o) at in
    let h : n < count = omega (arith, length-range_with_len from count) in
    (sym (get_or_from_slice_get (range_with_len from count) n (place_of o) 0 at) ∙ get_or-range_with_len from count n 0 h, h)

in_order : map place_of all_options ≡ range_with_len 0 29
unfolding all_options
in_order = refl

-- the option at a place has that place
pub place_is : (n : ℕ) (o : CommandOption) → slice_get all_options n ≡ Some o → n ≡ place_of o
place_is n o e = omega (arith, (in_row 0 29 all_options in_order n o e).0)

pub placed : (o : CommandOption) → slice_get all_options (place_of o) ≡ Some o
unfolding all_options
placed TopDown = refl
placed MinimalPalette = refl
placed NoRle = refl
placed NoEmbedIcc = refl
placed MoreFollows = refl
placed SamplePalette = refl
placed Help = refl
placed ShortHelp = refl
placed Version = refl
placed EndOfOptions = refl
placed Format = refl
placed Width = refl
placed Height = refl
placed Stride = refl
placed RenderingIntent = refl
placed Bitfields = refl
placed Calibrated = refl
placed Limit = refl
placed Pels = refl
placed Plane = refl
placed Csv = refl
placed Palette = refl
placed Icc = refl
placed LinkedIcc = refl
placed Out = refl
placed Read = refl
placed Edges = refl
placed Lows = refl
placed Highs = refl

-- and no other place has it
pub place_missed : (o : CommandOption) (n : ℕ) → (slice_get all_options n ≡ Some o → ⊥) → n ≡ place_of o → ⊥
place_missed o n other e = other (ap (slice_get all_options) e ∙ placed o)

-- its number is its place
pub tag_is : (o : CommandOption) → tag_of the_type o ≡ place_of o
tag_is TopDown = refl
tag_is MinimalPalette = refl
tag_is NoRle = refl
tag_is NoEmbedIcc = refl
tag_is MoreFollows = refl
tag_is SamplePalette = refl
tag_is Help = refl
tag_is ShortHelp = refl
tag_is Version = refl
tag_is EndOfOptions = refl
tag_is Format = refl
tag_is Width = refl
tag_is Height = refl
tag_is Stride = refl
tag_is RenderingIntent = refl
tag_is Bitfields = refl
tag_is Calibrated = refl
tag_is Limit = refl
tag_is Pels = refl
tag_is Plane = refl
tag_is Csv = refl
tag_is Palette = refl
tag_is Icc = refl
tag_is LinkedIcc = refl
tag_is Out = refl
tag_is Read = refl
tag_is Edges = refl
tag_is Lows = refl
tag_is Highs = refl

pub same_place : (a b : CommandOption) → sameb the_type a b ≡ eqb (place_of a) (place_of b)
same_place a b = rw (tag_is a, tag_is b)

-- whether the option at a place is this one
pub same_named : (n : ℕ) (o : CommandOption) → option_eq (sameb the_type) (slice_get all_options n) (Some o) ≡ eqb n (place_of o)
same_named n o = go (slice_get all_options n) refl
  where
    go : (found : Option CommandOption) → slice_get all_options n ≡ found → option_eq (sameb the_type) found (Some o) ≡ eqb n (place_of o)
    go None e = sym (ne_eqb n (place_of o) (place_missed o n (λ f. none-some o (sym e ∙ f))))
    go (Some x) e = same_place x o ∙ ap (λ (k : ℕ). eqb k (place_of o)) (sym (place_is n x e))

-- no option stands past the list
pub past_all : (n : ℕ) → slice_get all_options n ≡ None → 29 ≤ n
unfolding all_options
past_all n e = go (ltb n 29) refl
  where
    go : (b : Bool) → ltb n 29 ≡ b → 29 ≤ n
    go true q = absurd (none-some (get_or all_options n TopDown) (sym e ∙ slice_get-get_or all_options n TopDown (ltb-true n 29 q)))
    go false q = ltb-false n 29 q

place_within : (name : List ℕ) (ps : List (List ℕ)) → place_among ps name ≤ length ps
unfolding place_among
place_within name [] = omega arith
place_within name (p ∷ ps) = go (alike p name) (place_within name ps)
  where
    go : (b : Bool) → place_among ps name ≤ length ps → cond b 0 (suc (place_among ps name)) ≤ suc (length ps)
    go true h = omega arith
    go false h = omega arith

-- the place of a word that names no option is the one past them all
pub none_named : (w : List ℕ) → slice_get all_options (option_named w) ≡ None → 29 ≡ option_named w
unfolding option_named option_names
none_named w e = omega (arith, place_within (up_to 61 w) option_names, past_all (option_named w) e)

unknown : (n : ℕ) → slice_get all_options n ≡ None → stands_alone n ≡ false
unfolding stands_alone
unknown n e = let h = past_all n e in lt-leb n 9 (omega arith)

-- whether it stands alone
pub alone_named : (n : ℕ) (r : Bool) → MatchOption (slice_get all_options n) (r ≡ false) (λ o. r ≡ stands_alone (place_of o)) → r ≡ stands_alone n
alone_named n r h = go (slice_get all_options n) refl h
  where
    go : (found : Option CommandOption) → slice_get all_options n ≡ found → MatchOption found (r ≡ false) (λ o. r ≡ stands_alone (place_of o)) → r ≡ stands_alone n
    go None e k = k ∙ sym (unknown n e)
    go (Some x) e k = k ∙ ap stands_alone (sym (place_is n x e))
