-- What is wrong with an option, by the option.
use mathlib.Core.Path.{◌≡◌, refl, sym, ◌∙◌}
use mathlib.Core.Logic.{◌⊎◌, inl, inr}
use mathlib.Core.Bool.{Bool, true, false, cond, not, ◌&&◌, ◌||◌}
use mathlib.Core.List.{List, [], ◌∷◌}
use Prim.Native.Nat.{ℕ, zero, suc, ◌+◌, ◌≤◌, ◌<◌}
use native.Mathlib.Omega.{arith}
use borrow.Author.Tests.{ne_eqb, lt-leb, le-leb, lt-ltb, le-ltb, ltb-true, ltb-false}
use lib.Dec.{eqb, ltb, leb}
use lib.ListN.{length, drop}
use Rattle.std.specs.List.{slice_get}
use Rattle.std.specs.Prelude.{Some, None, is_some}
use Rattle.leaves.specs.Texts.{bytes_of}
use Rattle.arguments.specs.declared.options.CommandOption.{CommandOption}
use Rattle.arguments.specs.declared.options.CommandOption.TheVariants.{TopDown, MinimalPalette, NoRle, NoEmbedIcc, MoreFollows, SamplePalette, Help, ShortHelp, Version, EndOfOptions, Format, Width, Height, Stride, RenderingIntent, Bitfields, Calibrated, Limit, Pels, Plane, Csv, Palette, Icc, LinkedIcc, Out, Read, Edges, Lows, Highs}
use Rattle.arguments.specs.declared.options.Fault.TheVariants.{UnknownOption, NoValue, NoNumber, UnknownFormat, NotMasks, NotCalibrated, NoStride, NoLimit, NoPels}
use Rattle.arguments.specs.Numbers.{is_number, is_number32, are_numbers}
use Rattle.arguments.specs.Options.{all_options, place_of, option_names, option_named, stands_alone, carries_value, carried, first, second, is_none, is_format, unless, are_masks, fault_of_name, fault_of, fault_alone, fault_last, fault_at}
use Rattle.arguments.specs.Words.{up_to, place_among, alike, words_of}
use Rattle.arguments.proofs.OptionLaws.{second_word, followed, none_behind, some_behind}
use Rattle.arguments.proofs.OptionPlaces.{place_is, past_all}
use Rattle.arguments.proofs.Pieces.{first_word}

-- whether an option is a width, a height or an intent
abbrev is_count : ℕ → Bool
is_count option = eqb option 11 || (eqb option 12 || eqb option 14)

-- ---- of its value

-- whether a list has an element
pub has_element : {X : Type 0} (xs : List X) (n : ℕ) → is_some (slice_get xs n) ≡ ltb n (length xs)
has_element [] n = sym (le-ltb n 0 (omega arith))
has_element (x ∷ xs) zero = sym (lt-ltb 0 (length (x ∷ xs)) (omega arith))
has_element (x ∷ xs) (suc n) = has_element xs n ∙ go (ltb n (length xs)) refl
  where
    go : (b : Bool) → ltb n (length xs) ≡ b → ltb n (length xs) ≡ ltb (suc n) (length (x ∷ xs))
    go true q = let h = ltb-true n (length xs) q in rw (q, lt-ltb (suc n) (length (x ∷ xs)) (omega arith))
    go false q = let h = ltb-false n (length xs) q in rw (q, le-ltb (suc n) (length (x ∷ xs)) (omega arith))

module _ (value : List ℕ) where
  -- the tests with the options' numbers
  tested : (option : ℕ) → fault_of option value
      ≡ cond (eqb option 10) (unless (is_format value) UnknownFormat)
      (cond (is_count option) (unless (is_number32 value) NoNumber)
      (cond (eqb option 13) (unless (is_number value) NoStride)
      (cond (eqb option 15) (unless (are_masks value) NotMasks)
      (cond (eqb option 16) (unless (are_numbers 12 9 value) NotCalibrated)
      (cond (eqb option 17) (unless (is_number value) NoLimit)
      (cond (eqb option 18) (unless (are_numbers 2 2 value) NoPels)
      (cond (leb 19 option && leb option 28) (unless (ltb 0 (length value)) NoValue) (Some UnknownOption))))))))
  unfolding bytes_of option_names option_named place_among alike up_to fault_of fault_of_name
  tested option = refl

  pub a_format : (o : CommandOption) → o ≡ Format → unless (is_format value) UnknownFormat ≡ fault_of (place_of o) value
  a_format o e = rw e (sym (tested 10))

  pub a_count : (o : CommandOption) → (o ≡ Width) ⊎ ((o ≡ Height) ⊎ (o ≡ RenderingIntent)) → unless (is_number32 value) NoNumber ≡ fault_of (place_of o) value
  a_count o (inl e) = rw e (sym (tested 11))
  a_count o (inr (inl e)) = rw e (sym (tested 12))
  a_count o (inr (inr e)) = rw e (sym (tested 14))

  pub a_stride : (o : CommandOption) → o ≡ Stride → unless (is_number value) NoStride ≡ fault_of (place_of o) value
  a_stride o e = rw e (sym (tested 13))

  pub masks : (o : CommandOption) → o ≡ Bitfields → unless (are_masks value) NotMasks ≡ fault_of (place_of o) value
  masks o e = rw e (sym (tested 15))

  pub calibrated : (o : CommandOption) → o ≡ Calibrated → unless (are_numbers 12 9 value) NotCalibrated ≡ fault_of (place_of o) value
  calibrated o e = rw e (sym (tested 16))

  pub a_limit : (o : CommandOption) → o ≡ Limit → unless (is_number value) NoLimit ≡ fault_of (place_of o) value
  a_limit o e = rw e (sym (tested 17))

  pub resolutions : (o : CommandOption) → o ≡ Pels → unless (are_numbers 2 2 value) NoPels ≡ fault_of (place_of o) value
  resolutions o e = rw e (sym (tested 18))

  some_name : not (eqb (length value) 0) ≡ ltb 0 (length value)
  some_name = go value
    where
      go : (v : List ℕ) → not (eqb (length v) 0) ≡ ltb 0 (length v)
      go [] = refl
      go (x ∷ xs) = rw (ne_eqb (length (x ∷ xs)) 0 (λ e. omega arith), lt-ltb 0 (length (x ∷ xs)) (omega arith))

  pub a_file : (o : CommandOption) → (o ≡ Plane) ⊎ ((o ≡ Csv) ⊎ ((o ≡ Palette) ⊎ ((o ≡ Icc) ⊎ ((o ≡ LinkedIcc) ⊎ ((o ≡ Out) ⊎ ((o ≡ Read) ⊎ ((o ≡ Edges) ⊎ ((o ≡ Lows) ⊎ ((o ≡ Highs)))))))))) → unless (not (eqb (length value) 0)) NoValue ≡ fault_of (place_of o) value
  a_file o (inl e) = rw (some_name, e) (sym (tested 19))
  a_file o (inr (inl e)) = rw (some_name, e) (sym (tested 20))
  a_file o (inr (inr (inl e))) = rw (some_name, e) (sym (tested 21))
  a_file o (inr (inr (inr (inl e)))) = rw (some_name, e) (sym (tested 22))
  a_file o (inr (inr (inr (inr (inl e))))) = rw (some_name, e) (sym (tested 23))
  a_file o (inr (inr (inr (inr (inr (inl e)))))) = rw (some_name, e) (sym (tested 24))
  a_file o (inr (inr (inr (inr (inr (inr (inl e))))))) = rw (some_name, e) (sym (tested 25))
  a_file o (inr (inr (inr (inr (inr (inr (inr (inl e)))))))) = rw (some_name, e) (sym (tested 26))
  a_file o (inr (inr (inr (inr (inr (inr (inr (inr (inl e))))))))) = rw (some_name, e) (sym (tested 27))
  a_file o (inr (inr (inr (inr (inr (inr (inr (inr (inr e))))))))) = rw (some_name, e) (sym (tested 28))

  -- an option that stands alone takes no value
  pub no_other : (o : CommandOption) → (o ≡ Format → ⊥) → (o ≡ Width → ⊥) → (o ≡ Height → ⊥) → (o ≡ Stride → ⊥) → (o ≡ RenderingIntent → ⊥) → (o ≡ Bitfields → ⊥) → (o ≡ Calibrated → ⊥) → (o ≡ Limit → ⊥) → (o ≡ Pels → ⊥) → (o ≡ Plane → ⊥) → (o ≡ Csv → ⊥) → (o ≡ Palette → ⊥) → (o ≡ Icc → ⊥) → (o ≡ LinkedIcc → ⊥) → (o ≡ Out → ⊥) → (o ≡ Read → ⊥) → (o ≡ Edges → ⊥) → (o ≡ Lows → ⊥) → (o ≡ Highs → ⊥) → Some UnknownOption ≡ fault_of (place_of o) value
  no_other TopDown n0 n1 n2 n3 n4 n5 n6 n7 n8 n9 n10 n11 n12 n13 n14 n15 n16 n17 n18 = sym (tested 0)
  no_other MinimalPalette n0 n1 n2 n3 n4 n5 n6 n7 n8 n9 n10 n11 n12 n13 n14 n15 n16 n17 n18 = sym (tested 1)
  no_other NoRle n0 n1 n2 n3 n4 n5 n6 n7 n8 n9 n10 n11 n12 n13 n14 n15 n16 n17 n18 = sym (tested 2)
  no_other NoEmbedIcc n0 n1 n2 n3 n4 n5 n6 n7 n8 n9 n10 n11 n12 n13 n14 n15 n16 n17 n18 = sym (tested 3)
  no_other MoreFollows n0 n1 n2 n3 n4 n5 n6 n7 n8 n9 n10 n11 n12 n13 n14 n15 n16 n17 n18 = sym (tested 4)
  no_other SamplePalette n0 n1 n2 n3 n4 n5 n6 n7 n8 n9 n10 n11 n12 n13 n14 n15 n16 n17 n18 = sym (tested 5)
  no_other Help n0 n1 n2 n3 n4 n5 n6 n7 n8 n9 n10 n11 n12 n13 n14 n15 n16 n17 n18 = sym (tested 6)
  no_other ShortHelp n0 n1 n2 n3 n4 n5 n6 n7 n8 n9 n10 n11 n12 n13 n14 n15 n16 n17 n18 = sym (tested 7)
  no_other Version n0 n1 n2 n3 n4 n5 n6 n7 n8 n9 n10 n11 n12 n13 n14 n15 n16 n17 n18 = sym (tested 8)
  no_other EndOfOptions n0 n1 n2 n3 n4 n5 n6 n7 n8 n9 n10 n11 n12 n13 n14 n15 n16 n17 n18 = sym (tested 9)
  no_other Format n0 n1 n2 n3 n4 n5 n6 n7 n8 n9 n10 n11 n12 n13 n14 n15 n16 n17 n18 = absurd (n0 refl)
  no_other Width n0 n1 n2 n3 n4 n5 n6 n7 n8 n9 n10 n11 n12 n13 n14 n15 n16 n17 n18 = absurd (n1 refl)
  no_other Height n0 n1 n2 n3 n4 n5 n6 n7 n8 n9 n10 n11 n12 n13 n14 n15 n16 n17 n18 = absurd (n2 refl)
  no_other Stride n0 n1 n2 n3 n4 n5 n6 n7 n8 n9 n10 n11 n12 n13 n14 n15 n16 n17 n18 = absurd (n3 refl)
  no_other RenderingIntent n0 n1 n2 n3 n4 n5 n6 n7 n8 n9 n10 n11 n12 n13 n14 n15 n16 n17 n18 = absurd (n4 refl)
  no_other Bitfields n0 n1 n2 n3 n4 n5 n6 n7 n8 n9 n10 n11 n12 n13 n14 n15 n16 n17 n18 = absurd (n5 refl)
  no_other Calibrated n0 n1 n2 n3 n4 n5 n6 n7 n8 n9 n10 n11 n12 n13 n14 n15 n16 n17 n18 = absurd (n6 refl)
  no_other Limit n0 n1 n2 n3 n4 n5 n6 n7 n8 n9 n10 n11 n12 n13 n14 n15 n16 n17 n18 = absurd (n7 refl)
  no_other Pels n0 n1 n2 n3 n4 n5 n6 n7 n8 n9 n10 n11 n12 n13 n14 n15 n16 n17 n18 = absurd (n8 refl)
  no_other Plane n0 n1 n2 n3 n4 n5 n6 n7 n8 n9 n10 n11 n12 n13 n14 n15 n16 n17 n18 = absurd (n9 refl)
  no_other Csv n0 n1 n2 n3 n4 n5 n6 n7 n8 n9 n10 n11 n12 n13 n14 n15 n16 n17 n18 = absurd (n10 refl)
  no_other Palette n0 n1 n2 n3 n4 n5 n6 n7 n8 n9 n10 n11 n12 n13 n14 n15 n16 n17 n18 = absurd (n11 refl)
  no_other Icc n0 n1 n2 n3 n4 n5 n6 n7 n8 n9 n10 n11 n12 n13 n14 n15 n16 n17 n18 = absurd (n12 refl)
  no_other LinkedIcc n0 n1 n2 n3 n4 n5 n6 n7 n8 n9 n10 n11 n12 n13 n14 n15 n16 n17 n18 = absurd (n13 refl)
  no_other Out n0 n1 n2 n3 n4 n5 n6 n7 n8 n9 n10 n11 n12 n13 n14 n15 n16 n17 n18 = absurd (n14 refl)
  no_other Read n0 n1 n2 n3 n4 n5 n6 n7 n8 n9 n10 n11 n12 n13 n14 n15 n16 n17 n18 = absurd (n15 refl)
  no_other Edges n0 n1 n2 n3 n4 n5 n6 n7 n8 n9 n10 n11 n12 n13 n14 n15 n16 n17 n18 = absurd (n16 refl)
  no_other Lows n0 n1 n2 n3 n4 n5 n6 n7 n8 n9 n10 n11 n12 n13 n14 n15 n16 n17 n18 = absurd (n17 refl)
  no_other Highs n0 n1 n2 n3 n4 n5 n6 n7 n8 n9 n10 n11 n12 n13 n14 n15 n16 n17 n18 = absurd (n18 refl)

  unknown_value : (option : ℕ) → 29 ≤ option → fault_of option value ≡ Some UnknownOption
  unknown_value option h =
      tested option
      ∙ rw (ne_eqb option 10 (λ e. omega arith), ne_eqb option 11 (λ e. omega arith), ne_eqb option 12 (λ e. omega arith), ne_eqb option 14 (λ e. omega arith), ne_eqb option 13 (λ e. omega arith), ne_eqb option 15 (λ e. omega arith), ne_eqb option 16 (λ e. omega arith), ne_eqb option 17 (λ e. omega arith), ne_eqb option 18 (λ e. omega arith), le-leb 19 option (omega arith), lt-leb option 28 (omega arith))

unknown_last : (option : ℕ) → 29 ≤ option → fault_last option ≡ Some UnknownOption
unfolding bytes_of option_names option_named place_among alike up_to fault_last
unknown_last option h = rw (lt-leb option 28 (omega arith))

known_last : (o : CommandOption) → fault_last (place_of o) ≡ Some NoValue
unfolding bytes_of option_names option_named place_among alike up_to fault_last
known_last TopDown = refl
known_last MinimalPalette = refl
known_last NoRle = refl
known_last NoEmbedIcc = refl
known_last MoreFollows = refl
known_last SamplePalette = refl
known_last Help = refl
known_last ShortHelp = refl
known_last Version = refl
known_last EndOfOptions = refl
known_last Format = refl
known_last Width = refl
known_last Height = refl
known_last Stride = refl
known_last RenderingIntent = refl
known_last Bitfields = refl
known_last Calibrated = refl
known_last Limit = refl
known_last Pels = refl
known_last Plane = refl
known_last Csv = refl
known_last Palette = refl
known_last Icc = refl
known_last LinkedIcc = refl
known_last Out = refl
known_last Read = refl
known_last Edges = refl
known_last Lows = refl
known_last Highs = refl

-- ---- of the option at a place

module _ (text : List ℕ) (at next : ℕ) (after : next ≡ at + length (up_to 0 (drop at text)) + 1) where
  abbrev given : List ℕ
  given = up_to 0 (drop at text)

  module _ (o : CommandOption) (is : slice_get all_options (option_named given) ≡ Some o) where
    place : option_named given ≡ place_of o
    place = place_is (option_named given) o is

    pub alone : stands_alone (place_of o) ≡ true → fault_alone (place_of o) (carries_value given) (ltb next (length text)) ≡ fault_at (words_of (drop at text))
    unfolding fault_at first
    alone e = rw (first_word (drop at text), place, e, followed text at next after)

    module _ (n1 : stands_alone (place_of o) ≡ false) where
      pub inside : carries_value given ≡ true → fault_of (place_of o) (carried given) ≡ fault_at (words_of (drop at text))
      unfolding fault_at first
      inside e = rw (first_word (drop at text), place, n1, e)

      module _ (n2 : carries_value given ≡ false) where
        pub no_word : length text ≤ next → Some NoValue ≡ fault_at (words_of (drop at text))
        unfolding fault_at first
        no_word h = rw (first_word (drop at text), place, n1, n2, none_behind text at next after h) (sym (known_last o))

        pub with_word : next < length text → fault_of (place_of o) (up_to 0 (drop next text)) ≡ fault_at (words_of (drop at text))
        unfolding fault_at first
        with_word h = rw (first_word (drop at text), place, n1, n2, some_behind text at next after h, second_word text at next after)

  pub no_option : slice_get all_options (option_named given) ≡ None → Some UnknownOption ≡ fault_at (words_of (drop at text))
  unfolding fault_at first stands_alone
  no_option e =
      let far = past_all (option_named given) e in
      let n1 : leb (option_named given) 9 ≡ false = lt-leb (option_named given) 9 (omega arith) in
      rw (first_word (drop at text), n1) (go (carries_value given) (is_none (drop 1 (words_of (drop at text)))) far)
    where
      go : (carries none : Bool) → 29 ≤ option_named given
          → Some UnknownOption ≡ cond carries (fault_of (option_named given) (carried given)) (cond none (fault_last (option_named given)) (fault_of (option_named given) (second (words_of (drop at text)))))
      go true none far = sym (unknown_value (carried given) (option_named given) far)
      go false true far = sym (unknown_last (option_named given) far)
      go false false far = sym (unknown_value (second (words_of (drop at text))) (option_named given) far)
