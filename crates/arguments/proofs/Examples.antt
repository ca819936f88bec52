-- Words of commands, by computation.
use mathlib.Core.List.{[], ◌∷◌, map}
use mathlib.Core.Path.{◌≡◌, refl}
use Prim.Native.Nat.{ℕ}
use lib.IntN.{ℤ, pos, neg_ℤ}
use Rattle.leaves.specs.Texts.{bytes_of}
use Rattle.std.specs.Prelude.{Some, None}
use Rattle.arguments.specs.declared.options.Fault.TheVariants.{UnknownOption, NoValue, NoNumber, UnknownFormat, TakesNoValue, WordBehind, NoLimit, NoPels}
use Rattle.arguments.specs.Numbers.{digit_of, with_digit, digits_from, digits_of_of, number_of, is_number, at_most, number32, is_number32, is_negative, magnitude, with_sign, signed32, is_signed32, numbers_from, are_numbers}
use Rattle.arguments.specs.Options.{option_names, option_named, stands_alone, carries_value, carried, is_whole, options_in, first, second, is_none, last_of, last_given, is_given, value_in, value_of, format_names, format_numbered, is_format, unless, fault_of_name, fault_of, fault_alone, fault_last, fault_at, number_asked, pels_asked, options_asked, numbered}
use Rattle.arguments.specs.Words.{up_to, onto, pieces, words_of, items_of, item_at, alike, lowered, in_case, place_among}

-- a width in the next word, behind a =, given twice, as another option's value, and not at all
pub values_hold : map (λ t. value_of (numbered "--width") (words_of (bytes_of t))) ("--width\08\0" ∷ "--width=8\0" ∷ "--width=7\0--top-down\0--width\08\0" ∷ "--out\0--width=9\0" ∷ "" ∷ [])
    ≡ map bytes_of ("8" ∷ "8" ∷ "8" ∷ "" ∷ "" ∷ [])
unfolding bytes_of option_names option_named stands_alone carries_value carried is_whole options_in first second is_none last_of last_given value_in value_of up_to onto pieces words_of item_at alike place_among
values_hold = refl

-- layouts in any case; 10 is none
pub formats_hold : map (λ t. format_numbered (bytes_of t)) ("Pal8" ∷ "PAL8" ∷ "pal8" ∷ "rGbA" ∷ "Pal4" ∷ []) ≡ 9 ∷ 9 ∷ 9 ∷ 0 ∷ 10 ∷ []
unfolding bytes_of format_names format_numbered alike lowered in_case place_among
formats_hold = refl

-- what is wrong with the first option
pub faults_hold : map (λ t. fault_at (words_of (bytes_of t))) ("--no-rle\0" ∷ "--none\0" ∷ "--width\0" ∷ "--width\08x\0" ∷ "--format=Pal4\0" ∷ "--no-rle=no\0" ∷ "--\0" ∷ "--\0x\0" ∷ "--out=\0" ∷ "--limit=4294967296\0" ∷ "--limit=1k\0" ∷ "--pels=3780,-1\0" ∷ "--pels=3780\0" ∷ "--edges=e\0" ∷ "--highs\0" ∷ "--lows=\0" ∷ [])
    ≡ None ∷ Some UnknownOption ∷ Some NoValue ∷ Some NoNumber ∷ Some UnknownFormat ∷ Some TakesNoValue ∷ None ∷ Some WordBehind ∷ Some NoValue ∷ None ∷ Some NoLimit ∷ None ∷ Some NoPels ∷ None ∷ Some NoValue ∷ Some NoValue ∷ []
unfolding bytes_of digit_of with_digit digits_from digits_of_of number_of is_number at_most number32 is_number32 is_negative magnitude with_sign signed32 is_signed32 numbers_from are_numbers option_names option_named stands_alone carries_value carried first second is_none format_names format_numbered is_format unless fault_of_name fault_of fault_alone fault_last fault_at up_to onto pieces words_of items_of item_at alike lowered in_case place_among
faults_hold = refl

-- the limit, and the pixels a metre across and down: not given, and given
pub settings_hold : map {B = ℕ × (ℤ × ℤ)} (λ t. let o = options_asked (words_of (bytes_of t)) in (o.limit, (o.x_pels_per_meter, o.y_pels_per_meter))) ("" ∷ "--limit=262144\0--pels=3780,-1\0" ∷ [])
    ≡ (4294967295, (pos 2835, pos 2835)) ∷ (262144, (pos 3780, neg_ℤ (pos 1))) ∷ []
unfolding bytes_of digit_of with_digit digits_from digits_of_of number_of at_most is_negative magnitude with_sign signed32 option_names option_named stands_alone carries_value carried is_whole options_in first second is_none last_of last_given is_given value_in value_of number_asked pels_asked options_asked up_to onto pieces words_of items_of item_at alike place_among
settings_hold = refl
