use mathlib.Core.Path.{sym, ap, ◌∙◌}
use mathlib.Core.Bool.{Bool}
use mathlib.Core.List.{List}
use Prim.Native.Nat.{ℕ}
use lib.Dec.{ltb}
use lib.ListN.{length}
use Rattle.std.specs.List.{slice_get}
use Rattle.arguments.specs.Options.{all_options, place_of, option_named, carries_value, carried, fault_of, fault_alone}
use Rattle.arguments.proofs.FaultLaws.{alone, inside, no_word, with_word, no_option}
use Rattle.arguments.proofs.options.fault_at.Goals as goal

pub returns-in_default : goal.returns-in_default
returns-in_default c =
    let a = c.args in
    let next = c.after_word-next in
    no_option a.words.now a.at next.result next.ensures (ap (λ (w : List ℕ). slice_get all_options (option_named w)) (sym c.word-given.ensures) ∙ sym c.in_default.ensures)

pub returns-then-stands_alone : goal.returns-then-stands_alone
returns-then-stands_alone c =
    let a = c.args in
    let next = c.after_word-next in
    let o = c.in-Some.option in
    let is = ap (λ (w : List ℕ). slice_get all_options (option_named w)) (sym c.word-given.ensures) ∙ sym c.in-Some.ensures in
    c.fault_alone.ensures ∙ ap (λ (b : Bool). fault_alone (place_of o) b (ltb next.result (length a.words.now))) (c.carries_value.ensures ∙ ap carries_value c.word-given.ensures)
    ∙ alone a.words.now a.at next.result next.ensures o is (sym c.stands_alone.ensures ∙ c.if-stands_alone.true)

pub returns-then-carries_value : goal.returns-then-carries_value
returns-then-carries_value c =
    let a = c.args in
    let next = c.after_word-next in
    let o = c.in-Some.option in
    let is = ap (λ (w : List ℕ). slice_get all_options (option_named w)) (sym c.word-given.ensures) ∙ sym c.in-Some.ensures in
    let carries = c.carries_value-else-stands_alone.ensures ∙ ap carries_value c.word-given.ensures in
    c.fault_of.ensures ∙ ap (fault_of (place_of o)) (c.carried.ensures ∙ ap carried c.word-given.ensures)
    ∙ inside a.words.now a.at next.result next.ensures o is (sym c.stands_alone.ensures ∙ c.if-stands_alone.false) (sym carries ∙ c.if-carries_value.true)

pub returns-then-next-words : goal.returns-then-next-words
returns-then-next-words c =
    let a = c.args in
    let next = c.after_word-next in
    let o = c.in-Some.option in
    let is = ap (λ (w : List ℕ). slice_get all_options (option_named w)) (sym c.word-given.ensures) ∙ sym c.in-Some.ensures in
    let carries = c.carries_value-else-stands_alone.ensures ∙ ap carries_value c.word-given.ensures in
    c.fault_of-then-next-words.ensures ∙ ap (fault_of (place_of o)) c.word.ensures
    ∙ with_word a.words.now a.at next.result next.ensures o is (sym c.stands_alone.ensures ∙ c.if-stands_alone.false) (sym carries ∙ c.if-carries_value.false) c.if-next-words.true

pub returns-else-next-words : goal.returns-else-next-words
returns-else-next-words c =
    let a = c.args in
    let next = c.after_word-next in
    let o = c.in-Some.option in
    let is = ap (λ (w : List ℕ). slice_get all_options (option_named w)) (sym c.word-given.ensures) ∙ sym c.in-Some.ensures in
    let carries = c.carries_value-else-stands_alone.ensures ∙ ap carries_value c.word-given.ensures in
    no_word a.words.now a.at next.result next.ensures o is (sym c.stands_alone.ensures ∙ c.if-stands_alone.false) (sym carries ∙ c.if-carries_value.false) c.if-next-words.false
