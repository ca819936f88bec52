-- What the words say, case by case.
use mathlib.Core.Bool.{Bool, true, false, cond, ◌||◌}
use mathlib.Core.List.{List, [], ◌∷◌, map}
use mathlib.Core.Path.{◌≡◌, refl, sym, ap, subst, ◌∙◌}
use Prim.Native.Nat.{ℕ, zero, suc, ◌+◌, ◌<◌}
use native.Mathlib.Nat.{add-zero}
use native.Mathlib.Omega.{arith}
use lib.ListN.{length, get_or, drop}
use Rattle.leaves.specs.Texts.{bytes_of}
use Rattle.arguments.specs.Options.{place_of, option_names, option_named, is_none, is_given, first_fault}
use Rattle.arguments.specs.Words.{up_to, place_among, alike, words_of}
use Rattle.arguments.proofs.OptionLaws.{is_some}
use Rattle.messages.specs.Messages.{Says}
use Rattle.messages.proofs.MessageLaws.{says_as}
use Rattle.std.specs.Prelude.{Option, Some, None}
use Rattle.std.specs.Bool.{then_some}
use Rattle.std.specs.Option.{option_or}
use Rattle.std.specs.List.{list_any, range_with_len}
use Rattle.arguments.specs.declared.options.CommandOption.{CommandOption}
use Rattle.command.specs.declared.check.JointFault.{JointFault}
use Rattle.command.specs.Commands.{first_found, one_given, read_fault, write_fault, fault_text_at, joint_fault, joint_text, joint_text_of, help_text, version_text, asks_help, check_status, check_text}
use Rattle.command.specs.Runs.{told_answer, Checked}
use Rattle.command.specs.declared.CommandAnswer.{CommandAnswer}

-- ---- options by name

or_assoc : (a b c : Bool) → (a || b || c) ≡ (a || (b || c))
or_assoc true b c = refl
or_assoc false b c = refl

pub or_three : (a b c : Bool) → (a || b || c) ≡ (a || (b || c))
or_three a b c = or_assoc a b c

-- the first of some options, and the others
one_first : (ws : List (List ℕ)) (from n : ℕ) → one_given from (suc n) ws ≡ (is_given from ws || one_given (from + 1) n ws)
unfolding one_given
one_first ws from zero = rw (add-zero from) (sym (or_false (is_given from ws)))
  where
    or_false : (b : Bool) → (b || false) ≡ b
    or_false true = refl
    or_false false = refl
one_first ws from (suc n) =
    let place : from + suc n ≡ from + 1 + n = omega arith in
    ap (λ (b : Bool). b || is_given (from + suc n) ws) (one_first ws from n) ∙ or_assoc (is_given from ws) (one_given (from + 1) n ws) (is_given (from + suc n) ws)
    ∙ ap (λ (k : ℕ). is_given from ws || (one_given (from + 1) n ws || is_given k ws)) place

-- whether one of options that stand in a row is given
pub given_any : (ws : List (List ℕ)) (from : ℕ) (os : List CommandOption) → map place_of os ≡ range_with_len from (length os)
    → list_any (λ (o : CommandOption). is_given (place_of o) ws) os ≡ one_given from (length os) ws
unfolding one_given
given_any ws from [] e = refl
given_any ws from (o ∷ os) e =
    let here : place_of o ≡ from = ap (λ (ns : List ℕ). get_or ns 0 0) e in
    let rest : map place_of os ≡ range_with_len (from + 1) (length os) = ap (drop 1) e in
    ap (λ (k : ℕ). is_given k ws || list_any (λ (x : CommandOption). is_given (place_of x) ws) os) here
    ∙ ap (λ (b : Bool). is_given from ws || b) (given_any ws (from + 1) os rest)
    ∙ sym (one_first ws from (length os))

-- ---- faults one after another

pub first_test : (fault : JointFault) (x : Bool) {r : Option JointFault} → r ≡ then_some x fault → r ≡ first_found None x fault
unfolding first_found
first_test fault x {r} e = e ∙ go x
  where
    go : (b : Bool) → then_some b fault ≡ cond b (Some fault) None
    go true = refl
    go false = refl

pub next_test : (fault : JointFault) (x : Bool) {r s a b : Option JointFault} → r ≡ option_or a s → s ≡ then_some x fault → a ≡ b → r ≡ first_found b x fault
unfolding first_found
next_test fault x {r} {s} {a} {b} e f g = e ∙ ap (option_or a) f ∙ ap (λ (o : Option JointFault). option_or o (then_some x fault)) g ∙ go b x
  where
    go : (o : Option JointFault) (t : Bool) → option_or o (then_some t fault) ≡ first_found o t fault
    go None true = refl
    go None false = refl
    go (Some found) t = refl

-- which faults count
pub joint_reads : (ws : List (List ℕ)) → is_given 25 ws ≡ true → read_fault ws ≡ joint_fault ws
unfolding joint_fault bytes_of option_names option_named place_among alike up_to
joint_reads ws e = rw e

pub joint_writes : (ws : List (List ℕ)) → is_given 25 ws ≡ false → write_fault ws ≡ joint_fault ws
unfolding joint_fault bytes_of option_names option_named place_among alike up_to
joint_writes ws e = rw e

-- an answer with the status and the message that the words have
pub checked : {ws : List (List ℕ)} {was later text : List ℕ} {r : CommandAnswer} {status n : ℕ} → r ≡ told_answer status n → status ≡ check_status ws → text ≡ check_text ws → Says was 0 text later n
    → Checked ws was later r
checked {ws} {was} {later} {text} {r} {status} {n} e s t said =
    let k : r.text ≡ n = ap (λ (x : CommandAnswer). x.text) e in
    record {
      numbers = e ∙ ap (λ (x : ℕ). told_answer x n) s ∙ ap (told_answer (check_status ws)) (sym k);
      message = subst (λ (x : ℕ). Says was 0 (check_text ws) later x) (sym k) (says_as t said);
    }

-- a fault, and none
pub some_fault : (text : List ℕ) (at : ℕ) → (at < length text) × (words_of (drop at text) ≡ first_fault (words_of text)) → is_none (first_fault (words_of text)) ≡ false
some_fault text at found = ap is_none (sym found.1) ∙ is_some text at found.0

pub no_fault : (text : List ℕ) → first_fault (words_of text) ≡ [] → is_none (first_fault (words_of text)) ≡ true
unfolding is_none
no_fault text e = ap is_none e

module _ (ws : List (List ℕ)) where
  module _ (e : is_none (first_fault ws) ≡ false) where
    pub fault_status : 2 ≡ check_status ws
    unfolding check_status
    fault_status = rw e

    pub fault_text : fault_text_at (first_fault ws) ≡ check_text ws
    unfolding check_text
    fault_text = rw e

  pub asks : (a b : Bool) → a ≡ is_given 6 ws → b ≡ is_given 7 ws → (a || b) ≡ asks_help ws
  unfolding asks_help bytes_of option_names option_named place_among alike up_to
  asks a b p q = rw (p, q)

  module _ (e : is_none (first_fault ws) ≡ true) where
    pub help_status : asks_help ws ≡ true → 0 ≡ check_status ws
    unfolding check_status
    help_status h = rw (e, h)

    pub help_text_lem : asks_help ws ≡ true → help_text ≡ check_text ws
    unfolding check_text
    help_text_lem h = rw (e, h)

    module _ (h : asks_help ws ≡ false) where
      pub version_status : is_given 8 ws ≡ true → 0 ≡ check_status ws
      unfolding check_status bytes_of option_names option_named place_among alike up_to
      version_status v = rw (e, h, v)

      pub version_text_lem : is_given 8 ws ≡ true → version_text ≡ check_text ws
      unfolding check_text bytes_of option_names option_named place_among alike up_to
      version_text_lem v = rw (e, h, v)

      module _ (v : is_given 8 ws ≡ false) where
        pub joint_status : (fault : JointFault) → Some fault ≡ joint_fault ws → 2 ≡ check_status ws
        unfolding check_status bytes_of option_names option_named place_among alike up_to
        joint_status fault j = rw (e, h, v, ← j)

        pub joint_text_lem : (fault : JointFault) → Some fault ≡ joint_fault ws → joint_text fault ≡ check_text ws
        unfolding check_text joint_text_of bytes_of option_names option_named place_among alike up_to
        joint_text_lem fault j = rw (e, h, v, ← j)

        pub run_status : None ≡ joint_fault ws → 3 ≡ check_status ws
        unfolding check_status bytes_of option_names option_named place_among alike up_to
        run_status j = rw (e, h, v, ← j)

        pub run_text : None ≡ joint_fault ws → [] ≡ check_text ws
        unfolding check_text joint_text_of bytes_of option_names option_named place_among alike up_to
        run_text j = rw (e, h, v, ← j)
