-- Rows of the table of refusals, and what `search` is handed at a `return` of a function that tests one row after the other.
use Rattle.std.proofs.Common.{◌≡◌, ℕ, Bool, true, false, cond, not, ◌&&◌, ◌||◌, refl, rules, le-ltb, lt-ltb, eq-eqb, ne_eqb, le-leb, Err}
use borrow.Author.Tests.{lt-leb, not-true, not-false}
use Rattle.leaves.specs.declared.error.Refusal.{Refusal}
use Rattle.leaves.specs.Refusals.{number_of, check_number, Check}

-- a row that applies, and one that does not
pub applies : (n : ℕ) (t : Bool) (why : Refusal) (rest : Check) → t ≡ true → n ≡ number_of why → n ≡ check_number (cond t (Err why) rest)
applies n t why rest e h = rw e h

pub passes : (n : ℕ) (t : Bool) (why : Refusal) (rest : Check) → t ≡ false → n ≡ check_number rest → n ≡ check_number (cond t (Err why) rest)
passes n t why rest e h = rw e h

-- the same of checks
pub decides : (t : Bool) (why : Refusal) (rest : Check) → t ≡ true → Err why ≡ cond t (Err why) rest
decides t why rest e = rw e

pub leaves_it : (c : Check) (t : Bool) (why : Refusal) (rest : Check) → t ≡ false → c ≡ rest → c ≡ cond t (Err why) rest
leaves_it c t why rest e h = rw e h

-- a test of several parts
pub or-first : (a b : Bool) → a ≡ true → (a || b) ≡ true
or-first a b e = rw e

pub or-second : (a b : Bool) → b ≡ true → (a || b) ≡ true
or-second true b e = refl
or-second false b e = e

pub or_neither : (a b : Bool) → a ≡ false → b ≡ false → (a || b) ≡ false
or_neither a b e f = rw e f

pub and_both : (a b : Bool) → a ≡ true → b ≡ true → (a && b) ≡ true
and_both a b e f = rw e f

pub and_first : (a b : Bool) → a ≡ false → (a && b) ≡ false
and_first a b e = rw e

pub and_second : (a b : Bool) → b ≡ false → (a && b) ≡ false
and_second true b e = e
and_second false b e = refl

pub not_of_false : (a : Bool) → a ≡ false → not a ≡ true
not_of_false a e = rw e

pub not_of_true : (a : Bool) → a ≡ true → not a ≡ false
not_of_true a e = rw e

pub ruleset tests = (rules, eq-eqb, ne_eqb, lt-ltb, le-ltb, le-leb, lt-leb, not-true, not-false, applies, passes, decides, leaves_it, or-first, or-second, or_neither, and_both, and_first, and_second, not_of_false, not_of_true)
