-- A run that follows rows of document 01's table: where the first row that applies refuses, it returns an Err of that number, and where none applies it comes to `k`.
use mathlib.Core.Path.{◌≡◌, refl, sym, ap, ◌∙◌, subst}
use mathlib.Core.Bool.{Bool, true, false}
use mathlib.Core.List.{List, [], ◌∷◌, ◌++◌}
use Rattle.std.proofs.Common.{Ok, Err}
use Rattle.leaves.specs.declared.error.Refusal.{Refusal}
use Rattle.leaves.specs.Refusals.{number_of, first_of, Check}
use Rattle.leaves.proofs.FirstOf.{first_pass, first_stop}
use Rattle.reference.specs.Rust.{Error, Run, done, fails, ◌>>=◌, ◌>>◌, fail_if}
use Rattle.reference.specs.Compared.{error_number, refuses, outcome, answer}
use Rattle.reference.proofs.ErrorKinds.{kind_is}

pub record Fails {A : Type 0} (m : Run A) (why : Refusal) : Type 0 where
  pub error : Error
  pub number : error_number error ≡ number_of why
  pub is : m ≡ fails error

pub record Follows {A : Type 0} (rows : List (Bool × Refusal)) (m k : Run A) : Type 0 where
  pub passed : first_of rows ≡ Ok tt → m ≡ k
  pub refused : (why : Refusal) → first_of rows ≡ Err why → Fails m why

-- a check does not both pass and refuse
abbrev Passes : Check → Type 0
Passes (Ok passed) = Unit {0}
Passes (Err w) = ⊥

not_both : (w : Refusal) → ◌≡◌ {A = Check} (Ok tt) (Err w) → ⊥
not_both w e = subst Passes e tt

-- and it refuses for one cause
same_cause : {v w : Refusal} → ◌≡◌ {A = Check} (Err v) (Err w) → v ≡ w
same_cause z = cc

-- ---- one row

-- a row that applies
pub row_stops : {A : Type 0} (why : Refusal) (m k : Run A) → Fails m why → Follows ((true, why) ∷ []) m k
row_stops why m k f =
    record {
      passed = λ p. absurd (not_both why (sym p));
      refused = λ w p. record { error = f.error; number = f.number ∙ ap number_of (same_cause p); is = f.is };
    }

-- if t { return Err(e); }
pub row_fails_lem : {A : Type 0} (t : Bool) (why : Refusal) (e : Error) (k : Run A) → error_number e ≡ number_of why → Follows ((t, why) ∷ []) (fail_if t e >> k) k
row_fails_lem true why e k n = row_stops why (fails e) k (record { error = e; number = n; is = refl })
row_fails_lem false why e k n =
    record {
      passed = λ p. refl;
      refused = λ w p. absurd (not_both w p);
    }

-- a row that lets through does not apply
pub row_passed : (t : Bool) (why : Refusal) → first_of ((t, why) ∷ []) ≡ Ok tt → t ≡ false
row_passed true why p = absurd (not_both why (sym p))
row_passed false why p = refl

-- a row that does not apply
pub row_passes : {A : Type 0} (t : Bool) (why : Refusal) (k : Run A) → t ≡ false → Follows ((t, why) ∷ []) k k
row_passes t why k e =
    record {
      passed = λ p. refl;
      refused = λ w p. absurd (not_both w (rw e at p));
    }

-- no row at all
pub nothing : {A : Type 0} (m k : Run A) → m ≡ k → Follows [] m k
nothing m k e = record { passed = λ p. e; refused = λ w p. absurd (not_both w p) }

-- ---- rows after rows

pub then : {A : Type 0} (xs ys : List (Bool × Refusal)) (m k l : Run A) → Follows xs m k → (first_of xs ≡ Ok tt → Follows ys k l) → Follows (xs ++ ys) m l
then xs ys m k l f g =
    record {
      passed = λ p. go (first_of xs) refl (λ q. let e : first_of ys ≡ Ok tt = sym (first_pass xs ys q) ∙ p in f.passed q ∙ (g q).passed e) (λ w q. let z : Err w ≡ Ok tt = sym (first_stop xs ys w q) ∙ p in cc);
      refused = λ w p. fall (first_of xs) refl w p;
    }
  where
    go : (c : Check) → first_of xs ≡ c → (first_of xs ≡ Ok tt → m ≡ l) → ((w : Refusal) → first_of xs ≡ Err w → m ≡ l) → m ≡ l
    go (Ok passed) e a b = a e
    go (Err w) e a b = b w e

    fall : (c : Check) → first_of xs ≡ c → (w : Refusal) → first_of (xs ++ ys) ≡ Err w → Fails m w
    fall (Ok passed) q w p =
        let r = (g q).refused w (sym (first_pass xs ys q) ∙ p) in
        record { error = r.error; number = r.number; is = f.passed q ∙ r.is }
    fall (Err v) q w p =
        let r = f.refused v q in
        record { error = r.error; number = r.number ∙ ap number_of (same_cause (sym (first_stop xs ys v q) ∙ p)); is = r.is }

-- ---- what a run goes on with

pub on : {A B : Type 0} (rows : List (Bool × Refusal)) (m k : Run A) (f : A → Run B) → Follows rows m k → Follows rows (m >>= f) (k >>= f)
on rows m k f h =
    record {
      passed = λ p. ap (λ r. r >>= f) (h.passed p);
      refused = λ w p. let r = h.refused w p in record { error = r.error; number = r.number; is = ap (λ q. q >>= f) r.is };
    }

-- the run itself, said otherwise
pub from : {A : Type 0} (rows : List (Bool × Refusal)) (m n k : Run A) → m ≡ n → Follows rows n k → Follows rows m k
from rows m n k e h = subst (λ (r : Run _). Follows rows r k) (sym e) h

-- what it comes to where no row applies, said otherwise
pub to : {A : Type 0} (rows : List (Bool × Refusal)) (m k l : Run A) → Follows rows m k → (first_of rows ≡ Ok tt → k ≡ l) → Follows rows m l
to rows m k l h e = record { passed = λ p. h.passed p ∙ e p; refused = h.refused }

-- its answer is the document's
pub answered : {A : Type 0} (rows : List (Bool × Refusal)) (m : Run A) (a : A) → Follows rows m (done a) → outcome m ≡ answer (first_of rows) a
answered rows m a h = go (first_of rows) refl
  where
    go : (c : Check) → first_of rows ≡ c → outcome m ≡ answer c a
    go (Ok passed) e = ap outcome (h.passed e)
    go (Err w) e = let r = h.refused w e in ap outcome r.is ∙ (λ z. refuses (r.number z) (kind_is r.error w r.number z))
