-- What the promises of the two calls amount to: they determine the answer, leave all other bytes alone, keep to the limit, and refuse exactly what the table refuses.
use mathlib.Core.Path.{◌≡◌, refl, sym, ap, ◌∙◌}
use mathlib.Core.Bool.{Bool, true, false, false≢true, cond}
use mathlib.Core.List.{List, [], ◌∷◌}
use Prim.Native.Nat.{ℕ, zero, suc, ◌+◌, ◌≤◌, ◌<◌}
use native.Mathlib.Nat.{not-suc-le-zero, le_of_suc-le-suc}
use native.Mathlib.Omega.{arith}
use lib.ListN.{length, get_or, take, drop}
use Rattle.std.proofs.Common.{Ok, Err}
use Rattle.leaves.specs.declared.encoder.EncodedBmpFormat.{EncodedBmpFormat}
use Rattle.leaves.specs.declared.error.Refusal.{Refusal}
use Rattle.leaves.specs.Refusals.{number_of, check_number, first_of, Check}
use Rattle.format.specs.File.{limit_in, file_of}
use Rattle.format.specs.Input.{Input}
use Rattle.format.specs.Refusals.{write_rows}
use Rattle.leaves.proofs.FirstOf.{check_determined}
use Rattle.leaves.proofs.Puts.{before-put, after_put}
use Rattle.format.proofs.Acceptance.{keeps_limit}
use Rattle.format.proofs.HeadFields.{length_file}
use Rattle.planner.specs.Answers.{EncodeAnswer, BoundAnswer, encoded_number, encoded_bytes, encoded_format, bytes_for, later_for, bound_number, bound_bytes, WrittenBy, Written, Sized}

-- ---- number, bytes and format determine the answer

-- an answer as a check, with what a file has beside it
encoded_check : EncodeAnswer → Check
encoded_check (Ok file) = Ok tt
encoded_check (Err why) = Err why

encoded_number_lem : (r : EncodeAnswer) → encoded_number r ≡ check_number (encoded_check r)
unfolding encoded_check
encoded_number_lem (Ok file) = refl
encoded_number_lem (Err why) = refl

-- the answer of a check, bytes and formats
rebuilt : Check → ℕ → List EncodedBmpFormat → EncodeAnswer → EncodeAnswer
rebuilt (Ok passed) bytes [] r = r
rebuilt (Ok passed) bytes (f ∷ fs) r = Ok (record { format = f; bytes = bytes })
rebuilt (Err why) bytes fs r = Err why

rebuilds : (r s : EncodeAnswer) → rebuilt (encoded_check r) (encoded_bytes r) (encoded_format r) s ≡ r
unfolding rebuilt encoded_check
rebuilds (Ok file) s = refl
rebuilds (Err why) s = refl

-- equal in all three, two answers are one
pub encoded_determined : (r s : EncodeAnswer) → encoded_number r ≡ encoded_number s → encoded_bytes r ≡ encoded_bytes s → encoded_format r ≡ encoded_format s → r ≡ s
encoded_determined r s number bytes format =
    let same = check_determined (encoded_check r) (encoded_check s) (sym (encoded_number_lem r) ∙ number ∙ encoded_number_lem s) in
    sym (rebuilds r r) ∙ (λ z. rebuilt (same z) (bytes z) (format z) r) ∙ rebuilds s r

-- two answers of which the promise holds, by one check, are one, and so are the buffers
pub by_determined : (c : Check) (i : Input) (offset : ℕ) (was later other : List ℕ) (r s : EncodeAnswer) → WrittenBy c i offset was later r → WrittenBy c i offset was other s
    → (r ≡ s) × (later ≡ other)
by_determined c i offset was later other r s p q =
    (encoded_determined r s (p.number ∙ sym q.number) (p.bytes ∙ sym q.bytes) (p.format ∙ sym q.format), p.buffer ∙ sym q.buffer)

pub written_determined : (i : Input) (offset : ℕ) (was later other : List ℕ) (r s : EncodeAnswer) → Written i offset was later r → Written i offset was other s
    → (r ≡ s) × (later ≡ other)
written_determined i offset was = by_determined (first_of (write_rows (limit_in i) i (length was) offset)) i offset was

-- the same of the size query
bound_check : BoundAnswer → Check
bound_check (Ok bytes) = Ok tt
bound_check (Err why) = Err why

bound_number_lem : (r : BoundAnswer) → bound_number r ≡ check_number (bound_check r)
unfolding bound_check
bound_number_lem (Ok bytes) = refl
bound_number_lem (Err why) = refl

bound_by_of : Check → ℕ → BoundAnswer
bound_by_of (Ok passed) bytes = Ok bytes
bound_by_of (Err why) bytes = Err why

bound_by : (r : BoundAnswer) → bound_by_of (bound_check r) (bound_bytes r) ≡ r
unfolding bound_by_of bound_check
bound_by (Ok bytes) = refl
bound_by (Err why) = refl

-- equal in number and bytes, two bounds are one
pub bound_determined : (r s : BoundAnswer) → bound_number r ≡ bound_number s → bound_bytes r ≡ bound_bytes s → r ≡ s
bound_determined r s number bytes =
    let same = check_determined (bound_check r) (bound_check s) (sym (bound_number_lem r) ∙ number ∙ bound_number_lem s) in
    sym (bound_by r) ∙ (λ z. bound_by_of (same z) (bytes z)) ∙ bound_by s

-- two bounds of which the promise holds are one
pub sized_determined : (i : Input) (r s : BoundAnswer) → Sized i r → Sized i s → r ≡ s
sized_determined i r s p q = bound_determined r s (p.number ∙ sym q.number) (p.bytes ∙ sym q.bytes)

-- ---- all other bytes

-- bytes before the offset and after the last appended byte are as before; after a refusal all are
pub others_stay : (i : Input) (offset : ℕ) (was later : List ℕ) (r : EncodeAnswer) → offset ≤ length was → Written i offset was later r
    → (take offset later ≡ take offset was) × (drop (offset + encoded_bytes r) later ≡ drop (offset + encoded_bytes r) was)
others_stay i offset was later r h p = go (first_of (write_rows (limit_in i) i (length was) offset)) p.bytes p.buffer
  where
    go : (c : Check) → encoded_bytes r ≡ bytes_for c i → later ≡ later_for c i offset was
        → (take offset later ≡ take offset was) × (drop (offset + encoded_bytes r) later ≡ drop (offset + encoded_bytes r) was)
    go (Ok passed) b l =
        let n : offset + encoded_bytes r ≡ offset + length (file_of (limit_in i) i) = ap (λ (k : ℕ). offset + k) (b ∙ sym (length_file i)) in (
          ap (take offset) l ∙ before-put was offset (file_of (limit_in i) i) h,
          (λ z. drop (n z) (l z)) ∙ after_put was offset (file_of (limit_in i) i) h ∙ ap (λ (k : ℕ). drop k was) (sym n),
        )
    go (Err why) b l = (ap (take offset) l, ap (drop (offset + encoded_bytes r)) l)

-- a refusal leaves the buffer as it was
pub refusal_changes_nothing : (i : Input) (offset : ℕ) (was later : List ℕ) (why : Refusal) → Written i offset was later (Err why) → later ≡ was
refusal_changes_nothing i offset was later why p =
    p.buffer ∙ ap (λ (c : Check). later_for c i offset was) (check_determined (first_of (write_rows (limit_in i) i (length was) offset)) (Err why) (sym p.number))

-- no call reports more bytes than its limit
pub within_limit : (i : Input) (offset : ℕ) (was later : List ℕ) (r : EncodeAnswer) → Written i offset was later r → encoded_bytes r ≤ limit_in i
within_limit i offset was later r p = go (first_of (write_rows (limit_in i) i (length was) offset)) refl p.bytes
  where
    go : (c : Check) → first_of (write_rows (limit_in i) i (length was) offset) ≡ c → encoded_bytes r ≡ bytes_for c i → encoded_bytes r ≤ limit_in i
    go (Ok passed) e b = omega (arith, b, (keeps_limit i (length was) offset e).1)
    go (Err why) e b = omega (arith, b)

-- ---- the first row that applies

-- a row applies and none before it does
pub record FirstRow (rows : List (Bool × Refusal)) (why : Refusal) : Type 0 where
  pub place : ℕ
  pub inside : place < length rows
  pub cause : (get_or rows place (false, why)).1 ≡ why
  pub applies : (get_or rows place (false, why)).0 ≡ true
  pub none_before : (j : ℕ) → j < place → (get_or rows j (false, why)).0 ≡ false

-- the cause of a refusal
cause_in : Check → Refusal → Refusal
cause_in (Ok passed) why = why
cause_in (Err cause) why = cause

-- a row that does not apply, before those that do not
none_more : (row : Bool × Refusal) (rows : List (Bool × Refusal)) (why : Refusal) (n : ℕ) → row.0 ≡ false → ((j : ℕ) → j < n → (get_or rows j (false, why)).0 ≡ false)
    → (j : ℕ) → j < suc n → (get_or (row ∷ rows) j (false, why)).0 ≡ false
none_more row rows why n q rest zero l = q
none_more row rows why n q rest (suc j) l = rest j (le_of_suc-le-suc l)

first_row : (rows : List (Bool × Refusal)) (why : Refusal) → first_of rows ≡ Err why → FirstRow rows why
unfolding cause_in
first_row [] why e = let q : true ≡ false = cc in absurd (false≢true (sym q))
first_row (row ∷ rows) why e = go row.0 refl e (first_row rows why)
  where
    go : (b : Bool) → row.0 ≡ b → cond b (Err row.1) (first_of rows) ≡ Err why → (first_of rows ≡ Err why → FirstRow rows why) → FirstRow (row ∷ rows) why
    go true q f rest =
        record { place = 0; inside = omega arith; cause = ap (λ (c : Check). cause_in c why) f; applies = q; none_before = λ j l. absurd (not-suc-le-zero l) }
    go false q f rest =
        let r = rest f in
        record { place = suc r.place; inside = omega (arith, r.inside); cause = r.cause; applies = r.applies; none_before = none_more row rows why r.place q r.none_before }

-- and the first row that applies is the one that decides
row_first : (rows : List (Bool × Refusal)) (why : Refusal) (n : ℕ) → n < length rows → (get_or rows n (false, why)).1 ≡ why → (get_or rows n (false, why)).0 ≡ true
    → ((j : ℕ) → j < n → (get_or rows j (false, why)).0 ≡ false) → first_of rows ≡ Err why
row_first [] why n l c a none = absurd (not-suc-le-zero l)
row_first (row ∷ rows) why zero l c a none = ap (λ (b : Bool). cond b (Err row.1) (first_of rows)) a ∙ ap Err c
row_first (row ∷ rows) why (suc n) l c a none =
    ap (λ (b : Bool). cond b (Err row.1) (first_of rows)) (none 0 (omega arith))
    ∙ row_first rows why n (le_of_suc-le-suc l) c a (λ j k. none (suc j) (omega (arith, k)))

-- the writing call refuses with a cause exactly where its row is the first of the table that applies
pub refused_exactly : (i : Input) (offset : ℕ) (was later : List ℕ) (r : EncodeAnswer) (why : Refusal) → Written i offset was later r
    → (encoded_number r ≡ number_of why → FirstRow (write_rows (limit_in i) i (length was) offset) why)
    × (FirstRow (write_rows (limit_in i) i (length was) offset) why → encoded_number r ≡ number_of why)
refused_exactly i offset was later r why p = (
  λ e. first_row (write_rows (limit_in i) i (length was) offset) why
      (check_determined (first_of (write_rows (limit_in i) i (length was) offset)) (Err why) (sym p.number ∙ e)),
  λ f. p.number
      ∙ ap check_number (row_first (write_rows (limit_in i) i (length was) offset) why f.place f.inside f.cause f.applies f.none_before),
)
