-- Sizes::of follows row 14 and gives the document's sizes and bound.
use mathlib.Core.Path.{◌≡◌, refl}
use mathlib.Core.Bool.{Bool, true, false, cond}
use mathlib.Core.List.{[], ◌∷◌}
use Prim.Native.Nat.{ℕ, ◌+◌, ◌-◌, ◌*◌, ◌^◌, ◌≤◌, ◌<◌, min, max}
use native.Mathlib.Omega.{arith}
use borrow.Author.Tests.{lt-ltb, le-ltb, le-leb, lt-leb, ltb-true, ltb-false}
use lib.Dec.{ltb, leb}
use Rattle.leaves.specs.declared.error.Refusal.TheVariants.{FileTooLarge}
use Rattle.format.proofs.HeadFields.{choice_le}
use Rattle.reference.specs.Rust.{file_overflows, over_limit, Run, done, ◌>>=◌, ◌>>◌, some, none, fail_if, ok_or, checked_add, checked_mul}
use Rattle.reference.specs.Rust as rust
use Rattle.reference.specs.Plan.{Sizes, budget_and_bound, new_sizes, max_file}
use Rattle.reference.proofs.RunLaws.{add_is}
use Rattle.reference.proofs.Follows as follow
use Rattle.reference.proofs.Follows.{Follows}

pub checked_add_lem : (a b : ℕ) → a + b < 2 ^ 64 → checked_add 64 a b ≡ some (a + b)
unfolding checked_add
checked_add_lem a b h = rw (lt-ltb (a + b) (2 ^ 64) h)

over_add : (a b : ℕ) → 2 ^ 64 ≤ a + b → checked_add 64 a b ≡ none
unfolding checked_add
over_add a b h = rw (le-ltb (a + b) (2 ^ 64) h)

pub checked_mul_lem : (a b : ℕ) → a * b < 2 ^ 64 → checked_mul 64 a b ≡ some (a * b)
unfolding checked_mul
checked_mul_lem a b h = rw (lt-ltb (a * b) (2 ^ 64) h)

module _ (limit : ℕ) (most : limit ≤ max_file) where
  -- without a stream
  pub sizes_plain : (head raw tail : ℕ) → head + raw < 2 ^ 64
      → Follows ((ltb limit (head + raw + tail), FileTooLarge) ∷ []) (new_sizes head raw tail none limit (2 ^ 64 - 1))
      (done (record { head = head; raw = raw; file = head + raw + tail; file_fits = leb (head + raw + tail) limit; rle_budget = none; bound = head + raw + tail; limit = limit }))
  unfolding new_sizes budget_and_bound
  sizes_plain head raw tail small = rw (checked_add_lem head raw small) (go (ltb limit (head + raw + tail)) refl)
    where
      file : ℕ
      file = head + raw + tail

      after : ℕ → Run Sizes
      after file =
          budget_and_bound head raw file (leb file limit) none limit
          >>= λ rest. fail_if (ltb (2 ^ 64 - 1) rest.1) rust.not_addressable
          >> done (record { head = head; raw = raw; file = file; file_fits = leb file limit; rle_budget = rest.0; bound = rest.1; limit = limit })

      over : limit < file → (b : Bool) → ltb (head + raw + tail) (2 ^ 64) ≡ b → follow.Fails (ok_or (checked_add 64 (head + raw) tail) file_overflows >>= after) FileTooLarge
      over h true q = record { error = over_limit; number = refl; is = rw (checked_add_lem (head + raw) tail (ltb-true file (2 ^ 64) q), lt-leb file limit h) }
      over h false q = record { error = file_overflows; number = refl; is = rw (over_add (head + raw) tail (ltb-false file (2 ^ 64) q)) }

      go : (b : Bool) → ltb limit (head + raw + tail) ≡ b
          → Follows ((b, FileTooLarge) ∷ []) (ok_or (checked_add 64 (head + raw) tail) file_overflows >>= after)
          (done (record { head = head; raw = raw; file = head + raw + tail; file_fits = leb (head + raw + tail) limit; rle_budget = none; bound = head + raw + tail; limit = limit }))
      go true e = follow.row_stops FileTooLarge _ _ (over (ltb-true limit file e) (ltb file (2 ^ 64)) refl)
      go false e =
          let h : file ≤ limit = ltb-false limit file e in
          follow.from ((false, FileTooLarge) ∷ []) _ _ _ (rw (checked_add_lem (head + raw) tail (omega (arith, h)), le-leb file limit h, le-ltb (2 ^ 64 - 1) file (omega (arith, h)))) (follow.row_passes false FileTooLarge _ refl)

  -- with one: nothing is refused here
  pub sizes_coded : (head raw slack : ℕ) → head + raw < 2 ^ 64 → head + (4294967296 + slack) < 2 ^ 64
      → new_sizes head raw 0 (some slack) limit (2 ^ 64 - 1)
      ≡ done (record {
        head = head;
        raw = raw;
        file = head + raw + 0;
        file_fits = leb (head + raw + 0) limit;
        rle_budget = some (min raw (limit + 1 - head));
        bound = max (min raw (limit + 1 - head) + slack) (cond (leb (head + raw + 0) limit) raw 0) + head;
        limit = limit;
      })
  unfolding new_sizes budget_and_bound
  sizes_coded head raw slack small few =
      let budget : ℕ = min raw (limit + 1 - head) in
      let fallback : ℕ = cond (leb (head + raw + 0) limit) raw 0 in
      let f : fallback ≤ raw = choice_le (leb (head + raw + 0) limit) raw 0 raw (omega arith) (omega arith) in
      rw (checked_add_lem head raw small, checked_add_lem (head + raw) 0 (omega arith), add_is 64 limit 1 (omega arith), checked_add_lem budget slack (omega arith), checked_add_lem (max (budget + slack) fallback) head (omega arith), le-ltb (2 ^ 64 - 1) (max (budget + slack) fallback + head) (omega arith))
