-- A reader's channel of a word of mask mode is the sample as fitted: the masks are runs that share no bit.
use mathlib.Core.Path.{◌≡◌, refl, sym, ap, ap₂, ◌∙◌, subst}
use mathlib.Core.Bool.{Bool, true, false, cond}
use mathlib.Core.Logic.{◌⊎◌, inl, inr}
use mathlib.Core.List.{List}
use Prim.Native.Nat.{ℕ, zero, suc, ◌+◌, ◌-◌, ◌*◌, ◌/◌, ◌%◌, ◌^◌, ◌≤◌, ◌<◌, min}
use native.Mathlib.Nat.{mod-eq_of_lt, zero-mul, add-zero, not-suc-le-zero, le_of_suc-le-suc, eq-or-lt_of_le, lt_of_le_of_lt}
use native.Mathlib.Omega.{arith}
use borrow.Author.Tests.{eqb-true, ltb-true, ltb-false}
use lib.Arith.{bin_ind, lt-one}
use lib.Bits.{bit_and, bit_or, and_step, and_mask, and_block, and_zero_r, and_comm, and_le_r, or_lt, or_zero_l, or_zero_r}
use lib.Count.{ones_in, count_trailing_zeros}
use lib.Dec.{ltb, eqb}
use lib.ListN.{get_or}
use lib.Pow.{pow_pos, shl-shr}
use Rattle.leaves.specs.Fit.{fit}
use Rattle.leaves.specs.Masks.{run, count, lowest, is_one_run}
use Rattle.rows.specs.StoredRows.{field}
use Rattle.format.specs.Accepted.{MasksAccepted}
use Rattle.format.specs.Layout.{channel_of}
use Rattle.format.specs.Readers.{channel}
use Rattle.leaves.proofs.BitLaws.{and_half, and_odd, and-or}
use Rattle.leaves.proofs.Fitting.{fit-lt}
use Rattle.leaves.proofs.Runs.{run_is, count-zero}

-- ---- and is associative

-- the law for single bits
min-min : (x y z : ℕ) → min (min x y) z ≡ min x (min y z)
min-min x y z = omega arith

-- and for all of them, by halving
pub and_assoc : (a b c : ℕ) → bit_and (bit_and a b) c ≡ bit_and a (bit_and b c)
and_assoc a =
    bin_ind (λ (n : ℕ). (b c : ℕ) → bit_and (bit_and n b) c ≡ bit_and n (bit_and b c)) (λ b c. refl)
    (λ n ih b c.
    and_step (bit_and n b) c
    ∙ ap₂ (λ (x y : ℕ). bit_and x (c / 2) * 2 + min y (c % 2)) (and_half n b) (and_odd n b)
    ∙ ap₂ (λ (x y : ℕ). x * 2 + y) (ih (b / 2) (c / 2)) (min-min (n % 2) (b % 2) (c % 2))
    ∙ sym (and_step n (bit_and b c) ∙ ap₂ (λ (x y : ℕ). bit_and (n / 2) x * 2 + min (n % 2) y) (and_half b c) (and_odd b c))) a

-- ---- one field

-- a zero mask takes nothing of a sample
none_fits : (m s : ℕ) → m ≡ 0 → s < 256 → fit (count m) s ≡ 0
none_fits m s e h = ap (λ (z : ℕ). fit z s) (ap count e ∙ count-zero) ∙ lt-one (fit-lt 0 s h)

-- a field is the fitted sample, moved up to its mask's lowest one; a zero mask's field is 0 wherever it is put
pub field_is : (m s : ℕ) → s < 256 → field (channel_of m) s ≡ fit (count m) s * 2 ^ lowest m
unfolding field
field_is m s h = go (eqb m 0) refl
  where
    go : (b : Bool) → eqb m 0 ≡ b → fit (count m) s * 2 ^ cond b 0 (lowest m) ≡ fit (count m) s * 2 ^ lowest m
    go true e = rw (none_fits m s (eqb-true m 0 e) h) (sym (zero-mul (2 ^ lowest m)))
    go false e = refl

-- a number of as many bits as the mask has ones, moved up to the lowest of them, has no bit outside the mask
pub moved_under : (m q : ℕ) → is_one_run m ≡ true → q < 2 ^ count m → bit_and (q * 2 ^ lowest m) m ≡ q * 2 ^ lowest m
moved_under m q o h =
    ap₂ bit_and (sym (add-zero (q * 2 ^ lowest m))) (run_is m o ∙ sym (add-zero (run (lowest m) (count m))))
    ∙ and_block (lowest m) q (2 ^ count m - 1) 0 0 (pow_pos (lowest m)) (pow_pos (lowest m))
    ∙ add-zero (bit_and q (2 ^ count m - 1) * 2 ^ lowest m)
    ∙ ap (λ (z : ℕ). z * 2 ^ lowest m) (and_mask q (count m) ∙ mod-eq_of_lt h)

-- so a field has none
pub under_own : (m s : ℕ) → is_one_run m ≡ true → s < 256 → bit_and (field (channel_of m) s) m ≡ field (channel_of m) s
under_own m s o h = rw (field_is m s h) (moved_under m (fit (count m) s) o (fit-lt (count m) s h))

-- what has no bit outside one mask has none under a mask that shares none with it
pub under_other : (p m k : ℕ) → bit_and p m ≡ p → bit_and m k ≡ 0 → bit_and p k ≡ 0
under_other p m k own e = ap (λ (z : ℕ). bit_and z k) (sym own) ∙ and_assoc p m k ∙ ap (bit_and p) e ∙ and_zero_r p

-- what a reader shows of a word that has this field under the mask
pub channel_of_lem : (m s v : ℕ) → s < 256 → bit_and v m ≡ field (channel_of m) s → channel m v ≡ fit (ones_in 32 m) s
unfolding channel count lowest
channel_of_lem m s v h e = go (eqb m 0) refl
  where
    go : (b : Bool) → eqb m 0 ≡ b → cond b 0 (bit_and v m / 2 ^ count_trailing_zeros 32 m) ≡ fit (ones_in 32 m) s
    go true z = sym (none_fits m s (eqb-true m 0 z) h)
    go false z = ap (λ (y : ℕ). y / 2 ^ count_trailing_zeros 32 m) (e ∙ field_is m s h) ∙ shl-shr (fit (ones_in 32 m) s) (count_trailing_zeros 32 m)

-- ---- fields joined

-- all bits of the first n fields
unfoldable pub joined : (ℕ → ℕ) → ℕ → ℕ
joined p zero = 0
joined p (suc n) = bit_or (joined p n) (p n)

-- none of them under a mask that has a bit of none
pub none_under : (p : ℕ → ℕ) (m n : ℕ) → ((j : ℕ) → j < n → bit_and (p j) m ≡ 0) → bit_and (joined p n) m ≡ 0
unfolding joined
none_under p m zero h = refl
none_under p m (suc n) h = and-or (joined p n) (p n) m ∙ ap₂ bit_or (none_under p m n (λ j l. h j (omega arith))) (h n (omega arith))

-- and one of them alone under a mask that has bits of it only
one_under : (p : ℕ → ℕ) (m k n : ℕ) → k < n → bit_and (p k) m ≡ p k → ((j : ℕ) → j < n → (j ≡ k → ⊥) → bit_and (p j) m ≡ 0) → bit_and (joined p n) m ≡ p k
unfolding joined
one_under p m k zero l own other = absurd (not-suc-le-zero l)
one_under p m k (suc n) l own other =
    and-or (joined p n) (p n) m ∙ go (eq-or-lt_of_le (le_of_suc-le-suc l)) (λ r. one_under p m k n r own (λ j i. other j (omega arith)))
  where
    go : (k ≡ n) ⊎ (k < n) → (k < n → bit_and (joined p n) m ≡ p k) → bit_or (bit_and (joined p n) m) (bit_and (p n) m) ≡ p k
    go (inl e) before =
        ap₂ bit_or (none_under p m n (λ j i. other j (omega arith) (λ f. omega arith))) (ap (λ (z : ℕ). bit_and (p z) m) (sym e) ∙ own) ∙ or_zero_l (p k)
    go (inr r) before = ap₂ bit_or (before r) (other n (omega arith) (λ f. omega arith)) ∙ or_zero_r (p k)

-- fields below 2^d make a word below it
joined-lt : (p : ℕ → ℕ) (d n : ℕ) → ((j : ℕ) → j < n → p j < 2 ^ d) → joined p n < 2 ^ d
unfolding joined
joined-lt p d zero h = pow_pos d
joined-lt p d (suc n) h = or_lt d (joined p n) (p n) (joined-lt p d n (λ j l. h j (omega arith))) (h n (omega arith))

-- ---- the word of four fields under accepted masks

module _ (d : ℕ) (masks : List ℕ) (ok : MasksAccepted d masks) where
  -- masks at two places share no bit, in either order
  share_none : (j k : ℕ) → j < 4 → k < 4 → (j ≡ k → ⊥) → bit_and (get_or masks j 0) (get_or masks k 0) ≡ 0
  share_none j k a b n = go (ltb j k) refl
    where
      go : (t : Bool) → ltb j k ≡ t → bit_and (get_or masks j 0) (get_or masks k 0) ≡ 0
      go true e = ok.apart j k (ltb-true j k e) b
      go false e = and_comm (get_or masks j 0) (get_or masks k 0) ∙ ok.apart k j (omega (arith, ltb-false j k e)) a

  -- fields without a bit outside their masks
  abbrev pub Own : (ℕ → ℕ) → Type 0
  Own p = (k : ℕ) → k < 4 → bit_and (p k) (get_or masks k 0) ≡ p k

  module _ (p : ℕ → ℕ) (own : Own p) where
    pub other : (j k : ℕ) → j < 4 → k < 4 → (j ≡ k → ⊥) → bit_and (p j) (get_or masks k 0) ≡ 0
    other j k a b n = under_other (p j) (get_or masks j 0) (get_or masks k 0) (own j a) (share_none j k a b n)

    -- each is what the word has under its mask
    pub alone : (k : ℕ) → k < 4 → bit_and (joined p 4) (get_or masks k 0) ≡ p k
    alone k l = one_under p (get_or masks k 0) k 4 l (own k l) (λ j i n. other j k i l n)

    -- and the word has no bit above the depth
    pub below : joined p 4 < 2 ^ d
    below = joined-lt p d 4 (λ k l. lt_of_le_of_lt (subst (λ (z : ℕ). z ≤ get_or masks k 0) (own k l) (and_le_r (p k) (get_or masks k 0))) (ok.inside k l))

-- ---- the word of four samples

-- the field of the sample at place k
abbrev pub field_at : List ℕ → List ℕ → ℕ → ℕ
field_at masks samples k = field (channel_of (get_or masks k 0)) (get_or samples k 0)

module _ (d : ℕ) (masks samples : List ℕ) (ok : MasksAccepted d masks) (bytes : (k : ℕ) → get_or samples k 0 < 256) where
  fields_own : Own d masks ok (field_at masks samples)
  fields_own k l = under_own (get_or masks k 0) (get_or samples k 0) (ok.runs k l) (bytes k)

  -- each channel of the word is its sample, fitted to the mask's count of ones
  pub channel_shown : (k : ℕ) → k < 4 → channel (get_or masks k 0) (joined (field_at masks samples) 4) ≡ fit (ones_in 32 (get_or masks k 0)) (get_or samples k 0)
  channel_shown k l =
      channel_of_lem (get_or masks k 0) (get_or samples k 0) (joined (field_at masks samples) 4) (bytes k) (alone d masks ok (field_at masks samples) fields_own k l)

  pub word_lt : joined (field_at masks samples) 4 < 2 ^ d
  word_lt = below d masks ok (field_at masks samples) fields_own
