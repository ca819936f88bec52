-- Mask mode in the original's file and in the document's: channels of at most 16 bits are the same, and the others once they are fitted anew.
use mathlib.Core.Path.{◌≡◌, refl, sym, ap, ap₂, ◌∙◌}
use mathlib.Core.Bool.{Bool, true, false, cond}
use mathlib.Core.List.{List, [], ◌∷◌, ◌++◌, append_assoc, append-nil}
use Prim.Native.Nat.{ℕ, zero, suc, ◌+◌, ◌-◌, ◌*◌, ◌/◌, ◌%◌, ◌^◌, ◌≤◌, ◌<◌}
use native.Mathlib.Omega.{arith}
use borrow.Author.Tests.{ltb-true, ltb-false, lt-ltb, le-ltb, le-leb, ne_eqb}
use lib.Bits.{bit_and, bit_or, and_comm, and_zero_l, and_le_l, or_disjoint}
use lib.Dec.{ltb, eqb}
use lib.ListN.{length, get_or, length-append}
use lib.Pow.{shl_exact, shl-shr, shr-shr}
use Rattle.leaves.specs.declared.bitfields.MaskShiftLen.{MaskShiftLen}
use Rattle.leaves.specs.Bytes.{le32, length-le32}
use Rattle.leaves.specs.Fit.{repeated, fit}
use Rattle.leaves.specs.Lists.{cat}
use Rattle.leaves.specs.Masks.{count, lowest, is_one_run}
use Rattle.leaves.proofs.Fitting.{fit-repeated}
use Rattle.leaves.proofs.Runs.{count-zero}
use Rattle.rows.specs.StoredRows.{field}
use Rattle.rows.proofs.MaskCells.{field_none, field_some}
use Rattle.format.specs.Accepted.{MasksAccepted}
use Rattle.format.specs.Layout.{channel_of}
use Rattle.format.proofs.Channels.{and_assoc, field_is, moved_under, under_own, joined, none_under, Own, other, alone, below, field_at}
use Rattle.format.proofs.FileSizes.{mask_within}
use Rattle.format.proofs.HeadFields.{dword_bytes}
use Rattle.reference.specs.Compared.{is_wide, refitted, refitted_word, refitted_words}
use Rattle.reference.proofs.Original.{original_fit, original_field}
use Rattle.reference.proofs.QuantiseLaws.{wide_lt, wide_top}

-- ---- one channel

-- a wide mask has more than 16 ones, and every other at most 16
pub wide_ones : (mask : ℕ) → is_wide mask ≡ true → 16 < count mask
wide_ones mask e = omega (arith, ltb-true _ (count mask) e)

narrow_ones : (mask : ℕ) → is_wide mask ≡ false → count mask ≤ 16
narrow_ones mask e = omega (arith, ltb-false _ (count mask) e)

-- up to 16 bits both fit alike
fit_same : (n sample : ℕ) → n ≤ 16 → original_fit n sample ≡ fit n sample
unfolding original_fit fit
fit_same n sample h = rw (le-leb n 16 h)

pub field-same : (channel : MaskShiftLen) (sample : ℕ) → channel.len ≤ 16 → sample < 256 → channel.shift + channel.len ≤ 32
    → original_field channel sample ≡ field channel sample
unfolding original_field
field-same channel sample l h u = go (ltb 0 channel.len) refl
  where
    go : (b : Bool) → ltb 0 channel.len ≡ b → cond b (original_fit channel.len sample * 2 ^ channel.shift % 2 ^ 32) 0 ≡ field channel sample
    go true e = field_some channel sample (original_fit channel.len sample) (fit_same channel.len sample l) h u
    go false e = field_none channel sample (omega (arith, ltb-false 0 channel.len e)) h

-- a mask with ones is not 0
some_ones : (mask : ℕ) → 0 < count mask → eqb mask 0 ≡ false
some_ones mask h = ne_eqb mask 0 (λ e. let z : count mask ≡ 0 = ap count e ∙ count-zero in omega (arith, z, h))

module _ (mask sample : ℕ) (one : is_one_run mask ≡ true) (ends : (channel_of mask).shift + (channel_of mask).len ≤ 32) (byte : sample < 256) where
  -- the original's field of a wide mask, at the mask's lowest one
  wide_field : is_wide mask ≡ true → original_field (channel_of mask) sample ≡ original_fit (count mask) sample * 2 ^ lowest mask
  unfolding original_field
  wide_field e =
      let n : 16 < count mask = wide_ones mask e in
      let z : eqb mask 0 ≡ false = some_ones mask (omega (arith, n)) in
      rw (lt-ltb 0 (count mask) (omega (arith, n)), z)
      (shl_exact (count mask) (lowest mask) 32 (wide_lt (count mask) sample n byte) (omega (arith, rw z at ends)))

  -- it has no bit outside the mask
  pub original_own : bit_and (original_field (channel_of mask) sample) mask ≡ original_field (channel_of mask) sample
  original_own = go (is_wide mask) refl
    where
      go : (b : Bool) → is_wide mask ≡ b → bit_and (original_field (channel_of mask) sample) mask ≡ original_field (channel_of mask) sample
      go true e = rw (wide_field e) (moved_under mask (original_fit (count mask) sample) one (wide_lt (count mask) sample (wide_ones mask e) byte))
      go false e = rw (field-same (channel_of mask) sample (narrow_ones mask e) byte ends) (under_own mask sample one byte)

  -- fitted anew it is the document's field
  pub refitted_is : (word : ℕ) → bit_and word mask ≡ original_field (channel_of mask) sample
      → refitted mask word ≡ word - original_field (channel_of mask) sample + field (channel_of mask) sample
  unfolding refitted
  refitted_is word own = go (is_wide mask) refl
    where
      go : (b : Bool) → is_wide mask ≡ b
          → cond b (word - bit_and word mask + repeated (count mask) (bit_and word mask / 2 ^ (lowest mask + (count mask - 8))) * 2 ^ lowest mask) word
          ≡ word - original_field (channel_of mask) sample + field (channel_of mask) sample
      go true e =
          let n : 16 < count mask = wide_ones mask e in
          let q : ℕ = original_fit (count mask) sample in
          let top : original_field (channel_of mask) sample / 2 ^ (lowest mask + (count mask - 8)) ≡ sample =
          ap (λ (z : ℕ). z / 2 ^ (lowest mask + (count mask - 8))) (wide_field e)
          ∙ sym (shr-shr (q * 2 ^ lowest mask) (lowest mask) (count mask - 8))
          ∙ ap (λ (z : ℕ). z / 2 ^ (count mask - 8)) (shl-shr q (lowest mask))
          ∙ wide_top (count mask) sample n byte
          in
          rw (own, top)
          (ap (λ (z : ℕ). word - original_field (channel_of mask) sample + z)
          (ap (λ (z : ℕ). z * 2 ^ lowest mask) (sym (fit-repeated (count mask) sample byte)) ∙ sym (field_is mask sample byte)))
      go false e =
          let same = field-same (channel_of mask) sample (narrow_ones mask e) byte ends in
          omega (arith, same, own, and_le_l word mask)

-- ---- the word of a pixel

-- one of four numbers exchanged
exchanged : (p q : ℕ → ℕ) (k : ℕ) → k < 4 → ((j : ℕ) → (j ≡ k → ⊥) → p j ≡ q j) → p 0 + p 1 + p 2 + p 3 - p k + q k ≡ q 0 + q 1 + q 2 + q 3
exchanged p q zero h same = omega (arith, same 1 (λ e. omega arith), same 2 (λ e. omega arith), same 3 (λ e. omega arith))
exchanged p q (suc zero) h same = omega (arith, same 0 (λ e. omega arith), same 2 (λ e. omega arith), same 3 (λ e. omega arith))
exchanged p q (suc (suc zero)) h same = omega (arith, same 0 (λ e. omega arith), same 1 (λ e. omega arith), same 3 (λ e. omega arith))
exchanged p q (suc (suc (suc zero))) h same = omega (arith, same 0 (λ e. omega arith), same 1 (λ e. omega arith), same 2 (λ e. omega arith))
exchanged p q (suc (suc (suc (suc k)))) h same = absurd (omega (arith, h))

module _ (d : ℕ) (masks samples : List ℕ) (ok : MasksAccepted d masks) (bytes : (k : ℕ) → get_or samples k 0 < 256) where
  abbrev mask_at_of : ℕ → ℕ
  mask_at_of k = get_or masks k 0

  -- the original's field of the sample at place k
  abbrev pub original_at : ℕ → ℕ
  original_at k = original_field (channel_of (mask_at_of k)) (get_or samples k 0)

  -- fields that share no bit add up to their word
  module _ (p : ℕ → ℕ) (own : Own d masks ok p) where
    apart : (n : ℕ) → n < 4 → bit_or (joined p n) (p n) ≡ joined p n + p n
    apart n l =
        or_disjoint (joined p n) (p n)
        (ap (bit_and (joined p n)) (sym (own n l) ∙ and_comm (p n) (mask_at_of n))
        ∙ sym (and_assoc (joined p n) (mask_at_of n) (p n))
        ∙ ap (λ (z : ℕ). bit_and z (p n)) (none_under p (mask_at_of n) n (λ j i. other d masks ok p own j n (omega arith) l (λ e. omega arith)))
        ∙ and_zero_l (p n))

    summed : joined p 4 ≡ p 0 + p 1 + p 2 + p 3
    unfolding joined
    summed = omega (arith, apart 0 (omega arith), apart 1 (omega arith), apart 2 (omega arith), apart 3 (omega arith))

  -- the document's fields before place n, and the original's from there on
  abbrev mixed : ℕ → ℕ → ℕ
  mixed n k = cond (ltb k n) (field_at masks samples k) (original_at k)

  mixed_own : (n : ℕ) → Own d masks ok (mixed n)
  mixed_own n k l = go (ltb k n)
    where
      go : (b : Bool) → bit_and (cond b (field_at masks samples k) (original_at k)) (mask_at_of k) ≡ cond b (field_at masks samples k) (original_at k)
      go true = under_own (mask_at_of k) (get_or samples k 0) (ok.runs k l) (bytes k)
      go false = original_own (mask_at_of k) (get_or samples k 0) (ok.runs k l) (mask_within d masks ok k l) (bytes k)

  -- one channel more
  turn : (k : ℕ) → k < 4 → refitted (mask_at_of k) (joined (mixed k) 4) ≡ joined (mixed (suc k)) 4
  turn k l =
      let here : mixed k k ≡ original_at k = ap (λ (b : Bool). cond b (field_at masks samples k) (original_at k)) (le-ltb k k (omega arith)) in
      let next : mixed (suc k) k ≡ field_at masks samples k = ap (λ (b : Bool). cond b (field_at masks samples k) (original_at k)) (lt-ltb k (suc k) (omega arith)) in
      refitted_is (mask_at_of k) (get_or samples k 0) (ok.runs k l) (mask_within d masks ok k l) (bytes k) (joined (mixed k) 4) (alone d masks ok (mixed k) (mixed_own k) k l ∙ here)
      ∙ ap₂ (λ (x y : ℕ). joined (mixed k) 4 - x + y) (sym here) (sym next)
      ∙ ap (λ (z : ℕ). z - mixed k k + mixed (suc k) k) (summed (mixed k) (mixed_own k))
      ∙ exchanged (mixed k) (mixed (suc k)) k l same
      ∙ sym (summed (mixed (suc k)) (mixed_own (suc k)))
    where
      same : (j : ℕ) → (j ≡ k → ⊥) → mixed k j ≡ mixed (suc k) j
      same j n = ap (λ (b : Bool). cond b (field_at masks samples j) (original_at j)) (go (ltb j k) refl)
        where
          go : (b : Bool) → ltb j k ≡ b → ltb j k ≡ ltb j (suc k)
          go true e = e ∙ sym (lt-ltb j (suc k) (omega (arith, ltb-true j k e)))
          go false e = e ∙ sym (le-ltb j (suc k) (omega (arith, ltb-false j k e, n)))

  -- the original's word has no bit above the depth
  pub original_small : joined original_at 4 < 2 ^ d
  unfolding joined
  original_small = below d masks ok (mixed 0) (mixed_own 0)

  -- the original's word, with its wide channels fitted anew, is the document's
  pub word-refitted : refitted_word masks (joined original_at 4) ≡ joined (field_at masks samples) 4
  unfolding refitted_word joined
  word-refitted =
      ap (refitted (mask_at_of 3)) (ap (refitted (mask_at_of 2)) (ap (refitted (mask_at_of 1)) (turn 0 (omega arith)) ∙ turn 1 (omega arith)) ∙ turn 2 (omega arith))
      ∙ turn 3 (omega arith)

  -- "narrower channels still with the Rust": they have the same bits in both words, whatever stands beside them
  pub narrow_kept : (k : ℕ) → k < 4 → is_wide (mask_at_of k) ≡ false → bit_and (joined (field_at masks samples) 4) (mask_at_of k) ≡ bit_and (joined original_at 4) (mask_at_of k)
  unfolding joined
  narrow_kept k l e =
      alone d masks ok (mixed 4) (mixed_own 4) k l
      ∙ ap (λ (b : Bool). cond b (field_at masks samples k) (original_at k)) (lt-ltb k 4 l)
      ∙ sym (field-same (channel_of (mask_at_of k)) (get_or samples k 0) (narrow_ones (mask_at_of k) e) (bytes k) (mask_within d masks ok k l))
      ∙ sym (alone d masks ok (mixed 0) (mixed_own 0) k l ∙ ap (λ (b : Bool). cond b (field_at masks samples k) (original_at k)) (le-ltb k 0 (omega arith)))

-- ---- words one behind another

module _ (masks : List ℕ) where
  pub first_word : (v : ℕ) (rest : List ℕ) → v < 4294967296 → refitted_words masks (le32 v ++ rest) ≡ le32 (refitted_word masks v) ++ refitted_words masks rest
  unfolding refitted_words le32
  first_word v rest h = ap (λ (z : ℕ). le32 (refitted_word masks z) ++ refitted_words masks rest) (dword_bytes v h)

  -- what is fitted anew by itself is so in a row of its kind: cells of a row, rows of a picture
  pub cat-refitted : (f g : ℕ → List ℕ) → ((k : ℕ) (rest : List ℕ) → refitted_words masks (f k ++ rest) ≡ g k ++ refitted_words masks rest)
      → (n : ℕ) (rest : List ℕ) → refitted_words masks (cat f n ++ rest) ≡ cat g n ++ refitted_words masks rest
  unfolding cat
  cat-refitted f g each zero rest = refl
  cat-refitted f g each (suc n) rest =
      ap (refitted_words masks) (append_assoc (cat f n) (f n) rest)
      ∙ cat-refitted f g each n (f n ++ rest)
      ∙ ap (λ (z : List ℕ). cat g n ++ z) (each n rest)
      ∙ sym (append_assoc (cat g n) (g n) (refitted_words masks rest))

  pub all_refitted : (f g : ℕ → List ℕ) → ((k : ℕ) (rest : List ℕ) → refitted_words masks (f k ++ rest) ≡ g k ++ refitted_words masks rest) → (n : ℕ)
      → refitted_words masks (cat f n) ≡ cat g n
  unfolding refitted_words
  all_refitted f g each n = ap (refitted_words masks) (sym (append-nil (cat f n))) ∙ cat-refitted f g each n [] ∙ append-nil (cat g n)

  -- no byte is added or lost
  pub length-refitted : (bytes : List ℕ) → length (refitted_words masks bytes) ≡ length bytes
  unfolding refitted_words
  length-refitted [] = refl
  length-refitted (a ∷ []) = refl
  length-refitted (a ∷ b ∷ []) = refl
  length-refitted (a ∷ b ∷ c ∷ []) = refl
  length-refitted (a ∷ b ∷ c ∷ e ∷ rest) =
      let v : ℕ = refitted_word masks (a + 256 * b + 65536 * (c + 256 * e)) in
      length-append (le32 v) (refitted_words masks rest) ∙ ap₂ ◌+◌ (length-le32 v) (length-refitted rest) ∙ omega arith

-- no mask is wide: no word changes
pub none_refitted : (masks : List ℕ) (word : ℕ) → ((k : ℕ) → k < 4 → is_wide (get_or masks k 0) ≡ false) → refitted_word masks word ≡ word
unfolding refitted_word refitted
none_refitted masks word narrow = rw (narrow 0 (omega arith), narrow 1 (omega arith), narrow 2 (omega arith), narrow 3 (omega arith))
