-- BmpBitfields::validate follows the rows 6 to 10.
use mathlib.Core.Path.{◌≡◌, refl, sym, ap, ◌∙◌}
use mathlib.Core.Bool.{Bool, true, false, not, cond, ◌&&◌, ◌||◌, true≢false}
use mathlib.Core.Logic.{◌⊎◌, inl, inr}
use mathlib.Core.List.{List, [], ◌∷◌, ◌++◌}
use Prim.Native.Nat.{ℕ, suc, ◌+◌, ◌-◌, ◌*◌, ◌/◌, ◌%◌, ◌^◌, ◌<◌}
use native.Mathlib.Nat.{pos_of_ne-zero, mod-eq_of_lt}
use native.Mathlib.Omega.{arith}
use borrow.Author.Tests.{eqb-true, eqb-false, ne_eqb, lt-leb, leb-true, leb-false}
use lib.Bits.{bit_and, bit_or, and_zero_r, or_zero_r, and_high}
use lib.Count.{count_trailing_zeros}
use lib.Dec.{eqb, leb}
use lib.ListN.{get_or}
use Rattle.leaves.specs.declared.error.Refusal.TheVariants.{MaskDepth, MaskAboveDepth, MaskNotOneRun, MaskOverlap, NoColourMask}
use Rattle.leaves.specs.Lists.{cat}
use Rattle.leaves.specs.Masks.{shares_bit, union_of, mask_depth, mask_above_depth, mask_not_one_run, no_colour_mask, mask_rows, bitfields_rows}
use Rattle.leaves.proofs.Overlap.{shares_union}
use Rattle.leaves.proofs.Runs.{contiguous, ends_within}
use Rattle.reference.specs.Rust.{bitfields_bpp, mask_exceeds, mask_not_contiguous, mask_overlaps, Run, done, ◌>>=◌, ◌>>◌, fail_if, shl, shr, sub, for_each}
use Rattle.reference.specs.Rust as rust
use Rattle.reference.specs.Bitfields.{validate_channel, validate}
use Rattle.reference.specs.Compared.{masks_of}
use Rattle.reference.proofs.RunLaws.{shr_is}
use Rattle.reference.proofs.Follows as follow
use Rattle.reference.proofs.Follows.{Follows}

-- mask & !limit != 0
above : (d mask : ℕ) → (d ≡ 16) ⊎ (d ≡ 32) → mask < 2 ^ 32 → not (eqb (bit_and mask (2 ^ 32 - 1 - (2 ^ d - 1))) 0) ≡ leb (2 ^ d) mask
above d mask (inr e) h = rw (e, and_zero_r mask, lt-leb (2 ^ 32) mask h)
above d mask (inl e) h = rw (e, and_high mask 16 16) (go (leb (2 ^ 16) mask) refl)
  where
    m : mask / 65536 % 65536 ≡ mask / 65536
    m = mod-eq_of_lt (omega (arith, h))

    go : (b : Bool) → leb (2 ^ 16) mask ≡ b → not (eqb (mask / 2 ^ 16 % 2 ^ 16 * 2 ^ 16) 0) ≡ b
    go true q =
        let n : eqb (mask / 2 ^ 16 % 2 ^ 16 * 2 ^ 16) 0 ≡ false =
        ne_eqb (mask / 2 ^ 16 % 2 ^ 16 * 2 ^ 16) 0 (λ z. let y : mask / 65536 * 65536 ≡ 0 = rw m at z in omega (arith, y, leb-true (2 ^ 16) mask q)) in
        rw n
    go false q =
        let z : mask / 65536 ≡ 0 = omega (arith, leb-false (2 ^ 16) mask q) in
        rw (m, z)

module _ (d : ℕ) (depth : (d ≡ 16) ⊎ (d ≡ 32)) (masks : List ℕ) (small : (k : ℕ) → get_or masks k 0 < 2 ^ 32) where
  -- the rows of one mask
  channel : (k : ℕ) → Follows (mask_rows d masks k) (validate_channel (2 ^ d - 1) (get_or masks k 0) (union_of masks k)) (done (union_of masks (suc k)))
  unfolding mask_rows validate_channel union_of
  channel k = go (eqb (get_or masks k 0) 0) refl
    where
      mask : ℕ
      mask = get_or masks k 0

      u : ℕ
      u = union_of masks k

      go : (b : Bool) → eqb mask 0 ≡ b
          → Follows
          ((not b && mask_above_depth d mask, MaskAboveDepth) ∷ (not b && mask_not_one_run mask, MaskNotOneRun) ∷ (not b && shares_bit masks k mask, MaskOverlap) ∷ [])
          (cond b (done u)
          (fail_if (not (eqb (bit_and mask (2 ^ 32 - 1 - (2 ^ d - 1))) 0)) mask_exceeds
          >> (shr 32 mask (count_trailing_zeros 32 mask)
          >>= λ normalised. fail_if (not (eqb (bit_and normalised ((normalised + 1) % 2 ^ 32)) 0)) mask_not_contiguous
          >> (fail_if (not (eqb (bit_and u mask) 0)) mask_overlaps >> done (bit_or u mask)))))
          (done (bit_or u mask))
      go true e =
          let z : done u ≡ done (bit_or u mask) = ap done (sym (or_zero_r u) ∙ ap (bit_or u) (sym (eqb-true mask 0 e))) in
          follow.then ((false, MaskAboveDepth) ∷ (false, MaskNotOneRun) ∷ (false, MaskOverlap) ∷ []) [] (done u) (done (bit_or u mask)) (done (bit_or u mask))
          (record { passed = λ p. z; refused = λ w p. (follow.row_passes false MaskOverlap (done u) refl).refused w p })
          (λ p. follow.nothing (done (bit_or u mask)) (done (bit_or u mask)) refl)
      go false e =
          let p : 0 < mask = pos_of_ne-zero (eqb-false mask 0 e) in
          let t : count_trailing_zeros 32 mask < 32 = omega (arith, ends_within mask p (small k)) in
          rw (above d mask depth (small k), shr_is 32 mask (count_trailing_zeros 32 mask) t, contiguous mask (small k), ← shares_union masks k mask)
          (follow.then ((mask_above_depth d mask, MaskAboveDepth) ∷ []) ((mask_not_one_run mask, MaskNotOneRun) ∷ (shares_bit masks k mask, MaskOverlap) ∷ []) _ _ _
          (follow.row_fails_lem (mask_above_depth d mask) MaskAboveDepth mask_exceeds _ refl)
          (λ _. follow.then ((mask_not_one_run mask, MaskNotOneRun) ∷ []) ((shares_bit masks k mask, MaskOverlap) ∷ []) _ _ _
          (follow.row_fails_lem (mask_not_one_run mask) MaskNotOneRun mask_not_contiguous _ refl)
          (λ _. follow.row_fails_lem (shares_bit masks k mask) MaskOverlap mask_overlaps _ refl)))

  -- all four, one after the other
  channels : Follows (cat (mask_rows d masks) 4) (for_each (get_or masks 0 0 ∷ get_or masks 1 0 ∷ get_or masks 2 0 ∷ get_or masks 3 0 ∷ []) (validate_channel (2 ^ d - 1)) 0) (done (union_of masks 4))
  unfolding cat for_each union_of
  channels =
      let f : ℕ → ℕ → Run ℕ = validate_channel (2 ^ d - 1) in
      let two : ℕ → Run ℕ = λ u. f (get_or masks 2 0) u >>= λ v. f (get_or masks 3 0) v >>= done in
      let one : ℕ → Run ℕ = λ u. f (get_or masks 1 0) u >>= two in
      follow.then (mask_rows d masks 0 ++ mask_rows d masks 1 ++ mask_rows d masks 2) (mask_rows d masks 3) _ _ _
      (follow.then (mask_rows d masks 0 ++ mask_rows d masks 1) (mask_rows d masks 2) _ _ _
      (follow.then (mask_rows d masks 0) (mask_rows d masks 1) _ _ _ (follow.on (mask_rows d masks 0) _ _ one (channel 0)) (λ _. follow.on (mask_rows d masks 1) _ _ two (channel 1)))
      (λ _. follow.on (mask_rows d masks 2) _ _ (λ v. f (get_or masks 3 0) v >>= done) (channel 2)))
      (λ _. follow.on (mask_rows d masks 3) _ _ done (channel 3))

-- a depth that row 6 lets through
depth_of_lem : (d : ℕ) → mask_depth d ≡ false → (d ≡ 16) ⊎ (d ≡ 32)
depth_of_lem d e = go (eqb d 16) refl (eqb d 32) refl
  where
    go : (b : Bool) → eqb d 16 ≡ b → (c : Bool) → eqb d 32 ≡ c → (d ≡ 16) ⊎ (d ≡ 32)
    go true p c q = inl (eqb-true d 16 p)
    go false p true q = inr (eqb-true d 32 q)
    go false p false q = let z : true ≡ false = rw (p, q) at e in absurd (true≢false z)

limit_is : (d : ℕ) → (d ≡ 16) ⊎ (d ≡ 32) → cond (eqb d 32) (done 0xFFFFFFFF) (shl 32 1 d >>= λ x. sub x 1) ≡ done (2 ^ d - 1)
unfolding shl sub
limit_is d (inl e) = rw e
limit_is d (inr e) = rw e

pub validated : (d : ℕ) (masks : List ℕ) → ((k : ℕ) → get_or masks k 0 < 2 ^ 32) → Follows (bitfields_rows d masks) (validate (masks_of d masks)) (done tt)
unfolding bitfields_rows validate
validated d masks small =
    follow.then ((mask_depth d, MaskDepth) ∷ []) (cat (mask_rows d masks) 4 ++ ((no_colour_mask masks, NoColourMask) ∷ [])) _ rest _
    (rw (turned (eqb d 16) (eqb d 32)) (follow.row_fails_lem (mask_depth d) MaskDepth bitfields_bpp _ refl))
    (λ p. let depth = depth_of_lem d (follow.row_passed (mask_depth d) MaskDepth p) in
    rw (limit_is d depth)
    (follow.then (cat (mask_rows d masks) 4) ((no_colour_mask masks, NoColourMask) ∷ []) _ _ _
    (follow.on (cat (mask_rows d masks) 4) _ _ (λ union. fail_if (no_colour_mask masks) rust.no_colour_mask) (channels d depth masks small))
    (λ _. last (no_colour_mask masks))))
  where
    rest : Run (Unit {0})
    rest =
        cond (eqb d 32) (done 0xFFFFFFFF) (shl 32 1 d >>= λ x. sub x 1)
        >>= λ limit. for_each (get_or masks 0 0 ∷ get_or masks 1 0 ∷ get_or masks 2 0 ∷ get_or masks 3 0 ∷ []) (validate_channel limit) 0
        >>= λ union. fail_if (no_colour_mask masks) rust.no_colour_mask

    turned : (a b : Bool) → (not a && not b) ≡ not (a || b)
    turned true b = refl
    turned false b = refl

    last : (t : Bool) → Follows ((t, NoColourMask) ∷ []) (fail_if t rust.no_colour_mask) (done tt)
    last true = follow.row_fails_lem true NoColourMask rust.no_colour_mask (done tt) refl
    last false = follow.row_fails_lem false NoColourMask rust.no_colour_mask (done tt) refl
