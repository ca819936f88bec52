use Rattle.std.proofs.Common.{◌≡◌, ℕ, ◌+◌, ◌<◌, ◌≤◌, true, false, cond, not, eqb, ◌⊎◌, List, [], ◌∷◌, get_or, sym, refl, inl, inr, le_antisymm, add-one, arith, eq-eqb, eqb-true, Ok, Err}
use borrow.Author.Tests.{not-true, not-false}
use lib.Bits.{bit_or}
use Rattle.std.proofs.lemmas.Result.{err_from_is_err_and}
use Rattle.leaves.specs.declared.error.Refusal.TheVariants.{NoColourMask}
use Rattle.leaves.specs.declared.error.Refusal.{Refusal}
use Rattle.leaves.specs.Masks.{no_colour_mask, mask_depth, union_of, mask_rows, bitfields_rows}
use Rattle.leaves.specs.Lists.{cat}
use Rattle.leaves.specs.Refusals.{number_of, check_number, first_of, first_number}
use Rattle.leaves.proofs.FirstOf.{check_determined, first_pass, first_stop, cat_stop, cat_pass}
use Rattle.leaves.proofs.Tests.{tests}
use Rattle.leaves.proofs.bitfields.validate.Goals.{else-bpp-ne16-via-else-bpp-ne16, else-bpp-ne16-via-then-bpp-ne16+else-bpp-ne32, else-masks-eq0-via-else-masks-eq0, else-masks-eq0-via-then-masks-eq0+else-masks-eq0-2, else-masks-eq0-via-then-masks-eq0+then-masks-eq0-2+else-masks-eq0-3}
use Rattle.leaves.proofs.bitfields.validate.Goals as goal

other-depth : (d : ℕ) (masks : List ℕ) → (d ≡ 16 → ⊥) → not (eqb d 32) ≡ true → 6 ≡ first_number (bitfields_rows d masks)
unfolding bitfields_rows
other-depth d masks n e = let f = not-true (eqb d 32) e in search tests

known-depth : (d : ℕ) → (d ≡ 16) ⊎ (d ≡ 32) → mask_depth d ≡ false
known-depth d (inl e) = rw e
known-depth d (inr e) = rw e

-- the mask at place k is refused
stopped : (d : ℕ) (masks : List ℕ) (k : ℕ) (why : Refusal) → (d ≡ 16) ⊎ (d ≡ 32) → k < 4 → first_of (cat (mask_rows d masks) k) ≡ Ok tt
    → number_of why ≡ first_number (mask_rows d masks k) → number_of why ≡ first_number (bitfields_rows d masks)
unfolding bitfields_rows
stopped d masks k why o h p e =
    let here : first_of (mask_rows d masks k) ≡ Err why = sym (check_determined (Err why) (first_of (mask_rows d masks k)) e) in
    let all : first_of (cat (mask_rows d masks) 4) ≡ Err why = cat_stop (mask_rows d masks) 4 k why h p here in
    rw (known-depth d o, first_stop (cat (mask_rows d masks) 4) ((no_colour_mask masks, NoColourMask) ∷ []) why all)

-- the mask at place k is passed
rows_more : (d : ℕ) (masks : List ℕ) (k : ℕ) → first_of (cat (mask_rows d masks) k) ≡ Ok tt
    → 0 ≡ first_number (mask_rows d masks k) → first_of (cat (mask_rows d masks) (k + 1)) ≡ Ok tt
rows_more d masks k p e = rw (add-one k) (cat_pass (mask_rows d masks) k p (sym (check_determined (Ok tt) (first_of (mask_rows d masks k)) e)))

union_more : (masks : List ℕ) (k union : ℕ) → union ≡ union_of masks k → bit_or union (get_or masks k 0) ≡ union_of masks (k + 1)
unfolding union_of
union_more masks k union e = rw (add-one k, e)

-- all four are passed: 10 is left
last_row : (d : ℕ) (masks : List ℕ) (k : ℕ) → (d ≡ 16) ⊎ (d ≡ 32) → k ≤ 4 → 4 ≤ k → first_of (cat (mask_rows d masks) k) ≡ Ok tt
    → first_number (bitfields_rows d masks) ≡ check_number (cond (no_colour_mask masks) (Err NoColourMask) (Ok tt))
unfolding bitfields_rows
last_row d masks k o h j p =
    let all : first_of (cat (mask_rows d masks) 4) ≡ Ok tt = rw (le_antisymm h j) at p in
    rw (known-depth d o, first_pass (cat (mask_rows d masks) 4) ((no_colour_mask masks, NoColourMask) ∷ []) all)

none_left : (d : ℕ) (masks : List ℕ) (k : ℕ) → (d ≡ 16) ⊎ (d ≡ 32) → k ≤ 4 → 4 ≤ k → first_of (cat (mask_rows d masks) k) ≡ Ok tt
    → get_or masks 0 0 ≡ 0 → eqb (get_or masks 1 0) 0 ≡ true → eqb (get_or masks 2 0) 0 ≡ true → 10 ≡ first_number (bitfields_rows d masks)
none_left d masks k o h j p r g b = rw (last_row d masks k o h j p, eq-eqb (get_or masks 0 0) 0 r, g, b)

some_left : (d : ℕ) (masks : List ℕ) (k : ℕ) → (d ≡ 16) ⊎ (d ≡ 32) → k ≤ 4 → 4 ≤ k → first_of (cat (mask_rows d masks) k) ≡ Ok tt
    → no_colour_mask masks ≡ false → 0 ≡ first_number (bitfields_rows d masks)
some_left d masks k o h j p e = rw (last_row d masks k o h j p, e)

red-given : (masks : List ℕ) → (get_or masks 0 0 ≡ 0 → ⊥) → no_colour_mask masks ≡ false
red-given masks e = search tests

green-given : (masks : List ℕ) → eqb (get_or masks 1 0) 0 ≡ false → no_colour_mask masks ≡ false
green-given masks e = search tests

blue-given : (masks : List ℕ) → eqb (get_or masks 2 0) 0 ≡ false → no_colour_mask masks ≡ false
blue-given masks e = search tests

pub returns-then-bpp-ne32 : goal.returns-then-bpp-ne32
returns-then-bpp-ne32 c = other-depth c.args.bpp c.args.masks c.if-bpp-ne16.true c.if-bpp-ne32.true-raw

pub loop-k-init : goal.loop-k-init
unfolding union_of cat
loop-k-init c = (elim (c.else-bpp-ne16.branch) [ else-bpp-ne16-via-then-bpp-ne16+else-bpp-ne32 w ↦ inr (eqb-true c.args.bpp 32 (not-false (eqb c.args.bpp 32) w.if-bpp-ne32.false-raw)) | else-bpp-ne16-via-else-bpp-ne16 w ↦ inl w.if-bpp-ne16.false ], refl, refl)

pub validate_mask-requires : goal.validate_mask-requires
validate_mask-requires c = record { known_depth = c.loop-k.invariant.0; k_bound = omega arith; union_so_far = c.loop-k.invariant.1 }

pub returns-in_err-validate_mask : goal.returns-in_err-validate_mask
returns-in_err-validate_mask c =
    let l = c.loop-k in
    let a = c.args in
    let p = err_from_is_err_and c.from_residual.result c.from_residual.ensures.1 in
    rw (p.1, p.2) (stopped a.bpp a.masks l.k c.in_err-validate_mask.field-0.0 l.invariant.0 (omega arith) l.invariant.2 c.in_err-validate_mask.ensures)

pub loop-k-preserved : goal.loop-k-preserved
loop-k-preserved c =
    let l = c.loop-k in
    let a = c.args in
    (l.invariant.0, union_more a.masks l.k l.union l.invariant.1, rows_more a.bpp a.masks l.k l.invariant.2 c.in_ok-validate_mask.ensures)

pub returns-then-masks-eq0-3 : goal.returns-then-masks-eq0-3
returns-then-masks-eq0-3 c =
    let l = c.loop-k in
    let a = c.args in
    none_left a.bpp a.masks l.k l.invariant.0 l.auto.k-end c.loop-k-test.false l.invariant.2 c.if-masks-eq0.true c.if-masks-eq0-2.true-raw c.if-masks-eq0-3.true-raw

pub returns : goal.returns
returns c =
    let l = c.loop-k in
    let a = c.args in
    let some = some_left a.bpp a.masks l.k l.invariant.0 l.auto.k-end c.loop-k-test.false l.invariant.2 in
    elim (c.else-masks-eq0.branch) [ else-masks-eq0-via-then-masks-eq0+then-masks-eq0-2+else-masks-eq0-3 w ↦ some (blue-given a.masks w.if-masks-eq0-3.false-raw) | else-masks-eq0-via-then-masks-eq0+else-masks-eq0-2 w ↦ some (green-given a.masks w.if-masks-eq0-2.false-raw) | else-masks-eq0-via-else-masks-eq0 w ↦ some (red-given a.masks w.if-masks-eq0.false) ]
