-- A mask shares a bit with an earlier one exactly where it shares one with the union of those.
use Rattle.std.proofs.Common.{◌≡◌, ℕ, zero, suc, Bool, true, false, not, ◌||◌, eqb, List, get_or, sym, refl, ap, ◌∙◌, arith, eq-eqb, ne_eqb, eqb-true}
use borrow.Author.Tests.{eqb-false}
use lib.Bits.{bit_and, bit_or, or_zero_l}
use Rattle.leaves.specs.Masks.{shares_bit, union_of}
use Rattle.leaves.proofs.BitLaws.{and-or, le_or_l, le_or_r}

-- some bit of an or is a bit of one of its sides
either : (x y : ℕ) → (not (eqb x 0) || not (eqb y 0)) ≡ not (eqb (bit_or x y) 0)
either x y = go (eqb x 0) (eqb y 0) refl refl
  where
    go : (a b : Bool) → eqb x 0 ≡ a → eqb y 0 ≡ b → (not a || not b) ≡ not (eqb (bit_or x y) 0)
    go true true e f =
        let p : x ≡ 0 = eqb-true x 0 e in
        let q : y ≡ 0 = eqb-true y 0 f in
        sym (ap not (eq-eqb (bit_or x y) 0 (ap (λ (z : ℕ). bit_or z y) p ∙ or_zero_l y ∙ q)))
    go true false e f = sym (ap not (ne_eqb (bit_or x y) 0 (λ z. eqb-false y 0 f (omega (arith, le_or_r x y)))))
    go false b e f = sym (ap not (ne_eqb (bit_or x y) 0 (λ z. eqb-false x 0 e (omega (arith, le_or_l x y)))))

pub shares_union : (masks : List ℕ) (k mask : ℕ) → shares_bit masks k mask ≡ not (eqb (bit_and (union_of masks k) mask) 0)
unfolding shares_bit union_of
shares_union masks zero mask = refl
shares_union masks (suc k) mask =
    rw (shares_union masks k mask, and-or (union_of masks k) (get_or masks k 0) mask) (either (bit_and (union_of masks k) mask) (bit_and (get_or masks k 0) mask))
