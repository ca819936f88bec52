use Rattle.std.proofs.Common.{◌≡◌, ℕ, ◌+◌, ◌^◌, ◌<◌, ◌≤◌, true, false, not, eqb, List, get_or, sym, ap, ◌∙◌, arith, eq-eqb, ne_eqb, le-leb}
use borrow.Author.Tests.{lt-leb, not-true, not-false}
use lib.Bits.{bit_and}
use Rattle.leaves.specs.Refusals.{first_number}
use Rattle.leaves.specs.Masks.{is_one_run, shares_bit, union_of, mask_rows}
use Rattle.leaves.proofs.Overlap.{shares_union}
use Rattle.leaves.proofs.Tests.{tests}
use Rattle.leaves.proofs.bitfields.validate_mask.Goals as goal

-- the rows of the mask at place k, by what the tests say
module _ (d : ℕ) (masks : List ℕ) (k : ℕ) where
  skipped : get_or masks k 0 ≡ 0 → 0 ≡ first_number (mask_rows d masks k)
  unfolding mask_rows
  skipped z = search tests

  module _ (limit : ℕ) (bits : limit + 1 ≡ 2 ^ d) (some : get_or masks k 0 ≡ 0 → ⊥) where
    above : limit < get_or masks k 0 → 7 ≡ first_number (mask_rows d masks k)
    unfolding mask_rows
    above h = let t = le-leb (2 ^ d) (get_or masks k 0) (omega arith) in search tests

    module _ (inside : get_or masks k 0 ≤ limit) where
      gap : is_one_run (get_or masks k 0) ≡ false → 8 ≡ first_number (mask_rows d masks k)
      unfolding mask_rows
      gap e = let t = lt-leb (2 ^ d) (get_or masks k 0) (omega arith) in search tests

      overlap : is_one_run (get_or masks k 0) ≡ true → shares_bit masks k (get_or masks k 0) ≡ true → 9 ≡ first_number (mask_rows d masks k)
      unfolding mask_rows
      overlap e f = let t = lt-leb (2 ^ d) (get_or masks k 0) (omega arith) in search tests

      clear : is_one_run (get_or masks k 0) ≡ true → shares_bit masks k (get_or masks k 0) ≡ false → 0 ≡ first_number (mask_rows d masks k)
      unfolding mask_rows
      clear e f = let t = lt-leb (2 ^ d) (get_or masks k 0) (omega arith) in search tests

-- the test of the union
module _ (masks : List ℕ) (k union : ℕ) (is : union ≡ union_of masks k) where
  shares : shares_bit masks k (get_or masks k 0) ≡ not (eqb (bit_and union (get_or masks k 0)) 0)
  shares = shares_union masks k (get_or masks k 0) ∙ ap (λ (u : ℕ). not (eqb (bit_and u (get_or masks k 0)) 0)) (sym is)

  shared : (bit_and union (get_or masks k 0) ≡ 0 → ⊥) → shares_bit masks k (get_or masks k 0) ≡ true
  shared some = shares ∙ ap not (ne_eqb (bit_and union (get_or masks k 0)) 0 some)

  apart : bit_and union (get_or masks k 0) ≡ 0 → shares_bit masks k (get_or masks k 0) ≡ false
  apart none = shares ∙ ap not (eq-eqb (bit_and union (get_or masks k 0)) 0 none)

pub returns-then-mask-eq0 : goal.returns-then-mask-eq0
returns-then-mask-eq0 c =
    let a = c.args in
    skipped a.bpp a.masks a.k c.if-mask-eq0.true

pub returns-then-mask-mask_limit : goal.returns-then-mask-mask_limit
returns-then-mask-mask_limit c =
    let a = c.args in
    above a.bpp a.masks a.k c.mask_limit.result c.mask_limit.ensures c.if-mask-eq0.false c.if-mask-mask_limit.true

pub returns-then-not-is_contiguous : goal.returns-then-not-is_contiguous
returns-then-not-is_contiguous c =
    let a = c.args in
    gap a.bpp a.masks a.k c.mask_limit.result c.mask_limit.ensures c.if-mask-eq0.false c.if-mask-mask_limit.false (sym c.is_contiguous.ensures ∙ not-true c.is_contiguous.result c.if-not-is_contiguous.true-raw)

pub returns-then-union-mask-ne0 : goal.returns-then-union-mask-ne0
returns-then-union-mask-ne0 c =
    let a = c.args in
    overlap a.bpp a.masks a.k c.mask_limit.result c.mask_limit.ensures c.if-mask-eq0.false c.if-mask-mask_limit.false (sym c.is_contiguous.ensures ∙ not-false c.is_contiguous.result c.if-not-is_contiguous.false-raw)
    (shared a.masks a.k a.union c.requires.union_so_far c.if-union-mask-ne0.true)

pub returns : goal.returns
returns c =
    let a = c.args in
    clear a.bpp a.masks a.k c.mask_limit.result c.mask_limit.ensures c.if-mask-eq0.false c.if-mask-mask_limit.false (sym c.is_contiguous.ensures ∙ not-false c.is_contiguous.result c.if-not-is_contiguous.false-raw)
    (apart a.masks a.k a.union c.requires.union_so_far c.if-union-mask-ne0.false)
