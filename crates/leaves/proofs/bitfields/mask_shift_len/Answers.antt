use Rattle.std.proofs.Common.{◌≡◌, ℕ, ◌-◌, ◌^◌, ◌<◌, sym, refl, ap, ◌∙◌, arith}
use lib.Count.{count_leading_zeros, count_trailing_zeros, leading_le}
use Rattle.leaves.specs.Masks.{ShiftLen, count, lowest}
use Rattle.leaves.proofs.Runs.{count-zero, ends_within, len_run}
use Rattle.leaves.proofs.bitfields.mask_shift_len.Goals as goal

zero-mask : (m : ℕ) → m ≡ 0 → ShiftLen m 0 0
zero-mask m z =
    record {
      within = omega arith;
      none = λ _. (refl, refl);
      run_len = λ _. sym (ap count z ∙ count-zero);
      run_shift = λ _ some. absurd (some z);
    }

some-mask : (m : ℕ) → (m ≡ 0 → ⊥) → m < 2 ^ 32 → ShiftLen m (count_trailing_zeros 32 m) (32 - count_leading_zeros 32 m - count_trailing_zeros 32 m)
unfolding lowest
some-mask m some h =
    let p : 0 < m = omega (arith, some) in
    let e = ends_within m p h in
    record {
      within = omega arith;
      none = λ z. absurd (some z);
      run_len = len_run m p h;
      run_shift = λ _ _. refl;
    }

pub returns-then-mask-eq0 : goal.returns-then-mask-eq0
returns-then-mask-eq0 c = zero-mask c.args.mask c.if-mask-eq0.true

pub overflow_sub-len : goal.overflow_sub-len
overflow_sub-len c = leading_le 32 c.args.mask

pub overflow_sub-len-2 : goal.overflow_sub-len-2
overflow_sub-len-2 c = omega (arith, ends_within c.args.mask (omega (arith, c.if-mask-eq0.false)) c.ranges.mask.fits)

pub returns : goal.returns
returns c = some-mask c.args.mask c.if-mask-eq0.false c.ranges.mask.fits
