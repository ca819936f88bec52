-- A run's scan by 32 cells.
use Rattle.std.proofs.Common.{◌≡◌, ℕ, ◌+◌, ◌-◌, ◌/◌, ◌≤◌, Bool, List, length, get_or, sym, refl, ap, ◌∙◌, arith}
use lib.Bits.{bit_xor, bit_or, or_add_and, and_le_l, and_le_r}
use lib.Count.{count_trailing_zeros, trailing_of_zero}
use Rattle.rows.specs.RleCodes.{depth_of, cells}
use Rattle.rows.specs.Words.{word}
use Rattle.rows.proofs.Scans.{Running, run_eight_on}
use Rattle.rows.proofs.WordCells.{same_law}

or_none : (a b : ℕ) → bit_or a b ≡ 0 → (a ≡ 0) × (b ≡ 0)
or_none a b z = (omega (arith, or_add_and a b, and_le_l a b, and_le_r a b), omega (arith, or_add_and a b, and_le_l a b, and_le_r a b))

module _ (four : Bool) (row : List ℕ) (at : ℕ) where
  -- the differences of eight cells from k on
  abbrev differing : ℕ → ℕ
  differing k = word (λ i. bit_xor (get_or (cells (depth_of four) row) i 0) (get_or (cells (depth_of four) row) (i + 1) 0)) k 8

  -- eight cells without a difference
  run_on_8 : (n k m x : ℕ) → Running (depth_of four) row at n → k ≡ at + n - 1 → m ≡ n + 8 → x ≡ differing k → x ≡ 0 → at + n + 8 ≤ length row → n + 8 ≤ 255
      → Running (depth_of four) row at m
  run_on_8 n k m x s ek em ex z fits few =
      let e = sym (ap (λ (y : ℕ). count_trailing_zeros 64 y / 8) z ∙ ap (λ (y : ℕ). y / 8) (trailing_of_zero 64)) ∙ same_law four row k x ex in
      rw em (run_eight_on (depth_of four) row at n s 8 (rw ek at e) fits few (omega arith))

  pub run_on_32 : (n k a b c e : ℕ) → Running (depth_of four) row at n → k ≡ at + n - 1 → a ≡ differing k → b ≡ differing (k + 8) → c ≡ differing (k + 16) → e ≡ differing (k + 24)
      → bit_or (bit_or (bit_or a b) c) e ≡ 0 → at + n + 32 ≤ length row → n + 32 ≤ 255 → Running (depth_of four) row at (n + 32)
  run_on_32 n k a b c e s ek ea eb ec ee z fits few =
      let abc = or_none (bit_or (bit_or a b) c) e z in
      let ab = or_none (bit_or a b) c abc.0 in
      let l = or_none a b ab.0 in
      let some = s.some in
      let s₁ = run_on_8 n k (n + 8) a s ek refl ea l.0 (omega arith) (omega arith) in
      let s₂ = run_on_8 (n + 8) (k + 8) (n + 16) b s₁ (omega arith) (omega arith) eb l.1 (omega arith) (omega arith) in
      let s₃ = run_on_8 (n + 16) (k + 16) (n + 24) c s₂ (omega arith) (omega arith) ec ab.1 (omega arith) (omega arith) in
      run_on_8 (n + 24) (k + 24) (n + 32) e s₃ (omega arith) (omega arith) ee abc.1 (omega arith) (omega arith)
