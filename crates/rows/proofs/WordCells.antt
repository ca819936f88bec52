-- Laws of eight cells of a row in one number.
use Rattle.std.proofs.Common.{◌≡◌, ℕ, ◌+◌, ◌-◌, ◌*◌, ◌/◌, ◌^◌, ◌<◌, Bool, true, false, not, eqb, List, get_or, sym, ap, ◌∙◌, ap₂, arith, lit<}
use lib.Bits.{bit_and, bit_or, bit_xor, and_mask, xor_mod, xor_lt, xor_comm}
use lib.Count.{count_trailing_zeros}
use Rattle.rows.specs.RleCodes.{depth_of, cells}
use Rattle.rows.specs.Words.{word, leading}
use Rattle.rows.proofs.Scans.{cell_at}
use Rattle.rows.proofs.WordLaws.{leading_ext, word_ext, word_next, word_and, word_xor, xor_test, zero_bytes_8, lone_bytes_8}

pub mask_small : (four : Bool) → 2 ^ depth_of four - 1 < 256
mask_small true = lit< tt
mask_small false = lit< tt

-- one byte, eight times over
eight_times : (m k : ℕ) → m * 0x0101010101010101 ≡ word (λ _. m) k 8
unfolding word
eight_times m k = omega arith

-- where the cells from a place on differ from the next, as a number
module _ (row : List ℕ) (k : ℕ) (h : (i : ℕ) → get_or row i 0 < 256) where
  raw : bit_xor (word (λ i. get_or row i 0) k 8) (word (λ i. get_or row i 0) (k + 1) 8) ≡ word (λ i. bit_xor (get_or row i 0) (get_or row (i + 1) 0)) k 8
  raw =
      ap (bit_xor (word (λ i. get_or row i 0) k 8)) (word_next (λ i. get_or row i 0) k 8)
      ∙ word_xor (λ i. get_or row i 0) (λ i. get_or row (i + 1) 0) h (λ i. h (i + 1)) k 8

  pub differ : (four : Bool) (x y m : ℕ) → x ≡ word (λ i. get_or row i 0) k 8 → y ≡ word (λ i. get_or row i 0) (k + 1) 8 → m ≡ 2 ^ depth_of four - 1
      → bit_and (bit_xor x y) (m * 0x0101010101010101) ≡ word (λ i. bit_xor (get_or (cells (depth_of four) row) i 0) (get_or (cells (depth_of four) row) (i + 1) 0)) k 8
  differ four x y m ex ey em =
      let d = depth_of four in
      let f : ℕ → ℕ = λ i. bit_xor (get_or row i 0) (get_or row (i + 1) 0) in
      ap₂ bit_and (ap₂ bit_xor ex ey ∙ raw) (ap (λ (z : ℕ). z * 0x0101010101010101) em ∙ eight_times (2 ^ d - 1) k)
      ∙ word_and f (λ _. 2 ^ d - 1) (λ i. xor_lt 8 (get_or row i 0) (get_or row (i + 1) 0) (h i) (h (i + 1))) (λ i. mask_small four) k 8
      ∙ word_ext _ _ (λ i. and_mask (f i) d ∙ xor_mod (get_or row i 0) (get_or row (i + 1) 0) d ∙ ap₂ bit_xor (sym (cell_at d row i)) (sym (cell_at d row (i + 1)))) k 8

-- how far they are the same, or not
module _ (four : Bool) (row : List ℕ) (k x : ℕ) (e : x ≡ word (λ i. bit_xor (get_or (cells (depth_of four) row) i 0) (get_or (cells (depth_of four) row) (i + 1) 0)) k 8) where
  small : (b : Bool) (i : ℕ) → get_or (cells (depth_of b) row) i 0 < 256
  small true i = omega (arith, cell_at 4 row i)
  small false i = omega (arith, cell_at 8 row i)

  byte_small : (i : ℕ) → bit_xor (get_or (cells (depth_of four) row) i 0) (get_or (cells (depth_of four) row) (i + 1) 0) < 256
  byte_small i = xor_lt 8 (get_or (cells (depth_of four) row) i 0) (get_or (cells (depth_of four) row) (i + 1) 0) (small four i) (small four (i + 1))

  pub same_law : count_trailing_zeros 64 x / 8 ≡ leading (λ i. eqb (get_or (cells (depth_of four) row) (i + 1) 0) (get_or (cells (depth_of four) row) i 0)) k 8
  same_law =
      ap (λ (z : ℕ). count_trailing_zeros 64 z / 8) e ∙ zero_bytes_8 _ byte_small k
      ∙ leading_ext _ _ (λ i. ap (λ (z : ℕ). eqb z 0) (xor_comm (get_or (cells (depth_of four) row) i 0) (get_or (cells (depth_of four) row) (i + 1) 0)) ∙ xor_test (get_or (cells (depth_of four) row) (i + 1) 0) (get_or (cells (depth_of four) row) i 0)) k 8

  pub lone_law : count_trailing_zeros 64 (bit_xor (bit_and (bit_or (bit_and x 0x7F7F7F7F7F7F7F7F + 0x7F7F7F7F7F7F7F7F) x) 0x8080808080808080) 0x8080808080808080) / 8
      ≡ leading (λ i. not (eqb (get_or (cells (depth_of four) row) i 0) (get_or (cells (depth_of four) row) (i + 1) 0))) k 8
  lone_law =
      ap (λ (z : ℕ). count_trailing_zeros 64 (bit_xor (bit_and (bit_or (bit_and z 0x7F7F7F7F7F7F7F7F + 0x7F7F7F7F7F7F7F7F) z) 0x8080808080808080) 0x8080808080808080) / 8) e
      ∙ lone_bytes_8 _ byte_small k
      ∙ leading_ext _ _ (λ i. ap not (xor_test (get_or (cells (depth_of four) row) i 0) (get_or (cells (depth_of four) row) (i + 1) 0))) k 8
