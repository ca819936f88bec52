-- The mask set: its check, the places of its channels, a sample fitted to a channel (encoder.rs, section "Explicit-mask encoder").
use Rattle.std.specs.Prelude.{ℕ, Bool, not, cond, ◌&&◌, [], ◌∷◌, ltb, leb, eqb}
use Rattle.std.specs.Int.Bits.{bit_and, bit_or}
use Rattle.std.specs.Int.Count.{count_trailing_zeros, count_leading_zeros}
use Rattle.reference.specs.Rust.{bitfields_bpp, mask_exceeds, mask_not_contiguous, mask_overlaps, no_colour_mask, Run, done, ◌>>=◌, ◌>>◌, fail_if, u32, sub, shl, shr, complement, wrapping_add, for_each}
use Rattle.reference.specs.Types.{BmpBitfields}

-- pub fn has_alpha(&self) -> bool
abbrev pub has_alpha : BmpBitfields → Bool
has_alpha self = not (eqb self.a 0)

-- pub fn compression(&self) -> u32
abbrev pub masks_compression : BmpBitfields → ℕ
masks_compression self = cond (has_alpha self) 6 3

-- one turn of validate's loop over the channels
unfoldable pub validate_channel : ℕ → ℕ → ℕ → Run ℕ
validate_channel limit mask union =
    cond (eqb mask 0) (done union) do
      fail_if (not (eqb (bit_and mask (complement u32 limit)) 0)) mask_exceeds
      normalised ← shr u32 mask (count_trailing_zeros 32 mask)
      fail_if (not (eqb (bit_and normalised (wrapping_add u32 normalised 1)) 0)) mask_not_contiguous
      fail_if (not (eqb (bit_and union mask) 0)) mask_overlaps
      done (bit_or union mask)

-- pub fn validate(&self) -> Result<()>
unfoldable pub validate : BmpBitfields → Run (Unit {0})
validate self = do
  fail_if (not (eqb self.bpp 16) && not (eqb self.bpp 32)) bitfields_bpp
  limit ← cond (eqb self.bpp 32) (done 0xFFFFFFFF) (shl u32 1 self.bpp >>= λ x. sub x 1)
  union ← for_each (self.r ∷ self.g ∷ self.b ∷ self.a ∷ []) (validate_channel limit) 0
  fail_if (eqb self.r 0 && eqb self.g 0 && eqb self.b 0) no_colour_mask

-- fn mask_shift_len(mask: u32) -> (u32, u32)
unfoldable pub mask_shift_len : ℕ → Run (ℕ × ℕ)
mask_shift_len mask =
    cond (eqb mask 0) (done (0, 0)) do
      let shift = count_trailing_zeros 32 mask
      len ← sub (← sub 32 (count_leading_zeros 32 mask)) shift
      done (shift, len)

-- fn quantise(sample: u8, n: u32) -> u32
unfoldable pub quantise : ℕ → ℕ → Run ℕ
quantise s n =
    cond (eqb n 8) (done s)
    (cond (ltb n 8) (sub 8 n >>= shr u32 s) do
      extra ← sub n 8
      mask ← cond (leb 32 n) (done 0xFFFFFFFF) (shl u32 1 n >>= λ x. sub x 1)
      repl ← cond (leb 8 extra) (done s) (sub 8 extra >>= shr u32 s)
      high ← shl u32 s extra
      done (bit_and (bit_or high repl) mask))
