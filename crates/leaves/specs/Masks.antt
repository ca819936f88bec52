-- Channel masks: one run, the mask check (6 to 10), and what a layout takes from a mask.
use Rattle.std.specs.Prelude.{◌≡◌, ℕ, zero, suc, ◌+◌, ◌-◌, ◌*◌, ◌^◌, ◌≤◌, Bool, true, false, cond, not, ◌&&◌, ◌||◌, List, [], ◌∷◌, ◌++◌, ◌==◌, ◌≢◌, bit_and, bit_or, nat_le, slice_index, slice_index_or}
use Rattle.std.specs.Int.Count.{ones_in, count_trailing_zeros}
use Rattle.leaves.specs.declared.error.Refusal.{Refusal}
use Rattle.leaves.specs.declared.error.Refusal.TheVariants.{MaskDepth, MaskAboveDepth, MaskNotOneRun, MaskOverlap, NoColourMask}
use Rattle.leaves.specs.Lists.{cat}

-- the number whose ones are n, from bit s up
abbrev pub run : ℕ → ℕ → ℕ
run s n = (2 ^ n - 1) * 2 ^ s

-- a mask's ones are one run (BITMAPV4HEADER: the bits of a mask must be contiguous), or it has none
pub record OneRun (mask : ℕ) : Type 0 where
  pub from : ℕ
  pub count : ℕ
  pub is : mask ≡ run from count

-- how many ones a 32-bit mask has
unfoldable pub count : ℕ → ℕ
count mask = ones_in 32 mask

-- the place of its lowest one
unfoldable pub lowest : ℕ → ℕ
lowest mask = count_trailing_zeros 32 mask

-- `OneRun`, computed: the run of as many ones as the mask has, from its lowest one up, is the mask (proofs/Runs.antt has both directions)
unfoldable pub is_one_run : ℕ → Bool
is_one_run mask = mask == run (lowest mask) (count mask)

-- 6: "depth is neither 16 nor 32"
abbrev pub mask_depth : ℕ → Bool
mask_depth depth = not (depth == 16 || depth == 32)

-- 7: "a mask has a bit above the depth"
abbrev pub mask_above_depth : ℕ → ℕ → Bool
mask_above_depth depth mask = nat_le (2 ^ depth) mask

-- 8: "a mask's ones are not one run"
abbrev pub mask_not_one_run : ℕ → Bool
mask_not_one_run mask = not (is_one_run mask)

-- 9: "a mask shares a bit with an earlier one", of those before place k
unfoldable pub shares_bit : List ℕ → ℕ → ℕ → Bool
shares_bit masks zero mask = false
shares_bit masks (suc k) mask = shares_bit masks k mask || not (bit_and (slice_index masks k) mask == 0)

-- all bits of the masks before place k
unfoldable pub union_of : List ℕ → ℕ → ℕ
union_of masks zero = 0
union_of masks (suc k) = bit_or (union_of masks k) (slice_index masks k)

-- 10: "red, green and blue masks all 0"
abbrev pub no_colour_mask : List ℕ → Bool
no_colour_mask masks = slice_index masks 0 == 0 && slice_index masks 1 == 0 && slice_index masks 2 == 0

-- "7, 8, 9 are tried per mask ..; a zero mask skips them": the rows of the mask at place k
unfoldable pub mask_rows : ℕ → List ℕ → ℕ → List (Bool × Refusal)
mask_rows depth masks k =
    let mask = slice_index_or masks k 0 in
    let given = not (mask == 0) in
    (given && mask_above_depth depth mask, MaskAboveDepth) ∷ (given && mask_not_one_run mask, MaskNotOneRun) ∷ (given && shares_bit masks k mask, MaskOverlap) ∷ []

-- ".. in the order red, green, blue, alpha", which is the order of the list; 6 before them and 10 after
unfoldable pub bitfields_rows : ℕ → List ℕ → List (Bool × Refusal)
bitfields_rows depth masks = (mask_depth depth, MaskDepth) ∷ (cat (mask_rows depth masks) 4 ++ ((no_colour_mask masks, NoColourMask) ∷ []))

-- document 01, The plan: "with a nonzero alpha mask"
abbrev pub has_alpha_mask : List ℕ → Bool
has_alpha_mask masks = not (slice_index masks 3 == 0)

-- document 01, The plan: "compression 3, or with a nonzero alpha mask .. compression 6"
abbrev pub mask_compression : List ℕ → ℕ
mask_compression masks = cond (has_alpha_mask masks) 6 3

-- The shift and length of a mask. Document 01 leaves them free for a mask that the check refuses; whatever the mask, they stay in 32 bits.
pub record ShiftLen (mask shift len : ℕ) : Type 0 where
  pub within : shift + len ≤ 32
  -- a zero mask has no place
  pub none : mask ≡ 0 → (shift ≡ 0) × (len ≡ 0)
  -- of one run, its place and its count of ones
  pub run_len : is_one_run mask ≡ true → len ≡ count mask
  pub run_shift : is_one_run mask ≡ true → (mask ≢ 0) → shift ≡ lowest mask
