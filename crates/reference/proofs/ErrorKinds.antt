-- The kinds of the original's Errs are those of document 01's table.
use mathlib.Core.Path.{◌≡◌, refl, ap, subst}
use mathlib.Core.List.{List, [], ◌∷◌, map}
use Prim.Native.Nat.{ℕ}
use Rattle.std.proofs.Common.{Ok, Err}
use Rattle.leaves.specs.declared.error.Refusal.{Refusal}
use Rattle.leaves.specs.declared.error.Refusal.TheVariants.{ZeroDimension, PaletteMissing, SeveralModes, MaskDepth, MaskAboveDepth, MaskNotOneRun, MaskOverlap, NoColourMask, MaskSource, PlaneTooShort, StrideTooShort, FileTooLarge, StreamOverBudget}
use Rattle.leaves.specs.Refusals.{number_of, Check}
use Rattle.leaves.proofs.FirstOf.{check_determined}
use Rattle.reference.specs.Rust.{Error, zero_dimension, requires_palette, mutually_exclusive, bitfields_bpp, mask_exceeds, mask_not_contiguous, mask_overlaps, no_colour_mask, bitfields_source, plane_truncated, stride_below_row, pixel_array_overflows, file_overflows, over_limit, rle_over_limit, not_addressable, Kind, kind_of, Option, some, none}
use Rattle.reference.specs.Compared.{error_number, rust_kind}

-- each Err that a call can come to, with its row of the table
unfoldable pub errors : List (Error × Refusal)
errors =
    (zero_dimension, ZeroDimension)
    ∷ (requires_palette, PaletteMissing)
    ∷ (mutually_exclusive, SeveralModes)
    ∷ (bitfields_bpp, MaskDepth)
    ∷ (mask_exceeds, MaskAboveDepth)
    ∷ (mask_not_contiguous, MaskNotOneRun)
    ∷ (mask_overlaps, MaskOverlap)
    ∷ (no_colour_mask, NoColourMask)
    ∷ (bitfields_source, MaskSource)
    ∷ (plane_truncated, PlaneTooShort)
    ∷ (stride_below_row, StrideTooShort)
    ∷ (pixel_array_overflows, FileTooLarge)
    ∷ (file_overflows, FileTooLarge)
    ∷ (over_limit, FileTooLarge)
    ∷ (rle_over_limit, StreamOverBudget)
    ∷ []

-- number and kind of an Err, and of its row
abbrev found : Error × Refusal → ℕ × Option Kind
found (e, why) = (error_number e, some (kind_of e))

abbrev printed : Error × Refusal → ℕ × Option Kind
printed (e, why) = (number_of why, rust_kind why)

-- they are the same
pub kinds_hold : map found errors ≡ map printed errors
unfolding errors
kinds_hold = refl

-- a check does not both pass and refuse
abbrev Passes : Check → Type 0
Passes (Ok passed) = Unit {0}
Passes (Err w) = ⊥

abbrev kind_in : Check → Option Kind
kind_in (Ok passed) = none
kind_in (Err why) = rust_kind why

-- an Err of a row's number is of that row's kind
pub kind_is : (e : Error) (why : Refusal) → error_number e ≡ number_of why → some (kind_of e) ≡ rust_kind why
kind_is e why n = go e n
  where
    in_row : (row : Refusal) → number_of row ≡ number_of why → rust_kind row ≡ rust_kind why
    in_row row q = ap kind_in (check_determined (Err row) (Err why) q)

    go : (e : Error) → error_number e ≡ number_of why → some (kind_of e) ≡ rust_kind why
    go zero_dimension q = in_row ZeroDimension q
    go requires_palette q = in_row PaletteMissing q
    go mutually_exclusive q = in_row SeveralModes q
    go bitfields_bpp q = in_row MaskDepth q
    go mask_exceeds q = in_row MaskAboveDepth q
    go mask_not_contiguous q = in_row MaskNotOneRun q
    go mask_overlaps q = in_row MaskOverlap q
    go no_colour_mask q = in_row NoColourMask q
    go bitfields_source q = in_row MaskSource q
    go plane_truncated q = in_row PlaneTooShort q
    go stride_below_row q = in_row StrideTooShort q
    go pixel_array_overflows q = in_row FileTooLarge q
    go file_overflows q = in_row FileTooLarge q
    go over_limit q = in_row FileTooLarge q
    go rle_over_limit q = in_row StreamOverBudget q
    go not_addressable q = absurd (subst Passes (check_determined (Ok tt) (Err why) q) tt)
