-- The comparison's hypotheses can be met: M12's call has the types' bounds and lies in the domain, so the original's answers to it are the document's.
use mathlib.Core.Path.{◌≡◌, refl, sym, ◌∙◌}
use Prim.Native.Nat.{ℕ, zero, suc, ◌<◌}
use native.Mathlib.Omega.{arith}
use lib.ListN.{get_or, replicate}
use Rattle.leaves.specs.Refusals.{first_number, dimension_rows, settings_rows, palette_rows, mode_rows, plane_rows}
use Rattle.leaves.specs.Sizes.{row_stride, palette_entry_count, written_palette_entries}
use Rattle.format.specs.File.{max_file, budget, plain_size_of, bound_of}
use Rattle.format.specs.Layout.{mode_of, tail_in, depth_of, table_entries, head_rest, head_len, raw_len, wants_rle}
use Rattle.format.specs.Refusals.{given_masks_rows, check_rows, file_too_large, buffer_too_short, stream_over_budget, plan_rows, write_rows}
use Rattle.format.proofs.ExampleInputs.{sevens}
use Rattle.reference.specs.Compared.{Typed, Domain, SameAsSource}
use Rattle.reference.proofs.Theorem.{same_as_source}

-- a place in a list of equal numbers holds that number, and a place outside 0
below : (n v k most : ℕ) → v < most → get_or (replicate n v) k 0 < most
below zero v k most h = omega (arith, h)
below (suc n) v zero most h = h
below (suc n) v (suc k) most h = below n v k most h

-- no row of 1 to 14 applies
m12_passes : first_number (plan_rows max_file (sevens 5 5 5)) ≡ 0
unfolding plan_rows check_rows dimension_rows settings_rows palette_rows mode_rows given_masks_rows plane_rows file_too_large wants_rle mode_of
m12_passes = refl

-- nor of 1 to 16, in a buffer of as many bytes as the bound
pub m12_written : first_number (write_rows max_file (sevens 5 5 5) 78 0) ≡ 0
unfolding write_rows plan_rows check_rows dimension_rows settings_rows palette_rows mode_rows given_masks_rows plane_rows file_too_large buffer_too_short stream_over_budget bound_of budget plain_size_of tail_in raw_len depth_of head_len head_rest table_entries written_palette_entries palette_entry_count row_stride wants_rle mode_of
m12_written = refl

pub m12_typed : Typed (sevens 5 5 5)
m12_typed =
    record {
      width = omega arith;
      height = omega arith;
      plane_bytes_is = λ k. below 5 7 k 256 (omega arith);
      masks = λ k. below 4 0 k 4294967296 (omega arith);
      nine_endpoints = refl;
      three_gammas = refl;
    }

pub m12_in_domain : Domain (sevens 5 5 5)
m12_in_domain =
    record {
      not_2 = λ e. let z : ◌≡◌ {A = ℕ} 0 2 = sym m12_passes ∙ e in omega (arith, z);
      not_4 = λ e. let z : ◌≡◌ {A = ℕ} 0 4 = sym m12_passes ∙ e in omega (arith, z);
      not_20 = λ e. let z : ◌≡◌ {A = ℕ} 0 20 = sym m12_passes ∙ e in omega (arith, z);
      not_21 = λ e. let z : ◌≡◌ {A = ℕ} 0 21 = sym m12_passes ∙ e in omega (arith, z);
      product = omega arith;
    }

pub m12_answers : SameAsSource (sevens 5 5 5)
m12_answers = same_as_source (sevens 5 5 5) m12_typed m12_in_domain refl
