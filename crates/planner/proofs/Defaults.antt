-- Document 02, A.5: "defaults are today's numbers". With them the two calls promise what they promised before the options had a limit and resolutions: no 20 and no 21,
-- 4,294,967,295 for the limit, and 2835 for both resolutions.
use mathlib.Core.Path.{◌≡◌, refl, sym, ap, ◌∙◌}
use mathlib.Core.List.{List, [], ◌∷◌, ◌++◌}
use mathlib.Core.Bool.{Bool}
use Prim.Native.Nat.{ℕ}
use lib.IntN.{pos}
use lib.ListN.{length, take, drop}
use mir.Syntax.{w32}
use mir.Val.{of_z}
use Rattle.std.proofs.Common.{Ok, Err, is_some}
use Rattle.leaves.specs.declared.encoder.EncodedBmpFormat.{EncodedBmpFormat}
use Rattle.leaves.specs.declared.options.EncodeOptions.{EncodeOptions}
use Rattle.leaves.specs.declared.error.Refusal.{Refusal}
use Rattle.leaves.specs.declared.error.Refusal.TheVariants.{FileTooLarge, BufferTooShort, StreamOverBudget}
use Rattle.leaves.specs.Formats.{bytes_per_pixel, is_indexed}
use Rattle.leaves.specs.Put.{put}
use Rattle.leaves.specs.Refusals.{check_number, first_of, first_number, or_else, profile_mode, dimension_rows, settings_rows, palette_rows, mode_rows, plane_rows, Check}
use Rattle.leaves.proofs.FirstOf.{first-or}
use Rattle.format.specs.Demand.{Demand3}
use Rattle.format.specs.File.{limit_in, max_file, pixels, compression_of, image_size_of, head_of, file_size_of, file_of, tail_of, bound_of, format_of}
use Rattle.format.specs.Input.{Input}
use Rattle.format.specs.Refusals.{file_too_large, buffer_too_short, stream_over_budget, given_masks_rows, check_rows, plan_rows, write_rows}
use Rattle.planner.specs.Answers.{EncodeAnswer, BoundAnswer, encoded_number, encoded_bytes, encoded_format, bytes_for, format_for, later_for, bound_number, bound_bytes, bound_for, Written, Sized}

-- ---- what was before

-- document 01's rows: 1 to 13, 1 to 14, 1 to 16
unfoldable pub earlier_checks : Input → List (Bool × Refusal)
earlier_checks i =
    dimension_rows i.source.width i.source.height
    ++ palette_rows (is_indexed i.source.format) i.source.has_palette (length i.palette)
    ++ mode_rows (is_some i.options.bitfields) (is_some i.options.calibrated_rgb) (profile_mode i.source.has_linked_icc i.source.has_icc i.options.embed_icc)
    ++ given_masks_rows i.source i.options
    ++ plane_rows i.source.width i.source.height i.source.stride (bytes_per_pixel i.source.format) (length i.plane)

unfoldable pub earlier_plan : Input → List (Bool × Refusal)
earlier_plan i = earlier_checks i ++ ((file_too_large max_file i, FileTooLarge) ∷ [])

unfoldable pub earlier_write : Input → ℕ → ℕ → List (Bool × Refusal)
earlier_write i room offset = earlier_plan i ++ ((buffer_too_short max_file i room offset, BufferTooShort) ∷ (stream_over_budget max_file i, StreamOverBudget) ∷ [])

-- the file, with "Resolution is 2835 in each direction"
unfoldable pub earlier_file : Input → List ℕ
earlier_file i = head_of i (compression_of max_file i) (image_size_of max_file i) 2835 2835 (file_size_of max_file i) ++ pixels max_file i ++ tail_of i

abbrev pub earlier_bytes : Check → Input → ℕ
earlier_bytes (Ok passed) i = file_size_of max_file i
earlier_bytes (Err why) i = 0

abbrev pub earlier_format : Check → Input → List EncodedBmpFormat
earlier_format (Ok passed) i = format_of max_file i ∷ []
earlier_format (Err why) i = []

abbrev pub earlier_later : Check → Input → ℕ → List ℕ → List ℕ
earlier_later (Ok passed) i offset was = put was offset (earlier_file i)
earlier_later (Err why) i offset was = was

abbrev pub earlier_bound : Check → Input → ℕ
earlier_bound (Ok passed) i = bound_of max_file i
earlier_bound (Err why) i = 0

-- the promises
pub record WrittenBefore (i : Input) (offset : ℕ) (was later : List ℕ) (answer : EncodeAnswer) : Type 0 where
  pub number : encoded_number answer ≡ first_number (earlier_write i (length was) offset)
  pub bytes : encoded_bytes answer ≡ earlier_bytes (first_of (earlier_write i (length was) offset)) i
  pub format : encoded_format answer ≡ earlier_format (first_of (earlier_write i (length was) offset)) i
  pub buffer : later ≡ earlier_later (first_of (earlier_write i (length was) offset)) i offset was
  pub shown : encoded_number answer ≡ 0 → Demand3 i (take (encoded_bytes answer) (drop offset later))

pub record SizedBefore (i : Input) (answer : BoundAnswer) : Type 0 where
  pub number : bound_number answer ≡ first_number (earlier_plan i)
  pub bytes : bound_bytes answer ≡ earlier_bound (first_of (earlier_plan i)) i

-- ---- the default settings

pub record ByDefault (o : EncodeOptions) : Type 0 where
  pub limit : o.limit ≡ max_file
  pub x : o.x_pels_per_meter ≡ pos 2835
  pub y : o.y_pels_per_meter ≡ pos 2835

-- rows that pass change nothing at their place
skipped : (xs ys : List (Bool × Refusal)) → first_of ys ≡ Ok tt → first_of (xs ++ ys) ≡ first_of xs
skipped xs ys e = first-or xs ys ∙ ap (or_else (first_of xs)) e ∙ alone (first_of xs)
  where
    alone : (c : Check) → or_else c (Ok tt) ≡ c
    alone (Ok passed) = refl
    alone (Err why) = refl

behind : (xs ys zs : List (Bool × Refusal)) → first_of xs ≡ first_of ys → first_of (xs ++ zs) ≡ first_of (ys ++ zs)
behind xs ys zs e = first-or xs zs ∙ ap (λ (c : Check). or_else c (first_of zs)) e ∙ sym (first-or ys zs)

module _ (i : Input) (d : ByDefault i.options) where
  settings_pass : first_of (settings_rows i.options.limit i.options.x_pels_per_meter i.options.y_pels_per_meter) ≡ Ok tt
  unfolding settings_rows
  settings_pass = rw (d.limit, d.x, d.y) refl

  same_checks : first_of (check_rows i.source i.options (length i.plane) (length i.palette)) ≡ first_of (earlier_checks i)
  unfolding check_rows earlier_checks
  same_checks =
      let dimensions = dimension_rows i.source.width i.source.height in
      let settings = settings_rows i.options.limit i.options.x_pels_per_meter i.options.y_pels_per_meter in
      let palettes = palette_rows (is_indexed i.source.format) i.source.has_palette (length i.palette) in
      let modes = mode_rows (is_some i.options.bitfields) (is_some i.options.calibrated_rgb) (profile_mode i.source.has_linked_icc i.source.has_icc i.options.embed_icc) in
      let masks = given_masks_rows i.source i.options in
      let planes = plane_rows i.source.width i.source.height i.source.stride (bytes_per_pixel i.source.format) (length i.plane) in
      behind (dimensions ++ settings ++ palettes ++ modes ++ masks) (dimensions ++ palettes ++ modes ++ masks) planes
      (behind (dimensions ++ settings ++ palettes ++ modes) (dimensions ++ palettes ++ modes) masks
      (behind (dimensions ++ settings ++ palettes) (dimensions ++ palettes) modes
      (behind (dimensions ++ settings) dimensions palettes (skipped dimensions settings settings_pass))))

  same_plan : first_of (plan_rows (limit_in i) i) ≡ first_of (earlier_plan i)
  unfolding plan_rows earlier_plan
  same_plan =
      ap (λ (n : ℕ). first_of (check_rows i.source i.options (length i.plane) (length i.palette) ++ ((file_too_large n i, FileTooLarge) ∷ []))) d.limit
      ∙ behind (check_rows i.source i.options (length i.plane) (length i.palette)) (earlier_checks i) ((file_too_large max_file i, FileTooLarge) ∷ []) same_checks

  same_write : (room offset : ℕ) → first_of (write_rows (limit_in i) i room offset) ≡ first_of (earlier_write i room offset)
  unfolding write_rows earlier_write
  same_write room offset =
      ap (λ (n : ℕ). first_of (plan_rows (limit_in i) i ++ ((buffer_too_short n i room offset, BufferTooShort) ∷ (stream_over_budget n i, StreamOverBudget) ∷ []))) d.limit
      ∙ behind (plan_rows (limit_in i) i) (earlier_plan i) ((buffer_too_short max_file i room offset, BufferTooShort) ∷ (stream_over_budget max_file i, StreamOverBudget) ∷ []) same_plan

  same_file : file_of (limit_in i) i ≡ earlier_file i
  unfolding file_of earlier_file
  same_file =
      λ z. head_of i (compression_of (d.limit z) i) (image_size_of (d.limit z) i) (of_z w32 (d.x z)) (of_z w32 (d.y z)) (file_size_of (d.limit z) i) ++ pixels (d.limit z) i ++ tail_of i

  -- every answer and every byte
  pub written_before : (offset : ℕ) (was later : List ℕ) (r : EncodeAnswer) → Written i offset was later r → WrittenBefore i offset was later r
  written_before offset was later r p =
      let rows = same_write (length was) offset in
      record {
        number = p.number ∙ ap check_number rows;
        bytes = p.bytes ∙ ap (λ (c : Check). bytes_for c i) rows ∙ bytes_same (first_of (earlier_write i (length was) offset));
        format = p.format ∙ ap (λ (c : Check). format_for c i) rows ∙ format_same (first_of (earlier_write i (length was) offset));
        buffer = p.buffer ∙ ap (λ (c : Check). later_for c i offset was) rows ∙ later_same (first_of (earlier_write i (length was) offset));
        shown = p.shown;
      }
    where
      bytes_same : (c : Check) → bytes_for c i ≡ earlier_bytes c i
      bytes_same (Ok passed) = ap (λ (n : ℕ). file_size_of n i) d.limit
      bytes_same (Err why) = refl

      format_same : (c : Check) → format_for c i ≡ earlier_format c i
      format_same (Ok passed) = ap (λ (n : ℕ). format_of n i ∷ []) d.limit
      format_same (Err why) = refl

      later_same : (c : Check) → later_for c i offset was ≡ earlier_later c i offset was
      later_same (Ok passed) = ap (put was offset) same_file
      later_same (Err why) = refl

  pub sized_before : (r : BoundAnswer) → Sized i r → SizedBefore i r
  sized_before r p =
      record {
        number = p.number ∙ ap check_number same_plan;
        bytes = p.bytes ∙ ap (λ (c : Check). bound_for c i) same_plan ∙ bound_same (first_of (earlier_plan i));
      }
    where
      bound_same : (c : Check) → bound_for c i ≡ earlier_bound c i
      bound_same (Ok passed) = ap (λ (n : ℕ). bound_of n i) d.limit
      bound_same (Err why) = refl
