-- What the planner's own functions answer. Their contracts cite these; the promises of the two calls (Answers) do not.
use Rattle.std.specs.Prelude.{ℕ, ◌+◌, ◌-◌, ◌*◌, ◌≤◌, min, max, ◌≡◌, Bool, true, not, cond, ◌&&◌, List, [], ◌∷◌, ◌++◌, ltb, leb, length, Ok, Err, Some, is_some}
use Rattle.std.specs.Int.{w32}
use Rattle.std.proofs.Common.{of_z}
use Rattle.leaves.specs.declared.encoder.EncodeSource.{EncodeSource}
use Rattle.leaves.specs.declared.error.Refusal.{Refusal}
use Rattle.leaves.specs.declared.error.Refusal.TheVariants.{FileTooLarge, BufferTooShort, StreamOverBudget, StartsTooShort}
use Rattle.leaves.specs.declared.options.EncodeOptions.{EncodeOptions}
use Rattle.leaves.specs.Formats.{is_rgb565}
use Rattle.leaves.specs.Lists.{cat}
use Rattle.leaves.specs.Refusals.{first_of, first_number, Check}
use Rattle.leaves.specs.Sizes.{clr_used_of}
use Rattle.leaves.specs.Options.{bitfields_in}
use Rattle.format.specs.Accepted.{Accepted}
use Rattle.format.specs.declared.layout.Layout.{Layout}
use Rattle.format.specs.declared.layout.Mode.{Mode}
use Rattle.format.specs.declared.layout.Mode.TheVariants.{Masked, Calibrated, Profiled, Plain}
use Rattle.format.specs.File.{raw_bytes, head_bytes_of, tail_of, rle_planned, stream_of, limit_in, stream_used, file_size_of, format_of, table_entry}
use Rattle.format.specs.Headers.{file_header, info_header}
use Rattle.format.specs.Input.{Input}
use Rattle.format.specs.Layout.{mask_tail, head_rest, head_len, raw_len, wants_rle, layout_of}
use Rattle.format.specs.Refusals.{buffer_too_short, stream_over_budget, check_rows, plan_rows}
use Rattle.format.specs.Starts.{row_start}
use Rattle.rows.specs.declared.rle.Rle.{Rle}
use Rattle.rows.specs.Starts.{noted}
use Rattle.planner.specs.declared.encoder.Encoded.{Encoded}
use Rattle.planner.specs.declared.heads.FirstFields.{FirstFields}
use Rattle.planner.specs.declared.plan.Sizes.{Sizes}
use Rattle.planner.specs.Answers.{EncodeAnswer, PlanAnswer, later_for, plan_number, plan_bound, plan_layout, plan_sizes}

-- ---- the plan

-- the byte counts of a file of at most `limit` bytes: of head, raw bytes, the profile's bytes, whether RLE is planned, and the width
unfoldable pub sizes_by : ℕ → ℕ → ℕ → ℕ → Bool → ℕ → Sizes
sizes_by limit head raw tail rle width =
    record {
      head = head;
      raw = raw;
      file = head + raw + tail;
      file_fits = leb (head + raw + tail) limit;
      rle_budget = min raw (limit + 1 - head);
      bound = cond rle (head + max (min raw (limit + 1 - head) + 2 * width + 2) (cond (leb (head + raw + tail) limit) raw 0)) (head + raw + tail);
    }

-- layout and sizes, or the cause
abbrev pub plan_by : Check → Layout → Sizes → PlanAnswer
plan_by (Ok passed) layout sizes = Ok (record { layout = layout; sizes = sizes })
plan_by (Err why) layout sizes = Err why

-- 14 decides
unfoldable pub sizes_plan : ℕ → Layout → ℕ → ℕ → ℕ → ℕ → PlanAnswer
sizes_plan limit layout head raw tail width =
    plan_by (first_of ((not (is_some layout.coding) && ltb limit (head + raw + tail), FileTooLarge) ∷ [])) layout (sizes_by limit head raw tail (is_some layout.coding) width)

-- 1 to 14, of a plane, a palette and a profile of so many bytes
unfoldable pub length_rows : ℕ → EncodeSource → EncodeOptions → ℕ → ℕ → ℕ → List (Bool × Refusal)
length_rows limit s o plane_bytes palette_bytes profile_bytes_of =
    check_rows s o plane_bytes palette_bytes ++ ((not (wants_rle s o) && ltb limit (head_len s o palette_bytes + raw_len s o + profile_bytes_of), FileTooLarge) ∷ [])

-- what a check lets pass, as a list of one, and as a number or 0
abbrev pub passing : {A : Type 0} → Check → A → List A
passing (Ok passed) a = a ∷ []
passing (Err why) a = []

abbrev pub or_zero : Check → ℕ → ℕ
or_zero (Ok passed) n = n
or_zero (Err why) n = 0

-- the promise of the plan
pub record PlannedBy (s : EncodeSource) (o : EncodeOptions) (plane_bytes palette_bytes profile_bytes_of : ℕ) (answer : PlanAnswer) : Type 0 where
  -- the first of 1 to 14 that applies, or 0
  pub number : plan_number answer ≡ first_number (length_rows o.limit s o plane_bytes palette_bytes profile_bytes_of)
  pub bound : plan_bound answer ≡ or_zero (first_of (length_rows o.limit s o plane_bytes palette_bytes profile_bytes_of)) (sizes_by o.limit (head_len s o palette_bytes) (raw_len s o) profile_bytes_of (wants_rle s o) s.width).bound
  pub layout : plan_layout answer ≡ passing (first_of (length_rows o.limit s o plane_bytes palette_bytes profile_bytes_of)) (layout_of s o palette_bytes)
  pub sizes : plan_sizes answer ≡ passing (first_of (length_rows o.limit s o plane_bytes palette_bytes profile_bytes_of)) (sizes_by o.limit (head_len s o palette_bytes) (raw_len s o) profile_bytes_of (wants_rle s o) s.width)

-- a call's layout and sizes
abbrev pub layout_in : Input → Layout
layout_in i = layout_of i.source i.options (length i.palette)

abbrev pub sizes_of : Input → Sizes
sizes_of i = sizes_by (limit_in i) (head_bytes_of i) (raw_bytes i) (length (tail_of i)) (rle_planned i) i.source.width

-- what is known of a call whose plan is ready
pub record Planned (i : Input) (layout : Layout) (sizes : Sizes) : Type 0 where
  pub passed : first_of (plan_rows (limit_in i) i) ≡ Ok tt
  pub layout_is : layout ≡ layout_in i
  pub sizes_are : sizes ≡ sizes_of i

-- and of one whose stream is under the budget: its coding and its length
pub record Streamed (i : Input) (layout : Layout) (sizes : Sizes) (rle : Rle) (len : ℕ) : Type 0 where
  pub planned : Planned i layout sizes
  pub coded : layout.coding ≡ Some rle
  pub used : stream_used (limit_in i) i ≡ true
  pub long : len ≡ length (stream_of i)

-- ---- the head

-- the file header and the first 40 bytes of the info header
unfoldable pub first_fields : FirstFields → List ℕ
first_fields h =
    file_header h.file_size h.pixel_offset
    ++ info_header h.header_size h.width h.stored_height h.bit_count h.compression h.image_size h.x_pels h.y_pels h.clr_used

-- bytes between them and the colour table
abbrev pub rest_len : Mode → EncodeSource → EncodeOptions → ℕ
rest_len Masked s o = length (mask_tail (bitfields_in o).masks)
rest_len Calibrated s o = 68
rest_len Profiled s o = 84
rest_len Plain s o = cond (is_rgb565 s.format) 68 0

-- all bytes before the pixels, of a layout, a head of so many bytes, compression, image size, file size, and the profile's size and place
unfoldable pub head_by : Layout → EncodeSource → EncodeOptions → List ℕ → ℕ → ℕ → ℕ → ℕ → ℕ → ℕ → List ℕ
head_by layout s o palette head compression image_size_of file_size_of profile_size profile_data =
    first_fields (record {
      file_size = file_size_of;
      pixel_offset = head;
      header_size = layout.header_size;
      width = s.width;
      stored_height = cond o.top_down (4294967296 - s.height) s.height;
      bit_count = layout.bit_count;
      compression = compression;
      image_size = image_size_of;
      x_pels = of_z w32 o.x_pels_per_meter;
      y_pels = of_z w32 o.y_pels_per_meter;
      clr_used = clr_used_of layout.bit_count layout.entries;
    })
    ++ head_rest layout.mode s o profile_size profile_data
    ++ cat (table_entry palette) layout.entries

-- ---- the call

-- what is said of a call's file
abbrev pub encoded_in : Input → Encoded
encoded_in i = record { format = format_of (limit_in i) i; bytes = file_size_of (limit_in i) i }

-- the answer of a check
abbrev pub encoded_for : Check → Input → EncodeAnswer
encoded_for (Ok passed) i = Ok (encoded_in i)
encoded_for (Err why) i = Err why

-- 16, the last of the table
abbrev pub stream_check : Input → Check
stream_check i = first_of ((stream_over_budget (limit_in i) i, StreamOverBudget) ∷ [])

-- ---- both writing calls

-- The table of a call whose list of row starts must have `needed` entries: as many as the height in the call that fills one, and none in the other, which
-- has no 24 then.
unfoldable pub list_rows : ℕ → Input → ℕ → ℕ → ℕ → ℕ → List (Bool × Refusal)
list_rows limit i room offset entries needed =
    plan_rows limit i
    ++ ((buffer_too_short limit i room offset, BufferTooShort) ∷ (ltb entries needed, StartsTooShort) ∷ (stream_over_budget limit i, StreamOverBudget) ∷ [])

-- the list once the rows are written: as many starts as it has entries for
abbrev pub noted_for : Check → Input → List ℕ → List ℕ
noted_for (Ok passed) i was = noted (row_start (limit_in i) i) was i.source.height
noted_for (Err why) i was = was

-- what both stand on
pub record Wrote (decides : Check) (i : Input) (offset : ℕ) (was later starts later_starts : List ℕ) (answer : EncodeAnswer) : Type 0 where
  pub answers : answer ≡ encoded_for decides i
  pub buffer : later ≡ later_for decides i offset was
  pub list : later_starts ≡ noted_for decides i starts
  pub inside : decides ≡ Ok tt → offset ≤ length was
  pub accepted : decides ≡ Ok tt → Accepted i
