-- Row starts and 24, by computation: of a stream, of stored rows in both orders, and 24 beside 15 and 16.
use mathlib.Core.Path.{◌≡◌, refl}
use mathlib.Core.Bool.{Bool, true, false}
use mathlib.Core.List.{List, [], ◌∷◌, ◌++◌, map}
use Prim.Native.Nat.{ℕ}
use lib.ListN.{replicate}
use Rattle.leaves.specs.declared.image.BmpPixelFormat.TheVariants.{Pal8}
use Rattle.leaves.specs.Lists.{cat, tab}
use Rattle.leaves.specs.Refusals.{first_number, dimension_rows, settings_rows, palette_rows, mode_rows, plane_rows}
use Rattle.leaves.specs.Sizes.{row_stride, palette_entry_count, written_palette_entries}
use Rattle.rows.specs.Packing.{packed}
use Rattle.rows.specs.RleCodes.{cells, scan, bytes, codes, row_codes}
use Rattle.rows.specs.StoredRows.{stored_row}
use Rattle.rows.specs.Stream.{stream_row, stream}
use Rattle.format.specs.Input.{Input}
use Rattle.format.specs.File.{stream_of, limit_in, budget, stream_used, plain_size_of, bound_of}
use Rattle.format.specs.Layout.{mode_of, tail_in, depth_of, pack_of, table_entries, head_rest, head_len, raw_len, wants_rle}
use Rattle.format.specs.Refusals.{file_too_large, buffer_too_short, stream_over_budget, given_masks_rows, check_rows, plan_rows, starts_rows}
use Rattle.format.specs.Starts.{pixel_row, row_start, starts_of}
use Rattle.format.proofs.ExampleInputs.{with_minimal, call, under, sevens}

-- three rows of five cells: 7 in all of them, and in the bottom row two other cells first
abbrev three_rows : Bool → Bool → Input
three_rows is_top_down rle =
    call (record { format = Pal8; width = 5; height = 3; stride = 5; has_palette = true; has_icc = false; has_linked_icc = false })
    (with_minimal is_top_down rle) (replicate 10 7 ++ (1 ∷ 2 ∷ 7 ∷ 7 ∷ 7 ∷ [])) [] [] []

-- ---- starts

pub record Begun : Type 0 where
  pub input : Input
  pub starts : List ℕ

abbrev pub begun : Input → List ℕ → Begun
begun input starts = record { input = input; starts = starts }

abbrev pub beginnings : List Begun
beginnings =
    -- M12: a head of 58 bytes, and one row behind it
    begun (sevens 5 5 5) (58 ∷ [])
    -- a stream: the bottom row's codes have 6 bytes and its end 2, the next row's 2 and 2
    ∷ begun (three_rows false true) (58 ∷ 66 ∷ 70 ∷ [])
    -- stored rows of 8 bytes, bottom-up and top-down
    ∷ begun (three_rows false false) (58 ∷ 66 ∷ 74 ∷ [])
    ∷ begun (three_rows true false) (58 ∷ 66 ∷ 74 ∷ [])
    ∷ []

pub beginnings_hold : map (λ (e : Begun). starts_of (limit_in e.input) e.input) beginnings ≡ map (λ (e : Begun). e.starts) beginnings
unfolding starts_of row_start pixel_row stream_used stream_of stream stream_row row_codes codes cells scan bytes budget raw_len depth_of pack_of head_len head_rest table_entries written_palette_entries palette_entry_count row_stride stored_row packed wants_rle mode_of cat tab
beginnings_hold = refl

-- ---- 24

-- a call into a buffer of `room` bytes from its start on, with a list of so many entries, and its number
pub record Listed : Type 0 where
  pub input : Input
  pub room : ℕ
  pub entries : ℕ
  pub number : ℕ

abbrev pub listed : Input → ℕ → ℕ → ℕ → Listed
listed input room entries number = record { input = input; room = room; entries = entries; number = number }

abbrev pub lists : List Listed
lists =
    -- as many entries as rows, more, one less and none; the bound is 94
    listed (three_rows false true) 94 3 0
    ∷ listed (three_rows false true) 94 4 0
    ∷ listed (three_rows false true) 94 2 24
    ∷ listed (three_rows false false) 94 0 24
    -- behind 15
    ∷ listed (three_rows false true) 93 0 15
    -- before 16, which needs 73 bytes of room
    ∷ listed (under 60 (sevens 5 5 5)) 72 0 15
    ∷ listed (under 60 (sevens 5 5 5)) 73 0 24
    ∷ listed (under 60 (sevens 5 5 5)) 73 1 16
    ∷ []

pub lists_hold : map (λ (e : Listed). first_number (starts_rows (limit_in e.input) e.input e.room 0 e.entries)) lists ≡ map (λ (e : Listed). e.number) lists
unfolding starts_rows plan_rows check_rows dimension_rows settings_rows palette_rows mode_rows given_masks_rows plane_rows file_too_large buffer_too_short stream_over_budget wants_rle mode_of tail_in stream_of stream stream_row row_codes codes cells scan bytes budget raw_len depth_of head_len head_rest table_entries written_palette_entries palette_entry_count row_stride cat bound_of plain_size_of
lists_hold = refl
