-- Refusals of the writing call, by computation. They pin what the original does not have: the edges of 2, 4, 15, 20 and 21, what direct colour makes of a
-- palette, 14, 15 and 16 beside each other, and what a limit makes of them. The other numbers and their order are the original's (`reference`); a sample of each runs in `replay`.
use mathlib.Core.Path.{◌≡◌, refl}
use mathlib.Core.Bool.{true, false}
use mathlib.Core.List.{List, [], ◌∷◌, map}
use Prim.Native.Nat.{ℕ}
use lib.IntN.{pos, negsuc}
use lib.ListN.{replicate}
use Rattle.leaves.specs.declared.image.BmpPixelFormat.TheVariants.{Rgb24, Pal8}
use Rattle.leaves.specs.Lists.{cat}
use Rattle.leaves.specs.Options.{defaults}
use Rattle.leaves.specs.Refusals.{first_number, dimension_rows, settings_rows, palette_rows, mode_rows, plane_rows}
use Rattle.leaves.specs.Sizes.{row_stride, palette_entry_count, written_palette_entries}
use Rattle.rows.specs.RleCodes.{cells, scan, bytes, codes, row_codes}
use Rattle.rows.specs.Stream.{stream_row, stream}
use Rattle.format.specs.Input.{Input}
use Rattle.format.specs.File.{stream_of, limit_in, budget, plain_size_of, bound_of}
use Rattle.format.specs.Layout.{mode_of, tail_in, depth_of, table_entries, head_rest, head_len, raw_len, wants_rle}
use Rattle.format.specs.Refusals.{file_too_large, buffer_too_short, stream_over_budget, given_masks_rows, check_rows, plan_rows, write_rows}
use Rattle.format.proofs.ExampleInputs.{one_row, with_minimal, call, under, with_settings, sevens_with, sevens}

-- a call into a buffer of `room` bytes from `offset` on, and its number: 0 where it is accepted
pub record Answer : Type 0 where
  pub input : Input
  pub room : ℕ
  pub offset : ℕ
  pub number : ℕ

abbrev pub answer : Input → ℕ → ℕ → ℕ → Answer
answer input room offset number = record { input = input; room = room; offset = offset; number = number }

-- eight rows of one cell
abbrev column : Input
column =
    call (record { format = Pal8; width = 1; height = 8; stride = 1; has_palette = true; has_icc = false; has_linked_icc = false })
    (with_minimal false true) (replicate 8 7) [] [] []

abbrev pub answers : List Answer
answers =
    -- direct colour takes no palette: one of 3 bytes is not looked at, nor is an absent one's slice
    answer (call (one_row Rgb24 1 3 true false false) defaults (1 ∷ 2 ∷ 3 ∷ []) (1 ∷ 2 ∷ 3 ∷ []) [] []) 58 0 0
    ∷ answer (call (one_row Rgb24 1 3 false false false) defaults (1 ∷ 2 ∷ 3 ∷ []) (1 ∷ 2 ∷ 3 ∷ []) [] []) 58 0 0
    -- as many columns as a LONG can say, without a plane; one more
    ∷ answer (sevens 2147483647 2147483647 0) 100 0 12
    ∷ answer (sevens 2147483648 2147483648 0) 100 0 2
    -- indices with a palette of 3 bytes; of 6
    ∷ answer (call (one_row Pal8 1 1 true false false) defaults (7 ∷ []) (1 ∷ 2 ∷ 3 ∷ []) [] []) 2000 0 4
    ∷ answer (call (one_row Pal8 1 1 true false false) defaults (7 ∷ []) (1 ∷ 2 ∷ 3 ∷ 4 ∷ 5 ∷ 6 ∷ []) [] []) 2000 0 4
    -- M12's call has a bound of 78: enough room; one byte less; the same by the offset; an offset one past the end
    ∷ answer (sevens 5 5 5) 78 0 0
    ∷ answer (sevens 5 5 5) 77 0 15
    ∷ answer (sevens 5 5 5) 78 1 15
    ∷ answer (sevens 5 5 5) 78 79 15
    -- a limit of 60, where the plain file has 66 bytes, the budget is 3, the stream has 4 and the bound is 73: without RLE; an empty buffer; enough room
    ∷ answer (under 60 (sevens_with false 5 5 5)) 0 0 14
    ∷ answer (under 60 (sevens 5 5 5)) 0 0 15
    ∷ answer (under 60 (sevens 5 5 5)) 73 0 16
    -- the same of eight rows of one cell, where the raw bytes, 32, do not count: budget 3, bound 65
    ∷ answer (under 60 column) 65 0 16
    ∷ answer (under 60 column) 64 0 15
    -- the plain file's own bytes as the limit; one less
    ∷ answer (under 66 (sevens_with false 5 5 5)) 66 0 0
    ∷ answer (under 65 (sevens_with false 5 5 5)) 66 0 14
    -- those of the file with a stream, 62, which the plain file exceeds: budget 5, bound 75; one less
    ∷ answer (under 62 (sevens 5 5 5)) 75 0 0
    ∷ answer (under 61 (sevens 5 5 5)) 75 0 16
    -- the head's own bytes, 58; one less, and none at all: the budget is 1, 0 and 0, the bound 71, 70 and 70
    ∷ answer (under 58 (sevens 5 5 5)) 71 0 16
    ∷ answer (under 58 (sevens 5 5 5)) 70 0 15
    ∷ answer (under 57 (sevens 5 5 5)) 70 0 16
    ∷ answer (under 57 (sevens 5 5 5)) 69 0 15
    ∷ answer (under 0 (sevens 5 5 5)) 70 0 16
    ∷ answer (under 0 (sevens 5 5 5)) 69 0 15
    ∷ answer (under 0 (sevens_with false 5 5 5)) 100 0 14
    -- the largest limit; one more, also beside a negative resolution, beside 3, and behind 1 and 2
    ∷ answer (under 4294967295 (sevens 5 5 5)) 78 0 0
    ∷ answer (under 4294967296 (sevens 5 5 5)) 78 0 20
    ∷ answer (with_settings 4294967296 (negsuc 0) (negsuc 0) (sevens 5 5 5)) 78 0 20
    ∷ answer (under 4294967296 (call (one_row Pal8 1 1 false false false) defaults (7 ∷ []) [] [] [])) 2000 0 20
    ∷ answer (under 4294967296 (sevens 0 5 5)) 78 0 1
    ∷ answer (under 4294967296 (sevens 2147483648 5 5)) 78 0 2
    -- no pixel a metre, and as many as a LONG can say; a negative one of either, also beside 3 and behind 2
    ∷ answer (with_settings 62 (pos 0) (pos 2147483647) (sevens 5 5 5)) 75 0 0
    ∷ answer (with_settings 62 (negsuc 0) (pos 2835) (sevens 5 5 5)) 75 0 21
    ∷ answer (with_settings 62 (pos 2835) (negsuc 2147483647) (sevens 5 5 5)) 75 0 21
    ∷ answer (with_settings 62 (pos 2835) (negsuc 0) (call (one_row Pal8 1 1 false false false) defaults (7 ∷ []) [] [] [])) 2000 0 21
    ∷ answer (with_settings 62 (negsuc 0) (pos 2835) (sevens 2147483648 5 5)) 78 0 2
    ∷ []

-- each is answered so
pub answers_hold : map (λ (e : Answer). first_number (write_rows (limit_in e.input) e.input e.room e.offset)) answers ≡ map (λ (e : Answer). e.number) answers
unfolding write_rows plan_rows check_rows dimension_rows settings_rows palette_rows mode_rows given_masks_rows plane_rows file_too_large buffer_too_short stream_over_budget wants_rle mode_of tail_in stream_of stream stream_row row_codes codes cells scan bytes budget raw_len depth_of head_len head_rest table_entries written_palette_entries palette_entry_count row_stride cat bound_of plain_size_of
answers_hold = refl
