-- Document 01's whole table, of a call, with document 02's rows of the settings and of the row starts. A limit stands where document 01 has 4,294,967,295 (A.5: "The limit
-- replaces 4,294,967,295 in 14, 16 and the bound").
use Rattle.std.specs.Prelude.{ℕ, ◌-◌, Bool, not, cond, ◌&&◌, ◌||◌, List, [], ◌∷◌, ◌++◌, ltb, length, is_some}
use Rattle.leaves.specs.declared.error.Refusal.{Refusal}
use Rattle.leaves.specs.declared.error.Refusal.TheVariants.{MaskSource, FileTooLarge, BufferTooShort, StreamOverBudget, StartsTooShort}
use Rattle.format.specs.File.{rle_planned, stream_of, budget, plain_size_of, bound_of}
use Rattle.leaves.specs.Formats.{bytes_per_pixel, is_indexed, mask_source}
use Rattle.leaves.specs.Masks.{bitfields_rows}
use Rattle.leaves.specs.Refusals.{profile_mode, dimension_rows, settings_rows, palette_rows, mode_rows, plane_rows}
use Rattle.format.specs.Input.{Input}
use Rattle.leaves.specs.declared.encoder.EncodeSource.{EncodeSource}
use Rattle.leaves.specs.declared.options.EncodeOptions.{EncodeOptions}
use Rattle.leaves.specs.Options.{bitfields_in}

-- 14: "RLE not planned and file over 4,294,967,295"
unfoldable pub file_too_large : ℕ → Input → Bool
file_too_large limit i = not (rle_planned i) && ltb limit (plain_size_of i)

-- 15: "offset past the end, or fewer than bound bytes after it"
unfoldable pub buffer_too_short : ℕ → Input → ℕ → ℕ → Bool
buffer_too_short limit i room offset = ltb room offset || ltb (room - offset) (bound_of limit i)

-- 16: "RLE planned, plain file over 4,294,967,295, stream not under budget"
unfoldable pub stream_over_budget : ℕ → Input → Bool
stream_over_budget limit i = rle_planned i && ltb limit (plain_size_of i) && not (ltb (length (stream_of i)) (budget limit i))

-- "Masks, if given": 6 to 11
unfoldable pub given_masks_rows : EncodeSource → EncodeOptions → List (Bool × Refusal)
given_masks_rows s o =
    cond (is_some o.bitfields) (bitfields_rows (bitfields_in o).bpp (bitfields_in o).masks ++ ((mask_source s.format, MaskSource) ∷ [])) []

-- 1 to 13 with 20 and 21 "directly after 2": picture, settings, modes, masks and plane, of a plane and a palette of so many bytes
unfoldable pub check_rows : EncodeSource → EncodeOptions → ℕ → ℕ → List (Bool × Refusal)
check_rows s o plane_bytes palette_bytes =
    dimension_rows s.width s.height
    ++ settings_rows o.limit o.x_pels_per_meter o.y_pels_per_meter
    ++ palette_rows (is_indexed s.format) s.has_palette palette_bytes
    ++ mode_rows (is_some o.bitfields) (is_some o.calibrated_rgb) (profile_mode s.has_linked_icc s.has_icc o.embed_icc)
    ++ given_masks_rows s o
    ++ plane_rows s.width s.height s.stride (bytes_per_pixel s.format) plane_bytes

abbrev pub call_rows : Input → List (Bool × Refusal)
call_rows i = check_rows i.source i.options (length i.plane) (length i.palette)

-- 1 to 14 with 20 and 21, which the size query gives too
unfoldable pub plan_rows : ℕ → Input → List (Bool × Refusal)
plan_rows limit i = call_rows i ++ ((file_too_large limit i, FileTooLarge) ∷ [])

-- 1 to 16 with 20 and 21, of a buffer of `room` bytes
unfoldable pub write_rows : ℕ → Input → ℕ → ℕ → List (Bool × Refusal)
write_rows limit i room offset = plan_rows limit i ++ ((buffer_too_short limit i room offset, BufferTooShort) ∷ (stream_over_budget limit i, StreamOverBudget) ∷ [])

-- 24 (document 02, A.7): "list shorter than the height", of a list of so many entries
abbrev pub starts_too_short : Input → ℕ → Bool
starts_too_short i entries = ltb entries i.source.height

-- the same for the call that fills a list of row starts: 24 "in that call only .., directly after 15"
unfoldable pub starts_rows : ℕ → Input → ℕ → ℕ → ℕ → List (Bool × Refusal)
starts_rows limit i room offset entries =
    plan_rows limit i
    ++ ((buffer_too_short limit i room offset, BufferTooShort) ∷ (starts_too_short i entries, StartsTooShort) ∷ (stream_over_budget limit i, StreamOverBudget) ∷ [])
