-- The reader beside the newer reader of demand 3, and beside the writer: what was written is read back.
use mathlib.Core.Path.{◌≡◌, refl, sym, ap, ◌∙◌, subst}
use mathlib.Core.Logic.{◌⊎◌, inl, inr}
use mathlib.Core.Bool.{Bool, true, false, true≢false, not, cond, ◌&&◌, ◌||◌}
use mathlib.Core.List.{List, [], ◌∷◌, ◌++◌}
use Prim.Native.Nat.{ℕ, ◌+◌, ◌-◌, ◌*◌, ◌≤◌, ◌<◌, max}
use native.Mathlib.Nat.{mul_comm}
use native.Mathlib.Omega.{arith}
use borrow.Author.Tests.{le-ltb, eqb-true, eqb-false}
use lib.Dec.{ltb, eqb}
use lib.ListN.{length, get_or, take, drop}
use lib.Seq.{drop_at, take_at, drop-drop}
use Rattle.std.proofs.Common.{Ok, is_some}
use Rattle.leaves.specs.declared.error.Refusal.TheVariants.{MaskSource, FileTooLarge, BufferTooShort, StreamOverBudget}
use Rattle.leaves.specs.Formats.{bytes_per_pixel, bits_per_pixel, is_indexed, mask_source}
use Rattle.leaves.specs.Masks.{bitfields_rows}
use Rattle.leaves.specs.Put.{put}
use Rattle.leaves.specs.Refusals.{first_of, profile_mode, dimension_rows, settings_rows, palette_rows, mode_rows, plane_rows}
use Rattle.leaves.specs.Sizes.{row_stride}
use Rattle.leaves.specs.Options.{bitfields_in, calibrated_in}
use Rattle.format.specs.Accepted.{Accepted}
use Rattle.format.specs.Decode.{Decoded, filled, refused, decode}
use Rattle.format.specs.Expectation.{expected}
use Rattle.format.specs.File.{mode_in, depth_in, raw_bytes, entries_of, head_bytes_of, tail_of, limit_in, stream_used, pixels, colour_table, compression_of, file_size_of, file_of}
use Rattle.format.specs.Input.{Input}
use Rattle.format.specs.Layout.{rows_compression, head_rest, header_size_of, raw_len}
use Rattle.format.specs.Readers.{Fields, fields_of, newer, shows, refuses, shown_height, table_count, row_length, head_needs, streamed, body, read}
use Rattle.format.specs.Refusals.{file_too_large, buffer_too_short, stream_over_budget, given_masks_rows, check_rows, call_rows, plan_rows, write_rows}
use Rattle.format.specs.Shown.{Shown, Cause}
use Rattle.format.proofs.Acceptance.{accepted}
use Rattle.format.proofs.HeadFields.{fields_read, file_parts, first_part, rest_part, first-length, rest_length, table_length}
use Rattle.format.proofs.HeadTable.{count-read, header_fills, entry_plain}
use Rattle.format.proofs.HeadWhole.{head_long, first_there}
use Rattle.format.proofs.Opening.{newer_opens}
use Rattle.format.proofs.Passing.{first_parts}
use Rattle.format.proofs.Pictures.{height_shown_lem, some_cell}
use Rattle.format.proofs.PlainCells.{length_row}
use Rattle.format.proofs.Readings.{demand3}
use Rattle.reader.specs.Answers.{ReadAnswer, Shows, Outcome, Read}
use Rattle.reader.specs.Numbers.{numbers_of, head_in, table_in, profile_in, profile_at_of, profile_bytes_of, table_bytes_of}
use Rattle.reader.specs.Numbers as numbers
use Rattle.reader.specs.Refusals.{is_coded, never_written, header_outside, masks_outside, rows_outside, outside_file, buffers_too_short, stops, stream_fails}
use Rattle.cells.specs.Streams.{is_refused}
use Rattle.reader.proofs.Calls.{opened_bytes, number_none}
use Rattle.cells.proofs.Loops.{no_elements}
use Rattle.reader.proofs.Opens.{shown_of, newer_shown}
use Rattle.reader.proofs.Stops.{stops_refused}
use Rattle.reader.proofs.Written.{never_applies}
use Rattle.reader.proofs.WrittenProfile.{profile_whole, profile_read, plain_size}

-- ---- beside the newer reader, of any bytes

module _ (file : List ℕ) (bytes : (k : ℕ) → get_or file k 0 < 256) where
  -- 17 to 19 do not apply: it shows
  pub none_applies : never_written file ≡ false → outside_file file ≡ false → stream_fails file ≡ false → read newer file ≡ shows (shown_of file (fields_of file))
  none_applies never outside fails = newer_shown file (fields_of file) (opened_bytes file bytes never outside) fails

  not_both : {s : Shown} {cause : Cause} → shows s ≡ refuses cause → ⊥
  not_both e = let z : ◌≡◌ {A = ℕ} 0 1 = cc in omega arith

  -- it refuses: 17, 18 or 19 applies
  pub one_applies : (cause : Cause) → read newer file ≡ refuses cause → (never_written file ≡ true) ⊎ ((outside_file file ≡ true) ⊎ (stream_fails file ≡ true))
  one_applies cause e = go (never_written file) (outside_file file) (stream_fails file) refl refl refl
    where
      go : (a b c : Bool) → never_written file ≡ a → outside_file file ≡ b → stream_fails file ≡ c → (a ≡ true) ⊎ ((b ≡ true) ⊎ (c ≡ true))
      go true b c p q r = inl refl
      go false true c p q r = inr (inl refl)
      go false false true p q r = inr (inr refl)
      go false false false p q r = absurd (not_both (sym (none_applies p q r) ∙ e))

-- ---- beside the writer

-- a call that the writer accepts
pub record Call (i : Input) : Type 0 where
  pub room : ℕ
  pub offset : ℕ
  pub plane_bytes_is : (k : ℕ) → get_or i.plane k 0 < 256
  pub palette_bytes_is : (k : ℕ) → get_or i.palette k 0 < 256
  pub icc_bytes : (k : ℕ) → get_or i.icc k 0 < 256
  pub linked_bytes : (k : ℕ) → get_or i.linked k 0 < 256
  pub nine_endpoints : length (calibrated_in i.options).endpoints ≡ 9
  pub three_gammas : length (calibrated_in i.options).gamma ≡ 3
  pub passes : first_of (write_rows (limit_in i) i room offset) ≡ Ok tt

pub call_accepted : (i : Input) → Call i → Accepted i
call_accepted i c = accepted i c.room c.offset c.plane_bytes_is c.palette_bytes_is c.nine_endpoints c.three_gammas c.passes

-- its masks pass their check
masks_pass : (i : Input) → Call i → is_some i.options.bitfields ≡ true → first_of (bitfields_rows (bitfields_in i.options).bpp (bitfields_in i.options).masks) ≡ Ok tt
unfolding write_rows plan_rows check_rows given_masks_rows
masks_pass i c m =
    let plan = (first_parts (plan_rows (limit_in i) i) ((buffer_too_short (limit_in i) i c.room c.offset, BufferTooShort) ∷ (stream_over_budget (limit_in i) i, StreamOverBudget) ∷ []) c.passes).0 in
    let call = (first_parts (call_rows i) ((file_too_large (limit_in i) i, FileTooLarge) ∷ []) plan).0 in
    let s = i.source in
    let o = i.options in
    let size = dimension_rows s.width s.height in
    let settings = settings_rows o.limit o.x_pels_per_meter o.y_pels_per_meter in
    let colours = palette_rows (is_indexed s.format) s.has_palette (length i.palette) in
    let modes = mode_rows (is_some o.bitfields) (is_some o.calibrated_rgb) (profile_mode s.has_linked_icc s.has_icc o.embed_icc) in
    let plane = plane_rows s.width s.height s.stride (bytes_per_pixel s.format) (length i.plane) in
    let upto = (first_parts (size ++ settings ++ colours ++ modes ++ given_masks_rows s o) plane call).0 in
    let given = (first_parts (size ++ settings ++ colours ++ modes) (given_masks_rows s o) upto).1 in
    (first_parts (bitfields_rows (bitfields_in o).bpp (bitfields_in o).masks) ((mask_source s.format, MaskSource) ∷ [])
    (subst (λ (b : Bool). first_of (cond b (bitfields_rows (bitfields_in o).bpp (bitfields_in o).masks ++ ((mask_source s.format, MaskSource) ∷ [])) []) ≡ Ok tt) m given)).0

-- a stream that is shown was read
decoded : (file : List ℕ) (t : Fields) (d : Decoded) (s : Shown) → streamed file t d ≡ shows s → is_refused d ≡ false
unfolding streamed
decoded file t (filled cells taken) s e = refl
decoded file t (refused cause) s e = let z : ◌≡◌ {A = ℕ} 0 1 = cc in absurd (omega arith)

-- a compression that is no stream's
unstreamed : (i : Input) → is_coded (compression_of (limit_in i) i) ≡ false → stream_used (limit_in i) i ≡ false
unfolding compression_of
unstreamed i e = go (stream_used (limit_in i) i) e
  where
    go : (b : Bool) → is_coded (cond b (cond (eqb (bits_per_pixel i.source.format) 8) 1 2) (rows_compression i.source i.options)) ≡ false → b ≡ false
    go true q = absurd (true≢false (sym (one (eqb (bits_per_pixel i.source.format) 8)) ∙ q))
      where
        one : (c : Bool) → is_coded (cond c 1 2) ≡ true
        one true = refl
        one false = refl
    go false q = refl

raw_is : (i : Input) → i.source.height * row_length i.source.width (depth_in i) ≡ raw_bytes i
unfolding raw_len
raw_is i = ap (λ (n : ℕ). i.source.height * n) (length_row (depth_in i) i.source.width) ∙ mul_comm i.source.height (row_stride i.source.width (depth_in i))

module _ (i : Input) (call : Call i) where
  abbrev file : List ℕ
  file = file_of (limit_in i) i

  a : Accepted i
  a = call_accepted i call

  pub shown_height_lem : shown_height (fields_of file) ≡ i.source.height
  shown_height_lem = height_shown_lem (fields_of file) i.options.top_down i.source.height a.some_height a.tall (ap (λ (t : Fields). t.height) (fields_read i a))

  -- 17 does not apply
  pub never_written_lem : never_written file ≡ false
  never_written_lem = never_applies i a (masks_pass i call)

  needs : head_needs (fields_of file) ≤ length file
  needs = head_long i a

  table_whole : numbers.head_bytes_of (fields_of file) + table_bytes_of (fields_of file) ≤ length file
  unfolding head_needs
  table_whole = omega (arith, needs)

  masks_whole : masks_outside (length file) (fields_of file) ≡ false
  unfolding head_needs
  masks_whole = go (eqb (fields_of file).compression 3) (eqb (fields_of file).compression 6) needs
    where
      go : (b c : Bool) → max (14 + (fields_of file).header_size_of + table_count (fields_of file) * 4) (cond c 70 (cond b 66 54)) ≤ length file → ((b || c) && ltb (length file) (cond c 70 66)) ≡ false
      go true true h = le-ltb (length file) 70 (omega (arith, h))
      go true false h = le-ltb (length file) 66 (omega (arith, h))
      go false true h = le-ltb (length file) 70 (omega (arith, h))
      go false false h = refl

  rows_whole : rows_outside (length file) (fields_of file) ≡ false
  rows_whole = go (is_coded (fields_of file).compression) refl
    where
      go : (b : Bool) → is_coded (fields_of file).compression ≡ b → (not b && ltb (length file) ((fields_of file).offset + shown_height (fields_of file) * row_length (fields_of file).width (fields_of file).depth)) ≡ false
      go true e = refl
      go false e =
          let plain = plain_size i a (unstreamed i (sym (ap (λ (t : Fields). is_coded t.compression) (fields_read i a)) ∙ e)) in
          let raw : shown_height (fields_of file) * row_length (fields_of file).width (fields_of file).depth ≡ raw_bytes i
          = (λ z. shown_height_lem z * row_length (fields_read i a z).width (fields_read i a z).depth) ∙ raw_is i in
          let offset : (fields_of file).offset ≡ head_bytes_of i = ap (λ (t : Fields). t.offset) (fields_read i a) in
          le-ltb (length file) _ (omega (arith, plain, raw, offset))

  -- 18 does not apply
  pub outside_none : outside_file file ≡ false
  unfolding outside_file
  outside_none =
      let header : header_outside (length file) (fields_of file) ≡ false
      = rw (le-ltb (length file) 54 (first_there i), le-ltb (length file) (numbers.head_bytes_of (fields_of file)) (omega (arith, table_whole))) in
      rw (
        header,
        masks_whole,
        le-ltb (length file) (numbers.head_bytes_of (fields_of file) + table_bytes_of (fields_of file)) table_whole,
        rows_whole,
        le-ltb (length file) (profile_at_of file + profile_bytes_of file) (profile_whole i a),
      )

  -- 19 does not apply: the newer reader shows the file
  fails_none : stream_fails file ≡ false
  unfolding stream_fails body
  fails_none = go (is_coded (fields_of file).compression) refl
    where
      go : (b : Bool) → is_coded (fields_of file).compression ≡ b
          → (b && stops (fields_of file).depth (fields_of file).width (shown_height (fields_of file) - 1) (fields_of file).width (drop (fields_of file).offset file) 0) ≡ false
      go false e = refl
      go true e =
          let some = some_cell (fields_of file) i.source.width i.source.height a.some_width a.some_height (ap (λ (t : Fields). t.width) (fields_read i a)) shown_height_lem in
          let shown : body file (fields_of file) ≡ shows (expected i) = sym (newer_opens i a) ∙ (demand3 i a).newer_shows in
          stops_refused (fields_of file).depth (fields_of file).width (shown_height (fields_of file) - 1) (drop (fields_of file).offset file)
          ∙ decoded file (fields_of file) (decode (fields_of file).depth (fields_of file).width (drop (fields_of file).offset file) (shown_height (fields_of file) - 1)) (expected i) (sym (rw (some, e)) ∙ shown)

  -- ---- the table

  count_is : table_count (fields_of file) ≡ entries_of i
  count_is = count-read i a

  table_here : 0 < entries_of i → drop (numbers.head_bytes_of (fields_of file)) file ≡ colour_table i ++ (pixels (limit_in i) i ++ tail_of i)
  table_here h =
      let first = first_part i (file_size_of (limit_in i) i) in
      let n : ℕ = length (head_rest (mode_in i) i.source i.options 0 0) in
      let size : (fields_of file).header_size_of ≡ header_size_of (mode_in i) i.source.format = ap (λ (t : Fields). t.header_size_of) (fields_read i a) in
      let fills = header_fills i.source i.options a.nine_endpoints a.three_gammas (mode_in i) (entry_plain i a 0 h) in
      let place : numbers.head_bytes_of (fields_of file) ≡ 54 + n = omega (arith, size, fills) in
      let more = colour_table i ++ (pixels (limit_in i) i ++ tail_of i) in
      ap (λ (k : ℕ). drop k file) place
      ∙ ap (drop (54 + n)) (file_parts i)
      ∙ sym (drop-drop n 54 (first ++ (rest_part i ++ more)))
      ∙ ap (drop n) (drop_at first (rest_part i ++ more) 54 (first-length i (file_size_of (limit_in i) i)))
      ∙ drop_at (rest_part i) more n (rest_length (mode_in i) i.source i.options (length (tail_of i)) (head_bytes_of i - 14 + raw_bytes i))

  pub table_read : table_in file ≡ colour_table i
  unfolding table_in
  table_read = go (eqb (entries_of i) 0) refl
    where
      go : (b : Bool) → eqb (entries_of i) 0 ≡ b → take (table_bytes_of (fields_of file)) (drop (numbers.head_bytes_of (fields_of file)) file) ≡ colour_table i
      go true e =
          let z = eqb-true (entries_of i) 0 e in
          let k : table_bytes_of (fields_of file) ≡ 0 = omega (arith, count_is, z) in
          rw k (no_elements (colour_table i) (omega (arith, table_length i, z)))
      go false e =
          let z = eqb-false (entries_of i) 0 e in
          let some : 0 < entries_of i = omega (arith, z) in
          let k : table_bytes_of (fields_of file) ≡ length (colour_table i) = omega (arith, count_is, table_length i) in
          rw (k, table_here some) (take_at (colour_table i) (pixels (limit_in i) i ++ tail_of i) (length (colour_table i)) refl)

  -- ---- the theorem

  -- what a reading of the file answers and fills in
  pub record Back (head table cells later_head later_table later_cells : List ℕ) (r : ReadAnswer) : Type 0 where
    pub refusal : r.refusal ≡ 0
    pub width : r.width ≡ i.source.width
    pub height : r.height ≡ i.source.height
    pub depth : r.depth ≡ depth_in i
    -- the file's first bytes
    pub head_back : later_head ≡ put head 0 (take (14 + header_size_of (mode_in i) i.source.format) file)
    pub table_back : later_table ≡ put table 0 (colour_table i)
    -- the cells handed in, cut or fitted
    pub cells_back : later_cells ≡ put cells 0 (numbers_of (expected i).rows)
    -- the profile that was lent
    pub profile_back : take r.profile_bytes (drop r.profile_at file) ≡ tail_of i

  shown_is : (s t : Shown) → shows s ≡ shows t → s ≡ t
  shown_is s t e = cc

  finish : (head table cells lh lt lc : List ℕ) (r : ReadAnswer) → r.refusal ≡ 0 → Shows file head table cells lh lt lc r → Back head table cells lh lt lc r
  unfolding head_in profile_in expected
  finish head table cells lh lt lc r none s =
      let same : s.shown ≡ expected i = shown_is s.shown (expected i) (sym s.newer_shows ∙ (demand3 i a).newer_shows) in
      record {
        refusal = none;
        width = s.width ∙ ap (λ (x : Shown). x.width) same;
        height = s.height ∙ ap (λ (x : Shown). x.height) same;
        depth = s.depth ∙ ap (λ (t : Fields). t.depth) (fields_read i a);
        head_back = s.head_filled ∙ ap (λ (t : Fields). put head 0 (take (14 + t.header_size_of) file)) (fields_read i a);
        table_back = s.table_filled ∙ ap (put table 0) table_read;
        cells_back = s.cells_filled ∙ ap (λ (x : Shown). put cells 0 (numbers_of x.rows)) same;
        profile_back = (λ z. take (s.profile_bytes_is z) (drop (s.profile_at_is z) file)) ∙ profile_read i a;
      }

  pub read_back : (head table cells later_head later_table later_cells : List ℕ) (r : ReadAnswer) → buffers_too_short (fields_of file) (length head) (length table) (length cells) ≡ false
      → Read file head table cells later_head later_table later_cells r → Back head table cells later_head later_table later_cells r
  read_back head table cells lh lt lc r long p =
      let none : r.refusal ≡ 0 = p.number ∙ sym (number_none file (length head) (length table) (length cells) never_written_lem outside_none long fails_none) in
      finish head table cells lh lt lc r none (subst (λ (n : ℕ). Outcome n file head table cells lh lt lc r) none p.outcome)
