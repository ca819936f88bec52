-- The reading of one row beside the writer: what was written is read back, row by row, from the starts.
use mathlib.Core.Path.{◌≡◌, refl, sym, ap, ◌∙◌, subst}
use mathlib.Core.Bool.{Bool, true, false, not, ◌&&◌}
use mathlib.Core.List.{List, []}
use Prim.Native.Nat.{ℕ, ◌+◌, ◌*◌, ◌<◌}
use native.Mathlib.Nat.{suc-mul, mul-le-mul_right}
use native.Mathlib.Omega.{arith}
use borrow.Author.Tests.{le-ltb, ne_eqb}
use lib.Dec.{ltb}
use lib.ListN.{length, get_or, drop}
use Rattle.leaves.specs.Put.{put}
use Rattle.rows.specs.StoredRows.{row_of}
use Rattle.format.specs.Accepted.{Accepted}
use Rattle.format.specs.Decode.{Decoded, filled, refused, read_row}
use Rattle.format.specs.Expectation.{expected}
use Rattle.format.specs.File.{limit_in, file_of}
use Rattle.format.specs.Input.{Input}
use Rattle.format.specs.OneRow.{shows_row, coded_row, row_body, read_one_row}
use Rattle.format.specs.Readers.{Fields, fields_of, newer, shown_height, row_length}
use Rattle.format.specs.Shown.{Cell}
use Rattle.format.specs.Starts.{row_start}
use Rattle.format.proofs.FileLaws.{file_bytes}
use Rattle.format.proofs.OneRowLaws.{start_in}
use Rattle.format.proofs.RowStarts.{start_read, row_shown}
use Rattle.cells.specs.Streams.{is_refused}
use Rattle.reader.specs.Numbers.{row_numbers}
use Rattle.reader.specs.OneRow.{row_outside, head_or_row_outside, numbers_too_many, row_fails, ShowsRow, RowOutcome, ReadRow}
use Rattle.reader.specs.Refusals.{is_coded}
use Rattle.reader.proofs.Calls.{opened_bytes}
use Rattle.reader.proofs.OneRow.{outside_either, fails_plain, fails_row, row_none}
use Rattle.reader.proofs.Opens.{HeadInside, Opened, outside_parts, row_opens}
use Rattle.reader.proofs.ReadBack.{Call, call_accepted, shown_height_lem, never_written_lem, outside_none}

-- ---- of any bytes

same_row : (row other : List Cell) → shows_row row ≡ shows_row other → row ≡ other
same_row row other e = cc

-- codes that are shown were read
codes-read : (w : ℕ) (d : Decoded) (row : List Cell) → coded_row w d ≡ shows_row row → is_refused d ≡ false
codes-read w (filled cells taken) row e = refl
codes-read w (refused cause) row e = let z : ◌≡◌ {A = ℕ} 0 1 = cc in absurd (omega arith)

-- 19 does not apply to a row that the newer reader shows
shown_fills : (file : List ℕ) (t : Fields) → HeadInside file t → (start : ℕ) (row : List Cell) → read_one_row newer file start ≡ shows_row row → row_fails file t start ≡ false
unfolding row_body
shown_fills file t h start row e = go (is_coded t.compression) refl
  where
    go : (b : Bool) → is_coded t.compression ≡ b → row_fails file t start ≡ false
    go false c = sym (fails_plain file t start c)
    go true c =
        let shown : coded_row t.width (read_row t.depth t.width (drop start file)) ≡ shows_row row
        = sym (row_opens file t h start ∙ rw (ne_eqb t.width 0 (λ z. omega (arith, h.sound.some_width)), c)) ∙ e in
        sym (fails_row file t start c) ∙ codes-read t.width (read_row t.depth t.width (drop start file)) row shown

-- ---- of a written file

module _ (i : Input) (call : Call i) (s : ℕ) (stored : s < i.source.height) where
  abbrev file : List ℕ
  file = file_of (limit_in i) i

  abbrev start : ℕ
  start = row_start (limit_in i) i s

  -- the row of the picture that is stored there
  abbrev pub written_row : List Cell
  written_row = get_or (expected i).rows (row_of i.options.top_down i.source.height s) []

  a : Accepted i
  a = call_accepted i call

  passes : Opened file (fields_of file)
  passes = opened_bytes file (file_bytes i a call.icc_bytes call.linked_bytes) (never_written_lem i call) (outside_none i call)

  -- a stored row is one of those that lie in the file
  row_whole : row_outside (length file) (fields_of file) start ≡ false
  unfolding start_in
  row_whole = go (is_coded (fields_of file).compression) refl
    where
      n : ℕ
      n = row_length (fields_of file).width (fields_of file).depth

      go : (b : Bool) → is_coded (fields_of file).compression ≡ b → (not b && ltb (length file) (start + n)) ≡ false
      go true c = refl
      go false c =
          let place : start ≡ (fields_of file).offset + s * n = sym (start_read i a s stored) ∙ rw c in
          let here : s < shown_height (fields_of file) = rw (shown_height_lem i call) stored in
          le-ltb (length file) (start + n) (omega (arith, place, passes.rows c, mul-le-mul_right n here, suc-mul s n))

  -- 18 does not apply
  head_or_row : head_or_row_outside (length file) (fields_of file) start ≡ false
  head_or_row = outside_either (length file) (fields_of file) start false false (sym (outside_parts file (outside_none i call)).0) (sym row_whole) refl

  -- what a reading of the row answers and fills in
  pub record RowBack (cells later : List ℕ) (number : ℕ) : Type 0 where
    pub none : number ≡ 0
    -- the cells handed in, cut or fitted
    pub cells_back : later ≡ put cells 0 (row_numbers written_row)

  pub row_read_back : (cells later : List ℕ) (number : ℕ) → numbers_too_many (fields_of file) (length cells) ≡ false → ReadRow file start cells later number → RowBack cells later number
  row_read_back cells later number fit p =
      let shown = row_shown i a s stored in
      let fills = shown_fills file (fields_of file) passes.head start written_row shown in
      let none : number ≡ 0 = p.first ∙ sym (row_none file (fields_of file) refl start (length cells) (never_written_lem i call) head_or_row fit fills) in
      let outcome : ShowsRow file start cells later = subst (λ (n : ℕ). RowOutcome n file start cells later) none p.outcome in
      let same = same_row outcome.row written_row (sym outcome.newer_shows ∙ shown) in
      record { none = none; cells_back = outcome.cells_filled ∙ ap (λ (row : List Cell). put cells 0 (row_numbers row)) same }
