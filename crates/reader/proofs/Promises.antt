-- The promises determine: two answers of which one holds are one, and so are the later buffers.
use mathlib.Core.Path.{◌≡◌, refl, sym, ap, subst, ◌∙◌}
use mathlib.Core.Bool.{cond}
use mathlib.Core.List.{List}
use Prim.Native.Nat.{ℕ, zero, suc}
use lib.Dec.{eqb}
use lib.ListN.{take, drop}
use Rattle.std.specs.Prelude.{⊤, Result, Ok, Err}
use Rattle.leaves.specs.Put.{put}
use Rattle.format.specs.OneRow.{RowReading, shows_row, refuses_row}
use Rattle.format.specs.Readers as Readers
use Rattle.format.specs.Readers.{shows, refuses}
use Rattle.format.specs.Shown.{Cell, Shown}
use Rattle.reader.specs.Answers.{SizesAnswer, sizes_answered, ReadAnswer, refused_reading, answered, Outcome, Read, ReadInto}
use Rattle.reader.specs.Numbers.{row_numbers, numbers_of}
use Rattle.reader.specs.OneRow.{RowOutcome, ReadRow}
use Rattle.reader.specs.Refusals.{number_of, answer_number}
use Rattle.reader.specs.declared.read.Reading.{Reading}
use Rattle.reader.specs.declared.read.ReadingSizes.{ReadingSizes}
use Rattle.reader.specs.declared.refusal.ReadRefusal.{ReadRefusal}
use Rattle.reader.specs.declared.refusal.ReadRefusal.TheVariants.{NeverWritten, OutsideFile, BufferTooShort, StreamFails}

-- ---- the numbers determine the answer of a call

by_number_of : ℕ → ReadRefusal
by_number_of n = cond (eqb n 17) NeverWritten (cond (eqb n 18) OutsideFile (cond (eqb n 15) BufferTooShort StreamFails))

-- an answer by its number, which is 0 where nothing is refused
answer_by : {A : Type 0} → ℕ → A → Result A ReadRefusal
answer_by n value = cond (eqb n 0) (Ok value) (Err (by_number_of n))

refusal_by : {A : Type 0} (why : ReadRefusal) (value : A) → answer_by (number_of why) value ≡ Err why
unfolding answer_by by_number_of
refusal_by NeverWritten value = refl
refusal_by OutsideFile value = refl
refusal_by BufferTooShort value = refl
refusal_by StreamFails value = refl

reading_by : ReadAnswer → Result Reading ReadRefusal
reading_by a = answer_by a.refusal (record { width = a.width; height = a.height; depth = a.depth; profile_at = a.profile_at; profile_bytes = a.profile_bytes })

by_numbers : (r : Result Reading ReadRefusal) → reading_by (answered r) ≡ r
unfolding reading_by answer_by
by_numbers (Ok reading) = refl
by_numbers (Err why) = refusal_by why _

pub answered_determined : (r s : Result Reading ReadRefusal) → answered r ≡ answered s → r ≡ s
answered_determined r s e = sym (by_numbers r) ∙ ap reading_by e ∙ by_numbers s

sizes_by : SizesAnswer → Result ReadingSizes ReadRefusal
sizes_by a =
    answer_by a.refusal (record { width = a.width; height = a.height; depth = a.depth; head_bytes = a.head_bytes; table_bytes = a.table_bytes; cell_numbers = a.cell_numbers })

sizes_by_numbers : (r : Result ReadingSizes ReadRefusal) → sizes_by (sizes_answered r) ≡ r
unfolding sizes_by answer_by
sizes_by_numbers (Ok sizes) = refl
sizes_by_numbers (Err why) = refusal_by why _

pub sizes_determined : (r s : Result ReadingSizes ReadRefusal) → sizes_answered r ≡ sizes_answered s → r ≡ s
sizes_determined r s e = sym (sizes_by_numbers r) ∙ ap sizes_by e ∙ sizes_by_numbers s

by_number : (r : Result ⊤ ReadRefusal) → answer_by (answer_number r) tt ≡ r
unfolding answer_by
by_number (Ok passed) = refl
by_number (Err why) = refusal_by why tt

pub number_determined : (r s : Result ⊤ ReadRefusal) → answer_number r ≡ answer_number s → r ≡ s
number_determined r s e = sym (by_number r) ∙ ap (λ (n : ℕ). answer_by n tt) e ∙ by_number s

-- ---- a reading

reading : ℕ → ℕ → ℕ → ℕ → ℕ → ℕ → ReadAnswer
reading refusal width height depth at bytes = record { refusal = refusal; width = width; height = height; depth = depth; profile_at = at; profile_bytes = bytes }

-- what is shown, if anything is
shown_or : Shown → Readers.Reading → Shown
shown_or other (shows s) = s
shown_or other (refuses cause) = other

-- an answer and the three buffers that it leaves
pub record Same (head table cells other_head other_table other_cells : List ℕ) (r s : ReadAnswer) : Type 0 where
  pub answers : r ≡ s
  pub heads : head ≡ other_head
  pub tables : table ≡ other_table
  pub cell_numbers_lem : cells ≡ other_cells

module _ (file head table cells later_head later_table later_cells other_head other_table other_cells : List ℕ) where
  same_outcome : (n : ℕ) (r s : ReadAnswer) → r.refusal ≡ n → s.refusal ≡ n → Outcome n file head table cells later_head later_table later_cells r
      → Outcome n file head table cells other_head other_table other_cells s → Same later_head later_table later_cells other_head other_table other_cells r s
  unfolding reading shown_or
  same_outcome zero r s er es p q =
      let one : p.shown ≡ q.shown = λ z. shown_or p.shown ((sym p.newer_shows ∙ q.newer_shows) z) in
      let number : r.refusal ≡ s.refusal = er ∙ sym es in
      let width : r.width ≡ s.width = p.width ∙ (λ z. (one z).width) ∙ sym q.width in
      let height : r.height ≡ s.height = p.height ∙ (λ z. (one z).height) ∙ sym q.height in
      let depth : r.depth ≡ s.depth = p.depth ∙ sym q.depth in
      let at : r.profile_at ≡ s.profile_at = p.profile_at_is ∙ sym q.profile_at_is in
      let bytes : r.profile_bytes ≡ s.profile_bytes = p.profile_bytes_is ∙ sym q.profile_bytes_is in
      record {
        answers = λ z. reading (number z) (width z) (height z) (depth z) (at z) (bytes z);
        heads = p.head_filled ∙ sym q.head_filled;
        tables = p.table_filled ∙ sym q.table_filled;
        cell_numbers_lem = p.cells_filled ∙ (λ z. put cells 0 (numbers_of (one z).rows)) ∙ sym q.cells_filled;
      }
  same_outcome (suc n) r s er es p q =
      let number : r.refusal ≡ s.refusal = er ∙ sym es in
      record {
        answers = p.answer ∙ (λ z. refused_reading (number z)) ∙ sym q.answer;
        heads = p.same_head ∙ sym q.same_head;
        tables = p.same_table ∙ sym q.same_table;
        cell_numbers_lem = p.same_cells ∙ sym q.same_cells;
      }

  pub read_determined : (r s : ReadAnswer) → Read file head table cells later_head later_table later_cells r → Read file head table cells other_head other_table other_cells s
      → Same later_head later_table later_cells other_head other_table other_cells r s
  read_determined r s p q =
      let number : s.refusal ≡ r.refusal = q.number ∙ sym p.number in
      same_outcome r.refusal r s (λ z. r.refusal) number p.outcome (subst (λ (n : ℕ). Outcome n file head table cells other_head other_table other_cells s) number q.outcome)

  -- the answer of the call itself, and the buffers
  pub call_determined : (r s : Result Reading ReadRefusal) → Read file head table cells later_head later_table later_cells (answered r)
      → Read file head table cells other_head other_table other_cells (answered s)
      → (r ≡ s) × Same later_head later_table later_cells other_head other_table other_cells (answered r) (answered s)
  call_determined r s p q = let same = read_determined (answered r) (answered s) p q in (answered_determined r s same.answers, same)

  pub read_into_determined : {number width height depth number' width' height' depth' : ℕ} {profile other : List ℕ}
      → ReadInto file head table cells later_head later_table later_cells number width height depth profile
      → ReadInto file head table cells other_head other_table other_cells number' width' height' depth' other
      → (number ≡ number') × (width ≡ width') × (height ≡ height') × (depth ≡ depth') × (profile ≡ other)
  read_into_determined p q =
      let e : p.reading ≡ q.reading = (read_determined p.reading q.reading p.promise q.promise).answers in (
        p.number_is ∙ (λ z. (e z).refusal) ∙ sym q.number_is,
        p.width_is ∙ (λ z. (e z).width) ∙ sym q.width_is,
        p.height_is ∙ (λ z. (e z).height) ∙ sym q.height_is,
        p.depth_is ∙ (λ z. (e z).depth) ∙ sym q.depth_is,
        p.part ∙ (λ z. take (e z).profile_bytes (drop (e z).profile_at file)) ∙ sym q.part,
      )

-- ---- one row

row_or : List Cell → RowReading → List Cell
row_or other (shows_row row) = row
row_or other (refuses_row cause) = other

module _ (file : List ℕ) (start : ℕ) (cells later_cells other_cells : List ℕ) where
  same_row : (n : ℕ) → RowOutcome n file start cells later_cells → RowOutcome n file start cells other_cells → later_cells ≡ other_cells
  unfolding row_or
  same_row zero p q =
      let one : p.row ≡ q.row = λ z. row_or p.row ((sym p.newer_shows ∙ q.newer_shows) z) in
      p.cells_filled ∙ (λ z. put cells 0 (row_numbers (one z))) ∙ sym q.cells_filled
  same_row (suc n) p q = p ∙ sym q

  pub row_determined : {number other : ℕ} → ReadRow file start cells later_cells number → ReadRow file start cells other_cells other → (number ≡ other) × (later_cells ≡ other_cells)
  row_determined {number} {other} p q =
      let e : other ≡ number = q.first ∙ sym p.first in
      (sym e, same_row number p.outcome (subst (λ (n : ℕ). RowOutcome n file start cells other_cells) e q.outcome))

  pub row_call_determined : (r s : Result ⊤ ReadRefusal) → ReadRow file start cells later_cells (answer_number r) → ReadRow file start cells other_cells (answer_number s)
      → (r ≡ s) × (later_cells ≡ other_cells)
  row_call_determined r s p q = let same = row_determined p q in (number_determined r s same.0, same.1)
