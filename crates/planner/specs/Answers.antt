-- What a call answers, as document 01's numbers and values, and what the call promises.
use Rattle.std.specs.Prelude.{ℕ, ◌≡◌, List, [], ◌∷◌, length, take, drop, Result, Ok, Err}
use Rattle.leaves.specs.declared.encoder.EncodedBmpFormat.{EncodedBmpFormat}
use Rattle.leaves.specs.declared.error.Refusal.{Refusal}
use Rattle.leaves.specs.Put.{put}
use Rattle.leaves.specs.Refusals.{number_of, check_number, first_of, first_number, Check}
use Rattle.format.specs.Demand.{Demand3}
use Rattle.format.specs.File.{limit_in, file_size_of, file_of, bound_of, format_of}
use Rattle.format.specs.Input.{Input}
use Rattle.format.specs.Refusals.{plan_rows, write_rows, starts_rows}
use Rattle.format.specs.Starts.{starts_of, RowsShown}
use Rattle.planner.specs.declared.encoder.Encoded.{Encoded}
use Rattle.format.specs.declared.layout.Layout.{Layout}
use Rattle.planner.specs.declared.plan.Plan.{Plan}
use Rattle.planner.specs.declared.plan.Sizes.{Sizes}

-- ---- the writing call: "either the format written and the number of bytes appended, or a refusal number"

abbrev pub EncodeAnswer : Type 0
EncodeAnswer = Result Encoded Refusal

-- 0, or the refusal's number
abbrev pub encoded_number : EncodeAnswer → ℕ
encoded_number (Ok file) = 0
encoded_number (Err why) = number_of why

-- the bytes appended; a refusal has none
abbrev pub encoded_bytes : EncodeAnswer → ℕ
encoded_bytes (Ok file) = file.bytes
encoded_bytes (Err why) = 0

-- the format written, as a list of one; a refusal has none
abbrev pub encoded_format : EncodeAnswer → List EncodedBmpFormat
encoded_format (Ok file) = file.format ∷ []
encoded_format (Err why) = []

-- what they must be, and the later buffer: "After a refusal the whole buffer is as before. After a file, bytes before the offset and after the
-- last appended byte are as before"
abbrev pub bytes_for : Check → Input → ℕ
bytes_for (Ok passed) i = file_size_of (limit_in i) i
bytes_for (Err why) i = 0

abbrev pub format_for : Check → Input → List EncodedBmpFormat
format_for (Ok passed) i = format_of (limit_in i) i ∷ []
format_for (Err why) i = []

abbrev pub later_for : Check → Input → ℕ → List ℕ → List ℕ
later_for (Ok passed) i offset was = put was offset (file_of (limit_in i) i)
later_for (Err why) i offset was = was

-- the promise of a writing call, of the check that decides it, of the answer and of the buffer as it was and as it is later
pub record WrittenBy (decides : Check) (i : Input) (offset : ℕ) (was later : List ℕ) (answer : EncodeAnswer) : Type 0 where
  pub number : encoded_number answer ≡ check_number decides
  pub bytes : encoded_bytes answer ≡ bytes_for decides i
  pub format : encoded_format answer ≡ format_for decides i
  pub buffer : later ≡ later_for decides i offset was
  -- demand 3, of the appended bytes alone
  pub shown : encoded_number answer ≡ 0 → Demand3 i (take (encoded_bytes answer) (drop offset later))

-- of the writing call: the first row of the table that applies decides
abbrev pub Written : Input → ℕ → List ℕ → List ℕ → EncodeAnswer → Type 0
Written i offset was later answer = WrittenBy (first_of (write_rows (limit_in i) i (length was) offset)) i offset was later answer

-- ---- the writing call that fills a list of row starts (document 02, A.7: "A second writing call, otherwise like the first")

-- the later list: "List entries past the height keep their values, and so does the whole list on any refusal"
abbrev pub starts_for : Check → Input → List ℕ → List ℕ
starts_for (Ok passed) i was = put was 0 (starts_of (limit_in i) i)
starts_for (Err why) i was = was

-- its promise: the same by the table that has 24 too, and of the list as it was and as it is later
pub record WrittenWithStarts (i : Input) (offset : ℕ) (was later starts later_starts : List ℕ) (answer : EncodeAnswer) : Type 0 where
  pub written : WrittenBy (first_of (starts_rows (limit_in i) i (length was) offset (length starts))) i offset was later answer
  pub list : later_starts ≡ starts_for (first_of (starts_rows (limit_in i) i (length was) offset (length starts))) i starts
  -- each row from its start, of the appended bytes alone
  pub rows_shown_is : encoded_number answer ≡ 0 → RowsShown i (take (encoded_bytes answer) (drop offset later)) later_starts

-- ---- the size query: "the bound or a refusal number"

abbrev pub BoundAnswer : Type 0
BoundAnswer = Result ℕ Refusal

abbrev pub bound_number : BoundAnswer → ℕ
bound_number (Ok bytes) = 0
bound_number (Err why) = number_of why

abbrev pub bound_bytes : BoundAnswer → ℕ
bound_bytes (Ok bytes) = bytes
bound_bytes (Err why) = 0

abbrev pub bound_for : Check → Input → ℕ
bound_for (Ok passed) i = bound_of (limit_in i) i
bound_for (Err why) i = 0

-- the promise of the size query
pub record Sized (i : Input) (answer : BoundAnswer) : Type 0 where
  pub number : bound_number answer ≡ first_number (plan_rows (limit_in i) i)
  pub bytes : bound_bytes answer ≡ bound_for (first_of (plan_rows (limit_in i) i)) i

-- ---- the plan, which both calls make first: 0 with what is planned, or the refusal's number

abbrev pub PlanAnswer : Type 0
PlanAnswer = Result Plan Refusal

abbrev pub plan_number : PlanAnswer → ℕ
plan_number (Ok plan) = 0
plan_number (Err why) = number_of why

-- the bytes that a writing call asks for; a refusal has none
abbrev pub plan_bound : PlanAnswer → ℕ
plan_bound (Ok plan) = plan.sizes.bound
plan_bound (Err why) = 0

-- layout and sizes, as lists of one; a refusal has none
abbrev pub plan_layout : PlanAnswer → List Layout
plan_layout (Ok plan) = plan.layout ∷ []
plan_layout (Err why) = []

abbrev pub plan_sizes : PlanAnswer → List Sizes
plan_sizes (Ok plan) = plan.sizes ∷ []
plan_sizes (Err why) = []
