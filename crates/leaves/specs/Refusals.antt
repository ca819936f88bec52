-- Document 01's table of refusals, with document 02's numbers of the settings and of the row starts: a number for each cause, one predicate for each row in that row's own words, and the first row that applies.
-- The rows that need the plan (11, 14, 15, 16, 24) are defined where the plan is.
use Rattle.std.specs.Prelude.{ℕ, ◌+◌, ◌*◌, ◌%◌, Bool, true, false, cond, not, ◌&&◌, ◌||◌, List, [], ◌∷◌, ℤ, pos, ◌==◌, int_lt, nat_lt, Result, Ok, Err}
use Rattle.leaves.specs.declared.error.Refusal.{Refusal}
use Rattle.leaves.specs.declared.error.Refusal.TheVariants.{ZeroDimension, DimensionTooLarge, PaletteMissing, PaletteNotQuads, SeveralModes, MaskDepth, MaskAboveDepth, MaskNotOneRun, MaskOverlap, NoColourMask, MaskSource, PlaneTooShort, StrideTooShort, FileTooLarge, BufferTooShort, StreamOverBudget, LimitTooLarge, NegativeResolution, StartsTooShort}

-- the table's column "No.", and document 02, A.5: "New numbers: 20 .. 21", A.7: "New numbers: 24"
abbrev pub number_of : Refusal → ℕ
number_of ZeroDimension = 1
number_of DimensionTooLarge = 2
number_of PaletteMissing = 3
number_of PaletteNotQuads = 4
number_of SeveralModes = 5
number_of MaskDepth = 6
number_of MaskAboveDepth = 7
number_of MaskNotOneRun = 8
number_of MaskOverlap = 9
number_of NoColourMask = 10
number_of MaskSource = 11
number_of PlaneTooShort = 12
number_of StrideTooShort = 13
number_of FileTooLarge = 14
number_of BufferTooShort = 15
number_of StreamOverBudget = 16
number_of LimitTooLarge = 20
number_of NegativeResolution = 21
number_of StartsTooShort = 24

-- what a check answers: nothing, or the cause of a refusal
abbrev pub Check : Type 0
Check = Result (Unit {0}) Refusal

-- its answer as a number: 0 where nothing is refused
abbrev pub check_number : Check → ℕ
check_number (Ok passed) = 0
check_number (Err why) = number_of why

-- rows of the table, each a test and the cause it names: the first whose test holds decides
abbrev pub first_of : List (Bool × Refusal) → Check
first_of [] = Ok tt
first_of (row ∷ rows) = cond row.0 (Err row.1) (first_of rows)

-- of two checks in a row, the first that refuses decides
abbrev pub or_else : Check → Check → Check
or_else (Ok passed) next = next
or_else (Err why) next = Err why

-- the number of the first row that applies, or 0
abbrev pub first_number : List (Bool × Refusal) → ℕ
first_number rows = check_number (first_of rows)

-- the same of rows that name their number itself, as document 02's do
abbrev pub first_applying : List (Bool × ℕ) → ℕ
first_applying [] = 0
first_applying (row ∷ rows) = cond row.0 row.1 (first_applying rows)

-- 1: "width or height is 0"
abbrev pub zero_dimension : ℕ → ℕ → Bool
zero_dimension width height = width == 0 || height == 0

-- 2: "width or height over 2,147,483,647"
abbrev pub dimension_too_large : ℕ → ℕ → Bool
dimension_too_large width height = nat_lt 2147483647 width || nat_lt 2147483647 height

-- 20 (document 02, A.5): "limit over 4,294,967,295"
abbrev pub limit_too_large : ℕ → Bool
limit_too_large limit = nat_lt 4294967295 limit

-- 21: "a negative resolution (signed 32-bit numbers)"
abbrev pub negative_resolution : ℤ → ℤ → Bool
negative_resolution x y = int_lt x (pos 0) || int_lt y (pos 0)

-- 3: "indexed format, palette absent"
abbrev pub palette_missing : Bool → Bool → Bool
palette_missing indexed given = indexed && not given

-- 4: "indexed format, palette bytes not a multiple of 4"
abbrev pub palette_not_quads : Bool → ℕ → Bool
palette_not_quads indexed bytes = indexed && not (bytes % 4 == 0)

-- document 01, The plan: "Profile mode holds if a linked profile is given, or an embedded one is given and embedding is on"
abbrev pub profile_mode : Bool → Bool → Bool → Bool
profile_mode linked embedded embedding = linked || (embedded && embedding)

-- how many of a mode hold: 0 or 1
abbrev pub one : Bool → ℕ
one true = 1
one false = 0

-- 5: "more than one of: masks, calibrated colour, profile"
abbrev pub several_modes : Bool → Bool → Bool → Bool
several_modes masks calibrated profile = nat_lt 1 (one masks + one calibrated + one profile)

-- 12: "plane length below stride × height (exact product)"
abbrev pub plane_too_short : ℕ → ℕ → ℕ → Bool
plane_too_short stride height bytes = nat_lt bytes (stride * height)

-- 13: "stride below width × source bytes"
abbrev pub stride_too_short : ℕ → ℕ → ℕ → Bool
stride_too_short stride width source_bytes = nat_lt stride (width * source_bytes)

-- the table's groups, each in the table's order
unfoldable pub dimension_rows : ℕ → ℕ → List (Bool × Refusal)
dimension_rows width height = (zero_dimension width height, ZeroDimension) ∷ (dimension_too_large width height, DimensionTooLarge) ∷ []

unfoldable pub settings_rows : ℕ → ℤ → ℤ → List (Bool × Refusal)
settings_rows limit x y = (limit_too_large limit, LimitTooLarge) ∷ (negative_resolution x y, NegativeResolution) ∷ []

unfoldable pub palette_rows : Bool → Bool → ℕ → List (Bool × Refusal)
palette_rows indexed given bytes = (palette_missing indexed given, PaletteMissing) ∷ (palette_not_quads indexed bytes, PaletteNotQuads) ∷ []

unfoldable pub mode_rows : Bool → Bool → Bool → List (Bool × Refusal)
mode_rows masks calibrated profile = (several_modes masks calibrated profile, SeveralModes) ∷ []

unfoldable pub plane_rows : ℕ → ℕ → ℕ → ℕ → ℕ → List (Bool × Refusal)
plane_rows width height stride source_bytes bytes = (plane_too_short stride height bytes, PlaneTooShort) ∷ (stride_too_short stride width source_bytes, StrideTooShort) ∷ []
