-- What the port's calls answer, beside what the original answers.
use Rattle.std.specs.Prelude.{ℕ, ◌≡◌, List, [], ◌∷◌, length}
use Rattle.leaves.specs.declared.encoder.EncodedBmpFormat.{EncodedBmpFormat}
use Rattle.leaves.specs.Put.{put}
use Rattle.planner.specs.Answers.{EncodeAnswer, BoundAnswer, encoded_number, encoded_bytes, encoded_format, bound_number, bound_bytes}
use Rattle.reference.specs.Compared.{Outcome, gives, refuses, panicked}

-- the writing call answers as the original, and the later buffer holds its file
abbrev pub WritesAs : Outcome (List ℕ × EncodedBmpFormat) → ℕ → List ℕ → List ℕ → EncodeAnswer → Type 0
WritesAs (gives (file, format)) offset was later answer =
    (encoded_number answer ≡ 0) × (encoded_format answer ≡ format ∷ []) × (encoded_bytes answer ≡ length file) × (later ≡ put was offset file)
WritesAs (refuses n kind) offset was later answer = (encoded_number answer ≡ n) × (later ≡ was)
WritesAs panicked offset was later answer = ⊥

-- the size query answers as the original
abbrev pub BoundsAs : Outcome ℕ → BoundAnswer → Type 0
BoundsAs (gives bytes) answer = (bound_number answer ≡ 0) × (bound_bytes answer ≡ bytes)
BoundsAs (refuses n kind) answer = bound_number answer ≡ n
BoundsAs panicked answer = ⊥
