-- From the writer's promises to the interface's, and to what they say of its numbers.
use mathlib.Core.Path.{◌≡◌, refl, sym, ap, subst, ◌∙◌}
use mathlib.Core.List.{List, [], ◌∷◌}
use Prim.Native.Nat.{ℕ, ◌+◌, ◌-◌, ◌≤◌}
use native.Mathlib.Omega.{arith}
use lib.ListN.{length, take, drop, get_or}
use Rattle.std.proofs.Common.{Option, Some, None, Ok, Err}
use Rattle.leaves.specs.declared.encoder.EncodeSource.{EncodeSource}
use Rattle.leaves.specs.declared.encoder.EncodedBmpFormat.{EncodedBmpFormat}
use Rattle.leaves.specs.declared.image.BmpPixelFormat.{BmpPixelFormat}
use Rattle.leaves.specs.declared.options.EncodeOptions.{EncodeOptions}
use Rattle.leaves.specs.Formats.{format_number}
use Rattle.leaves.specs.Refusals.{first_of, first_number}
use Rattle.format.specs.Demand.{Demand3}
use Rattle.format.specs.File.{limit_in}
use Rattle.format.specs.Input.{Input}
use Rattle.format.specs.Refusals.{plan_rows, write_rows}
use Rattle.planner.specs.Answers.{EncodeAnswer, BoundAnswer, bytes_for, format_for, later_for, bound_for, Written, WrittenWithStarts, Sized}
use Rattle.planner.specs.Calls.{called}
use Rattle.planner.proofs.Defaults.{WrittenBefore, SizedBefore, ByDefault, written_before, sized_before}
use Rattle.planner.proofs.Promises.{written_determined, sized_determined}
use Rattle.capi.specs.declared.BmpAnswer.{BmpAnswer}
use Rattle.capi.specs.declared.BmpOptions.{BmpOptions}
use Rattle.capi.specs.declared.BmpSettings.{BmpSettings}
use Rattle.capi.specs.declared.BmpSource.{BmpSource}
use lib.Seq.{get_or-append-add}
use Rattle.capi.specs.Interface.{formats, format_at, source_of, default_settings, options_of, encoded_answer, bound_answer, unknown_format, Encodes, Bounds, EncodePromise, StartsPromise, BoundPromise}

-- the promise of the writing call in numbers alone
abbrev formats_number : List EncodedBmpFormat → ℕ
formats_number [] = 0
formats_number (f ∷ fs) = format_number f

abbrev EncodedNumbers : Input → ℕ → List ℕ → List ℕ → BmpAnswer → Type 0
EncodedNumbers i offset was later a =
    (a.refusal ≡ first_number (write_rows (limit_in i) i (length was) offset))
    × (a.bytes ≡ bytes_for (first_of (write_rows (limit_in i) i (length was) offset)) i)
    × (a.format ≡ formats_number (format_for (first_of (write_rows (limit_in i) i (length was) offset)) i))
    × (later ≡ later_for (first_of (write_rows (limit_in i) i (length was) offset)) i offset was)
    × (a.refusal ≡ 0 → Demand3 i (take a.bytes (drop offset later)))

encoded_numbers : (i : Input) (offset : ℕ) (was later : List ℕ) (r : EncodeAnswer) → Written i offset was later r → EncodedNumbers i offset was later (encoded_answer r)
encoded_numbers i offset was later (Ok file) w = (w.number, w.bytes, ap formats_number w.format, w.buffer, w.shown)
encoded_numbers i offset was later (Err why) w = (w.number, w.bytes, ap formats_number w.format, w.buffer, w.shown)

pub encodes_numbers : (i : Input) (offset : ℕ) (was later : List ℕ) (a : BmpAnswer) → Encodes i offset was later a → EncodedNumbers i offset was later a
encodes_numbers i offset was later a e = subst (EncodedNumbers i offset was later) (sym e.answer) (encoded_numbers i offset was later e.writer e.promise)

-- and of the size query
abbrev BoundNumbers : Input → BmpAnswer → Type 0
BoundNumbers i a = (a.refusal ≡ first_number (plan_rows (limit_in i) i)) × (a.bytes ≡ bound_for (first_of (plan_rows (limit_in i) i)) i) × (a.format ≡ 0)

bound_numbers : (i : Input) (r : BoundAnswer) → Sized i r → BoundNumbers i (bound_answer r)
bound_numbers i (Ok bytes) s = (s.number, s.bytes, refl)
bound_numbers i (Err why) s = (s.number, s.bytes, refl)

pub bounds_numbers : (i : Input) (a : BmpAnswer) → Bounds i a → BoundNumbers i a
bounds_numbers i a b = subst (BoundNumbers i) (sym b.answer) (bound_numbers i b.writer b.promise)

-- a format that is listed
module _ (l : Option BmpPixelFormat) (f : BmpPixelFormat) (source : BmpSource) (options : BmpOptions) (settings : BmpSettings) (plane palette icc linked : List ℕ) (src : EncodeSource) (chosen : EncodeOptions)
    (known : Some f ≡ l) (es : src ≡ source_of source f) (eo : chosen ≡ options_of options settings) where
  pub encode_known : (offset : ℕ) (was later : List ℕ) (r : EncodeAnswer) (a : BmpAnswer) → Written (called src chosen plane palette icc linked) offset was later r
      → a ≡ encoded_answer r → EncodePromise l source options settings plane palette icc linked offset was later a
  encode_known offset was later r a w e =
      subst (λ (k : Option BmpPixelFormat). EncodePromise k source options settings plane palette icc linked offset was later a) known
      (record { writer = r; promise = subst (λ (i : Input). Written i offset was later r) (λ z. called (es z) (eo z) plane palette icc linked) w; answer = e })

  pub starts_known : (offset : ℕ) (was later starts later_starts : List ℕ) (r : EncodeAnswer) (a : BmpAnswer)
      → WrittenWithStarts (called src chosen plane palette icc linked) offset was later starts later_starts r → a ≡ encoded_answer r
      → StartsPromise l source options settings plane palette icc linked offset was later starts later_starts a
  starts_known offset was later starts later_starts r a w e =
      subst (λ (k : Option BmpPixelFormat). StartsPromise k source options settings plane palette icc linked offset was later starts later_starts a) known
      (record { writer = r; promise = subst (λ (i : Input). WrittenWithStarts i offset was later starts later_starts r) (λ z. called (es z) (eo z) plane palette icc linked) w; answer = e })

  pub bound_known : (r : BoundAnswer) (a : BmpAnswer) → Sized (called src chosen plane palette icc linked) r → a ≡ bound_answer r
      → BoundPromise l source options settings plane palette icc linked a
  bound_known r a s e =
      subst (λ (k : Option BmpPixelFormat). BoundPromise k source options settings plane palette icc linked a) known
      (record { writer = r; promise = subst (λ (i : Input). Sized i r) (λ z. called (es z) (eo z) plane palette icc linked) s; answer = e })

-- and one that is not
pub encode_unknown : (l : Option BmpPixelFormat) (source : BmpSource) (options : BmpOptions) (settings : BmpSettings) (plane palette icc linked : List ℕ) (offset : ℕ) (was : List ℕ) (a : BmpAnswer) → None ≡ l → a ≡ unknown_format
    → EncodePromise l source options settings plane palette icc linked offset was was a
encode_unknown l source options settings plane palette icc linked offset was a e q =
    subst (λ (k : Option BmpPixelFormat). EncodePromise k source options settings plane palette icc linked offset was was a) e (q, refl)

pub starts_unknown : (l : Option BmpPixelFormat) (source : BmpSource) (options : BmpOptions) (settings : BmpSettings) (plane palette icc linked : List ℕ) (offset : ℕ) (was starts : List ℕ) (a : BmpAnswer) → None ≡ l → a ≡ unknown_format
    → StartsPromise l source options settings plane palette icc linked offset was was starts starts a
starts_unknown l source options settings plane palette icc linked offset was starts a e q =
    subst (λ (k : Option BmpPixelFormat). StartsPromise k source options settings plane palette icc linked offset was was starts starts a) e (q, refl, refl)

pub bound_unknown : (l : Option BmpPixelFormat) (source : BmpSource) (options : BmpOptions) (settings : BmpSettings) (plane palette icc linked : List ℕ) (a : BmpAnswer) → None ≡ l → a ≡ unknown_format
    → BoundPromise l source options settings plane palette icc linked a
bound_unknown l source options settings plane palette icc linked a e q = subst (λ (k : Option BmpPixelFormat). BoundPromise k source options settings plane palette icc linked a) e q

-- ---- the functions with and without settings

-- the promises determine answer and buffer: so a function without settings does what the one with settings does at the defaults
pub encode_determined : (l : Option BmpPixelFormat) (source : BmpSource) (options : BmpOptions) (settings : BmpSettings) (plane palette icc linked : List ℕ) (offset : ℕ) (was later other : List ℕ) (a b : BmpAnswer)
    → EncodePromise l source options settings plane palette icc linked offset was later a → EncodePromise l source options settings plane palette icc linked offset was other b
    → (a ≡ b) × (later ≡ other)
encode_determined (Some f) source options settings plane palette icc linked offset was later other a b p q =
    let same = written_determined (called (source_of source f) (options_of options settings) plane palette icc linked) offset was later other p.writer q.writer p.promise q.promise in
    (p.answer ∙ ap encoded_answer same.0 ∙ sym q.answer, same.1)
encode_determined None source options settings plane palette icc linked offset was later other a b p q = (p.0 ∙ sym q.0, p.1 ∙ sym q.1)

pub bound_determined : (l : Option BmpPixelFormat) (source : BmpSource) (options : BmpOptions) (settings : BmpSettings) (plane palette icc linked : List ℕ) (a b : BmpAnswer)
    → BoundPromise l source options settings plane palette icc linked a → BoundPromise l source options settings plane palette icc linked b → a ≡ b
bound_determined (Some f) source options settings plane palette icc linked a b p q =
    p.answer
    ∙ ap bound_answer (sized_determined (called (source_of source f) (options_of options settings) plane palette icc linked) p.writer q.writer p.promise q.promise)
    ∙ sym q.answer
bound_determined None source options settings plane palette icc linked a b p q = p ∙ sym q

-- and at the defaults the writer's promise is the one from before the settings
module _ (f : BmpPixelFormat) (source : BmpSource) (options : BmpOptions) (plane palette icc linked : List ℕ) where
  abbrev before : Input
  before = called (source_of source f) (options_of options default_settings) plane palette icc linked

  by_default : ByDefault before.options
  by_default = record { limit = refl; x = refl; y = refl }

  pub encode_before : (offset : ℕ) (was later : List ℕ) (a : BmpAnswer)
      → (p : EncodePromise (Some f) source options default_settings plane palette icc linked offset was later a) → WrittenBefore before offset was later p.writer
  encode_before offset was later a p = written_before before by_default offset was later p.writer p.promise

  pub bound_before : (a : BmpAnswer) → (p : BoundPromise (Some f) source options default_settings plane palette icc linked a) → SizedBefore before p.writer
  bound_before a p = sized_before before by_default p.writer p.promise

-- numbers past the list
pub format_past : (n : ℕ) → 10 ≤ n → None ≡ format_at n
unfolding format_at formats
format_past n h =
    let past : n ≡ 10 + (n - 10) = omega arith in
    sym (ap (λ (k : ℕ). get_or formats k None) past ∙ get_or-append-add formats [] (n - 10) None)

-- a number that is none of 0 to 9
next : (n k : ℕ) → k ≤ n → (n ≡ k → ⊥) → k + 1 ≤ n
next n k h f = omega (arith, f)

pub none_listed : (n : ℕ) → (n ≡ 0 → ⊥) → (n ≡ 1 → ⊥) → (n ≡ 2 → ⊥) → (n ≡ 3 → ⊥) → (n ≡ 4 → ⊥) → (n ≡ 5 → ⊥) → (n ≡ 6 → ⊥) → (n ≡ 7 → ⊥) → (n ≡ 8 → ⊥) → (n ≡ 9 → ⊥)
    → None ≡ format_at n
none_listed n a b c d e f g h i j =
    format_past n (next n 9 (next n 8 (next n 7 (next n 6 (next n 5 (next n 4 (next n 3 (next n 2 (next n 1 (next n 0 (omega arith) a) b) c) d) e) f) g) h) i) j)
