-- Which mode a call has.
use mathlib.Core.Path.{◌≡◌, refl, ap, ◌∙◌}
use mathlib.Core.Bool.{Bool, true, false, not, cond, false≢true, ◌&&◌}
use mathlib.Core.List.{[]}
use Prim.Native.Nat.{ℕ, ◌<◌}
use borrow.Author.Tests.{ltb-true}
use lib.Dec.{ltb}
use lib.ListN.{length}
use Rattle.std.proofs.Common.{is_some}
use Rattle.leaves.specs.declared.encoder.EncodeSource.{EncodeSource}
use Rattle.leaves.specs.declared.options.EncodeOptions.{EncodeOptions}
use Rattle.leaves.specs.declared.image.BmpPixelFormat.{BmpPixelFormat}
use Rattle.leaves.specs.declared.image.BmpPixelFormat.TheVariants.{Rgba, Rgb24, Bgra, Bgr24, Rgb555, Rgb565, Pal8, Indexed4, Indexed2, Indexed1}
use Rattle.leaves.specs.Refusals.{profile_mode}
use Rattle.format.specs.File.{mode_in, rle_planned, tail_of, stream_of, budget, stream_used}
use Rattle.format.specs.Layout.{mode_of, is_masked, is_profiled, is_plain, tail_in, coded, wants_rle}
use Rattle.format.specs.declared.layout.Mode.{Mode}
use Rattle.format.specs.declared.layout.Mode.TheVariants.{Masked, Calibrated, Profiled, Plain}
use Rattle.format.specs.Input.{Input}

-- ---- masks

-- masks are given exactly in mask mode
pub given_mode : (s : EncodeSource) (o : EncodeOptions) → is_some o.bitfields ≡ is_masked (mode_of s o)
unfolding mode_of
given_mode s o = go (is_some o.bitfields) (is_some o.calibrated_rgb) (profile_mode s.has_linked_icc s.has_icc o.embed_icc)
  where
    go : (a b c : Bool) → a ≡ is_masked (cond a Masked (cond b Calibrated (cond c Profiled Plain)))
    go true b c = refl
    go false true c = refl
    go false false true = refl
    go false false false = refl

-- so that is the mode with masks
pub mask_mode : (i : Input) → is_some i.options.bitfields ≡ true → mode_in i ≡ Masked
unfolding mode_of
mask_mode i e = rw e

-- ---- streams

plain_mode : (m : Mode) → is_plain m ≡ true → m ≡ Plain
plain_mode Masked e = absurd (false≢true e)
plain_mode Calibrated e = absurd (false≢true e)
plain_mode Profiled e = absurd (false≢true e)
plain_mode Plain e = refl

-- both sides of a conjunction
pub both : (a b : Bool) → (a && b) ≡ true → (a ≡ true) × (b ≡ true)
both true b e = (refl, e)
both false b e = absurd (false≢true e)

-- only Pal8 and Indexed4 are coded: what is so of both is so of a coded source
pub coded_cases : (P : BmpPixelFormat → Type 0) → P Pal8 → P Indexed4 → (f : BmpPixelFormat) → coded f ≡ true → P f
coded_cases P a b Rgba e = absurd (false≢true e)
coded_cases P a b Rgb24 e = absurd (false≢true e)
coded_cases P a b Bgra e = absurd (false≢true e)
coded_cases P a b Bgr24 e = absurd (false≢true e)
coded_cases P a b Rgb555 e = absurd (false≢true e)
coded_cases P a b Rgb565 e = absurd (false≢true e)
coded_cases P a b Pal8 e = a
coded_cases P a b Indexed4 e = b
coded_cases P a b Indexed2 e = absurd (false≢true e)
coded_cases P a b Indexed1 e = absurd (false≢true e)

-- where RLE is planned: in the plain mode only, of a coded source that is not top-down
pub record PlannedIn (i : Input) : Type 0 where
  pub mode : mode_in i ≡ Plain
  pub source : coded i.source.format ≡ true
  pub unmasked : is_some i.options.bitfields ≡ false
  pub bottom_up : i.options.top_down ≡ false

-- a planned stream says so
pub planned_in : (i : Input) → rle_planned i ≡ true → PlannedIn i
unfolding wants_rle
planned_in i e =
    let all = parts (is_plain (mode_in i)) (coded i.source.format) i.options.rle i.options.top_down e in
    let mode = plain_mode (mode_in i) all.0 in
    record { mode = mode; source = all.1.0; unmasked = given_mode i.source i.options ∙ ap is_masked mode; bottom_up = all.1.1 }
  where
    parts : (a b c d : Bool) → (a && b && c && not d) ≡ true → (a ≡ true) × ((b ≡ true) × (d ≡ false))
    parts true true true false h = (refl, (refl, refl))
    parts true true true true h = absurd (false≢true h)
    parts true true false d h = absurd (false≢true h)
    parts true false c d h = absurd (false≢true h)
    parts false b c d h = absurd (false≢true h)

-- only in profile mode is there a profile behind the pixels
pub unprofiled_tail : (i : Input) → is_profiled (mode_in i) ≡ false → tail_of i ≡ []
unfolding tail_in
unprofiled_tail i e = ap (λ (b : Bool). cond b (cond i.source.has_linked_icc i.linked i.icc) []) e

-- so there is none behind a stream
pub tail_empty : (i : Input) → PlannedIn i → tail_of i ≡ []
tail_empty i p = unprofiled_tail i (ap is_profiled p.mode)

-- it has no bytes
pub no_tail : (i : Input) → PlannedIn i → length (tail_of i) ≡ 0
no_tail i p = ap length (tail_empty i p)

-- where a stream is used: it is planned, and under the budget
pub record UsedIn (limit : ℕ) (i : Input) : Type 0 where
  pub planned : PlannedIn i
  pub under : length (stream_of i) < budget limit i

-- a used stream says so
pub used_in : (limit : ℕ) (i : Input) → stream_used limit i ≡ true → UsedIn limit i
unfolding stream_used
used_in limit i e =
    let two = both (rle_planned i) (ltb (length (stream_of i)) (budget limit i)) e in
    record { planned = planned_in i two.0; under = ltb-true (length (stream_of i)) (budget limit i) two.1 }
