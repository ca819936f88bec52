-- From "no row of the table applies" to what is known of an accepted call.
use mathlib.Core.Path.{◌≡◌, refl, sym, ap, ◌∙◌}
use mathlib.Core.Logic.{◌⊎◌, inl, inr}
use mathlib.Core.Bool.{Bool, true, false, false≢true, not, ◌&&◌, ◌||◌}
use mathlib.Core.List.{List, [], ◌∷◌, ◌++◌}
use Prim.Native.Nat.{ℕ, zero, suc, ◌*◌, ◌^◌, ◌≤◌, ◌<◌}
use native.Mathlib.Omega.{arith}
use native.Mathlib.Nat.{not-suc-le-zero, le_of_suc-le-suc, eq-or-lt_of_le}
use borrow.Author.Tests.{eqb-true, eqb-false, leb-false, ltb-false, not-false, eq-eqb}
use lib.Bits.{bit_and, and_zero_r}
use lib.Dec.{eqb, leb, ltb}
use lib.IntN.{ℤ}
use lib.ListN.{length, get_or}
use lib.Pow.{pow_pos}
use Rattle.std.proofs.Common.{Ok, is_some}
use Rattle.leaves.specs.declared.encoder.EncodeSource.{EncodeSource}
use Rattle.leaves.specs.declared.options.EncodeOptions.{EncodeOptions}
use Rattle.leaves.specs.declared.error.Refusal.{Refusal}
use Rattle.leaves.specs.declared.error.Refusal.TheVariants.{MaskSource, FileTooLarge, BufferTooShort, StreamOverBudget}
use Rattle.leaves.specs.Lists.{cat}
use Rattle.leaves.specs.Masks.{is_one_run, shares_bit, mask_depth, mask_rows, bitfields_rows}
use Rattle.leaves.specs.Refusals.{first_of, profile_mode, dimension_rows, settings_rows, palette_rows, mode_rows, plane_rows}
use Rattle.format.specs.File.{rle_planned, raw_bytes, stream_of, max_file, limit_in, budget, stream_used, stored_rows_of, file_size_of, plain_size_of}
use Rattle.format.specs.Refusals.{file_too_large, buffer_too_short, stream_over_budget, given_masks_rows, check_rows, call_rows, plan_rows, write_rows}
use Rattle.leaves.specs.Formats.{bytes_per_pixel, is_indexed, mask_source}
use Rattle.format.proofs.FileSizes.{length_rows_lem, file_fits_lem}
use Rattle.format.proofs.Passing.{first_parts, row_parts, cat_parts, or_false, and_false}
use Rattle.format.specs.Accepted.{MasksAccepted, Accepted}
use Rattle.format.specs.Input.{Input}
use Rattle.leaves.proofs.Runs.{is_one_run_lem}
use Rattle.leaves.specs.Options.{bitfields_in, calibrated_in}

-- ---- masks

-- a depth that 6 passes
depths : (d : ℕ) → mask_depth d ≡ false → (d ≡ 16) ⊎ (d ≡ 32)
depths d e = go (eqb d 16) (eqb d 32) refl refl (not-false (eqb d 16 || eqb d 32) e)
  where
    go : (a b : Bool) → eqb d 16 ≡ a → eqb d 32 ≡ b → (a || b) ≡ true → (d ≡ 16) ⊎ (d ≡ 32)
    go true b p q t = inl (eqb-true d 16 p)
    go false true p q t = inr (eqb-true d 32 q)
    go false false p q t = absurd (false≢true t)

-- a mask that 7, 8 and 9 pass: in the depth, one run, and apart from those before it
pub record Passes (d : ℕ) (masks : List ℕ) (k : ℕ) : Type 0 where
  pub below : get_or masks k 0 < 2 ^ d
  pub run : is_one_run (get_or masks k 0) ≡ true
  pub apart : shares_bit masks k (get_or masks k 0) ≡ false

-- 0 is one run, of no ones
zero-run : (n : ℕ) → n ≡ 0 → is_one_run n ≡ true
zero-run n e = rw e (is_one_run_lem 0 (pow_pos 32) (record { from = 0; count = 0; is = refl }))

-- 0 shares no bit
zero_apart : (masks : List ℕ) (k n : ℕ) → n ≡ 0 → shares_bit masks k n ≡ false
unfolding shares_bit
zero_apart masks zero n e = refl
zero_apart masks (suc k) n e =
    rw (zero_apart masks k n e) (ap not (eq-eqb (bit_and (get_or masks k 0) n) 0 (ap (bit_and (get_or masks k 0)) e ∙ and_zero_r (get_or masks k 0))))

mask_passes : (d : ℕ) (masks : List ℕ) (k : ℕ) → first_of (mask_rows d masks k) ≡ Ok tt → Passes d masks k
unfolding mask_rows
mask_passes d masks k e = go (eqb (get_or masks k 0) 0) refl
  where
    n : ℕ
    n = get_or masks k 0

    go : (b : Bool) → eqb n 0 ≡ b → Passes d masks k
    go true q =
        let z : n ≡ 0 = eqb-true n 0 q in
        record { below = omega (arith, pow_pos d); run = zero-run n z; apart = zero_apart masks k n z }
    go false q =
        let seven = row_parts (not (eqb n 0) && leb (2 ^ d) n) _ _ e in
        let eight = row_parts (not (eqb n 0) && not (is_one_run n)) _ _ seven.1 in
        let nine = row_parts (not (eqb n 0) && shares_bit masks k n) _ _ eight.1 in
        let some : not (eqb n 0) ≡ true = ap not q in
        record {
          below = leb-false (2 ^ d) n (and_false (not (eqb n 0)) (leb (2 ^ d) n) seven.0 some);
          run = not-false (is_one_run n) (and_false (not (eqb n 0)) (not (is_one_run n)) eight.0 some);
          apart = and_false (not (eqb n 0)) (shares_bit masks k n) nine.0 some;
        }

-- a mask that shares no bit with those before k shares none with the one at j
apart_from : (masks : List ℕ) (k n j : ℕ) → shares_bit masks k n ≡ false → j < k → bit_and (get_or masks j 0) n ≡ 0
unfolding shares_bit
apart_from masks zero n j e h = absurd (not-suc-le-zero h)
apart_from masks (suc k) n j e h = go (eq-or-lt_of_le (le_of_suc-le-suc h)) (or_false (shares_bit masks k n) (not (eqb (bit_and (get_or masks k 0) n) 0)) e) (apart_from masks k n j)
  where
    go : (j ≡ k) ⊎ (j < k) → (shares_bit masks k n ≡ false) × (not (eqb (bit_and (get_or masks k 0) n) 0) ≡ false) → (shares_bit masks k n ≡ false → j < k → bit_and (get_or masks j 0) n ≡ 0)
        → bit_and (get_or masks j 0) n ≡ 0
    go (inl q) p rest = rw q (eqb-true (bit_and (get_or masks k 0) n) 0 (not-false (eqb (bit_and (get_or masks k 0) n) 0) p.1))
    go (inr l) p rest = rest p.0 l

-- the mask check's rows, passed
pub masks_accepted : (d : ℕ) (masks : List ℕ) → first_of (bitfields_rows d masks) ≡ Ok tt → MasksAccepted d masks
unfolding bitfields_rows
masks_accepted d masks e =
    let six = row_parts (mask_depth d) _ _ e in
    let each = (first_parts (cat (mask_rows d masks) 4) _ six.1).0 in
    record {
      depths = depths d six.0;
      inside = λ k h. (mask_passes d masks k (cat_parts (mask_rows d masks) 4 k each h)).below;
      runs = λ k h. (mask_passes d masks k (cat_parts (mask_rows d masks) 4 k each h)).run;
      apart = λ j k l h. apart_from masks k (get_or masks k 0) j (mask_passes d masks k (cat_parts (mask_rows d masks) 4 k each h)).apart l;
    }

-- ---- the call

-- 1 and 2 passed
dimensions : (w h : ℕ) → first_of (dimension_rows w h) ≡ Ok tt → ((0 < w) × (w < 2147483648)) × ((0 < h) × (h < 2147483648))
unfolding dimension_rows
dimensions w h e =
    let one = row_parts (eqb w 0 || eqb h 0) _ _ e in
    let two = row_parts (ltb 2147483647 w || ltb 2147483647 h) _ _ one.1 in
    let zero = or_false (eqb w 0) (eqb h 0) one.0 in
    let large = or_false (ltb 2147483647 w) (ltb 2147483647 h) two.0 in (
      (omega (arith, eqb-false w 0 zero.0), omega (arith, ltb-false 2147483647 w large.0)),
      (omega (arith, eqb-false h 0 zero.1), omega (arith, ltb-false 2147483647 h large.1)),
    )

-- 20 and 21 passed
settings : (limit : ℕ) (x y : ℤ) → first_of (settings_rows limit x y) ≡ Ok tt → limit ≤ max_file
unfolding settings_rows
settings limit x y e = ltb-false max_file limit (row_parts (ltb max_file limit) _ _ e).0

-- 12 and 13 passed
plane : (w h stride n bytes : ℕ) → first_of (plane_rows w h stride n bytes) ≡ Ok tt → (stride * h ≤ bytes) × (w * n ≤ stride)
unfolding plane_rows
plane w h stride n bytes e =
    let twelve = row_parts (ltb bytes (stride * h)) _ _ e in
    let thirteen = row_parts (ltb stride (w * n)) _ _ twelve.1 in
    (ltb-false bytes (stride * h) twelve.0, ltb-false stride (w * n) thirteen.0)

-- 6 to 11 passed
pub given_masks : (s : EncodeSource) (o : EncodeOptions) → first_of (given_masks_rows s o) ≡ Ok tt → is_some o.bitfields ≡ true
    → MasksAccepted (bitfields_in o).bpp (bitfields_in o).masks × (mask_source s.format ≡ false)
unfolding given_masks_rows
given_masks s o e q =
    let rows = bitfields_rows (bitfields_in o).bpp (bitfields_in o).masks in
    let both = first_parts rows ((mask_source s.format, MaskSource) ∷ []) (rw q at e) in
    (masks_accepted (bitfields_in o).bpp (bitfields_in o).masks both.0, (row_parts (mask_source s.format) _ _ both.1).0)

-- 14 and 16 passed: the file fits
pub size_fits : (limit : ℕ) (i : Input) → file_too_large limit i ≡ false → stream_over_budget limit i ≡ false → stream_used limit i ≡ false → plain_size_of i ≤ limit
unfolding file_too_large stream_over_budget stream_used
size_fits limit i large over used = go (rle_planned i) (ltb (length (stream_of i)) (budget limit i)) (ltb limit (plain_size_of i)) refl large over used
  where
    go : (p s l : Bool) → ltb limit (plain_size_of i) ≡ l → (not p && l) ≡ false → (p && l && not s) ≡ false → (p && s) ≡ false → plain_size_of i ≤ limit
    go p s false q a b c = ltb-false limit (plain_size_of i) q
    go false s true q a b c = absurd (false≢true (sym a))
    go true true true q a b c = absurd (false≢true (sym c))
    go true false true q a b c = absurd (false≢true (sym b))

-- what is known where none of 1 to 13 applies, of a plane of so many bytes
pub record ChecksPassed (s : EncodeSource) (o : EncodeOptions) (plane_bytes : ℕ) : Type 0 where
  pub some_width : 0 < s.width
  pub wide : s.width < 2147483648
  pub some_height : 0 < s.height
  pub tall : s.height < 2147483648
  pub limited : o.limit ≤ max_file
  pub rows_inside : s.width * bytes_per_pixel s.format ≤ s.stride
  pub plane_long : s.stride * s.height ≤ plane_bytes
  pub masks : is_some o.bitfields ≡ true → MasksAccepted (bitfields_in o).bpp (bitfields_in o).masks
  pub samples : is_some o.bitfields ≡ true → mask_source s.format ≡ false

pub checks_passed : (s : EncodeSource) (o : EncodeOptions) (plane_bytes palette_bytes : ℕ) → first_of (check_rows s o plane_bytes palette_bytes) ≡ Ok tt → ChecksPassed s o plane_bytes
unfolding check_rows
checks_passed s o plane_bytes palette_bytes e =
    let dimension = dimension_rows s.width s.height in
    let setting = settings_rows o.limit o.x_pels_per_meter o.y_pels_per_meter in
    let palette = palette_rows (is_indexed s.format) s.has_palette palette_bytes in
    let modes = mode_rows (is_some o.bitfields) (is_some o.calibrated_rgb) (profile_mode s.has_linked_icc s.has_icc o.embed_icc) in
    let masks = given_masks_rows s o in
    let a12 = first_parts (dimension ++ setting ++ palette ++ modes ++ masks) (plane_rows s.width s.height s.stride (bytes_per_pixel s.format) plane_bytes) e in
    let a6 = first_parts (dimension ++ setting ++ palette ++ modes) masks a12.0 in
    let a5 = first_parts (dimension ++ setting ++ palette) modes a6.0 in
    let a3 = first_parts (dimension ++ setting) palette a5.0 in
    let a20 = first_parts dimension setting a3.0 in
    let size = dimensions s.width s.height a20.0 in
    let long = plane s.width s.height s.stride (bytes_per_pixel s.format) plane_bytes a12.1 in
    let mask = given_masks s o a6.1 in
    record {
      some_width = size.0.0;
      wide = size.0.1;
      some_height = size.1.0;
      tall = size.1.1;
      limited = settings o.limit o.x_pels_per_meter o.y_pels_per_meter a20.1;
      rows_inside = long.1;
      plane_long = long.0;
      masks = λ q. (mask q).0;
      samples = λ q. (mask q).1;
    }

-- of a call
abbrev pub Checked : Input → Type 0
Checked i = ChecksPassed i.source i.options (length i.plane)

pub checked : (i : Input) → first_of (call_rows i) ≡ Ok tt → Checked i
checked i = checks_passed i.source i.options (length i.plane) (length i.palette)

-- the stored rows of a call that 1 to 13 pass have the raw bytes
pub rows_long : (i : Input) → Checked i → length (stored_rows_of i) ≡ raw_bytes i
rows_long i k = length_rows_lem i k.masks k.samples

-- 1 to 14 passed
pub plan_passed : (i : Input) → first_of (plan_rows (limit_in i) i) ≡ Ok tt → Checked i × (file_too_large (limit_in i) i ≡ false)
unfolding plan_rows
plan_passed i e =
    let both = first_parts (call_rows i) ((file_too_large (limit_in i) i, FileTooLarge) ∷ []) e in
    (checked i both.0, (row_parts (file_too_large (limit_in i) i) FileTooLarge (first_of []) both.1).0)

-- 1 to 16 passed: the file keeps to the limit
pub keeps_limit : (i : Input) (room offset : ℕ) → first_of (write_rows (limit_in i) i room offset) ≡ Ok tt → Checked i × (file_size_of (limit_in i) i ≤ limit_in i)
unfolding write_rows
keeps_limit i room offset e =
    let writing : List (Bool × Refusal) = (buffer_too_short (limit_in i) i room offset, BufferTooShort) ∷ (stream_over_budget (limit_in i) i, StreamOverBudget) ∷ [] in
    let all = first_parts (plan_rows (limit_in i) i) writing e in
    let plan = plan_passed i all.0 in
    let over = (row_parts (stream_over_budget (limit_in i) i) StreamOverBudget (first_of []) (row_parts (buffer_too_short (limit_in i) i room offset) BufferTooShort _ all.1).1).0 in
    (plan.0, file_fits_lem (limit_in i) i (rows_long i plan.0) (size_fits (limit_in i) i plan.1 over))

-- a call that no row of the table refuses
pub accepted : (i : Input) (room offset : ℕ) → ((k : ℕ) → get_or i.plane k 0 < 256) → ((k : ℕ) → get_or i.palette k 0 < 256)
    → length (calibrated_in i.options).endpoints ≡ 9 → length (calibrated_in i.options).gamma ≡ 3
    → first_of (write_rows (limit_in i) i room offset) ≡ Ok tt → Accepted i
accepted i room offset plane_bytes_is palette_bytes_is nine three e =
    let passed = keeps_limit i room offset e in
    let k = passed.0 in
    record {
      some_width = k.some_width;
      wide = k.wide;
      some_height = k.some_height;
      tall = k.tall;
      plane_bytes_is = plane_bytes_is;
      palette_bytes_is = palette_bytes_is;
      nine_endpoints = nine;
      three_gammas = three;
      rows_inside = k.rows_inside;
      plane_long = k.plane_long;
      masks = k.masks;
      samples = k.samples;
      fits = passed.1;
      limited = k.limited;
    }
