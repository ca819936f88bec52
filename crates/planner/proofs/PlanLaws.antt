-- The plan: the checks in a row, the sizes, and what a plan says.
use mathlib.Core.Path.{◌≡◌, refl, sym, ap, ◌∙◌}
use mathlib.Core.Bool.{Bool, true, false, not, cond, ◌&&◌, false≢true}
use mathlib.Core.List.{List, [], ◌∷◌}
use Prim.Native.Nat.{ℕ, ◌+◌, ◌-◌, ◌*◌, ◌≤◌, ◌<◌, min, max}
use native.Mathlib.Nat.{mul-le-mul}
use native.Mathlib.Omega.{arith}
use borrow.Author.Tests.{leb-true, leb-false, le-leb, lt-leb, lt-ltb, le-ltb}
use lib.Dec.{leb, ltb}
use lib.ListN.{length}
use Rattle.std.proofs.Common.{Ok, Err, is_some}
use Rattle.leaves.specs.declared.encoder.EncodeSource.{EncodeSource}
use Rattle.leaves.specs.declared.options.EncodeOptions.{EncodeOptions}
use Rattle.leaves.specs.declared.error.Refusal.{Refusal}
use Rattle.leaves.specs.declared.error.Refusal.TheVariants.{FileTooLarge}
use Rattle.leaves.specs.Refusals.{check_number, first_of, Check}
use Rattle.leaves.specs.Sizes.{row_stride}
use Rattle.leaves.proofs.FirstOf.{first_pass, first_stop, check_determined}
use Rattle.format.specs.declared.layout.Layout.{Layout}
use Rattle.format.specs.File.{tail_of, rle_planned, limit_in, plain_size_of, budget, bound_of}
use Rattle.format.specs.Input.{Input}
use Rattle.format.specs.Layout.{depth_of, raw_len, head_len, wants_rle, layout_of}
use Rattle.format.specs.Refusals.{file_too_large, check_rows, plan_rows}
use Rattle.format.proofs.Acceptance.{ChecksPassed}
use Rattle.format.proofs.HeadFields.{depth_le}
use Rattle.format.proofs.Modes.{planned_in, no_tail}
use Rattle.planner.specs.declared.plan.Plan.{Plan}
use Rattle.planner.specs.declared.plan.Sizes.{Sizes}
use Rattle.planner.specs.Answers.{PlanAnswer, Sized, bound_for, plan_number, plan_bound, plan_layout, plan_sizes}
use Rattle.planner.specs.Plans.{sizes_by, plan_by, sizes_plan, length_rows, passing, or_zero, PlannedBy, layout_in, sizes_of, Planned}
use Rattle.planner.proofs.LayoutLaws.{coding_planned}

-- ---- sizes as numbers

-- whether the file fits, by the body and then by the profile
pub fits_below : (body tail limit : ℕ) → body ≤ limit → leb tail (limit - body) ≡ leb (body + tail) limit
fits_below body tail limit h = go (leb tail (limit - body)) refl
  where
    go : (t : Bool) → leb tail (limit - body) ≡ t → t ≡ leb (body + tail) limit
    go true q = sym (le-leb (body + tail) limit (omega (arith, leb-true tail (limit - body) q)))
    go false q = sym (lt-leb (body + tail) limit (omega (arith, leb-false tail (limit - body) q)))

-- the plan of a stream, which has no profile
pub stream_plan : (limit head raw tail width room bound : ℕ) (l : Layout) (fits : Bool) → is_some l.coding ≡ true → tail ≡ 0 → fits ≡ leb (head + raw + tail) limit
    → room ≡ min raw (limit + 1 - head) → bound ≡ head + max (room + 2 * width + 2) (cond fits raw 0)
    → Ok (record { layout = l; sizes = record { head = head; raw = raw; file = head + raw; file_fits = fits; rle_budget = room; bound = bound } }) ≡ sizes_plan limit l head raw tail width
unfolding sizes_plan sizes_by
stream_plan limit head raw tail width room bound l fits e t f b p =
    let whole : head + raw ≡ head + raw + tail = omega (arith, t) in
    rw e
    (λ z. Ok (record { layout = l; sizes = record { head = head; raw = raw; file = whole z; file_fits = f z; rle_budget = b z; bound = (p ∙ λ y. head + max (b y + 2 * width + 2) (cond (f y) raw 0)) z } }))

-- of stored rows that fit
pub rows_plan : (limit head raw tail width room : ℕ) (l : Layout) (fits : Bool) → is_some l.coding ≡ false → fits ≡ leb (head + raw + tail) limit → fits ≡ true
    → room ≡ min raw (limit + 1 - head)
    → Ok (record { layout = l; sizes = record { head = head; raw = raw; file = head + raw + tail; file_fits = fits; rle_budget = room; bound = head + raw + tail } }) ≡ sizes_plan limit l head raw tail width
unfolding sizes_plan sizes_by
rows_plan limit head raw tail width room l fits e f t b =
    rw (e, le-ltb limit (head + raw + tail) (leb-true (head + raw + tail) limit (sym f ∙ t)))
    (λ z. Ok (record { layout = l; sizes = record { head = head; raw = raw; file = head + raw + tail; file_fits = f z; rle_budget = b z; bound = head + raw + tail } }))

-- and of those that do not
pub no_plan : (limit head raw tail width : ℕ) (l : Layout) (fits : Bool) → is_some l.coding ≡ false → fits ≡ leb (head + raw + tail) limit → fits ≡ false
    → Err FileTooLarge ≡ sizes_plan limit l head raw tail width
unfolding sizes_plan sizes_by
no_plan limit head raw tail width l fits e f t = rw (e, lt-ltb limit (head + raw + tail) (leb-false (head + raw + tail) limit (sym f ∙ t)))

-- the bound of a call's sizes
pub plan_bound_lem : (i : Input) (s : Sizes) → s ≡ sizes_of i → s.bound ≡ bound_of (limit_in i) i
unfolding sizes_by bound_of budget plain_size_of
plan_bound_lem i s e = ap (λ (t : Sizes). t.bound) e

-- ---- the plan

-- a stored row is below 2^33 bytes, and the rows leave 2^33 below 2^64
stride_le : (w d : ℕ) → w < 2147483648 → d ≤ 32 → row_stride w d ≤ 8589934588
unfolding row_stride
stride_le w d h k = let top : w * d ≤ w * 32 = mul-le-mul (omega arith) k in omega (arith, top)

-- the raw bytes of a call that passes leave 2^33 below 2^64
pub raw_fits : (s : EncodeSource) (o : EncodeOptions) (n : ℕ) → ChecksPassed s o n → raw_len s o + 8589934592 ≤ 18446744073709551616
unfolding raw_len
raw_fits s o n k =
    let long : row_stride s.width (depth_of s o) ≤ 8589934588 = stride_le s.width (depth_of s o) k.wide (depth_le s o (λ q. (k.masks q).depths)) in
    let tall : s.height ≤ 2147483647 = omega (arith, k.tall) in
    let all : row_stride s.width (depth_of s o) * s.height ≤ 8589934588 * 2147483647 = mul-le-mul long tall in
    omega (arith, all)

-- the raw bytes by the layout's depth
pub raw_is : (s : EncodeSource) (o : EncodeOptions) (n stride : ℕ) (l : Layout) → l ≡ layout_of s o n → stride ≡ row_stride s.width l.bit_count → stride * s.height ≡ raw_len s o
unfolding raw_len layout_of
raw_is s o n stride l e f = ap (λ (z : ℕ). z * s.height) (f ∙ ap (λ (z : Layout). row_stride s.width z.bit_count) e)

-- a layout tries a stream where RLE is planned
pub stream_planned : (s : EncodeSource) (o : EncodeOptions) (n : ℕ) (l : Layout) → l ≡ layout_of s o n → is_some l.coding ≡ wants_rle s o
unfolding layout_of
stream_planned s o n l e = ap (λ (z : Layout). is_some z.coding) e ∙ coding_planned s o

-- ---- number, layout and sizes determine a plan

-- layout and sizes, or the cause
unfoldable plan_of : EncodeSource → EncodeOptions → ℕ → ℕ → ℕ → PlanAnswer
plan_of s o plane_bytes palette_bytes profile_bytes_of =
    plan_by (first_of (length_rows o.limit s o plane_bytes palette_bytes profile_bytes_of)) (layout_of s o palette_bytes) (sizes_by o.limit (head_len s o palette_bytes) (raw_len s o) profile_bytes_of (wants_rle s o) s.width)

plan_check : PlanAnswer → Check
plan_check (Ok p) = Ok tt
plan_check (Err why) = Err why

plan_number_lem : (p : PlanAnswer) → plan_number p ≡ check_number (plan_check p)
unfolding plan_check
plan_number_lem (Ok p) = refl
plan_number_lem (Err why) = refl

-- the plan of a check, layouts and sizes
rebuilt : Check → List Layout → List Sizes → PlanAnswer → PlanAnswer
rebuilt (Ok passed) [] sizes p = p
rebuilt (Ok passed) (l ∷ ls) [] p = p
rebuilt (Ok passed) (l ∷ ls) (s ∷ ss) p = Ok (record { layout = l; sizes = s })
rebuilt (Err why) layouts sizes p = Err why

rebuilds : (p q : PlanAnswer) → rebuilt (plan_check p) (plan_layout p) (plan_sizes p) q ≡ p
unfolding rebuilt plan_check
rebuilds (Ok p) q = refl
rebuilds (Err why) q = refl

-- equal in all three, two plans are one
pub plan_determined : (p q : PlanAnswer) → plan_number p ≡ plan_number q → plan_layout p ≡ plan_layout q → plan_sizes p ≡ plan_sizes q → p ≡ q
plan_determined p q number layout sizes =
    let same = check_determined (plan_check p) (plan_check q) (sym (plan_number_lem p) ∙ number ∙ plan_number_lem q) in
    sym (rebuilds p p) ∙ (λ z. rebuilt (same z) (layout z) (sizes z) p) ∙ rebuilds q p

-- what the plan of a check says
record Says (c : Check) (l : Layout) (s : Sizes) (p : PlanAnswer) : Type 0 where
  number : plan_number p ≡ check_number c
  bound : plan_bound p ≡ or_zero c s.bound
  layout : plan_layout p ≡ passing c l
  sizes : plan_sizes p ≡ passing c s

says : (c : Check) (l : Layout) (s : Sizes) → Says c l s (plan_by c l s)
says (Ok passed) l s = record { number = refl; bound = refl; layout = refl; sizes = refl }
says (Err why) l s = record { number = refl; bound = refl; layout = refl; sizes = refl }

module _ (s : EncodeSource) (o : EncodeOptions) (a b t : ℕ) where
  rows : List (Bool × Refusal)
  rows = length_rows o.limit s o a b t

  sizes : Sizes
  sizes = sizes_by o.limit (head_len s o b) (raw_len s o) t (wants_rle s o) s.width

  -- the promise of the plan is an equation
  planned_as : (p : PlanAnswer) → p ≡ plan_of s o a b t → PlannedBy s o a b t p
  unfolding plan_of rows sizes
  planned_as p e =
      let k = says (first_of rows) (layout_of s o b) sizes in
      record { number = ap plan_number e ∙ k.number; bound = ap plan_bound e ∙ k.bound; layout = ap plan_layout e ∙ k.layout; sizes = ap plan_sizes e ∙ k.sizes }

  planned_is : (p : PlanAnswer) → PlannedBy s o a b t p → p ≡ plan_of s o a b t
  unfolding plan_of rows sizes
  planned_is p h =
      let k = says (first_of rows) (layout_of s o b) sizes in
      plan_determined p (plan_by (first_of rows) (layout_of s o b) sizes) (h.number ∙ sym k.number) (h.layout ∙ sym k.layout) (h.sizes ∙ sym k.sizes)

-- ---- the plan by the checks

-- a call that is refused has a refused plan
pub plan_stops : (s : EncodeSource) (o : EncodeOptions) (a b t : ℕ) (why : Refusal) (r : PlanAnswer) → Err why ≡ first_of (check_rows s o a b) → r ≡ Err why
    → PlannedBy s o a b t r
unfolding plan_of length_rows
plan_stops s o a b t why r e q =
    planned_as s o a b t r
    (q ∙ sym (ap (λ (k : Check). plan_by k (layout_of s o b) (sizes_by o.limit (head_len s o b) (raw_len s o) t (wants_rle s o) s.width)) (first_stop (check_rows s o a b) _ why (sym e))))

-- of one that passes, 14 decides
pub plan_sizes_lem : (s : EncodeSource) (o : EncodeOptions) (a b t head raw : ℕ) (l : Layout) (r : PlanAnswer) → first_of (check_rows s o a b) ≡ Ok tt
    → l ≡ layout_of s o b → head ≡ head_len s o b → raw ≡ raw_len s o → r ≡ sizes_plan o.limit l head raw t s.width → PlannedBy s o a b t r
unfolding plan_of length_rows sizes_plan
plan_sizes_lem s o a b t head raw l r passed el eh er e =
    let rle = stream_planned s o b l el in
    planned_as s o a b t r
    (e
    ∙ (λ z. plan_by (first_of ((not (rle z) && ltb o.limit (eh z + er z + t), FileTooLarge) ∷ [])) (el z) (sizes_by o.limit (eh z) (er z) t (rle z) s.width))
    ∙ sym (ap (λ (k : Check). plan_by k (layout_of s o b) (sizes_by o.limit (head_len s o b) (raw_len s o) t (wants_rle s o) s.width)) (first_pass (check_rows s o a b) _ passed)))

-- ---- what a plan says

is_ready : PlanAnswer → Bool
is_ready (Ok p) = true
is_ready (Err why) = false

plan_in : PlanAnswer → Plan → Plan
plan_in (Ok p) other = p
plan_in (Err why) other = other

refusal_in : PlanAnswer → Refusal → Refusal
refusal_in (Ok p) other = other
refusal_in (Err why) other = why

-- the plan of a call, by the table
call_plan : (i : Input) → plan_of i.source i.options (length i.plane) (length i.palette) (length (tail_of i)) ≡ plan_by (first_of (plan_rows (limit_in i) i)) (layout_in i) (sizes_of i)
unfolding plan_of length_rows plan_rows file_too_large plain_size_of
call_plan i = refl

module _ (i : Input) (p : PlanAnswer) (tail : ℕ) (et : tail ≡ length (tail_of i)) (e : PlannedBy i.source i.options (length i.plane) (length i.palette) tail p) where
  by_table : p ≡ plan_by (first_of (plan_rows (limit_in i) i)) (layout_in i) (sizes_of i)
  by_table = planned_is i.source i.options (length i.plane) (length i.palette) tail p e ∙ ap (plan_of i.source i.options (length i.plane) (length i.palette)) et ∙ call_plan i

  -- of a ready plan: the rows 1 to 14 pass, and layout and sizes are the call's
  pub plan_ready : (s : Plan) → p ≡ Ok s → Planned i s.layout s.sizes
  unfolding is_ready plan_in
  plan_ready s q = go (first_of (plan_rows (limit_in i) i)) refl (sym by_table ∙ q)
    where
      go : (c : Check) → first_of (plan_rows (limit_in i) i) ≡ c → plan_by c (layout_in i) (sizes_of i) ≡ Ok s → Planned i s.layout s.sizes
      go (Ok passed) r f = record { passed = r; layout_is = sym (ap (λ (x : PlanAnswer). (plan_in x s).layout) f); sizes_are = sym (ap (λ (x : PlanAnswer). (plan_in x s).sizes) f) }
      go (Err why) r f = absurd (false≢true (ap is_ready f))

  -- of a refused one: the first of them refuses so
  pub plan_refused : (why : Refusal) → p ≡ Err why → first_of (plan_rows (limit_in i) i) ≡ Err why
  unfolding is_ready refusal_in
  plan_refused why q = go (first_of (plan_rows (limit_in i) i)) refl (sym by_table ∙ q)
    where
      go : (c : Check) → first_of (plan_rows (limit_in i) i) ≡ c → plan_by c (layout_in i) (sizes_of i) ≡ Err why → first_of (plan_rows (limit_in i) i) ≡ Err why
      go (Ok passed) r f = absurd (false≢true (sym (ap is_ready f)))
      go (Err other) r f = r ∙ ap Err (ap (λ (x : PlanAnswer). refusal_in x why) f)

  -- ---- the size query

  pub sized_ready : (s : Plan) → p ≡ Ok s → Sized i (Ok s.sizes.bound)
  sized_ready s q =
      let k = plan_ready s q in
      record {
        number = sym (ap check_number k.passed);
        bytes = plan_bound_lem i s.sizes k.sizes_are ∙ sym (ap (λ (c : Check). bound_for c i) k.passed);
      }

  pub sized_refused : (why : Refusal) → p ≡ Err why → Sized i (Err why)
  sized_refused why q =
      let first = plan_refused why q in
      record { number = sym (ap check_number first); bytes = sym (ap (λ (c : Check). bound_for c i) first) }

-- a stream is planned only where there is no profile
pub stream_alone : (i : Input) (n : ℕ) → n ≡ length (tail_of i) → rle_planned i ≡ true → n ≡ 0
stream_alone i n e q = e ∙ no_tail i (planned_in i q)
