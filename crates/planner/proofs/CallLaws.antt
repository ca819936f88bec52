-- From the table's outcome to the promises of the two writing calls.
use mathlib.Core.Path.{◌≡◌, refl, sym, ap, subst, ◌∙◌}
use mathlib.Core.Bool.{Bool, true, false, false≢true, not, cond, ◌&&◌, ◌||◌}
use mathlib.Core.List.{List, [], ◌∷◌, ◌++◌}
use Prim.Native.Nat.{ℕ, ◌+◌, ◌-◌, ◌≤◌, ◌<◌}
use native.Mathlib.Omega.{arith}
use borrow.Author.Tests.{ltb-false, lt-ltb, le-ltb}
use lib.Dec.{ltb}
use lib.ListN.{length, get_or, take, drop}
use lib.Seq.{get_or-take}
use Rattle.std.proofs.Common.{Ok, Err}
use Rattle.leaves.specs.declared.error.Refusal.{Refusal}
use Rattle.leaves.specs.declared.error.Refusal.TheVariants.{FileTooLarge, BufferTooShort, StreamOverBudget, StartsTooShort}
use Rattle.leaves.specs.Put.{put}
use Rattle.leaves.specs.Lists.{tab}
use Rattle.leaves.specs.Refusals.{check_number, first_of, or_else, Check}
use Rattle.format.specs.Demand.{Demand3}
use Rattle.leaves.specs.Sizes.{clr_used_of}
use Rattle.format.specs.declared.layout.Layout.{Layout}
use Rattle.format.specs.declared.layout.Mode.{Mode}
use Rattle.format.specs.File.{mode_in, depth_in, rle_planned, raw_bytes, entries_of, head_bytes_of, tail_of, stream_of, limit_in, budget, stream_used, stored_rows_of, pixels, colour_table, stored_height_of, compression_of, image_size_of, x_pels_in, y_pels_in, head_of, file_size_of, file_of, plain_size_of, bound_of, format_of}
use Rattle.format.specs.Headers.{file_header, info_header}
use Rattle.format.specs.Layout.{is_profiled, tail_in, header_size_of, head_rest}
use Rattle.format.specs.Input.{Input}
use Rattle.format.specs.OneRow.{read_one_row}
use Rattle.format.specs.Readers.{newer}
use Rattle.format.specs.Refusals.{file_too_large, buffer_too_short, stream_over_budget, call_rows, plan_rows, write_rows, starts_rows}
use Rattle.format.specs.Starts.{pixel_row, row_start, starts_of, RowsShown}
use Rattle.leaves.proofs.FirstOf.{check_determined, first-or, first_pass, first_stop}
use Rattle.leaves.proofs.ListLaws.{length-tab, get_or-tab}
use Rattle.leaves.proofs.Puts.{inside_put}
use Rattle.format.proofs.HeadFields.{length_file}
use Rattle.format.proofs.Passing.{or_false, first_parts, row_parts}
use Rattle.format.proofs.Readings.{demand3}
use Rattle.format.proofs.RowStarts.{row_shown}
use Rattle.rows.proofs.StartLaws.{noted_ext, noted_all}
use Rattle.planner.specs.Answers.{EncodeAnswer, encoded_number, encoded_bytes, encoded_format, bytes_for, format_for, later_for, starts_for, WrittenBy, Written, WrittenWithStarts}
use Rattle.planner.specs.declared.plan.Sizes.{Sizes}
use Rattle.planner.specs.Calls.{chosen}
use Rattle.planner.specs.Plans.{sizes_by, Planned, encoded_for, stream_check, list_rows, noted_for, Wrote}

-- ---- the outcome

module _ (i : Input) (room offset entries needed : ℕ) where
  -- the rows behind the plan's
  abbrev writing : List (Bool × Refusal)
  writing = (buffer_too_short (limit_in i) i room offset, BufferTooShort) ∷ (ltb entries needed, StartsTooShort) ∷ (stream_over_budget (limit_in i) i, StreamOverBudget) ∷ []

  abbrev decided : Check
  decided = first_of (list_rows (limit_in i) i room offset entries needed)

  -- a plan that is refused
  pub refused_plan : (why : Refusal) → first_of (plan_rows (limit_in i) i) ≡ Err why → decided ≡ Err why
  unfolding list_rows
  refused_plan why e = first_stop (plan_rows (limit_in i) i) writing why e

  -- what is left once the plan is ready
  after_plan : first_of (plan_rows (limit_in i) i) ≡ Ok tt
      → decided ≡ cond (buffer_too_short (limit_in i) i room offset) (Err BufferTooShort) (cond (ltb entries needed) (Err StartsTooShort) (stream_check i))
  unfolding list_rows
  after_plan e = first_pass (plan_rows (limit_in i) i) writing e

  -- 15 applies
  pub short_stops : (bound : ℕ) (r : Bool) → first_of (plan_rows (limit_in i) i) ≡ Ok tt → bound ≡ bound_of (limit_in i) i
      → r ≡ (ltb room offset || ltb (room - offset) bound) → r ≡ true → decided ≡ Err BufferTooShort
  unfolding buffer_too_short
  short_stops bound r p b e t =
      let short : (ltb room offset || ltb (room - offset) (bound_of (limit_in i) i)) ≡ true = ap (λ (n : ℕ). ltb room offset || ltb (room - offset) n) (sym b) ∙ sym e ∙ t in
      after_plan p ∙ ap (λ (s : Bool). cond s (Err BufferTooShort) (cond (ltb entries needed) (Err StartsTooShort) (stream_check i))) short

  -- 15 does not apply: the buffer has room, and 24 and 16 decide
  pub record RoomLeft (bound : ℕ) : Type 0 where
    pub outcome : decided ≡ cond (ltb entries needed) (Err StartsTooShort) (stream_check i)
    pub inside : offset ≤ room
    pub long : offset + bound ≤ room

  -- the test of the room says so
  pub room_left : (bound : ℕ) (r : Bool) → first_of (plan_rows (limit_in i) i) ≡ Ok tt → bound ≡ bound_of (limit_in i) i
      → r ≡ (ltb room offset || ltb (room - offset) bound) → r ≡ false → RoomLeft bound
  unfolding buffer_too_short
  room_left bound r p b e t =
      let long : (ltb room offset || ltb (room - offset) (bound_of (limit_in i) i)) ≡ false = ap (λ (n : ℕ). ltb room offset || ltb (room - offset) n) (sym b) ∙ sym e ∙ t in
      let both = or_false (ltb room offset) (ltb (room - offset) (bound_of (limit_in i) i)) long in
      let before = ltb-false room offset both.0 in
      let after = ltb-false (room - offset) (bound_of (limit_in i) i) both.1 in
      record {
        outcome = after_plan p ∙ ap (λ (s : Bool). cond s (Err BufferTooShort) (cond (ltb entries needed) (Err StartsTooShort) (stream_check i))) long;
        inside = before;
        long = omega (arith, before, after, b);
      }

  -- 24 applies, and it does not
  pub starts_stop : {bound : ℕ} → RoomLeft bound → entries < needed → decided ≡ Err StartsTooShort
  starts_stop r h = r.outcome ∙ rw (lt-ltb entries needed h)

  pub starts_left : {bound : ℕ} → RoomLeft bound → needed ≤ entries → decided ≡ stream_check i
  starts_left r h = r.outcome ∙ rw (le-ltb entries needed h)

  -- a call that this table lets pass, the first call's lets pass too, and its list has the entries
  pub list_passed : decided ≡ Ok tt → (first_of (write_rows (limit_in i) i room offset) ≡ Ok tt) × (needed ≤ entries)
  unfolding list_rows write_rows
  list_passed e =
      let all = first_parts (plan_rows (limit_in i) i) writing e in
      let fifteen = row_parts (buffer_too_short (limit_in i) i room offset) BufferTooShort _ all.1 in
      let more = row_parts (ltb entries needed) StartsTooShort _ fifteen.1 in (
        first_pass (plan_rows (limit_in i) i) ((buffer_too_short (limit_in i) i room offset, BufferTooShort) ∷ (stream_over_budget (limit_in i) i, StreamOverBudget) ∷ []) all.0 ∙ rw fifteen.0 more.1,
        ltb-false entries needed more.0,
      )

-- where the list has the entries it is the first call's table
pub long_list : (i : Input) (room offset entries needed : ℕ) → needed ≤ entries → first_of (list_rows (limit_in i) i room offset entries needed) ≡ first_of (write_rows (limit_in i) i room offset)
unfolding list_rows write_rows
long_list i room offset entries needed h =
    first-or (plan_rows (limit_in i) i) _
    ∙ ap (λ (b : Bool). or_else (first_of (plan_rows (limit_in i) i)) (cond (buffer_too_short (limit_in i) i room offset) (Err BufferTooShort) (cond b (Err StartsTooShort) (stream_check i)))) (le-ltb entries needed h)
    ∙ sym (first-or (plan_rows (limit_in i) i) ((buffer_too_short (limit_in i) i room offset, BufferTooShort) ∷ (stream_over_budget (limit_in i) i, StreamOverBudget) ∷ []))

-- with as many as the height it is the second's
pub as_starts : (i : Input) (room offset entries : ℕ) → list_rows (limit_in i) i room offset entries i.source.height ≡ starts_rows (limit_in i) i room offset entries
unfolding list_rows starts_rows
as_starts i room offset entries = refl

-- ---- the call once its profile is chosen

-- the choice of the choice is the choice
tail_again : (m : Mode) (given : Bool) (icc linked : List ℕ) → tail_in m given (tail_in m given icc linked) (tail_in m given icc linked) ≡ tail_in m given icc linked
unfolding tail_in
tail_again m given icc linked = go (is_profiled m) given
  where
    go : (a b : Bool) → cond a (cond b (cond a (cond b linked icc) []) (cond a (cond b linked icc) [])) [] ≡ cond a (cond b linked icc) []
    go true true = refl
    go true false = refl
    go false b = refl

module _ (i : Input) (profile : List ℕ) (e : profile ≡ tail_of i) where
  abbrev same : Input
  same = chosen i.source i.options i.plane i.palette profile

  tails : tail_of same ≡ tail_of i
  tails = (λ z. tail_in (mode_in i) i.source.has_linked_icc (e z) (e z)) ∙ tail_again (mode_in i) i.source.has_linked_icc i.icc i.linked

  -- it is the profile of the call
  pub own_tail : profile ≡ tail_of same
  own_tail = e ∙ sym tails

  pub same_plan : (l : Layout) (s : Sizes) → Planned i l s → Planned same l s
  unfolding plan_rows file_too_large plain_size_of
  same_plan l s p =
      record {
        passed = ap (λ (t : List ℕ). first_of (call_rows i ++ ((not (rle_planned i) && ltb (limit_in i) (head_bytes_of i + raw_bytes i + length t), FileTooLarge) ∷ []))) tails ∙ p.passed;
        layout_is = p.layout_is;
        sizes_are = p.sizes_are ∙ ap (λ (t : List ℕ). sizes_by (limit_in i) (head_bytes_of i) (raw_bytes i) (length t) (rle_planned i) i.source.width) (sym tails);
      }

  same_check : stream_check same ≡ stream_check i
  unfolding stream_over_budget plain_size_of budget stream_of
  same_check = ap (λ (t : List ℕ). first_of ((rle_planned i && ltb (limit_in i) (head_bytes_of i + raw_bytes i + length t) && not (ltb (length (stream_of i)) (budget (limit_in i) i)), StreamOverBudget) ∷ [])) tails

  same_size : file_size_of (limit_in i) same ≡ file_size_of (limit_in i) i
  unfolding file_size_of pixels stream_used budget stream_of stored_rows_of
  same_size = ap (λ (t : List ℕ). head_bytes_of i + length (pixels (limit_in i) i) + length t) tails

  same_file : file_of (limit_in i) same ≡ file_of (limit_in i) i
  unfolding file_of head_of colour_table image_size_of compression_of file_size_of pixels stream_used budget stream_of stored_rows_of
  same_file =
      λ z. (file_header (same_size z) (head_bytes_of i)
      ++ info_header (header_size_of (mode_in i) i.source.format) i.source.width (stored_height_of i) (depth_in i) (compression_of (limit_in i) i) (image_size_of (limit_in i) i) (x_pels_in i) (y_pels_in i) (clr_used_of (depth_in i) (entries_of i))
      ++ head_rest (mode_in i) i.source i.options (length (tails z)) (head_bytes_of i - 14 + raw_bytes i)
      ++ colour_table i) ++ pixels (limit_in i) i ++ tails z

  -- so answer and buffer are the call's
  pub same_answer : encoded_for (stream_check same) same ≡ encoded_for (stream_check i) i
  unfolding format_of stream_used budget stream_of
  same_answer = ap (λ (c : Check). encoded_for c same) same_check ∙ go (stream_check i)
    where
      go : (c : Check) → encoded_for c same ≡ encoded_for c i
      go (Ok passed) = λ z. Ok (record { format = format_of (limit_in i) i; bytes = same_size z })
      go (Err why) = refl

  pub same_later : (at : ℕ) (d : List ℕ) → later_for (stream_check same) same at d ≡ later_for (stream_check i) i at d
  same_later at d = ap (λ (c : Check). later_for c same at d) same_check ∙ go (stream_check i)
    where
      go : (c : Check) → later_for c same at d ≡ later_for c i at d
      go (Ok passed) = ap (put d at) same_file
      go (Err why) = refl

  same_start : (s : ℕ) → row_start (limit_in i) same s ≡ row_start (limit_in i) i s
  unfolding row_start pixel_row stream_used budget stream_of
  same_start s = refl

  -- and the list
  pub same_noted : (was : List ℕ) → noted_for (stream_check same) same was ≡ noted_for (stream_check i) i was
  same_noted was = ap (λ (c : Check). noted_for c same was) same_check ∙ go (stream_check i)
    where
      go : (c : Check) → noted_for c same was ≡ noted_for c i was
      go (Ok passed) = noted_ext (row_start (limit_in i) same) (row_start (limit_in i) i) was i.source.height same_start
      go (Err why) = refl

-- ---- the promises

-- a refusal is no pass
refused : (why : Refusal) → ◌≡◌ {A = Check} (Err why) (Ok tt) → ⊥
refused why e = let q : true ≡ false = cc in false≢true (sym q)

-- a refusal: nothing is changed
pub wrote_refused : (c : Check) (i : Input) (offset : ℕ) (was starts : List ℕ) (r : EncodeAnswer) (why : Refusal) → c ≡ Err why → r ≡ Err why
    → Wrote c i offset was was starts starts r
wrote_refused c i offset was starts r why e answer =
    record {
      answers = answer ∙ ap (λ (k : Check). encoded_for k i) (sym e);
      buffer = ap (λ (k : Check). later_for k i offset was) (sym e);
      list = ap (λ (k : Check). noted_for k i starts) (sym e);
      inside = λ q. absurd (refused why (sym e ∙ q));
      accepted = λ q. absurd (refused why (sym e ∙ q));
    }

number_for : (c : Check) (i : Input) → encoded_number (encoded_for c i) ≡ check_number c
number_for (Ok passed) i = refl
number_for (Err why) i = refl

bytes-for : (c : Check) (i : Input) → encoded_bytes (encoded_for c i) ≡ bytes_for c i
bytes-for (Ok passed) i = refl
bytes-for (Err why) i = refl

format_for_lem : (c : Check) (i : Input) → encoded_format (encoded_for c i) ≡ format_for c i
format_for_lem (Ok passed) i = refl
format_for_lem (Err why) i = refl

-- the appended bytes are the file
appended : (i : Input) (offset : ℕ) (was : List ℕ) → offset ≤ length was → file_of (limit_in i) i ≡ take (file_size_of (limit_in i) i) (drop offset (put was offset (file_of (limit_in i) i)))
appended i offset was h =
    sym (inside_put was offset (file_of (limit_in i) i) h) ∙ ap (λ (n : ℕ). take n (drop offset (put was offset (file_of (limit_in i) i)))) (length_file i)

module _ (c : Check) (i : Input) (offset : ℕ) (was later starts later_starts : List ℕ) (r : EncodeAnswer) (w : Wrote c i offset was later starts later_starts r) where
  -- a number of 0 is a pass
  passed : encoded_number r ≡ 0 → c ≡ Ok tt
  passed z = check_determined c (Ok tt) (sym (ap encoded_number w.answers ∙ number_for c i) ∙ z)

  -- then the appended bytes are the file
  bytes_are : c ≡ Ok tt → file_of (limit_in i) i ≡ take (encoded_bytes r) (drop offset later)
  bytes_are q =
      let n : file_size_of (limit_in i) i ≡ encoded_bytes r = sym (ap encoded_bytes w.answers ∙ ap (λ (k : Check). encoded_bytes (encoded_for k i)) q) in
      let l : put was offset (file_of (limit_in i) i) ≡ later = sym (w.buffer ∙ ap (λ (k : Check). later_for k i offset was) q) in
      appended i offset was (w.inside q) ∙ (λ z. take (n z) (drop offset (l z)))

  -- the promise of a writing call
  pub written_by : WrittenBy c i offset was later r
  written_by =
      record {
        number = ap encoded_number w.answers ∙ number_for c i;
        bytes = ap encoded_bytes w.answers ∙ bytes-for c i;
        format = ap encoded_format w.answers ∙ format_for_lem c i;
        buffer = w.buffer;
        shown = λ z. subst (Demand3 i) (bytes_are (passed z)) (demand3 i (w.accepted (passed z)));
      }

  -- and of the list, where it has an entry for each row
  module _ (long : c ≡ Ok tt → i.source.height ≤ length starts) where
    list_is : later_starts ≡ starts_for c i starts
    unfolding starts_of
    list_is = w.list ∙ go c long
      where
        go : (c : Check) → (c ≡ Ok tt → i.source.height ≤ length starts) → noted_for c i starts ≡ starts_for c i starts
        go (Ok passed) h = noted_all (row_start (limit_in i) i) starts i.source.height (h refl)
        go (Err why) h = refl

    -- entry s of it
    entry : (s : ℕ) → c ≡ Ok tt → s < i.source.height → get_or later_starts s 0 ≡ row_start (limit_in i) i s
    unfolding starts_of
    entry s q l =
        let all : List ℕ = tab (row_start (limit_in i) i) i.source.height in
        ap (λ (x : List ℕ). get_or x s 0) (list_is ∙ ap (λ (k : Check). starts_for k i starts) q)
        ∙ sym (get_or-take (length all) (put starts 0 all) s 0 (rw (length-tab (row_start (limit_in i) i) i.source.height) l))
        ∙ ap (λ (x : List ℕ). get_or x s 0) (inside_put starts 0 all (omega arith))
        ∙ get_or-tab (row_start (limit_in i) i) i.source.height s 0 l

    rows_from : encoded_number r ≡ 0 → RowsShown i (take (encoded_bytes r) (drop offset later)) later_starts
    rows_from z =
        let q = passed z in
        record { each = λ s l. (λ y. read_one_row newer (sym (bytes_are q) y) (entry s q l y)) ∙ row_shown i (w.accepted q) s l }

    pub list_by : (later_starts ≡ starts_for c i starts) × (encoded_number r ≡ 0 → RowsShown i (take (encoded_bytes r) (drop offset later)) later_starts)
    list_by = (list_is, rows_from)

-- the promise of the first call
pub written_alone : (i : Input) (offset entries : ℕ) (was later starts later_starts : List ℕ) (r : EncodeAnswer)
    → Wrote (first_of (list_rows (limit_in i) i (length was) offset entries 0)) i offset was later starts later_starts r → Written i offset was later r
written_alone i offset entries was later starts later_starts r w =
    subst (λ (c : Check). WrittenBy c i offset was later r) (long_list i (length was) offset entries 0 (omega arith))
    (written_by (first_of (list_rows (limit_in i) i (length was) offset entries 0)) i offset was later starts later_starts r w)

-- and of the second
pub written_with_starts : (i : Input) (offset : ℕ) (was later starts later_starts : List ℕ) (r : EncodeAnswer)
    → Wrote (first_of (list_rows (limit_in i) i (length was) offset (length starts) i.source.height)) i offset was later starts later_starts r
    → WrittenWithStarts i offset was later starts later_starts r
written_with_starts i offset was later starts later_starts r w =
    let c = first_of (list_rows (limit_in i) i (length was) offset (length starts) i.source.height) in
    let e : c ≡ first_of (starts_rows (limit_in i) i (length was) offset (length starts)) = ap first_of (as_starts i (length was) offset (length starts)) in
    let l = list_by c i offset was later starts later_starts r w (λ q. (list_passed i (length was) offset (length starts) i.source.height q).1) in
    record {
      written = subst (λ (k : Check). WrittenBy k i offset was later r) e (written_by c i offset was later starts later_starts r w);
      list = l.0 ∙ ap (λ (k : Check). starts_for k i starts) e;
      rows_shown_is = l.1;
    }
