-- A reading's numbers as a sheet: what the reader promises, and what is answered.
use mathlib.Core.Path.{◌≡◌, refl, sym, ap, subst, ◌∙◌}
use mathlib.Core.Bool.{Bool, true, false, cond, ◌||◌}
use mathlib.Core.Logic.{inl, inr}
use mathlib.Core.List.{List, []}
use Prim.Native.Nat.{ℕ, zero, suc, ◌-◌, ◌*◌, ◌≤◌, ◌<◌}
use native.Mathlib.Nat.{mul_assoc, mul_comm, mul-pos, mul-le-mul_left}
use native.Mathlib.Omega.{arith}
use borrow.Author.Tests.{ltb-false, le-leb, lt-ltb, le-ltb, eq-eqb, ne_eqb}
use lib.Dec.{ltb, leb}
use lib.ListN.{length, get_or, take, drop}
use Rattle.leaves.specs.Put.{put}
use Rattle.leaves.proofs.ListLaws.{length-tab, length-cat}
use Rattle.leaves.proofs.Puts.{length-put, inside_put}
use Rattle.arguments.specs.Words.{item_at}
use Rattle.messages.specs.Messages.{decimal, filled, Says}
use Rattle.messages.proofs.MessageLaws.{says_as}
use Rattle.format.specs.Readers as Readers
use Rattle.format.specs.Readers.{Fields, fields_of, shows, refuses, read, shown_height}
use Rattle.format.proofs.Passing.{or_false}
use Rattle.std.specs.Prelude.{Ok, Err}
use Rattle.reader.specs.declared.read.ReadingSizes.{ReadingSizes}
use Rattle.reader.specs.declared.refusal.ReadRefusal.{ReadRefusal}
use Rattle.reader.specs.Answers.{sizes_answered, ReadAnswer, SizesAnswer, rows_shown, rows_in, Shows, Outcome, Read}
use Rattle.reader.specs.Numbers.{numbers_of, numbers_each, cell_count, head_bytes_of, table_bytes_of}
use Rattle.reader.specs.Refusals.{is_coded, stream_fails}
use Rattle.reader.specs.Rows.{plain_numbers, stream_numbers}
use Rattle.reader.proofs.Opens.{Opened, newer_shown}
use Rattle.reader.proofs.PlainRows.{way, row_numbers_lem}
use Rattle.reader.proofs.Calls.{opened_bytes, coded_kind, plain_kind, stream-filled, rows_filled, rows_pass, few_each}
use Rattle.sheets.specs.SheetTexts.{sheet_text}
use Rattle.command.specs.Commands.{check_status}
use Rattle.command.specs.Runs.{causes, refused_line, Checked}
use Rattle.command.specs.SheetReads.{line_numbers, sheet_of, room_for, sheet_room, lent_sizes, read_number, refused_answer, read_answer_of, read_line, read_text, later_out, SheetOut, ReadRan}
use Rattle.command.specs.declared.CommandAnswer.{CommandAnswer}
use Rattle.command.proofs.RunLaws.{nothing_said, no_message, status_is}

-- ---- memory

-- what is too long for 64 bits is too long for any memory
pub room_over : (n : ℕ) → 1676976733973595601 < n → 0xFFFFFFFFFFFFFFFF ≡ room_for n
unfolding room_for
room_over n h = omega arith

pub room_is : (n : ℕ) → n ≤ 1676976733973595601 → 11 * n ≡ room_for n
unfolding room_for
room_is n h = omega arith

pub room_enough : (n m : ℕ) → room_for n ≤ m → m < 9223372036854775808 → 11 * n ≤ m
unfolding room_for
room_enough n m h l = omega arith

pub sizes_lent : (s : ReadingSizes) (w : SizesAnswer) (n : ℕ) → n ≡ room_for s.cell_numbers → sizes_answered (Ok s) ≡ w
    → record { head_bytes = s.head_bytes; table_bytes = s.table_bytes; cell_numbers = s.cell_numbers; out_bytes = n } ≡ lent_sizes w
sizes_lent s w n e q = (λ z. record { head_bytes = s.head_bytes; table_bytes = s.table_bytes; cell_numbers = s.cell_numbers; out_bytes = e z }) ∙ ap lent_sizes q

-- of a file that is refused
pub none_lent : (why : ReadRefusal) (w : SizesAnswer) → sizes_answered (Err why) ≡ w → record { head_bytes = 0; table_bytes = 0; cell_numbers = 0; out_bytes = 0 } ≡ lent_sizes w
unfolding room_for
none_lent why w q = ap lent_sizes q

-- ---- how many numbers there are

-- what is shown has as many numbers as its cells
numbers_count : (file : List ℕ) (t : Fields) → Opened file t → stream_fails file ≡ false → length (numbers_of (rows_in file)) ≡ t.width * shown_height t * numbers_each t
unfolding stream_numbers plain_numbers
numbers_count file t o good = go (is_coded t.compression) refl
  where
    coded : is_coded t.compression ≡ true → length (numbers_of (rows_in file)) ≡ t.width * shown_height t * numbers_each t
    coded c =
        let s = stream-filled file t o (shown_height t) refl c good in
        let d : leb t.depth 8 ≡ true = le-leb t.depth 8 (coded_kind t o.head.sound c).1 in
        let n = length-cat _ t.width (shown_height t) (λ y l. length-tab _ t.width) in
        sym (ap length s) ∙ n ∙ rw d (omega (arith, mul_comm (shown_height t) t.width))

    plain : is_coded t.compression ≡ false → length (numbers_of (rows_in file)) ≡ t.width * shown_height t * numbers_each t
    plain c =
        let n = length-cat _ (t.width * numbers_each t) (shown_height t) (λ y l. row_numbers_lem file t _ (way t (plain_kind t o.head.sound c))) in
        sym (ap length (rows_filled file t o c)) ∙ n ∙ sym (mul_assoc (shown_height t) t.width (numbers_each t)) ∙ ap (λ (k : ℕ). k * numbers_each t) (mul_comm (shown_height t) t.width)

    go : (b : Bool) → is_coded t.compression ≡ b → length (numbers_of (rows_in file)) ≡ t.width * shown_height t * numbers_each t
    go true c = coded c
    go false c = plain c

abbrev width_shown : Readers.Reading → ℕ
width_shown (shows s) = s.width
width_shown (refuses cause) = 0

abbrev height_shown : Readers.Reading → ℕ
height_shown (shows s) = s.height
height_shown (refuses cause) = 0

-- of a file that is read: its numbers, and where they stand
pub record Numbered (file cells later_cells : List ℕ) (r : ReadAnswer) (each : ℕ) : Type 0 where
  pub some : 0 < r.width * each
  pub count : length (numbers_of (rows_in file)) ≡ r.width * each * r.height
  pub fits : r.width * each * r.height ≤ length cells
  pub long : length later_cells ≡ length cells
  pub taken : take (r.width * each * r.height - 0) (drop 0 later_cells) ≡ numbers_of (rows_in file)

swapped : (w h e a b c : ℕ) → a ≡ w → b ≡ h → c ≡ e → w * h * e ≡ a * c * b
swapped w h e a b c p q s = rw (p, q, s) (mul_assoc w h e ∙ ap (λ (k : ℕ). w * k) (mul_comm h e) ∙ sym (mul_assoc w e h))

some_each : (d : ℕ) {n : ℕ} → n ≡ cond (leb d 8) 1 4 → 0 < n
some_each d e = go (leb d 8) e
  where
    go : (b : Bool) {n : ℕ} → n ≡ cond b 1 4 → 0 < n
    go true e = omega arith
    go false e = omega arith

-- the product that is a line's numbers
pub line_small : (w d : ℕ) {n : ℕ} → n ≡ cond (leb d 8) 1 4 → w < 4294967296 → w * n ≤ 17179869180
line_small w d {n} e h = let h4 : n ≤ 4 = few_each d e in omega (arith, mul-le-mul_left w h4)

module _ (file head table cells later_head later_table later_cells : List ℕ) (r : ReadAnswer) (promise : Read file head table cells later_head later_table later_cells r) where
  pub numbered : ((k : ℕ) → get_or file k 0 < 256) → r.refusal ≡ 0 → (each : ℕ) → each ≡ cond (leb r.depth 8) 1 4 → Numbered file cells later_cells r each
  unfolding rows_in
  numbered bytes done each e =
      let t = fields_of file in
      let p = rows_pass file (length head) (length table) (length cells) (sym done ∙ promise.number) in
      let o = opened_bytes file bytes p.0 p.1 in
      let s : Shows file head table cells later_head later_table later_cells r = subst (λ (n : ℕ). Outcome n file head table cells later_head later_table later_cells r) done promise.outcome in
      let both = sym s.newer_shows ∙ newer_shown file t o p.3 in
      let w : r.width ≡ t.width = s.width ∙ ap width_shown both in
      let h : r.height ≡ shown_height t = s.height ∙ ap height_shown both in
      let d : each ≡ numbers_each t = e ∙ ap (λ (k : ℕ). cond {A = ℕ} (leb k 8) 1 4) s.depth in
      let whole = swapped t.width (shown_height t) (numbers_each t) r.width r.height each w h d in
      let c : length (numbers_of (rows_in file)) ≡ r.width * each * r.height = numbers_count file t o p.3 ∙ whole in
      let f : r.width * each * r.height ≤ length cells =
      rw (← whole) (ltb-false (length cells) (cell_count t) (or_false (ltb (length head) (head_bytes_of t) || ltb (length table) (table_bytes_of t)) (ltb (length cells) (cell_count t)) p.2).1) in
      let same : numbers_of s.shown.rows ≡ numbers_of (rows_in file) = ap (λ (x : Readers.Reading). numbers_of (rows_shown x)) (sym s.newer_shows) in
      let later : later_cells ≡ put cells 0 (numbers_of (rows_in file)) = s.cells_filled ∙ ap (put cells 0) same in
      let n : r.width * each * r.height - 0 ≡ length (numbers_of (rows_in file)) = omega (arith, c) in
      record {
        some = mul-pos (rw w o.head.sound.some_width) (some_each r.depth e);
        count = c;
        fits = f;
        long = ap length later ∙ length-put cells 0 (numbers_of (rows_in file)) (omega (arith, c, f));
        taken =
            ap (λ (k : ℕ). take k (drop 0 later_cells)) n ∙ ap (λ (l : List ℕ). take (length (numbers_of (rows_in file))) (drop 0 l)) later
            ∙ inside_put cells 0 (numbers_of (rows_in file)) (omega arith);
      }

  -- ---- what is answered

  module _ (room : ℕ) where
    number_none : r.refusal ≡ 0 → sheet_room r ≤ room → 0 ≡ read_number r room
    unfolding read_number
    number_none e h = rw (eq-eqb r.refusal 0 e, le-ltb room (sheet_room r) h)

    pub number_short : r.refusal ≡ 0 → room < sheet_room r → 15 ≡ read_number r room
    unfolding read_number
    number_short e h = rw (eq-eqb r.refusal 0 e, lt-ltb room (sheet_room r) h)

    pub number_refused : (r.refusal ≡ 0 → ⊥) → r.refusal ≡ read_number r room
    unfolding read_number
    number_refused n = rw (ne_eqb r.refusal 0 n)

  -- a refusal has no sheet
  pub no_room : (r.refusal ≡ 0 → ⊥) → 0 ≡ sheet_room r
  unfolding sheet_room line_numbers room_for
  no_room z = go r.refusal z promise.outcome
    where
      go : (n : ℕ) → (n ≡ 0 → ⊥) → Outcome n file head table cells later_head later_table later_cells r → 0 ≡ sheet_room r
      go zero y o = absurd (y refl)
      go (suc n) y o = sym (ap sheet_room o.answer)

  pub room_of : (each : ℕ) → each ≡ cond (leb r.depth 8) 1 4 → (bound : ℕ) → bound ≡ room_for (r.width * each * r.height) → bound ≡ sheet_room r
  unfolding sheet_room line_numbers
  room_of each e bound q = q ∙ ap (λ (k : ℕ). room_for (r.width * k * r.height)) e

  as_refused : (n bound bytes text : ℕ) → (n ≡ 0 → ⊥) → refused_answer n bound text ≡ read_answer_of n bound bytes text
  as_refused zero bound bytes text z = absurd (z refl)
  as_refused (suc n) bound bytes text z = refl

  text_refused : (n : ℕ) (sheet : List ℕ) → (n ≡ 0 → ⊥) → filled (decimal n) (item_at causes n) [] [] refused_line ≡ read_text n r sheet
  text_refused zero sheet z = absurd (z refl)
  text_refused (suc n) sheet z = refl

  out_kept : (n : ℕ) (was sheet : List ℕ) → (n ≡ 0 → ⊥) → was ≡ later_out n was sheet
  out_kept zero was sheet z = absurd (z refl)
  out_kept (suc n) was sheet z = refl

  pub out_refused : {was text_was text_later : List ℕ} {answer : CommandAnswer} (n bound : ℕ) → n ≡ read_number r (length was) → (n ≡ 0 → ⊥) → bound ≡ sheet_room r → answer ≡ refused_answer n bound answer.text
      → Says text_was 0 (filled (decimal n) (item_at causes n) [] [] refused_line) text_later answer.text
      → SheetOut file head table cells later_head later_table later_cells was was text_was text_later answer
  out_refused {was} {text_was} {text_later} {answer} n bound e z b a said =
      let sheet = sheet_of r file in
      record {
        reading = r;
        promise = promise;
        numbers =
            a ∙ ap (λ (k : ℕ). refused_answer n k answer.text) b ∙ as_refused n (sheet_room r) (length sheet) answer.text z
            ∙ ap (λ (k : ℕ). read_answer_of k (sheet_room r) (length sheet) answer.text) e;
        message = says_as (text_refused n sheet z ∙ ap (λ (k : ℕ). read_text k r sheet) e) said;
        buffer = out_kept n was sheet z ∙ ap (λ (k : ℕ). later_out k was sheet) e;
      }

  sheet_is : (each : ℕ) (l : List ℕ) → each ≡ cond (leb r.depth 8) 1 4 → l ≡ numbers_of (rows_in file) → sheet_text (r.width * each) l ≡ sheet_of r file
  unfolding sheet_of line_numbers
  sheet_is each l e q = ap (sheet_text (r.width * each)) q ∙ ap (λ (k : ℕ). sheet_text (r.width * k) (numbers_of (rows_in file))) e

  pub out_done : {was later text_was text_later : List ℕ} (each bound n text : ℕ) → r.refusal ≡ 0 → each ≡ cond (leb r.depth 8) 1 4 → Numbered file cells later_cells r each
      → bound ≡ room_for (r.width * each * r.height) → bound ≤ length was
      → n ≡ length (sheet_text (r.width * each) (take (r.width * each * r.height - 0) (drop 0 later_cells)))
      → later ≡ put was 0 (sheet_text (r.width * each) (take (r.width * each * r.height - 0) (drop 0 later_cells)))
      → Says text_was 0 (filled (decimal r.width) (decimal r.height) (decimal r.depth) (decimal n) read_line) text_later text
      → SheetOut file head table cells later_head later_table later_cells was later text_was text_later (record { bytes = n; bound = bound; text = text; status = 0; refusal = 0 })
  out_done {was} {later} {text_was} {text_later} each bound n text done e k q h m l said =
      let sheet = sheet_of r file in
      let is = sheet_is each _ e k.taken in
      let b = room_of each e bound q in
      let zero_is : 0 ≡ read_number r (length was) = number_none (length was) done (rw (← b) h) in
      let count : n ≡ length sheet = m ∙ ap length is in
      record {
        reading = r;
        promise = promise;
        numbers = (λ z. record { bytes = count z; bound = b z; text = text; status = 0; refusal = 0 }) ∙ ap (λ (x : ℕ). read_answer_of x (sheet_room r) (length sheet) text) zero_is;
        message =
            says_as (ap (λ (x : ℕ). filled (decimal r.width) (decimal r.height) (decimal r.depth) (decimal x) read_line) count ∙ ap (λ (x : ℕ). read_text x r sheet) zero_is) said;
        buffer = l ∙ ap (put was 0) is ∙ ap (λ (x : ℕ). later_out x was sheet) zero_is;
      }

-- ---- the run

module _ {ws : List (List ℕ)} {text_was text_mid : List ℕ} {r : CommandAnswer} (checked : Checked ws text_was text_mid r) where
  pub not-read : (file head table cells was : List ℕ) → (r.status ≡ 3 → ⊥) → ReadRan ws file head table cells head table cells was was text_was text_mid r
  not-read file head table cells was n =
      inl (record { status = λ e. n (status_is checked ∙ e); checked = checked; same_head = refl; same_table = refl; same_cells = refl; buffer = refl })

  pub has_read : {file head table cells later_head later_table later_cells was later text_later : List ℕ} {answer : CommandAnswer} → r.status ≡ 3
      → SheetOut file head table cells later_head later_table later_cells was later text_mid text_later answer
      → ReadRan ws file head table cells later_head later_table later_cells was later text_was text_later answer
  has_read {file} {head} {table} {cells} {later_head} {later_table} {later_cells} {was} {later} {text_later} {answer} e done =
      let go : check_status ws ≡ 3 = sym (status_is checked) ∙ e in
      let same : text_mid ≡ text_was = nothing_said (no_message ws go) checked.message in
      inr (go, subst (λ (x : List ℕ). SheetOut file head table cells later_head later_table later_cells was later x text_later answer) same done)
