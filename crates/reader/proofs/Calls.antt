-- The calls: from the tests to the promises.
use mathlib.Core.Path.{◌≡◌, refl, sym, ap, ◌∙◌, subst}
use mathlib.Core.Logic.{◌⊎◌, inl, inr}
use mathlib.Core.Bool.{Bool, true, false, cond, ◌||◌}
use mathlib.Core.List.{List}
use Prim.Native.Nat.{ℕ, zero, suc, ◌+◌, ◌-◌, ◌*◌, ◌≤◌, ◌<◌}
use native.Mathlib.Nat.{suc-ne-zero, mul-le-mul, mul_assoc, mul_comm}
use native.Mathlib.Omega.{arith}
use borrow.Author.Tests.{ltb-false, le-leb, eqb-true}
use lib.Dec.{ltb, leb, eqb}
use lib.ListN.{length, get_or, take, drop, length-take}
use Rattle.leaves.specs.Put.{put}
use Rattle.leaves.specs.Refusals.{first_applying}
use Rattle.leaves.specs.Sizes.{row_stride}
use Rattle.format.specs.Decode.{decode}
use Rattle.format.specs.Readers.{Fields, fields_of, word_at, dword_at, shown_height, table_count, row_length}
use Rattle.format.proofs.Passing.{or_false}
use Rattle.format.proofs.PlainCells.{length_row}
use Rattle.std.specs.Prelude.{Result, Err}
use Rattle.reader.specs.declared.read.Reading.{Reading}
use Rattle.reader.specs.declared.read.ReadingSizes.{ReadingSizes}
use Rattle.reader.specs.declared.refusal.ReadRefusal.{ReadRefusal}
use Rattle.reader.specs.declared.refusal.ReadRefusal.TheVariants.{NeverWritten, OutsideFile, BufferTooShort, StreamFails}
use Rattle.reader.specs.Answers.{sizes_answered, answered, ReadAnswer, SizesAnswer, sizes_for, refused_reading, rows_shown, rows_in, Outcome, Read}
use Rattle.reader.specs.Numbers.{numbers_of, numbers_each, cell_count, head_bytes_of, head_in, table_bytes_of, table_in, profile_at_of, profile_bytes_of}
use Rattle.reader.specs.Refusals.{number_of, written_pair, is_coded, never_written, outside_file, buffers_too_short, stream_fails, open_rows, read_rows}
use Rattle.reader.specs.Rows.{plain_numbers, stream_numbers, WrittenKind}
use Rattle.cells.specs.Streams.{cells_in}
use Rattle.reader.proofs.Heads.{Sound, head_parts}
use Rattle.reader.proofs.Opens.{Opened, or_last, outside_parts, opened, shown_of, newer_shown, stream_shown, rows_shown_is, stream_numbers_lem, stored_numbers, fails_coded}

-- ---- bytes

module _ (file : List ℕ) (bytes : (k : ℕ) → get_or file k 0 < 256) where
  dword_small : (k : ℕ) → dword_at file k < 4294967296
  unfolding dword_at word_at
  dword_small k = omega (arith, bytes k, bytes (k + 1), bytes (k + 2), bytes (k + 2 + 1))

  pub height_small : (fields_of file).height < 4294967296
  unfolding fields_of
  height_small = dword_small 22

  -- what is known of a file that 17 and 18 let pass
  pub opened_bytes : never_written file ≡ false → outside_file file ≡ false → Opened file (fields_of file)
  opened_bytes never outside = opened file (fields_of file) refl height_small never outside

-- ---- the numbers

pub number_some : (why : ReadRefusal) → number_of why ≡ 0 → ⊥
number_some NeverWritten e = suc-ne-zero 16 e
number_some OutsideFile e = suc-ne-zero 17 e
number_some BufferTooShort e = suc-ne-zero 14 e
number_some StreamFails e = suc-ne-zero 18 e

module _ (file : List ℕ) where
  -- 17 and 18 do not apply
  pub open_passes : first_applying (open_rows file) ≡ 0 → (never_written file ≡ false) × (outside_file file ≡ false)
  unfolding open_rows
  open_passes e = go (never_written file) (outside_file file) e
    where
      go : (a b : Bool) → cond {A = ℕ} a 17 (cond b 18 0) ≡ 0 → (a ≡ false) × (b ≡ false)
      go true b e = absurd (suc-ne-zero 16 e)
      go false true e = absurd (suc-ne-zero 17 e)
      go false false e = (refl, refl)

  module _ (head table cells : ℕ) where
    pub number_open : (n : ℕ) → n ≡ first_applying (open_rows file) → (n ≡ 0 → ⊥) → n ≡ first_applying (read_rows file head table cells)
    unfolding open_rows read_rows
    number_open n e z = go (never_written file) (outside_file file) e
      where
        go : (a b : Bool) → n ≡ cond {A = ℕ} a 17 (cond b 18 0)
            → n ≡ cond {A = ℕ} a 17 (cond b 18 (cond (buffers_too_short (fields_of file) head table cells) 15 (cond (stream_fails file) 19 0)))
        go true b e = e
        go false true e = e
        go false false e = absurd (z e)

    module _ (never : never_written file ≡ false) (outside : outside_file file ≡ false) where
      pub number_short : buffers_too_short (fields_of file) head table cells ≡ true → 15 ≡ first_applying (read_rows file head table cells)
      unfolding read_rows
      number_short e = rw (never, outside, e)

      pub number_fails : buffers_too_short (fields_of file) head table cells ≡ false → stream_fails file ≡ true → 19 ≡ first_applying (read_rows file head table cells)
      unfolding read_rows
      number_fails e f = rw (never, outside, e, f)

      pub number_none : buffers_too_short (fields_of file) head table cells ≡ false → stream_fails file ≡ false → 0 ≡ first_applying (read_rows file head table cells)
      unfolding read_rows
      number_none e f = rw (never, outside, e, f)

  -- ---- the sizes

  pub sizes_refused : (why : ReadRefusal) (r : Result ReadingSizes ReadRefusal) → r ≡ Err why → number_of why ≡ first_applying (open_rows file) → sizes_answered r ≡ sizes_for (first_applying (open_rows file)) file
  sizes_refused why r q e = ap sizes_answered q ∙ go why ∙ ap (λ (n : ℕ). sizes_for n file) e
    where
      go : (why : ReadRefusal) → sizes_answered (Err why) ≡ sizes_for (number_of why) file
      go NeverWritten = refl
      go OutsideFile = refl
      go BufferTooShort = refl
      go StreamFails = refl

  pub sizes_told : (t : Fields) (height table each : ℕ) → t ≡ fields_of file → 0 ≡ first_applying (open_rows file) → height ≡ shown_height t → table ≡ table_count t → each ≡ numbers_each t
      → record { refusal = 0; width = t.width; height = height; depth = t.depth; head_bytes = 14 + t.header_size_of; table_bytes = 4 * table; cell_numbers = t.width * height * each }
      ≡ sizes_for (first_applying (open_rows file)) file
  sizes_told t height table each e q h a b = rw (h, a, b, ← q, e)

  -- a file that opens, and its sizes
  pub record Sizes (s : SizesAnswer) : Type 0 where
    pub never : never_written file ≡ false
    pub outside : outside_file file ≡ false
    pub sizes : s ≡ sizes_for 0 file

  refusal_of_lem : (n : ℕ) → (sizes_for n file).refusal ≡ n
  refusal_of_lem zero = refl
  refusal_of_lem (suc n) = refl

  pub sizes_open : (s : SizesAnswer) → s ≡ sizes_for (first_applying (open_rows file)) file → s.refusal ≡ 0 → Sizes s
  sizes_open s e z =
      let n : first_applying (open_rows file) ≡ 0 = sym (refusal_of_lem (first_applying (open_rows file))) ∙ sym (ap (λ (r : SizesAnswer). r.refusal) e) ∙ z in
      let p = open_passes n in
      record { never = p.0; outside = p.1; sizes = e ∙ ap (λ (k : ℕ). sizes_for k file) n }

  pub sizes_stop : (s : SizesAnswer) (head table cells : ℕ) → s ≡ sizes_for (first_applying (open_rows file)) file → (s.refusal ≡ 0 → ⊥) → s.refusal ≡ first_applying (read_rows file head table cells)
  sizes_stop s head table cells e z =
      number_open head table cells s.refusal (ap (λ (r : SizesAnswer). r.refusal) e ∙ refusal_of_lem (first_applying (open_rows file))) z

  -- head and table lie in the file
  pub table_inside : outside_file file ≡ false → head_bytes_of (fields_of file) + table_bytes_of (fields_of file) ≤ length file
  table_inside outside = ltb-false (length file) (head_bytes_of (fields_of file) + table_bytes_of (fields_of file)) (head_parts (length file) (fields_of file) (outside_parts file outside).0).2

  -- ---- the readings

  module _ (head table cells : List ℕ) where
    pub read_refused : (n : ℕ) (r : ReadAnswer) → n ≡ first_applying (read_rows file (length head) (length table) (length cells)) → (n ≡ 0 → ⊥) → r ≡ refused_reading n
        → Read file head table cells head table cells r
    read_refused zero r e z q = absurd (z refl)
    read_refused (suc n) r e z q =
        subst (λ (a : ReadAnswer). Read file head table cells head table cells a) (sym q)
        (record { number = e; outcome = record { answer = refl; same_head = refl; same_table = refl; same_cells = refl } })

    pub read_stopped : (why : ReadRefusal) (r : Result Reading ReadRefusal) → r ≡ Err why → sizes_answered (Err why) ≡ sizes_for (first_applying (open_rows file)) file
        → Read file head table cells head table cells (answered r)
    read_stopped why r q e =
        subst (λ (a : Result Reading ReadRefusal). Read file head table cells head table cells (answered a)) (sym q)
        (read_refused (number_of why) _ (sizes_stop (sizes_answered (Err why)) (length head) (length table) (length cells) e (number_some why)) (number_some why) refl)

    pub read_done : (bytes : (k : ℕ) → get_or file k 0 < 256) (s : SizesAnswer) (at size : ℕ) (later_head later_table later_cells : List ℕ) → Sizes s
        → (ltb (length head) s.head_bytes || ltb (length table) s.table_bytes || ltb (length cells) s.cell_numbers) ≡ false → stream_fails file ≡ false
        → later_head ≡ put head 0 (take (s.head_bytes - 0) (drop 0 file))
        → later_table ≡ put table 0 (take (s.head_bytes + s.table_bytes - s.head_bytes) (drop s.head_bytes file))
        → later_cells ≡ put cells 0 (numbers_of (rows_in file)) → at ≡ profile_at_of file → size ≡ profile_bytes_of file
        → Read file head table cells later_head later_table later_cells (record { refusal = 0; width = s.width; height = s.height; depth = s.depth; profile_at = at; profile_bytes = size })
    unfolding head_in table_in rows_in
    read_done bytes s at size lh lt lc o short fails eh et ec ea es =
        let opened = opened_bytes file bytes o.never o.outside in
        let newer_shows = newer_shown file (fields_of file) opened fails in
        let q = o.sizes in
        let long : (ltb (length head) (head_bytes_of (fields_of file)) || ltb (length table) (table_bytes_of (fields_of file)) || ltb (length cells) (cell_count (fields_of file))) ≡ false
        = ap (λ (k : SizesAnswer). ltb (length head) k.head_bytes || ltb (length table) k.table_bytes || ltb (length cells) k.cell_numbers) (sym q) ∙ short in
        let hb : s.head_bytes - 0 ≡ head_bytes_of (fields_of file) = omega (arith, ap (λ (k : SizesAnswer). k.head_bytes) q) in
        let tb : s.head_bytes + s.table_bytes - s.head_bytes ≡ table_bytes_of (fields_of file) = omega (arith, ap (λ (k : SizesAnswer). k.table_bytes) q) in
        let ha : s.head_bytes ≡ head_bytes_of (fields_of file) = ap (λ (k : SizesAnswer). k.head_bytes) q in
        record {
          number = number_none (length head) (length table) (length cells) o.never o.outside long fails;
          outcome =
              record {
                shown = shown_of file (fields_of file);
                newer_shows = newer_shows;
                width = ap (λ (k : SizesAnswer). k.width) q;
                height = ap (λ (k : SizesAnswer). k.height) q;
                depth = ap (λ (k : SizesAnswer). k.depth) q;
                head_filled = eh ∙ ap (λ (n : ℕ). put head 0 (take n file)) hb;
                table_filled = et ∙ (λ z. put table 0 (take (tb z) (drop (ha z) file)));
                cells_filled = ec ∙ ap (λ (r : _). put cells 0 (numbers_of (rows_shown r))) newer_shows;
                profile_at_is = ea;
                profile_bytes_is = es;
              };
        }

-- ---- sizes that a file has

pub few_each : (d : ℕ) {n : ℕ} → n ≡ cond (leb d 8) 1 4 → n ≤ 4
few_each d {n} e = subst (λ (k : ℕ). k ≤ 4) (sym e) (go (leb d 8))
  where
    go : (b : Bool) → cond {A = ℕ} b 1 4 ≤ 4
    go true = omega arith
    go false = omega arith

-- no product of them wraps
pub product_small : (t : Fields) (height each : ℕ) → Sound t → height ≡ shown_height t → each ≤ 4 → t.width * height * each ≤ 18446744065119617024
product_small t height each s e h =
    let w : t.width ≤ 2147483647 = omega (arith, s.wide) in
    let l : height ≤ 2147483648 = omega (arith, s.tall, e) in
    let a : t.width * height ≤ 2147483647 * 2147483648 = mul-le-mul w l in
    let b : t.width * height * each ≤ 2147483647 * 2147483648 * 4 = mul-le-mul a h in
    omega arith

pub opened_at : (file : List ℕ) (t : Fields) → ((k : ℕ) → get_or file k 0 < 256) → t ≡ fields_of file → first_applying (open_rows file) ≡ 0 → Opened file t
opened_at file t bytes e n = let p = open_passes file n in opened file t e (rw e (height_small file bytes)) p.0 p.1

-- the depths of a stream
pub coded_kind : (t : Fields) → Sound t → is_coded t.compression ≡ true → ((t.depth ≡ 4) ⊎ (t.depth ≡ 8)) × (t.depth ≤ 8)
coded_kind t s c = go (eqb t.compression 1) refl
  where
    go : (b : Bool) → eqb t.compression 1 ≡ b → ((t.depth ≡ 4) ⊎ (t.depth ≡ 8)) × (t.depth ≤ 8)
    go true e =
        let k : t.compression ≡ 1 = eqb-true t.compression 1 e in
        let d : t.depth ≡ 8 = eqb-true t.depth 8 (or_last (eqb t.depth 8) (or_last (eqb t.depth 8 || false) (subst (λ (n : ℕ). written_pair n t.depth ≡ true) k s.kind.pair))) in
        (inr d, omega arith)
    go false e =
        let k : t.compression ≡ 2 = eqb-true t.compression 2 (rw e at c) in
        let d : t.depth ≡ 4 = eqb-true t.depth 4 (or_last (eqb t.depth 4) (subst (λ (n : ℕ). written_pair n t.depth ≡ true) k s.kind.pair)) in
        (inl d, omega arith)

pub plain_kind : (t : Fields) → Sound t → is_coded t.compression ≡ false → WrittenKind t
plain_kind t s c = record { depth = s.kind.depth; pair = s.kind.pair; rows = c }

-- room for the cells, as the loops need it
pub cells_room : (t : Fields) (m : ℕ) → t.depth ≤ 8 → cell_count t ≤ m → shown_height t * t.width ≤ m
cells_room t m h k = omega (arith, subst (λ (b : Bool). t.width * shown_height t * cond b 1 4 ≤ m) (le-leb t.depth 8 h) k)

pub cells_each : (t : Fields) (m : ℕ) → cell_count t ≤ m → shown_height t * (t.width * numbers_each t) ≤ m
cells_each t m k =
    let e : shown_height t * (t.width * numbers_each t) ≡ t.width * shown_height t * numbers_each t
    = sym (mul_assoc (shown_height t) t.width (numbers_each t)) ∙ ap (λ (n : ℕ). n * numbers_each t) (mul_comm (shown_height t) t.width) in
    rw e k

pub rows_room : (t : Fields) (m : ℕ) → t.offset + shown_height t * row_length t.width t.depth ≤ m → t.offset + shown_height t * row_stride t.width t.depth ≤ m
rows_room t m k = rw (← length_row t.depth t.width) k

-- the numbers that are filled in are those of what is shown
pub stream-filled : (file : List ℕ) (t : Fields) (o : Opened file t) (height : ℕ) → height ≡ shown_height t → is_coded t.compression ≡ true → stream_fails file ≡ false
    → stream_numbers t.width height (cells_in (decode t.depth t.width (drop t.offset file) (height - 1))) ≡ numbers_of (rows_in file)
unfolding rows_in
stream-filled file t o height e c good =
    rw e (sym (stream_numbers_lem file t) ∙ ap (λ (r : _). numbers_of (rows_shown r)) (sym (stream_shown file t o c (fails_coded file t o.head.fields c ∙ good))))

pub rows_filled : (file : List ℕ) (t : Fields) → Opened file t → is_coded t.compression ≡ false → plain_numbers file t ≡ numbers_of (rows_in file)
unfolding rows_in
rows_filled file t o c = sym (stored_numbers file t) ∙ ap (λ (r : _). numbers_of (rows_shown r)) (sym (rows_shown_is file t o c))

-- ---- what is asked of the buffers

pub long_enough : (head table cells : ℕ) (s : SizesAnswer) → (ltb head s.head_bytes || ltb table s.table_bytes || ltb cells s.cell_numbers) ≡ false
    → (s.head_bytes ≤ head) × (s.table_bytes ≤ table) × (s.cell_numbers ≤ cells)
long_enough head table cells s e =
    let p = or_false (ltb head s.head_bytes || ltb table s.table_bytes) (ltb cells s.cell_numbers) e in
    let q = or_false (ltb head s.head_bytes) (ltb table s.table_bytes) p.0 in
    (ltb-false head s.head_bytes q.0, ltb-false table s.table_bytes q.1, ltb-false cells s.cell_numbers p.1)

pub part_fits : (n at m : ℕ) (file : List ℕ) → n ≤ m → 0 + length (take n (drop at file)) ≤ m
part_fits n at m file h = omega (arith, length-take n (drop at file))

-- ---- where the profile lies

-- the numbers that do not apply, where the first that applies is none
pub none_of : (a b c d : Bool) → 0 ≡ cond {A = ℕ} a 17 (cond b 18 (cond c 15 (cond d 19 0))) → (a ≡ false) × (b ≡ false) × (c ≡ false) × (d ≡ false)
none_of true b c d e = absurd (suc-ne-zero 16 (sym e))
none_of false true c d e = absurd (suc-ne-zero 17 (sym e))
none_of false false true d e = absurd (suc-ne-zero 14 (sym e))
none_of false false false true e = absurd (suc-ne-zero 18 (sym e))
none_of false false false false e = (refl, refl, refl, refl)

pub rows_pass : (file : List ℕ) (head table cells : ℕ) → 0 ≡ first_applying (read_rows file head table cells)
    → (never_written file ≡ false) × (outside_file file ≡ false) × (buffers_too_short (fields_of file) head table cells ≡ false) × (stream_fails file ≡ false)
unfolding read_rows
rows_pass file head table cells e = none_of (never_written file) (outside_file file) (buffers_too_short (fields_of file) head table cells) (stream_fails file) e

profile_there : (file : List ℕ) → outside_file file ≡ false → profile_at_of file + profile_bytes_of file ≤ length file
profile_there file e = ltb-false (length file) (profile_at_of file + profile_bytes_of file) (outside_parts file e).2

pub profile_inside : (file head table cells later_head later_table later_cells : List ℕ) (r : ReadAnswer) → Read file head table cells later_head later_table later_cells r
    → r.profile_at + r.profile_bytes ≤ length file
profile_inside file head table cells lh lt lc r p = go r.refusal p.number p.outcome
  where
    go : (n : ℕ) → n ≡ first_applying (read_rows file (length head) (length table) (length cells)) → Outcome n file head table cells lh lt lc r → r.profile_at + r.profile_bytes ≤ length file
    go zero e o = omega (arith, o.profile_at_is, o.profile_bytes_is, profile_there file (rows_pass file (length head) (length table) (length cells) e).1)
    go (suc n) e o = omega (arith, ap (λ (a : ReadAnswer). a.profile_at) o.answer, ap (λ (a : ReadAnswer). a.profile_bytes) o.answer)

pub cells_fit : (file : List ℕ) (t : Fields) (s : SizesAnswer) (m : ℕ) → t ≡ fields_of file → s ≡ sizes_for 0 file → s.cell_numbers ≤ m → cell_count t ≤ m
cells_fit file t s m e q h = subst (λ (u : Fields). cell_count u ≤ m) (sym e) (omega (arith, h, ap (λ (k : SizesAnswer). k.cell_numbers) q))
