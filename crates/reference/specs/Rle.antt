-- The RLE coders and the probe (encoder.rs, section "RLE encoders").
use Rattle.std.specs.Prelude.{ℕ, zero, suc, ◌+◌, ◌*◌, ◌/◌, Bool, true, false, not, cond, ◌&&◌, List, [], ◌∷◌, ltb, leb, eqb, length}
use Rattle.std.specs.Int.Bits.{bit_and, bit_or}
use Rattle.leaves.specs.declared.encoder.EncodedBmpFormat.{EncodedBmpFormat}
use Rattle.leaves.specs.declared.encoder.EncodedBmpFormat.TheVariants as written
use Rattle.reference.specs.Rust.{Run, done, ◌>>=◌, and_then, u8, u64, usize, add, sub, mul, shl, cast, at, range, push, extend, truncate, for, Turn, next, leave, loop, while}
use Rattle.reference.specs.Packing.{Rows, source_row}

-- enum Rle
pub data Rle : Type 0 where
  Rle8 Rle4 : Rle

-- fn compression(self) -> u32
abbrev pub rle_compression : Rle → ℕ
rle_compression Rle8 = 1
rle_compression Rle4 = 2

-- fn format(self) -> EncodedBmpFormat
abbrev pub rle_format : Rle → EncodedBmpFormat
rle_format Rle8 = written.Rle8
rle_format Rle4 = written.Rle4

-- fn rle_slack(width: usize) -> u64
unfoldable pub rle_slack : ℕ → Run ℕ
rle_slack width = mul u64 2 width >>= λ twice. add u64 twice 2

-- ---- the scans of both coders; `get k` is row[k], or its low nibble

-- a == b of two reads
unfoldable pub equal : Run ℕ → Run ℕ → Run Bool
equal a b = a >>= λ x. b >>= λ y. done (eqb x y)

-- while i + run < n && run < 255 && get(i + run) == val { run += 1; }
unfoldable pub run_from : (ℕ → Run ℕ) → ℕ → ℕ → ℕ → Run ℕ
run_from get n i val =
    while 256 (λ run. add usize i run >>= λ j. and_then (ltb j n && ltb run 255) (equal (get j) (done val))) (λ run. add usize run 1) 1

-- while i + abs_len < n && abs_len < 255 { let j = i + abs_len; if j + 1 < n && get(j) == get(j + 1) { break; } abs_len += 1; }
unfoldable pub abs_turn : (ℕ → Run ℕ) → ℕ → ℕ → ℕ → Run (Turn ℕ)
abs_turn get n i abs = do
  j ← add usize i abs
  cond (not (ltb j n && ltb abs 255)) (done (leave abs)) do
    k ← add usize j 1
    twin ← and_then (ltb k n) (equal (get j) (get k))
    cond twin (done (leave abs)) (add usize abs 1 >>= λ more. done (next more))

unfoldable pub abs_from : (ℕ → Run ℕ) → ℕ → ℕ → Run ℕ
abs_from get n i = loop 256 (abs_turn get n i) 1

-- the coder's place in the row, and `out`
pub record Coder : Type 0 where
  pub i : ℕ
  pub out : List ℕ

-- if x & 1 != 0 { out.push(0x00); }
abbrev pub pad_odd : ℕ → List ℕ → List ℕ
pad_odd x out = cond (eqb (bit_and x 1) 0) out (push out 0)

-- ---- fn encode_rle8_row(out: &mut Vec<u8>, row: &[u8])

-- what is written for so many cells from i on, of which the first is val: a pair of count 1, or an absolute block
unfoldable pub literal8 : List ℕ → ℕ → List ℕ → ℕ → ℕ → Run Coder
literal8 row i out val abs =
    cond (ltb abs 3)
    (do
      after ← add usize i 1
      done (record { i = after; out = push (push out 1) val }))
    (do
      end ← add usize i abs
      block ← range row i end
      done (record { i = end; out = pad_odd abs (extend (push (push out 0) (cast u8 abs)) block) }))

-- a turn of `while i < n`
unfoldable pub turn8 : List ℕ → Coder → Run Coder
turn8 row s = do
  val ← at row s.i
  run ← run_from (at row) (length row) s.i val
  cond (leb 2 run)
      (do
        after ← add usize s.i run
        done (record { i = after; out = push (push s.out (cast u8 run)) val }))
      (do
        abs ← abs_from (at row) (length row) s.i
        literal8 row s.i s.out val abs)

unfoldable pub encode_rle8_row : List ℕ → List ℕ → Run (List ℕ)
encode_rle8_row out row = do
  end ← while (length row + 1) (λ s. done (ltb s.i (length row))) (turn8 row) (record { i = 0; out = out })
  done end.out

-- ---- fn encode_rle4_row(out: &mut Vec<u8>, row: &[u8])

-- let nibble = |k: usize| row[k] & 0x0F;
unfoldable pub nibble : List ℕ → ℕ → Run ℕ
nibble row k = at row k >>= λ byte. done (bit_and byte 0x0F)

-- (hi << 4) | lo
unfoldable pub nibbles : ℕ → ℕ → Run ℕ
nibbles hi lo = shl u8 hi 4 >>= λ high. done (bit_or high lo)

-- if test { nibble(k) } else { 0 }
unfoldable pub nibble_if : Bool → List ℕ → Run ℕ → Run ℕ
nibble_if test row k = cond test (k >>= nibble row) (done 0)

-- the turn of `for k in (0..abs_len).step_by(2)` with k = 2 m
unfoldable pub pair_turn_of : List ℕ → ℕ → ℕ → ℕ → List ℕ → Run (List ℕ)
pair_turn_of row start abs m out = do
  let k = 2 * m
  first ← add usize start k
  hi ← nibble row first
  beside ← add usize k 1
  lo ← nibble_if (ltb beside abs) row (add usize first 1)
  byte ← nibbles hi lo
  done (push out byte)

-- the same of nibbles
unfoldable pub literal4 : List ℕ → ℕ → List ℕ → ℕ → ℕ → Run Coder
literal4 row i out v0 abs =
    cond (ltb abs 3)
    (do
      after ← add usize i 1
      v1 ← nibble_if (ltb after (length row)) row (done after)
      byte ← nibbles v0 v1
      done (record { i = after; out = push (push out 1) byte }))
    (do
      codes ← for ((abs + 1) / 2) (pair_turn_of row i abs) (push (push out 0) (cast u8 abs))
      end ← add usize i abs
      done (record { i = end; out = pad_odd ((abs + 1) / 2) codes }))

-- a turn of `while i < n`
unfoldable pub turn4 : List ℕ → Coder → Run Coder
turn4 row s = do
  v0 ← nibble row s.i
  run ← run_from (nibble row) (length row) s.i v0
  cond (leb 2 run)
      (do
        byte ← nibbles v0 v0
        after ← add usize s.i run
        done (record { i = after; out = push (push s.out (cast u8 run)) byte }))
      (do
        abs ← abs_from (nibble row) (length row) s.i
        literal4 row s.i s.out v0 abs)

unfoldable pub encode_rle4_row : List ℕ → List ℕ → Run (List ℕ)
encode_rle4_row out row = do
  end ← while (length row + 1) (λ s. done (ltb s.i (length row))) (turn4 row) (record { i = 0; out = out })
  done end.out

-- ---- impl Rows

abbrev pub encode_rle_row : Rle → List ℕ → List ℕ → Run (List ℕ)
encode_rle_row Rle8 = encode_rle8_row
encode_rle_row Rle4 = encode_rle4_row

-- fn rle_row(&self, rle: Rle, y: usize, out: &mut Vec<u8>)
unfoldable pub rle_row : Rows → Rle → ℕ → List ℕ → Run (List ℕ)
rle_row self rle y out = do
  src ← source_row self y
  out ← encode_rle_row rle out src
  below ← add usize y 1
  done (extend out (cond (ltb below self.height) (0 ∷ 0 ∷ []) (0 ∷ 1 ∷ [])))

-- whether the stream is kept, and `out` as it is left
pub record Probe : Type 0 where
  pub kept : Bool
  pub out : List ℕ

-- fn rle_into(&self, rle: Rle, budget: usize, out: &mut Vec<u8>) -> bool; `left` rows from row y on
unfoldable pub probe_from : Rows → Rle → ℕ → ℕ → ℕ → ℕ → List ℕ → Run Probe
probe_from self rle budget start zero y out = do
  len ← sub (length out) start
  done (cond (ltb len budget) (record { kept = true; out = out }) (record { kept = false; out = truncate out start }))
probe_from self rle budget start (suc left) y out = do
  len ← sub (length out) start
  cond (leb budget len) (done (record { kept = false; out = truncate out start })) (rle_row self rle y out >>= probe_from self rle budget start left (y + 1))

unfoldable pub rle_into : Rows → Rle → ℕ → List ℕ → Run Probe
rle_into self rle budget out = probe_from self rle budget (length out) self.height 0 out
