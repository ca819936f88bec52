-- The row coders write the document's row codes.
use mathlib.Core.Path.{◌≡◌, refl, sym, ap, ◌∙◌}
use mathlib.Core.Bool.{Bool, true, false, not, cond, ◌&&◌}
use mathlib.Core.List.{List, [], ◌∷◌, ◌++◌, append_assoc, append-nil}
use Prim.Native.Nat.{ℕ, zero, suc, ◌+◌, ◌-◌, ◌*◌, ◌/◌, ◌%◌, ◌^◌, ◌≤◌, ◌<◌}
use native.Mathlib.Nat.{mod-eq_of_lt, add-zero, add_assoc}
use native.Mathlib.Omega.{arith}
use borrow.Author.Tests.{ltb-true, ltb-false, lt-ltb, le-ltb, eqb-true, eqb-false}
use lib.Bits.{bit_and, and_mask, or_shifted}
use lib.Dec.{ltb, leb, eqb}
use lib.ListN.{length, get_or, take, drop, length-take, length-drop, get_or-eq_default}
use lib.Seq.{get_or-take, get_or-drop, ext_get_or, length-take-le}
use Rattle.leaves.specs.Lists.{tab}
use Rattle.rows.specs.Packing.{digits, packed_byte_of, packed}
use Rattle.rows.specs.declared.blocks.Block.{Block}
use Rattle.rows.specs.declared.blocks.Block.TheVariants.{Pair, Absolute}
use Rattle.rows.specs.RleCodes.{cells, scan, twin, same, lone, run_length, gather_length, block_at, width, bytes, codes, row_codes}
use Rattle.rows.proofs.RleBlocks.{scanned, Sound, sound_at, codes_at, codes_none}
use Rattle.rows.proofs.Nibbles.{byte_4}
use Rattle.rows.proofs.PackLaws.{packed_8, padded_full}
use Rattle.rows.proofs.RleBytes.{cell_small}
use Rattle.rows.proofs.Scans.{length-cells, cell_at, scan_full, scan_end, scan_stop, scan_step, twin-at, twin_end}
use Rattle.format.proofs.SourceRows.{part_small}
use Rattle.reference.specs.Rust.{Run, done, ◌>>=◌, and_then, u8, usize, cast, at, push, for, loop, while, Turn, next, leave, turned}
use Rattle.reference.specs.Rle.{equal, run_from, abs_turn, abs_from, Coder, pad_odd, literal8, turn8, encode_rle8_row, nibble, nibbles, nibble_if, pair_turn_of, literal4, turn4, encode_rle4_row}
use Rattle.reference.proofs.RunLaws.{add_is, shl_is, at_is, range_is, for_is}

-- ---- the scans, the turns and the loop of both coders

-- where a scan that has counted n cells from i on goes on, and where it leaves
abbrev after : (ℕ → List ℕ → Bool) → List ℕ → ℕ → ℕ → ℕ → Turn ℕ
after on xs size i n = cond (ltb (i + n) size && ltb n 255) (cond (on (get_or xs (i + n) 0) (drop (i + n + 1) xs)) (next (n + 1)) (leave n)) (leave n)

-- the coder at i, and after the block b at i
abbrev to : ℕ → List ℕ → Coder
to i out = record { i = i; out = out }

abbrev past : ℕ → List ℕ → ℕ → List ℕ → Block → Coder
past d xs i out b = to (i + width b) (out ++ bytes d b (drop i xs))

module _ (d : ℕ) (row : List ℕ) where
  abbrev cell : ℕ → ℕ
  cell k = get_or (cells d row) k 0

  abbrev from : ℕ → List ℕ
  from k = drop k (cells d row)

  -- a loop of a scan's turns gives the scan's count: it leaves at 255, so 256 turns suffice
  scan-loop : (on : ℕ → List ℕ → Bool) (i : ℕ) (body : ℕ → Run (Turn ℕ)) → ((n : ℕ) → n ≤ 255 → body n ≡ done (after on (cells d row) (length row) i n))
      → (count n : ℕ) → n ≤ 255 → 256 ≤ count + n → loop count body n ≡ done (scan on n (from (i + n)))
  unfolding loop
  scan-loop on i body turns zero n most enough = absurd (omega arith)
  scan-loop on i body turns (suc count) n most enough =
      rw (turns n most) (go (ltb (i + n) (length row)) refl (ltb n 255) refl (on (cell (i + n)) (from (i + n + 1))) refl
      (λ h. scan-loop on i body turns count (n + 1) (omega arith) (omega arith)))
    where
      go : (a : Bool) → ltb (i + n) (length row) ≡ a → (b : Bool) → ltb n 255 ≡ b → (c : Bool) → on (cell (i + n)) (from (i + n + 1)) ≡ c
          → (n < 255 → loop count body (n + 1) ≡ done (scan on (n + 1) (from (i + (n + 1)))))
          → (done (cond (a && b) (cond c (next (n + 1)) (leave n)) (leave n)) >>= turned (loop count body)) ≡ done (scan on n (from (i + n)))
      go false e b f c g again = rw (scan_end on d row n (i + n) (ltb-false (i + n) (length row) e))
      go true e false f c g again = rw (scan_full on n (from (i + n)) (ltb-false n 255 f))
      go true e true f false g again = rw (scan_stop on d row n (i + n) (i + n + 1) refl (ltb-true (i + n) (length row) e) g)
      go true e true f true g again =
          let l : n < 255 = ltb-true n 255 f in
          let q : i + (n + 1) ≡ i + n + 1 = omega arith in
          rw (scan_step on d row n (i + n) (i + n + 1) refl (ltb-true (i + n) (length row) e) l g, ← q) (again l)

  -- `get` reads the row's cells
  module _ (short : length row < 2 ^ 32) (get : ℕ → Run ℕ) (gets : (k : ℕ) → k < length row → get k ≡ done (cell k)) where
    -- the longest run from i on
    run_is : (i v : ℕ) → i < length row → run_from get (length row) i v ≡ done (run_length v (from (i + 1)))
    unfolding run_from equal
    run_is i v h =
        scan-loop (same v) i _ (λ n most. rw (add_is usize i n (omega arith), add_is usize n 1 (omega arith)) (go n (ltb (i + n) (length row)) refl (ltb n 255))) 256 1 (omega arith) (omega arith)
      where
        chosen : (n : ℕ) (t : Bool) → cond t (done (next (n + 1))) (done (leave n)) ≡ done (cond t (next (n + 1)) (leave n))
        chosen n true = refl
        chosen n false = refl

        go : (n : ℕ) (a : Bool) → ltb (i + n) (length row) ≡ a → (b : Bool)
            → (and_then (a && b) (get (i + n) >>= λ x. done (eqb x v)) >>= λ holds. cond holds (done (next (n + 1))) (done (leave n)))
            ≡ done (cond (a && b) (cond (eqb (cell (i + n)) v) (next (n + 1)) (leave n)) (leave n))
        go n false e b = refl
        go n true e false = refl
        go n true e true = rw (gets (i + n) (ltb-true (i + n) (length row) e)) (chosen n (eqb (cell (i + n)) v))

    -- whether the cell after j is the same
    twin_is : (j : ℕ) → j < length row → and_then (ltb (j + 1) (length row)) (equal (get j) (get (j + 1))) ≡ done (twin (cell j) (from (j + 1)))
    unfolding equal
    twin_is j h = go (ltb (j + 1) (length row)) refl
      where
        go : (a : Bool) → ltb (j + 1) (length row) ≡ a → and_then a (equal (get j) (get (j + 1))) ≡ done (twin (cell j) (from (j + 1)))
        go true e =
            let k : j + 1 < length row = ltb-true (j + 1) (length row) e in
            rw (gets j h, gets (j + 1) k, twin-at d row (cell j) (j + 1) k)
        go false e = rw (twin_end d row (cell j) (j + 1) (ltb-false (j + 1) (length row) e))

    -- the cells gathered from i on
    abs_is : (i : ℕ) → i < length row → abs_from get (length row) i ≡ done (gather_length (from (i + 1)))
    unfolding abs_from abs_turn
    abs_is i h =
        scan-loop lone i _ (λ n most.
        rw (add_is usize i n (omega arith), add_is usize n 1 (omega arith), add_is usize (i + n) 1 (omega arith)) (go n (ltb (i + n) (length row)) refl (ltb n 255))) 256 1 (omega arith) (omega arith)
      where
        chosen : (n : ℕ) (t : Bool) → cond t (done (leave n)) (done (next (n + 1))) ≡ done (cond (not t) (next (n + 1)) (leave n))
        chosen n true = refl
        chosen n false = refl

        go : (n : ℕ) (a : Bool) → ltb (i + n) (length row) ≡ a → (b : Bool)
            → cond (not (a && b)) (done (leave n))
            (and_then (ltb (i + n + 1) (length row)) (equal (get (i + n)) (get (i + n + 1))) >>= λ twin. cond twin (done (leave n)) (done (next (n + 1))))
            ≡ done (cond (a && b) (cond (lone (cell (i + n)) (from (i + n + 1))) (next (n + 1)) (leave n)) (leave n))
        go n false e b = refl
        go n true e false = refl
        go n true e true = rw (twin_is (i + n) (ltb-true (i + n) (length row) e)) (chosen n (twin (cell (i + n)) (from (i + n + 1))))

    -- a coder's turn writes the block at i, if it does so for a run of n, for n cells gathered and for one cell
    turn_is : (i : ℕ) → i < length row → (out : List ℕ) (pair many : ℕ → ℕ → Run Coder) (one : ℕ → Run Coder)
        → ((n : ℕ) → n ≤ 255 → pair (cell i) n ≡ done (past d (cells d row) i out (Pair n (cell i) (cell i))))
        → ((n : ℕ) → n ≤ 255 → i + n ≤ length row → many (cell i) n ≡ done (past d (cells d row) i out (Absolute n)))
        → one (cell i) ≡ done (past d (cells d row) i out (Pair 1 (cell i) (get_or (from (i + 1)) 0 0)))
        → (get i >>= λ val. run_from get (length row) i val >>= λ run. cond (leb 2 run) (pair val run) (abs_from get (length row) i >>= λ abs. cond (ltb abs 3) (one val) (many val abs)))
        ≡ done (past d (cells d row) i out (block_at (cells d row) i))
    turn_is i h out pair many one pairs manys ones =
        let v = cell i in
        let ys = from (i + 1) in
        let r = scanned (same v) 1 ys (omega arith) in
        let g = scanned lone 1 ys (omega arith) in
        rw (gets i h, run_is i v h, abs_is i h)
        (go (run_length v ys) (gather_length ys) (omega arith) (omega arith) (omega (arith, length-drop (i + 1) (cells d row), length-cells d row)) (ltb 1 (run_length v ys)) (ltb 2 (gather_length ys)) refl)
      where
        go : (r g : ℕ) → r ≤ 255 → g ≤ 255 → i + g ≤ length row → (b t : Bool) → ltb 2 g ≡ t
            → cond b (pair (cell i) r) (cond (ltb g 3) (one (cell i)) (many (cell i) g))
            ≡ done (past d (cells d row) i out (cond b (Pair r (cell i) (cell i)) (cond t (Absolute g) (Pair 1 (cell i) (get_or (from (i + 1)) 0 0)))))
        go r g mr mg l true t e = pairs r mr
        go r g mr mg l false true e = rw (le-ltb g 3 (ltb-true 2 g e)) (manys g mg l)
        go r g mr mg l false false e = rw (lt-ltb g 3 (omega (arith, ltb-false 2 g e))) ones

  -- a loop of turns that write a block each writes the codes from i on: a turn takes a cell at least, so one turn more than there are cells suffices
  row_loop : d ≤ 8 → (turn : Coder → Run Coder) → ((i : ℕ) (out : List ℕ) → i < length row → turn (to i out) ≡ done (past d (cells d row) i out (block_at (cells d row) i)))
      → (count i : ℕ) (out : List ℕ) → i ≤ length row → length row < count + i
      → (while count (λ s. done (ltb s.i (length row))) turn (to i out) >>= λ end. done end.out) ≡ done (out ++ codes d 0 (from i))
  unfolding loop
  row_loop deep turn turns zero i out l enough = absurd (omega arith)
  row_loop deep turn turns (suc count) i out l enough = go (ltb i (length row)) refl (row_loop deep turn turns count)
    where
      go : (b : Bool) → ltb i (length row) ≡ b
          → ((i : ℕ) (out : List ℕ) → i ≤ length row → length row < count + i
          → (while count (λ s. done (ltb s.i (length row))) turn (to i out) >>= λ end. done end.out) ≡ done (out ++ codes d 0 (from i)))
          → ((cond b (turn (to i out) >>= λ t. done (next t)) (done (leave (to i out))) >>= turned (while count (λ s. done (ltb s.i (length row))) turn)) >>= λ end. done end.out)
          ≡ done (out ++ codes d 0 (from i))
      go true e again =
          let h : i < length row = ltb-true i (length row) e in
          let xs = cells d row in
          let b = block_at xs i in
          let s : Sound d (length row - i) b = sound_at d deep row i h b refl in
          let k : i < length xs = rw length-cells h in
          rw (turns i out h, codes_at d deep xs i k, ← append_assoc out (bytes d b (from i)) (codes d 0 (from (i + width b))))
          (again (i + width b) (out ++ bytes d b (from i)) (omega arith) (omega arith))
      go false e again = rw (codes_none d row i (ltb-false i (length row) e)) (ap done (sym (append-nil out)))

-- ---- the bytes of a block

-- the n elements from i on, and zeros after them
module _ (xs : List ℕ) (i n : ℕ) where
  part_at : (k : ℕ) → k < n → get_or (take n (drop i xs)) k 0 ≡ get_or xs (i + k) 0
  part_at k h = get_or-take n (drop i xs) k 0 h ∙ get_or-drop i xs k 0

  part_past : (k : ℕ) → n ≤ k → get_or (take n (drop i xs)) k 0 ≡ 0
  part_past k h = get_or-eq_default (take n (drop i xs)) 0 (omega (arith, length-take n (drop i xs)))

-- a pair's two bytes
pair_bytes : (out : List ℕ) (n x y : ℕ) → n ≤ 255 → x ≡ y → push (push out (cast u8 n)) x ≡ out ++ (n ∷ y ∷ [])
pair_bytes out n x y most e = let f : n % 256 ≡ n = mod-eq_of_lt (omega arith) in rw (e, f) (append_assoc out (n ∷ []) (y ∷ []))

-- an absolute block's bytes: the m data bytes are made even with what comes after them, a zero
absolute_bytes : (out : List ℕ) (n m all : ℕ) (f : ℕ → ℕ) → n ≤ 255 → all ≡ (m + 1) / 2 * 2 → f m ≡ 0
    → pad_odd m (push (push out 0) (cast u8 n) ++ tab f m) ≡ out ++ (0 ∷ n ∷ tab f all)
unfolding tab
absolute_bytes out n m all f most e z =
    let c : n % 256 ≡ n = mod-eq_of_lt (omega arith) in
    let a : push (push out 0) n ++ tab f m ≡ out ++ (0 ∷ n ∷ tab f m) = rw (append_assoc (push out 0) (n ∷ []) (tab f m), append_assoc out (0 ∷ []) (n ∷ tab f m)) in
    rw (c, a) (go (eqb (bit_and m 1) 0) refl)
  where
    go : (b : Bool) → eqb (bit_and m 1) 0 ≡ b → cond b (out ++ (0 ∷ n ∷ tab f m)) (push (out ++ (0 ∷ n ∷ tab f m)) 0) ≡ out ++ (0 ∷ n ∷ tab f all)
    go true p = let q : all ≡ m = omega (arith, and_mask m 1, eqb-true (bit_and m 1) 0 p) in rw q
    go false p =
        let q : all ≡ suc m = omega (arith, and_mask m 1, eqb-false (bit_and m 1) 0 p) in
        rw (q, z) (append_assoc out (0 ∷ n ∷ tab f m) (0 ∷ []))

-- ---- fn encode_rle8_row(out: &mut Vec<u8>, row: &[u8])

-- a pair's byte is its first index
first_8 : (f : ℕ → ℕ) → f 0 < 256 → f 0 ≡ packed_byte_of 8 f 0
unfolding packed_byte_of digits
first_8 f h = omega arith

module _ (row : List ℕ) (small : (k : ℕ) → get_or row k 0 < 256) (short : length row < 2 ^ 32) where
  -- bytes are cells of 8 bits
  cells_8 : cells 8 row ≡ row
  cells_8 = ext_get_or 0 (cells 8 row) row (length-cells 8 row) (λ k h. cell_at 8 row k ∙ mod-eq_of_lt (small k))

  get_8 : (k : ℕ) → k < length row → at row k ≡ done (get_or (cells 8 row) k 0)
  get_8 k h = rw cells_8 (at_is row k h)

  -- an absolute block's data, and what comes after them
  data_8 : (i n : ℕ) → i + n ≤ length row → take (i + n - i) (drop i row) ≡ packed 8 (take n (drop i row)) n
  data_8 i n l =
      let e : i + n - i ≡ n = omega arith in
      let s : length (take n (drop i row)) ≡ n = length-take-le n (drop i row) (omega (arith, length-drop i row)) in
      rw e (sym (packed_8 (take n (drop i row)) n (part_small row i n 256 (omega arith) small) (omega arith) ∙ padded_full n (take n (drop i row)) (sym s)))

  end_8 : (i n : ℕ) → packed_byte_of 8 (λ x. get_or (take n (drop i row)) x 0) n ≡ 0
  unfolding packed_byte_of digits
  end_8 i n = let e : get_or (take n (drop i row)) (n * 1 + 0) 0 ≡ 0 = part_past row i n (n * 1 + 0) (omega arith) in rw e

  turn8_is : (i : ℕ) (out : List ℕ) → i < length row → turn8 row (to i out) ≡ done (past 8 (cells 8 row) i out (block_at (cells 8 row) i))
  unfolding turn8 literal8 bytes packed
  turn8_is i out h =
      let v = get_or (cells 8 row) i 0 in
      let w = get_or (drop (i + 1) (cells 8 row)) 0 0 in
      turn_is 8 row short (at row) get_8 i h out _ _ _
      (λ n most. rw (add_is usize i n (omega arith)) (ap (λ o. done (to (i + n) o)) (pair_bytes out n v _ most (first_8 (λ j. get_or (v ∷ v ∷ []) j 0) (cell_small 8 row i)))))
      (λ n most l.
      rw (add_is usize i n (omega arith), range_is row i (i + n) (omega arith) l, data_8 i n l, cells_8)
      (ap (λ o. done (to (i + n) o)) (absolute_bytes out n n ((n * 8 + 15) / 16 * 2) (packed_byte_of 8 (λ x. get_or (take n (drop i row)) x 0)) most (omega arith) (end_8 i n))))
      (rw (add_is usize i 1 (omega arith)) (ap (λ o. done (to (i + 1) o)) (pair_bytes out 1 v _ (omega arith) (first_8 (λ j. get_or (v ∷ w ∷ []) j 0) (cell_small 8 row i)))))

pub encode8_is : (out row : List ℕ) → ((k : ℕ) → get_or row k 0 < 256) → length row < 2 ^ 32 → encode_rle8_row out row ≡ done (out ++ row_codes 8 row)
unfolding encode_rle8_row row_codes
encode8_is out row small short = row_loop 8 row (omega arith) (turn8 row) (turn8_is row small short) (length row + 1) 0 out (omega arith) (omega arith)

-- ---- fn encode_rle4_row(out: &mut Vec<u8>, row: &[u8])

-- byte m of cells of 4 bits
nibbles_are : (f : ℕ → ℕ) (m : ℕ) → f (m * 2) < 16 → f (m * 2 + 1) < 16 → nibbles (f (m * 2)) (f (m * 2 + 1)) ≡ done (packed_byte_of 4 f m)
unfolding nibbles
nibbles_are f m h k =
    let e : f (m * 2) * 2 ^ 4 % 2 ^ u8 ≡ f (m * 2) * 2 ^ 4 = mod-eq_of_lt (omega arith) in
    rw (shl_is u8 (f (m * 2)) 4 (omega arith), e, or_shifted (f (m * 2)) 4 (f (m * 2 + 1)) k, ← byte_4 f m, mod-eq_of_lt h, mod-eq_of_lt k)

module _ (row : List ℕ) (short : length row < 2 ^ 32) where
  -- a low nibble is a cell of 4 bits
  nibble_is : (k : ℕ) → k < length row → nibble row k ≡ done (get_or (cells 4 row) k 0)
  unfolding nibble
  nibble_is k h = rw (at_is row k h, cell_at 4 row k) (ap done (and_mask (get_or row k 0) 4))

  -- the index at k, or 0
  nibble_if_lem : (test : Bool) (k c : ℕ) → (test ≡ true → (k < length row) × (get_or (cells 4 row) k 0 ≡ c)) → (test ≡ false → 0 ≡ c) → nibble_if test row (done k) ≡ done c
  unfolding nibble_if
  nibble_if_lem true k c f g = nibble_is k (f refl).0 ∙ ap done (f refl).1
  nibble_if_lem false k c f g = ap done (g refl)

  -- the index after i, or 0
  after_is : (i : ℕ) → nibble_if (ltb (i + 1) (length row)) row (done (i + 1)) ≡ done (get_or (drop (i + 1) (cells 4 row)) 0 0)
  after_is i =
      rw (get_or-drop (i + 1) (cells 4 row) 0 0, add-zero (i + 1))
      (nibble_if_lem (ltb (i + 1) (length row)) (i + 1) (get_or (cells 4 row) (i + 1) 0) (λ e. (ltb-true (i + 1) (length row) e, refl))
      (λ e. sym (get_or-eq_default (cells 4 row) 0 {n = i + 1} (omega (arith, ltb-false (i + 1) (length row) e, length-cells 4 row)))))

  -- the n indices from i on, and their bytes
  module _ (i n : ℕ) (l : i + n ≤ length row) where
    abbrev part : ℕ → ℕ
    part x = get_or (take n (drop i (cells 4 row))) x 0

    small : (k : ℕ) → part k < 16
    small = part_small (cells 4 row) i n 16 (omega arith) (cell_small 4 row)

    pair_turn : (m : ℕ) (out : List ℕ) → m < (n + 1) / 2 → pair_turn_of row i n m out ≡ done (push out (packed_byte_of 4 part m))
    unfolding pair_turn_of
    pair_turn m out h =
        let q : 2 * m ≡ m * 2 = omega arith in
        let xs = cells 4 row in
        let lo : nibble_if (ltb (m * 2 + 1) n) row (done (i + m * 2 + 1)) ≡ done (part (m * 2 + 1)) =
        nibble_if_lem (ltb (m * 2 + 1) n) (i + m * 2 + 1) (part (m * 2 + 1))
        (λ e. let k : m * 2 + 1 < n = ltb-true (m * 2 + 1) n e in (omega arith, sym (rw (add_assoc i (m * 2) 1) (part_at xs i n (m * 2 + 1) k))))
        (λ e. sym (part_past xs i n (m * 2 + 1) (ltb-false (m * 2 + 1) n e))) in
        rw (q, add_is usize i (m * 2) (omega arith), nibble_is (i + m * 2) (omega arith), add_is usize (m * 2) 1 (omega arith), add_is usize (i + m * 2) 1 (omega arith), lo, ← part_at xs i n (m * 2) (omega arith), nibbles_are part m (small (m * 2)) (small (m * 2 + 1)))

    pairs_are : (out : List ℕ) → for ((n + 1) / 2) (pair_turn_of row i n) out ≡ done (out ++ tab (packed_byte_of 4 part) ((n + 1) / 2))
    unfolding tab
    pairs_are out =
        let bytes : ℕ → List ℕ = tab (packed_byte_of 4 part) in
        rw (append-nil out) at
        (for_is (pair_turn_of row i n) (λ m. out ++ bytes m) ((n + 1) / 2) (λ m h. pair_turn m (out ++ bytes m) h ∙ ap done (append_assoc out (bytes m) (packed_byte_of 4 part m ∷ []))))

    end_4 : packed_byte_of 4 part ((n + 1) / 2) ≡ 0
    end_4 =
        let m = (n + 1) / 2 in
        let xs = cells 4 row in
        rw (← byte_4 part m, part_past xs i n (m * 2) (omega arith), part_past xs i n (m * 2 + 1) (omega arith))

  turn4_is : (i : ℕ) (out : List ℕ) → i < length row → turn4 row (to i out) ≡ done (past 4 (cells 4 row) i out (block_at (cells 4 row) i))
  unfolding turn4 literal4 bytes packed
  turn4_is i out h =
      let v = get_or (cells 4 row) i 0 in
      let w = get_or (drop (i + 1) (cells 4 row)) 0 0 in
      let k : w < 16 = rw (get_or-drop (i + 1) (cells 4 row) 0 0) (cell_small 4 row (i + 1 + 0)) in
      turn_is 4 row short (nibble row) nibble_is i h out _ _ _
      (λ n most. rw (nibbles_are (λ j. get_or (v ∷ v ∷ []) j 0) 0 (cell_small 4 row i) (cell_small 4 row i), add_is usize i n (omega arith)) (ap (λ o. done (to (i + n) o)) (pair_bytes out n _ _ most refl)))
      (λ n most l.
      rw (pairs_are i n l (push (push out 0) (cast u8 n)), add_is usize i n (omega arith))
      (ap (λ o. done (to (i + n) o)) (absolute_bytes out n ((n + 1) / 2) ((n * 4 + 15) / 16 * 2) (packed_byte_of 4 (part i n l)) most (omega arith) (end_4 i n l))))
      (rw (add_is usize i 1 (omega arith), after_is i, nibbles_are (λ j. get_or (v ∷ w ∷ []) j 0) 0 (cell_small 4 row i) k) (ap (λ o. done (to (i + 1) o)) (pair_bytes out 1 _ _ (omega arith) refl)))

pub encode4_is : (out row : List ℕ) → length row < 2 ^ 32 → encode_rle4_row out row ≡ done (out ++ row_codes 4 row)
unfolding encode_rle4_row row_codes
encode4_is out row short = row_loop 4 row (omega arith) (turn4 row) (turn4_is row short) (length row + 1) 0 out (omega arith) (omega arith)
