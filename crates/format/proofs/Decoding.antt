-- The decoder gives back what the row coder wrote, and the stream's rows: once for RLE4 and RLE8.
use mathlib.Core.Path.{◌≡◌, refl, sym, ap, ◌∙◌}
use mathlib.Core.Logic.{◌⊎◌}
use mathlib.Core.Bool.{Bool, true, false, cond}
use mathlib.Core.List.{List, [], ◌∷◌, ◌++◌, append_assoc}
use Prim.Native.Nat.{ℕ, zero, suc, ◌+◌, ◌-◌, ◌*◌, ◌%◌, ◌^◌, ◌≤◌, ◌<◌}
use native.Mathlib.Nat.{mod-eq_of_lt, mul-le-mul_right}
use native.Mathlib.Omega.{arith}
use borrow.Author.Tests.{le-ltb, eqb-true, ne_eqb}
use lib.Dec.{ltb, eqb}
use lib.ListN.{length, get_or, take, drop, length-append, length-take, length-drop, take-append-drop}
use lib.Seq.{get_or-take, drop-append_seam}
use Rattle.rows.specs.declared.blocks.Block.{Block}
use Rattle.rows.specs.declared.blocks.Block.TheVariants.{Pair, Absolute}
use Rattle.leaves.specs.Lists.{tab, cat}
use Rattle.rows.specs.Packing.{packed}
use Rattle.rows.specs.RleCodes.{cells, scan, same, lone, run_length, gather_length, block, width, data_bytes, bytes, codes, row_codes}
use Rattle.rows.specs.StoredRows.{row_of, source_row}
use Rattle.rows.specs.Stream.{end_mark, stream_row, stream}
use Rattle.format.specs.Decode.{filled, cell_at, pair_cell, data_read, read_code, read_row, rows_below, decode}
use Rattle.leaves.proofs.ListLaws.{length-tab, tab_ext, cat_ext}
use Rattle.rows.proofs.RleBlocks.{scanned, choose_cases, block_sound}
use Rattle.rows.proofs.RleBytes.{cell_small}
use Rattle.rows.proofs.Scans.{length-cells}
use Rattle.format.proofs.RowReading.{row_code}
use Rattle.format.proofs.StreamReading.{rows_next, decode_next}
use Rattle.format.proofs.Unpacking.{packed-at, cell_at-append, pair_byte, Codable, codable, data_read_lem, take-tab}

-- ---- a run's cells

-- what a run's scan has passed is v
passed : (v n : ℕ) (xs : List ℕ) (i : ℕ) → n + i < scan (same v) n xs → get_or xs i 0 ≡ v
unfolding scan
passed v n [] i h = absurd (omega arith)
passed v n (x ∷ xs) i h = go i (ltb n 255) (eqb x v) refl h (passed v (n + 1) xs)
  where
    go : (i : ℕ) (b t : Bool) → eqb x v ≡ t → n + i < cond b (cond t (scan (same v) (n + 1) xs) n) n
        → ((i : ℕ) → n + 1 + i < scan (same v) (n + 1) xs → get_or xs i 0 ≡ v) → get_or (x ∷ xs) i 0 ≡ v
    go i false t e h f = absurd (omega arith)
    go i true false e h f = absurd (omega arith)
    go zero true true e h f = eqb-true x v e
    go (suc i) true true e h f = f i (omega arith)

-- the cells of a run are equal to its first
run-same : (x : ℕ) (xs : List ℕ) (i : ℕ) → i < run_length x xs → x ≡ get_or (x ∷ xs) i 0
run-same x xs zero h = refl
run-same x xs (suc i) h = sym (passed x 1 xs i (omega arith))

-- ---- one code

-- a pair that the row has room for
code_pair : (d n v room : ℕ) (bs : List ℕ) → 1 ≤ n → n ≤ room → read_code d room (n ∷ v ∷ bs) ≡ filled (tab (pair_cell d v) n) 2
unfolding read_code
code_pair d zero v room bs h k = absurd (omega arith)
code_pair d (suc n) v room bs h k = rw (le-ltb room (suc n) k)

-- an absolute block that the row has room for, with its data bytes
code_absolute : (d n room : ℕ) (bs : List ℕ) → 2 < n → n ≤ room → n * d ≤ length bs * 8
    → read_code d room (0 ∷ n ∷ bs) ≡ filled (tab (cell_at d bs) n) (suc (suc (data_read d n)))
unfolding read_code
code_absolute d zero room bs h k f = absurd (omega arith)
code_absolute d (suc zero) room bs h k f = absurd (omega arith)
code_absolute d (suc (suc zero)) room bs h k f = absurd (omega arith)
code_absolute d (suc (suc (suc n))) room bs h k f = rw (le-ltb room (suc (suc (suc n))) k, le-ltb (length bs * 8) (suc (suc (suc n)) * d) f)

-- ---- one block

data_length : (d n : ℕ) (l : List ℕ) → length (packed d l (data_bytes d n)) ≡ data_bytes d n
unfolding packed
data_length d n l = length-tab _ (data_bytes d n)

-- the data's cells are the first n
data_cells : {d : ℕ} → Codable d → (l bs : List ℕ) (n : ℕ) → ((i : ℕ) → get_or l i 0 < 2 ^ d) → n ≤ length l
    → tab (cell_at d (packed d (take n l) (data_bytes d n) ++ bs)) n ≡ take n l
data_cells {d} q l bs n small h =
    tab_ext _ _ n (λ i b.
    let f : i * d < data_bytes d n * 8 = omega (arith, q.packs.some, mul-le-mul_right d b) in
    let g : i * d < length (packed d (take n l) (data_bytes d n)) * 8 = rw (data_length d n (take n l)) f in
    cell_at-append d (packed d (take n l) (data_bytes d n)) bs i g ∙ packed-at q.packs (take n l) (data_bytes d n) i f
    ∙ ap (λ (z : ℕ). z % 2 ^ d) (get_or-take n l i 0 b) ∙ mod-eq_of_lt (small i))
    ∙ sym (take-tab l n h)

module _ {d : ℕ} (q : Codable d) (rest : List ℕ) where
  -- the block b of the cells xs is read as the first of them
  Taken : List ℕ → Block → Type 0
  Taken xs b = read_code d (length xs) (bytes d b xs ++ rest) ≡ filled (take (width b) xs) (length (bytes d b xs))

  pair_taken : (xs : List ℕ) (n u v : ℕ) → 1 ≤ n → n ≤ length xs → ((j : ℕ) → j < n → pair_cell d (pair_byte d u v) j ≡ get_or xs j 0) → Taken xs (Pair n u v)
  unfolding Taken bytes
  pair_taken xs n u v h k e =
      code_pair d n (pair_byte d u v) (length xs) rest h k ∙ ap (λ (l : List ℕ). filled l 2) (tab_ext _ _ n e ∙ sym (take-tab xs n k))

  absolute_taken : (xs : List ℕ) (n : ℕ) → ((i : ℕ) → get_or xs i 0 < 2 ^ d) → 2 < n → n ≤ length xs → Taken xs (Absolute n)
  unfolding Taken bytes
  absolute_taken xs n small h k =
      let e : length (packed d (take n xs) (data_bytes d n)) ≡ data_bytes d n = data_length d n (take n xs) in
      code_absolute d n (length xs) (packed d (take n xs) (data_bytes d n) ++ rest) h k (simp (length-append, e) (omega arith))
      ∙ rw (data_cells q xs rest n small k, e, data_read_lem d n)

  block_taken : (x : ℕ) (xs : List ℕ) → ((i : ℕ) → get_or (x ∷ xs) i 0 < 2 ^ d) → Taken (x ∷ xs) (block x xs)
  block_taken x xs small =
      let r = scanned (same x) 1 xs (omega arith) in
      let g = scanned lone 1 xs (omega arith) in
      choose_cases (Taken (x ∷ xs)) (run_length x xs) (gather_length xs) x xs
      (λ k. pair_taken (x ∷ xs) (run_length x xs) x x (omega arith) (omega arith) (λ j l. q.run x j (small 0) ∙ run-same x xs j l))
      (λ k. absolute_taken (x ∷ xs) (gather_length xs) small k (omega arith))
      (pair_taken (x ∷ xs) 1 x (get_or xs 0 0) (omega arith) (omega arith) (first_cell x xs small))
    where
      first_cell : (x : ℕ) (xs : List ℕ) → ((i : ℕ) → get_or (x ∷ xs) i 0 < 2 ^ d) → (j : ℕ) → j < 1 → pair_cell d (pair_byte d x (get_or xs 0 0)) j ≡ get_or (x ∷ xs) j 0
      first_cell x xs small zero l = q.first x (get_or xs 0 0) (small 0)
      first_cell x xs small (suc j) l = absurd (omega arith)

-- ---- a row

-- a block's cells and those after it
rejoin : (n x : ℕ) (xs : List ℕ) → 1 ≤ n → take n (x ∷ xs) ++ drop (n - 1) xs ≡ x ∷ xs
rejoin zero x xs h = absurd (omega arith)
rejoin (suc k) x xs h =
    let e : suc k - 1 ≡ k = omega arith in
    rw e (ap (λ (l : List ℕ). x ∷ l) (take-append-drop k xs))

codes_back : {d : ℕ} → Codable d → (s : ℕ) (xs rest : List ℕ) → ((i : ℕ) → get_or xs i 0 < 2 ^ d)
    → read_row d (length (drop s xs)) (codes d s xs ++ rest) ≡ filled (drop s xs) (length (codes d s xs))
unfolding codes Taken
codes_back q zero [] rest small = refl
codes_back q (suc s) [] rest small = refl
codes_back q (suc s) (x ∷ xs) rest small = codes_back q s xs rest (λ i. small (suc i))
codes_back {d} q zero (x ∷ xs) rest small =
    let b = block x xs in
    let s = block_sound d q.packs.small x xs in
    let e : suc (length xs) - length (take (width b) (x ∷ xs)) ≡ length (drop (width b - 1) xs)
    = omega (arith, length-drop (width b - 1) xs, length-take (width b) (x ∷ xs)) in
    rw (append_assoc (bytes d b (x ∷ xs)) (codes d (width b - 1) xs) rest)
    (row_code d (length xs) (length (drop (width b - 1) xs)) (bytes d b (x ∷ xs)) (codes d (width b - 1) xs ++ rest) (block_taken q (codes d (width b - 1) xs ++ rest) x xs small) e
    (codes_back q (width b - 1) xs rest (λ i. small (suc i)))
    ∙ rw (rejoin (width b) x xs s.some, length-append (bytes d b (x ∷ xs)) (codes d (width b - 1) xs)))

-- a row's codes with the end that leads to the row above
abbrev pub row_and_end : ℕ → List ℕ → List ℕ
row_and_end d row = row_codes d row ++ (0 ∷ 0 ∷ [])

module _ (d : ℕ) (deep : (d ≡ 4) ⊎ (d ≡ 8)) where
  -- a row's codes are read as its cells, and whatever follows them is not read
  pub decode_row : (row rest : List ℕ) → read_row d (length row) (row_codes d row ++ rest) ≡ filled (cells d row) (length (row_codes d row))
  unfolding row_codes
  decode_row row rest = rw (← length-cells d row) (codes_back (codable deep) 0 (cells d row) rest (cell_small d row))

  -- ---- rows of w cells

  module _ (w : ℕ) (row : ℕ → List ℕ) where
    row_there : (s : ℕ) (front rest : List ℕ) → length (row s) ≡ w
        → read_row d w (drop (length front) (front ++ (row_codes d (row s) ++ rest))) ≡ filled (cells d (row s)) (length (row_codes d (row s)))
    row_there s front rest wide = rw (drop-append_seam front (row_codes d (row s) ++ rest), ← wide) (decode_row (row s) rest)

    -- n rows with their ends are read as their cells, and row n begins behind them
    pub decode_below : (n : ℕ) (rest : List ℕ) → ((s : ℕ) → s < n → length (row s) ≡ w)
        → rows_below d w (cat (λ s. row_and_end d (row s)) n ++ rest) n ≡ filled (cat (λ s. cells d (row s)) n) (length (cat (λ s. row_and_end d (row s)) n))
    unfolding cat rows_below
    decode_below zero rest wide = refl
    decode_below (suc n) rest wide =
        let front = cat (λ s. row_and_end d (row s)) n in
        let codes = row_codes d (row n) in
        let next : List ℕ = 0 ∷ 0 ∷ rest in
        let ended : (codes ++ (0 ∷ 0 ∷ [])) ++ rest ≡ codes ++ next = append_assoc codes (0 ∷ 0 ∷ []) rest in
        let same : cat (λ s. row_and_end d (row s)) (suc n) ++ rest ≡ front ++ (codes ++ next) = append_assoc front (codes ++ (0 ∷ 0 ∷ [])) rest ∙ ap (λ (xs : List ℕ). front ++ xs) ended in
        let long : length (cat (λ s. row_and_end d (row s)) (suc n)) ≡ length front + (length codes + 2) =
        length-append front (codes ++ (0 ∷ 0 ∷ [])) ∙ ap (λ (k : ℕ). length front + k) (length-append codes (0 ∷ 0 ∷ [])) in
        ap (λ (xs : List ℕ). rows_below d w xs (suc n)) same
        ∙ rows_next d w (front ++ (codes ++ next)) n rest (decode_below n (codes ++ next) (λ s h. wide s (omega arith))) (row_there n front next (wide n (omega arith)))
        (rw (drop-append_seam front (codes ++ next)) (drop-append_seam codes next))
        ∙ ap (λ (k : ℕ). filled (cat (λ s. cells d (row s)) (suc n)) k) (sym long)

    -- and with the codes of the top row the stream is read, whatever follows them
    pub decode_top : (m : ℕ) (rest : List ℕ) → ((s : ℕ) → s < suc m → length (row s) ≡ w)
        → decode d w (cat (λ s. row_and_end d (row s)) m ++ (row_codes d (row m) ++ rest)) m
        ≡ filled (cat (λ s. cells d (row s)) (suc m)) (length (cat (λ s. row_and_end d (row s)) m) + length (row_codes d (row m)))
    unfolding cat
    decode_top m rest wide =
        let front = cat (λ s. row_and_end d (row s)) m in
        decode_next d w (front ++ (row_codes d (row m) ++ rest)) m (decode_below m (row_codes d (row m) ++ rest) (λ s h. wide s (omega arith))) (row_there m front rest (wide m (omega arith)))

  -- ---- a stream

  module _ (w : ℕ) (plane : List ℕ) (stride m : ℕ) (wide : (s : ℕ) → s < suc m → length (source_row plane stride w (row_of false (suc m) s)) ≡ w) where
    -- the stored row s
    abbrev stored : ℕ → List ℕ
    stored s = source_row plane stride w (row_of false (suc m) s)

    rows_end : cat (stream_row d w (suc m) plane stride) m ≡ cat (λ s. row_and_end d (stored s)) m
    unfolding stream_row
    rows_end = cat_ext _ _ m (λ s h. rw (ne_eqb (s + 1) (suc m) (λ z. omega arith)))

    -- the stream is read as the cells of its rows, in stored order; its last two bytes are not read, nor what follows it
    pub decode-stream : (rest : List ℕ)
        → decode d w (stream d w (suc m) plane stride ++ rest) m ≡ filled (cat (λ s. cells d (stored s)) (suc m)) (length (stream d w (suc m) plane stride) - 2)
    unfolding stream stream_row cat
    decode-stream rest =
        let codes = row_codes d (stored m) in
        let end : List ℕ = 0 ∷ end_mark (suc m) m ∷ [] in
        let front = cat (λ s. row_and_end d (stored s)) m in
        let size : length (front ++ (codes ++ end)) - 2 ≡ length front + length codes = omega (arith, length-append front (codes ++ end), length-append codes end) in
        rw (rows_end, append_assoc front (codes ++ end) rest, append_assoc codes end rest, size) (decode_top w stored m (0 ∷ end_mark (suc m) m ∷ rest) wide)
