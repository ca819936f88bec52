-- One row needs no byte of another, of any file: those of the head and its own are enough.
use mathlib.Core.Path.{◌≡◌, refl, sym, ap, ◌∙◌}
use mathlib.Core.Bool.{Bool, true, false, false≢true, not, cond, ◌&&◌, ◌||◌}
use mathlib.Core.List.{List, [], ◌++◌}
use mathlib.Core.Logic.{◌⊎◌, inl, inr}
use Prim.Native.Nat.{ℕ, ◌+◌, ◌-◌, ◌*◌, ◌/◌, ◌%◌, ◌^◌, ◌≤◌, ◌<◌, max}
use native.Mathlib.Nat.{mul-le-mul_right}
use native.Mathlib.Omega.{arith}
use borrow.Author.Tests.{ltb-false, le-ltb, leb-true, eqb-true, eqb-false, not-false}
use lib.Dec.{ltb, leb, eqb}
use lib.ListN.{length, get_or, take, drop, length-take, length-drop, take-append-drop}
use lib.Seq.{get_or-take}
use Rattle.leaves.specs.Lists.{tab}
use Rattle.leaves.proofs.ListLaws.{tab_ext}
use Rattle.format.specs.Decode.{Decoded, filled, refused, cell_at, read_row}
use Rattle.format.specs.OneRow.{RowReading, shows_row, refuses_row, cell_from, coded_row, cell_bytes, row_body, row_by_fields, read_one_row}
use Rattle.format.specs.Readers.{Reader, Fields, fields_of, knows_depth, knows_compression, pairs, word_at, dword_at, is_newer, table_count, cell_word, five, rgb_cell, channel, mask_cell, head_needs}
use Rattle.format.specs.Shown.{Cell, index, rgb, rgba, Cause, unknown_depth, unknown_compression, pairing, short}
use Rattle.format.proofs.Passing.{or_false}
use Rattle.format.proofs.OneRowLaws.{no_row, is_coded, bytes_read_of}
use Rattle.format.proofs.RowReading.{row_alone}

-- two files whose heads agree in the bytes that are needed, and from a place on each in the first n bytes there
pub record RowAlike (file other : List ℕ) (start place n : ℕ) : Type 0 where
  pub heads : take (head_needs (fields_of file)) file ≡ take (head_needs (fields_of file)) other
  pub rows : take n (drop start file) ≡ take n (drop place other)

-- how many bytes of a row are looked at: those that its codes take, or those that hold its cells
unfoldable pub row_bytes : List ℕ → ℕ → ℕ
row_bytes file start =
    let t = fields_of file in
    cond (is_coded t) (bytes_read_of (read_row t.depth t.width (drop start file))) (cell_bytes t)

-- a row that is shown: what its head says, and the rest
passes_row : (b : Bool) (cause : Cause) (rest : RowReading) (row : List Cell) → cond b (refuses_row cause) rest ≡ shows_row row → (b ≡ false) × (rest ≡ shows_row row)
passes_row true cause rest row e = absurd (no_row cause row e)
passes_row false cause rest row e = (refl, e)

record RowOpened (r : Reader) (file : List ℕ) (t : Fields) (start : ℕ) (row : List Cell) : Type 0 where
  depth : not (knows_depth r t.depth) ≡ false
  compression : not (knows_compression r t.compression) ≡ false
  paired : not (pairs t.compression t.depth) ≡ false
  long : head_needs t ≤ length file
  rest : row_body file t start ≡ shows_row row

row_opened : (r : Reader) (file : List ℕ) (start : ℕ) (row : List Cell) → read_one_row r file start ≡ shows_row row → RowOpened r file (fields_of file) start row
unfolding read_one_row row_by_fields
row_opened r file start row e =
    let t = fields_of file in
    let one = passes_row (ltb (length file) 54) short _ row e in
    let two = passes_row (not (knows_depth r t.depth)) unknown_depth _ row one.1 in
    let three = passes_row (not (knows_compression r t.compression)) unknown_compression _ row two.1 in
    let four = passes_row (not (pairs t.compression t.depth)) pairing _ row three.1 in
    let five = passes_row (ltb (length file) (head_needs t)) short _ row four.1 in
    record { depth = two.0; compression = three.0; paired = four.0; long = ltb-false (length file) (head_needs t) five.0; rest = five.1 }

-- lists that agree in their first n bytes
same_byte : (n : ℕ) (xs ys : List ℕ) → take n xs ≡ take n ys → (k : ℕ) → k < n → get_or xs k 0 ≡ get_or ys k 0
same_byte n xs ys e k l = sym (get_or-take n xs k 0 l) ∙ ap (λ (z : List ℕ). get_or z k 0) e ∙ get_or-take n ys k 0 l

same_word : (n : ℕ) (xs ys : List ℕ) → take n xs ≡ take n ys → (k : ℕ) → k + 2 ≤ n → word_at xs k ≡ word_at ys k
unfolding word_at
same_word n xs ys e k l = λ z. same_byte n xs ys e k (omega arith) z + 256 * same_byte n xs ys e (k + 1) (omega arith) z

same_dword : (n : ℕ) (xs ys : List ℕ) → take n xs ≡ take n ys → (k : ℕ) → k + 4 ≤ n → dword_at xs k ≡ dword_at ys k
unfolding dword_at
same_dword n xs ys e k l = λ z. same_word n xs ys e k (omega arith) z + 65536 * same_word n xs ys e (k + 2) (omega arith) z

long_alike : (n : ℕ) (xs ys : List ℕ) → take n xs ≡ take n ys → n ≤ length xs → n ≤ length ys
long_alike n xs ys e h = omega (arith, length-take n ys, length-take n xs, ap length e)

same_fields : (n : ℕ) (xs ys : List ℕ) → take n xs ≡ take n ys → 54 ≤ n → fields_of xs ≡ fields_of ys
unfolding fields_of
same_fields n xs ys e h =
    λ z. record {
      offset = same_dword n xs ys e 10 (omega arith) z;
      header_size_of = same_dword n xs ys e 14 (omega arith) z;
      width = same_dword n xs ys e 18 (omega arith) z;
      height = same_dword n xs ys e 22 (omega arith) z;
      depth = same_word n xs ys e 28 (omega arith) z;
      compression = same_dword n xs ys e 30 (omega arith) z;
      colours = same_dword n xs ys e 46 (omega arith) z;
    }

-- the needed bytes of the head hold its fields, and the masks that the compression has
needs_first : (t : Fields) → 54 ≤ head_needs t
unfolding head_needs
needs_first t = go (eqb t.compression 6) (eqb t.compression 3)
  where
    go : (a b : Bool) → 54 ≤ max (14 + t.header_size_of + table_count t * 4) (cond a 70 (cond b 66 54))
    go true b = omega arith
    go false true = omega arith
    go false false = omega arith

same_masks : (file other : List ℕ) (t : Fields) (c v : ℕ) → t.compression ≡ c → (c ≡ 3) ⊎ (c ≡ 6) → take (head_needs t) file ≡ take (head_needs t) other
    → mask_cell file c v ≡ mask_cell other c v
unfolding mask_cell head_needs
same_masks file other t c v q (inl e) alike =
    let n : ℕ = head_needs t in
    let long : 66 ≤ n = rw (q, e) (omega arith) in
    rw e
    (λ z. rgb (channel (same_dword n file other alike 54 (omega arith) z) v) (channel (same_dword n file other alike 58 (omega arith) z) v) (channel (same_dword n file other alike 62 (omega arith) z) v))
same_masks file other t c v q (inr e) alike =
    let n : ℕ = head_needs t in
    let long : 70 ≤ n = rw (q, e) (omega arith) in
    rw e
    (λ z. rgba (channel (same_dword n file other alike 54 (omega arith) z) v) (channel (same_dword n file other alike 58 (omega arith) z) v) (channel (same_dword n file other alike 62 (omega arith) z) v)
    (channel (same_dword n file other alike 66 (omega arith) z) v))

-- a depth that a reader knows
data Deep (d : ℕ) : Type 0 where
  indices : 1 ≤ d → leb d 8 ≡ true → Deep d
  words : d ≡ 16 → Deep d
  threes : d ≡ 24 → Deep d
  fours : d ≡ 32 → Deep d

deep : (r : Reader) (d : ℕ) → knows_depth r d ≡ true → Deep d
unfolding knows_depth
deep r d e = go (eqb d 1) (eqb d 4) (eqb d 8) (eqb d 16) (eqb d 24) (eqb d 32) (eqb d 2) refl refl refl refl refl refl refl e
  where
    of : (n : ℕ) → 1 ≤ n → leb n 8 ≡ true → eqb d n ≡ true → Deep d
    of n h k q = let f : d ≡ n = eqb-true d n q in indices (omega arith) (rw f k)

    go : (a b c f g h k : Bool) → eqb d 1 ≡ a → eqb d 4 ≡ b → eqb d 8 ≡ c → eqb d 16 ≡ f → eqb d 24 ≡ g → eqb d 32 ≡ h → eqb d 2 ≡ k
        → (a || b || c || f || g || h || (k && is_newer r)) ≡ true → Deep d
    go true b c f g h k e1 e4 e8 e16 e24 e32 e2 q = of 1 (omega arith) refl e1
    go false true c f g h k e1 e4 e8 e16 e24 e32 e2 q = of 4 (omega arith) refl e4
    go false false true f g h k e1 e4 e8 e16 e24 e32 e2 q = of 8 (omega arith) refl e8
    go false false false true g h k e1 e4 e8 e16 e24 e32 e2 q = words (eqb-true d 16 e16)
    go false false false false true h k e1 e4 e8 e16 e24 e32 e2 q = threes (eqb-true d 24 e24)
    go false false false false false true k e1 e4 e8 e16 e24 e32 e2 q = fours (eqb-true d 32 e32)
    go false false false false false false true e1 e4 e8 e16 e24 e32 e2 q = of 2 (omega arith) refl e2
    go false false false false false false false e1 e4 e8 e16 e24 e32 e2 q = absurd (false≢true q)

some_bytes : (w d : ℕ) → Deep d → (w ≡ 0 → ⊥) → 0 < (w * d + 7) / 8
some_bytes w d k some =
    let one : 1 ≤ d = at_least k in
    let h : 1 * d ≤ w * d = mul-le-mul_right d (omega (arith, some)) in
    omega arith
  where
    at_least : Deep d → 1 ≤ d
    at_least (indices h e) = h
    at_least (words e) = omega arith
    at_least (threes e) = omega arith
    at_least (fours e) = omega arith

-- cell x of rows that agree in the bytes that hold their w cells
module _ (w : ℕ) (row other : List ℕ) where
  cells_index : (d x : ℕ) → take ((w * d + 7) / 8) row ≡ take ((w * d + 7) / 8) other → 1 ≤ d → x < w → cell_at d row x ≡ cell_at d other x
  unfolding cell_at
  cells_index d x e h l =
      let m : x * d + d ≤ w * d = omega (arith, mul-le-mul_right d l) in
      ap (λ (v : ℕ). v / 2 ^ (8 - d - x * d % 8) % 2 ^ d) (same_byte ((w * d + 7) / 8) row other e (x * d / 8) (omega arith))

  cells-word : (x : ℕ) → take ((w * 16 + 7) / 8) row ≡ take ((w * 16 + 7) / 8) other → x < w → word_at row (x * 16 / 8) ≡ word_at other (x * 16 / 8)
  cells-word x e l = same_word ((w * 16 + 7) / 8) row other e (x * 16 / 8) (omega arith)

  cells_dword : (x : ℕ) → take ((w * 32 + 7) / 8) row ≡ take ((w * 32 + 7) / 8) other → x < w → dword_at row (x * 32 / 8) ≡ dword_at other (x * 32 / 8)
  cells_dword x e l = same_dword ((w * 32 + 7) / 8) row other e (x * 32 / 8) (omega arith)

  cells-bytes : (d x : ℕ) → take ((w * d + 7) / 8) row ≡ take ((w * d + 7) / 8) other → x * d / 8 + 3 ≤ (w * d + 7) / 8
      → rgb (get_or row (x * d / 8 + 2) 0) (get_or row (x * d / 8 + 1) 0) (get_or row (x * d / 8) 0) ≡ rgb (get_or other (x * d / 8 + 2) 0) (get_or other (x * d / 8 + 1) 0) (get_or other (x * d / 8) 0)
  cells-bytes d x e h =
      let n : ℕ = (w * d + 7) / 8 in
      λ z. rgb (same_byte n row other e (x * d / 8 + 2) (omega arith) z) (same_byte n row other e (x * d / 8 + 1) (omega arith) z) (same_byte n row other e (x * d / 8) (omega arith) z)

  -- without masks
  same_rgb : (d x : ℕ) → Deep d → take ((w * d + 7) / 8) row ≡ take ((w * d + 7) / 8) other → x < w → rgb_cell d row x ≡ rgb_cell d other x
  unfolding rgb_cell cell_word
  same_rgb d x (indices h k) e l = rw k (ap index (cells_index d x e h l))
  same_rgb d x (words k) e l = rw k (ap five (cells-word x (rw k at e) l))
  same_rgb d x (threes k) e l = rw k (cells-bytes 24 x (rw k at e) (omega arith))
  same_rgb d x (fours k) e l = rw k (cells-bytes 32 x (rw k at e) (omega arith))

  -- a word of 16 or 32 bits
  same_cell : (d x : ℕ) → (d ≡ 16) ⊎ (d ≡ 32) → take ((w * d + 7) / 8) row ≡ take ((w * d + 7) / 8) other → x < w → cell_word d row x ≡ cell_word d other x
  unfolding cell_word
  same_cell d x (inl k) e l = rw k (cells-word x (rw k at e) l)
  same_cell d x (inr k) e l = rw k (cells_dword x (rw k at e) l)

-- masks stand with 16 or 32 bits, under compression 3 or 6
masked_kind : (r : Reader) (c d : ℕ) → knows_compression r c ≡ true → pairs c d ≡ true → eqb c 0 ≡ false → (eqb c 1 || eqb c 2) ≡ false
    → ((c ≡ 3) ⊎ (c ≡ 6)) × ((d ≡ 16) ⊎ (d ≡ 32))
unfolding knows_compression pairs
masked_kind r c d k p n q =
    let parts = or_false (eqb c 1) (eqb c 2) q in
    (kind (leb c 3) (eqb c 6) refl refl k, bits (eqb d 16) (eqb d 32) refl refl (rw (n, parts.0, parts.1) at p))
  where
    kind : (a b : Bool) → leb c 3 ≡ a → eqb c 6 ≡ b → (a || (b && is_newer r)) ≡ true → (c ≡ 3) ⊎ (c ≡ 6)
    kind true b e f g =
        let parts = or_false (eqb c 1) (eqb c 2) q in
        inl (omega (arith, leb-true c 3 e, eqb-false c 0 n, eqb-false c 1 parts.0, eqb-false c 2 parts.1))
    kind false true e f g = inr (eqb-true c 6 f)
    kind false false e f g = absurd (false≢true g)

    bits : (a b : Bool) → eqb d 16 ≡ a → eqb d 32 ≡ b → (a || b) ≡ true → (d ≡ 16) ⊎ (d ≡ 32)
    bits true b e f g = inl (eqb-true d 16 e)
    bits false true e f g = inr (eqb-true d 32 f)
    bits false false e f g = absurd (false≢true g)

-- the row from another place of another file
module _ (r : Reader) (file other : List ℕ) (start place : ℕ) (row : List Cell) (e : read_one_row r file start ≡ shows_row row)
    (alike : RowAlike file other start place (row_bytes file start)) where
  abbrev t : Fields
  t = fields_of file

  o : RowOpened r file t start row
  o = row_opened r file start row e

  depths : Deep t.depth
  depths = deep r t.depth (not-false (knows_depth r t.depth) o.depth)

  -- a stream's row
  coded_own : (d : Decoded) → read_row t.depth t.width (drop start file) ≡ d → coded_row t.width d ≡ shows_row row
      → take (bytes_read_of d) (drop start file) ≡ take (bytes_read_of d) (drop place other) → coded_row t.width (read_row t.depth t.width (drop place other)) ≡ shows_row row
  coded_own (refused cause) q f same = absurd (no_row cause row f)
  coded_own (filled cells n) q f same =
      let here : drop place other ≡ take n (drop start file) ++ drop n (drop place other)
      = sym (take-append-drop n (drop place other)) ∙ ap (λ (l : List ℕ). l ++ drop n (drop place other)) (sym same) in
      ap (λ (l : List ℕ). coded_row t.width (read_row t.depth t.width l)) here
      ∙ ap (coded_row t.width) (row_alone t.depth t.width (drop start file) q (drop n (drop place other)))
      ∙ f

  -- a cell of a stored row
  cell_own : (x : ℕ) → (eqb t.compression 1 || eqb t.compression 2) ≡ false → take (cell_bytes t) (drop start file) ≡ take (cell_bytes t) (drop place other) → x < t.width
      → cell_from file t start x ≡ cell_from other t place x
  unfolding cell_from
  cell_own x q same l = go (eqb t.compression 0) refl
    where
      go : (b : Bool) → eqb t.compression 0 ≡ b
          → cond b (rgb_cell t.depth (drop start file) x) (mask_cell file t.compression (cell_word t.depth (drop start file) x))
          ≡ cond b (rgb_cell t.depth (drop place other) x) (mask_cell other t.compression (cell_word t.depth (drop place other) x))
      go true z = same_rgb t.width (drop start file) (drop place other) t.depth x depths same l
      go false z =
          let kind = masked_kind r t.compression t.depth (not-false (knows_compression r t.compression) o.compression) (not-false (pairs t.compression t.depth) o.paired) z q in
          ap (mask_cell file t.compression) (same_cell t.width (drop start file) (drop place other) t.depth x kind.1 same l)
          ∙ same_masks file other t t.compression (cell_word t.depth (drop place other) x) refl kind.0 alike.heads

  plain_own : (eqb t.width 0 ≡ false) → (eqb t.compression 1 || eqb t.compression 2) ≡ false → take (cell_bytes t) (drop start file) ≡ take (cell_bytes t) (drop place other)
      → cond (ltb (length file) (start + cell_bytes t)) (refuses_row short) (shows_row (tab (cell_from file t start) t.width)) ≡ shows_row row
      → cond (ltb (length other) (place + cell_bytes t)) (refuses_row short) (shows_row (tab (cell_from other t place) t.width)) ≡ shows_row row
  plain_own w q same f =
      let n : ℕ = cell_bytes t in
      let inside = passes_row (ltb (length file) (start + n)) short _ row f in
      let some : 0 < n = some_bytes t.width t.depth depths (eqb-false t.width 0 w) in
      let there : n ≤ length (drop start file) = omega (arith, ltb-false (length file) (start + n) inside.0, length-drop start file) in
      let long : place + n ≤ length other = omega (arith, long_alike n (drop start file) (drop place other) same there, length-drop place other, some) in
      rw (le-ltb (length other) (place + n) long)
      (ap shows_row (tab_ext _ _ t.width (λ x l. sym (cell_own x q same l))) ∙ inside.1)

  body_own : row_body other t place ≡ shows_row row
  unfolding row_body row_bytes
  body_own = go (eqb t.width 0) (is_coded t) refl refl o.rest alike.rows
    where
      go : (a b : Bool) → eqb t.width 0 ≡ a → is_coded t ≡ b
          → cond a (shows_row [])
          (cond b (coded_row t.width (read_row t.depth t.width (drop start file)))
          (cond (ltb (length file) (start + cell_bytes t)) (refuses_row short) (shows_row (tab (cell_from file t start) t.width)))) ≡ shows_row row
          → take (cond b (bytes_read_of (read_row t.depth t.width (drop start file))) (cell_bytes t)) (drop start file)
          ≡ take (cond b (bytes_read_of (read_row t.depth t.width (drop start file))) (cell_bytes t)) (drop place other)
          → cond a (shows_row [])
          (cond b (coded_row t.width (read_row t.depth t.width (drop place other)))
          (cond (ltb (length other) (place + cell_bytes t)) (refuses_row short) (shows_row (tab (cell_from other t place) t.width)))) ≡ shows_row row
      go true b ea eb f same = f
      go false true ea eb f same = coded_own (read_row t.depth t.width (drop start file)) refl f same
      go false false ea eb f same = plain_own ea eb same f

  -- One row needs no byte but those of the head and its own: a file that agrees with another in these shows it from wherever it stands there.
  pub row_own : read_one_row r other place ≡ shows_row row
  unfolding read_one_row row_by_fields
  row_own =
      let m : ℕ = head_needs t in
      let long : m ≤ length other = long_alike m file other alike.heads o.long in
      let first : 54 ≤ length other = omega (arith, long, needs_first t) in
      let fields : fields_of other ≡ t = sym (same_fields m file other alike.heads (needs_first t)) in
      rw (le-ltb (length other) 54 first, fields, o.depth, o.compression, o.paired, le-ltb (length other) m long) body_own
