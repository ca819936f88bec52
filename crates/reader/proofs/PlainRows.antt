-- Rows that are stored as they are: the numbers that the code puts are those of the readers' cells.
use mathlib.Core.Path.{◌≡◌, refl, sym, ap, ◌∙◌, subst}
use mathlib.Core.Logic.{◌⊎◌, inl, inr}
use mathlib.Core.Bool.{Bool, true, false, true≢false, not, cond, ◌&&◌, ◌||◌}
use mathlib.Core.List.{List, [], ◌∷◌}
use Prim.Native.Nat.{ℕ, zero, suc, ◌+◌, ◌-◌, ◌*◌, ◌/◌, ◌%◌, ◌^◌, ◌≤◌, ◌<◌}
use native.Mathlib.Nat.{mul-le-mul_right, suc-mul, zero-add}
use native.Mathlib.Omega.{arith}
use borrow.Author.Tests.{le-leb, lt-leb, eqb-true}
use lib.Bits.{bit_and, and_zero_r}
use lib.Count.{count_trailing_zeros}
use lib.Dec.{leb, eqb}
use lib.ListN.{length, drop}
use lib.Seq.{get_or-drop}
use Rattle.leaves.specs.Lists.{tab, cat}
use Rattle.leaves.specs.Put.{put}
use Rattle.leaves.specs.Sizes.{has_table, row_stride}
use Rattle.leaves.proofs.ListLaws.{cat_ext, length-cat}
use Rattle.format.specs.Decode.{cell_at}
use Rattle.format.specs.Readers.{Fields, dword_at, top_first, stored_at, shown_height, row_from, cell_word, five, rgb_cell, channel, mask_cell}
use Rattle.format.proofs.PlainCells.{bits_under, length_row}
use Rattle.cells.specs.declared.colours.Channels.{Channels}
use Rattle.cells.specs.Quads.{bytes_quad, channel_at, value_under, quad_under}
use Rattle.reader.specs.Channels.{five_bits, channels_for}
use Rattle.reader.specs.Numbers.{cell_numbers, numbers_each}
use Rattle.reader.specs.Refusals.{written_pair, is_coded}
use Rattle.reader.specs.Rows.{cell_in, numbers_in, plain_numbers, WrittenKind}
use Rattle.cells.proofs.Blocks.{the_second}
use Rattle.cells.proofs.CellLaws.{table_depth}
use Rattle.reader.proofs.Heads.{depth_cases, mask_depths}

-- ---- the kinds

-- with a colour table, whole bytes, and words
pub data Way (t : Fields) : Type 0 where
  indices : has_table t.depth ≡ true → t.compression ≡ 0 → Way t
  bytes : (t.depth ≡ 24) ⊎ (t.depth ≡ 32) → t.compression ≡ 0 → Way t
  fives : t.depth ≡ 16 → t.compression ≡ 0 → Way t
  masked : (t.depth ≡ 16) ⊎ (t.depth ≡ 32) → (t.compression ≡ 3) ⊎ (t.compression ≡ 6) → Way t

-- without a stream the compression is 0, or there are masks
plain_pair : (c d : ℕ) → written_pair c d ≡ true → is_coded c ≡ false → (c ≡ 0) ⊎ (((c ≡ 3) ⊎ (c ≡ 6)) × ((d ≡ 16) ⊎ (d ≡ 32)))
plain_pair c d e coded = go (eqb c 0) (eqb c 1) (eqb c 2) (eqb c 3) (eqb c 6) refl refl refl refl refl
  where
    Answer : Type 0
    Answer = (c ≡ 0) ⊎ (((c ≡ 3) ⊎ (c ≡ 6)) × ((d ≡ 16) ⊎ (d ≡ 32)))

    go : (z o t h s : Bool) → eqb c 0 ≡ z → eqb c 1 ≡ o → eqb c 2 ≡ t → eqb c 3 ≡ h → eqb c 6 ≡ s → Answer
    go true o t h s ez eo et eh es = inl (eqb-true c 0 ez)
    go false true t h s ez eo et eh es = absurd (true≢false (sym (rw eo) ∙ coded))
    go false false true h s ez eo et eh es = absurd (true≢false (sym (rw (eo, et)) ∙ coded))
    go false false false true s ez eo et eh es = inr (inl (eqb-true c 3 eh), mask_depths c d e (rw eh))
    go false false false false true ez eo et eh es = inr (inr (eqb-true c 6 es), mask_depths c d e (rw (eh, es)))
    go false false false false false ez eo et eh es = absurd (true≢false (sym e ∙ rw (ez, eo, et, eh, es)))

pub way : (t : Fields) → WrittenKind t → Way t
way t k = go (plain_pair t.compression t.depth k.pair k.rows)
  where
    plain : t.compression ≡ 0 → (d : ℕ) → (has_table d || eqb d 16 || eqb d 24 || eqb d 32) ≡ true → t.depth ≡ d → Way t
    plain c d e q =
        depth_cases (λ d. t.depth ≡ d → Way t) (λ q. indices (rw q) c) (λ q. indices (rw q) c) (λ q. indices (rw q) c) (λ q. indices (rw q) c)
        (λ q. fives q c) (λ q. bytes (inl q) c) (λ q. bytes (inr q) c) d e q

    go : (t.compression ≡ 0) ⊎ (((t.compression ≡ 3) ⊎ (t.compression ≡ 6)) × ((t.depth ≡ 16) ⊎ (t.depth ≡ 32))) → Way t
    go (inl c) = plain c t.depth k.depth refl
    go (inr (c, d)) = masked d c

-- ---- cells of each kind

pub ones_are : (f : ℕ → ℕ) (n : ℕ) → cat (λ x. f x ∷ []) n ≡ tab f n
unfolding cat tab
ones_are f zero = refl
ones_are f (suc n) = rw (ones_are f n)

module _ (file : List ℕ) (t : Fields) (from : ℕ) where
  -- the numbers of a row, cell by cell
  abbrev row_of : ℕ → List ℕ
  row_of x = cell_numbers (cell_in file t (drop from file) x)

  pub index_row : t.depth ≤ 8 → t.compression ≡ 0 → tab (cell_at t.depth (drop from file)) t.width ≡ numbers_in file t (drop from file)
  unfolding numbers_in cell_in rgb_cell
  index_row h c = sym (ones_are (cell_at t.depth (drop from file)) t.width) ∙ cat_ext _ _ t.width (λ x l. rw (c, le-leb t.depth 8 h))

  byte_cell : (d x : ℕ) → (d ≡ 24) ⊎ (d ≡ 32) → bytes_quad file from (d / 8) x ≡ cell_numbers (rgb_cell d (drop from file) x)
  unfolding rgb_cell bytes_quad
  byte_cell d x (inl e) =
      let a : x * 24 / 8 ≡ x * (24 / 8) = omega arith in
      let b : from + (x * (24 / 8) + 2) ≡ from + x * (24 / 8) + 2 = omega arith in
      let c : from + (x * (24 / 8) + 1) ≡ from + x * (24 / 8) + 1 = omega arith in
      rw (e, a, get_or-drop from file (x * (24 / 8) + 2) 0, get_or-drop from file (x * (24 / 8) + 1) 0, get_or-drop from file (x * (24 / 8)) 0, b, c)
  byte_cell d x (inr e) =
      let a : x * 32 / 8 ≡ x * (32 / 8) = omega arith in
      let b : from + (x * (32 / 8) + 2) ≡ from + x * (32 / 8) + 2 = omega arith in
      let c : from + (x * (32 / 8) + 1) ≡ from + x * (32 / 8) + 1 = omega arith in
      rw (e, a, get_or-drop from file (x * (32 / 8) + 2) 0, get_or-drop from file (x * (32 / 8) + 1) 0, get_or-drop from file (x * (32 / 8)) 0, b, c)

  pub byte_row : (t.depth ≡ 24) ⊎ (t.depth ≡ 32) → t.compression ≡ 0 → cat (bytes_quad file from (t.depth / 8)) t.width ≡ numbers_in file t (drop from file)
  unfolding numbers_in cell_in
  byte_row d c = cat_ext _ _ t.width (λ x l. byte_cell t.depth x d ∙ rw c)

  -- ---- words

  value_is : (mask v : ℕ) → value_under (channel_at mask) v ≡ channel mask v
  unfolding channel
  value_is mask v = go (eqb mask 0) refl
    where
      go : (b : Bool) → eqb mask 0 ≡ b → bit_and v mask / 2 ^ cond b 0 (count_trailing_zeros 32 mask) ≡ cond b 0 (bit_and v mask / 2 ^ count_trailing_zeros 32 mask)
      go true e = let z : mask ≡ 0 = eqb-true mask 0 e in rw (z, and_zero_r v)
      go false e = refl

  pub five_row : (channels : Channels) → channels ≡ channels_for file t.compression → t.depth ≡ 16 → t.compression ≡ 0
      → cat (λ x. quad_under channels (cell_word t.depth (drop from file) x)) t.width ≡ numbers_in file t (drop from file)
  unfolding numbers_in cell_in rgb_cell channels_for channel count_trailing_zeros
  five_row channels e d c = cat_ext _ _ t.width (λ x l. rw (e, c, d) (five_is (cell_word 16 (drop from file) x)))
    where
      five_is : (v : ℕ) → value_under (channel_at 0x7C00) v ∷ value_under (channel_at 0x03E0) v ∷ value_under (channel_at 0x001F) v ∷ value_under (channel_at 0) v ∷ [] ≡ cell_numbers (five v)
      five_is v =
          let red : value_under (channel_at 0x7C00) v ≡ v / 2 ^ 10 % 2 ^ 5 = value_is 0x7C00 v ∙ bits_under 0x7C00 5 10 v refl refl refl in
          let green : value_under (channel_at 0x03E0) v ≡ v / 2 ^ 5 % 2 ^ 5 = value_is 0x03E0 v ∙ bits_under 0x03E0 5 5 v refl refl refl in
          let blue : value_under (channel_at 0x001F) v ≡ v / 2 ^ 0 % 2 ^ 5 = value_is 0x001F v ∙ bits_under 0x001F 5 0 v refl refl refl in
          let low : v / 2 ^ 0 % 2 ^ 5 ≡ v % 2 ^ 5 = omega arith in
          λ z. red z ∷ green z ∷ (blue ∙ low) z ∷ none v z ∷ []
        where
          none : (v : ℕ) → value_under (channel_at 0) v ≡ 0
          none v = value_is 0 v

  pub mask_row : (channels : Channels) → channels ≡ channels_for file t.compression → (t.compression ≡ 3) ⊎ (t.compression ≡ 6)
      → cat (λ x. quad_under channels (cell_word t.depth (drop from file) x)) t.width ≡ numbers_in file t (drop from file)
  unfolding numbers_in cell_in mask_cell channels_for channel
  mask_row channels e (inl c) = cat_ext _ _ t.width (λ x l. rw (e, c) (three (cell_word t.depth (drop from file) x)))
    where
      three : (v : ℕ) → value_under (channel_at (dword_at file 54)) v ∷ value_under (channel_at (dword_at file 58)) v ∷ value_under (channel_at (dword_at file 62)) v ∷ value_under (channel_at 0) v ∷ []
          ≡ channel (dword_at file 54) v ∷ channel (dword_at file 58) v ∷ channel (dword_at file 62) v ∷ 0 ∷ []
      three v z = value_is (dword_at file 54) v z ∷ value_is (dword_at file 58) v z ∷ value_is (dword_at file 62) v z ∷ value_is 0 v z ∷ []
  mask_row channels e (inr c) = cat_ext _ _ t.width (λ x l. rw (e, c) (four (cell_word t.depth (drop from file) x)))
    where
      four : (v : ℕ) → value_under (channel_at (dword_at file 54)) v ∷ value_under (channel_at (dword_at file 58)) v ∷ value_under (channel_at (dword_at file 62)) v ∷ value_under (channel_at (dword_at file 66)) v ∷ []
          ≡ channel (dword_at file 54) v ∷ channel (dword_at file 58) v ∷ channel (dword_at file 62) v ∷ channel (dword_at file 66) v ∷ []
      four v z = value_is (dword_at file 54) v z ∷ value_is (dword_at file 58) v z ∷ value_is (dword_at file 62) v z ∷ value_is (dword_at file 66) v z ∷ []

-- ---- lengths

table_leb : (d : ℕ) → has_table d ≡ true → leb d 8 ≡ true
table_leb d e = le-leb d 8 (table_depth d e)

cell_length : (file : List ℕ) (t : Fields) (row : List ℕ) (x : ℕ) → Way t → length (cell_numbers (cell_in file t row x)) ≡ numbers_each t
unfolding cell_in rgb_cell mask_cell
cell_length file t row x (indices d c) = rw (c, table_leb t.depth d)
cell_length file t row x (bytes (inl d) c) = rw (c, d)
cell_length file t row x (bytes (inr d) c) = rw (c, d)
cell_length file t row x (fives d c) = rw (c, d)
cell_length file t row x (masked (inl d) (inl c)) = rw (c, d)
cell_length file t row x (masked (inl d) (inr c)) = rw (c, d)
cell_length file t row x (masked (inr d) (inl c)) = rw (c, d)
cell_length file t row x (masked (inr d) (inr c)) = rw (c, d)

pub row_numbers_lem : (file : List ℕ) (t : Fields) (row : List ℕ) → Way t → length (numbers_in file t row) ≡ t.width * numbers_each t
unfolding numbers_in
row_numbers_lem file t row k = length-cat _ (numbers_each t) t.width (λ x l. cell_length file t row x k)

-- the bytes of a row's cells, in its stored length
pub bits_fit : (w d : ℕ) → (w * d + 7) / 8 ≤ row_stride w d
unfolding row_stride
bits_fit w d = omega arith

pub bytes_fit : (w d : ℕ) → (d ≡ 16) ⊎ ((d ≡ 24) ⊎ (d ≡ 32)) → w * (d / 8) ≤ row_stride w d
unfolding row_stride
bytes_fit w d (inl e) = rw e (omega arith)
bytes_fit w d (inr (inl e)) = rw e (omega arith)
bytes_fit w d (inr (inr e)) = rw e (omega arith)

-- the stored row of a row
pub stored_inside : (h s stride : ℕ) → s < h → s * stride + stride ≤ h * stride
stored_inside h s stride l = omega (arith, mul-le-mul_right stride l, suc-mul s stride)

pub row_here : (file : List ℕ) (t : Fields) (y stored stride : ℕ) → stored ≡ stored_at t y → stride ≡ row_stride t.width t.depth
    → drop (t.offset + stored * stride) file ≡ row_from file t (stored_at t y)
row_here file t y stored stride e f = rw (e, f, length_row t.depth t.width)

-- all rows
pub all_rows : (file : List ℕ) (t : Fields) → cat (λ y. numbers_in file t (row_from file t (stored_at t y))) (shown_height t) ≡ plain_numbers file t
unfolding plain_numbers
all_rows file t = refl

-- ---- the tests by which a row is taken

not_small : (d : ℕ) → has_table d ≡ true → 8 < d → ⊥
not_small d e h = let l = table_depth d e in omega arith

pub row_indices : (t : Fields) → Way t → t.depth ≤ 8 → (has_table t.depth ≡ true) × (t.compression ≡ 0)
row_indices t (indices d c) h = (d, c)
row_indices t (bytes (inl d) c) h = absurd (omega arith)
row_indices t (bytes (inr d) c) h = absurd (omega arith)
row_indices t (fives d c) h = absurd (omega arith)
row_indices t (masked (inl d) c) h = absurd (omega arith)
row_indices t (masked (inr d) c) h = absurd (omega arith)

pub row_bytes_lem : (t : Fields) → Way t → 8 < t.depth → (eqb t.compression 0 && not (eqb t.depth 16)) ≡ true → ((t.depth ≡ 24) ⊎ (t.depth ≡ 32)) × (t.compression ≡ 0)
row_bytes_lem t (indices d c) h e = absurd (not_small t.depth d h)
row_bytes_lem t (bytes d c) h e = (d, c)
row_bytes_lem t (fives d c) h e = absurd (true≢false (sym e ∙ rw (c, d)))
row_bytes_lem t (masked d (inl c)) h e = absurd (true≢false (sym e ∙ rw c))
row_bytes_lem t (masked d (inr c)) h e = absurd (true≢false (sym e ∙ rw c))

-- the depth of words, and their numbers
pub row_words : (t : Fields) → Way t → 8 < t.depth → (eqb t.compression 0 && not (eqb t.depth 16)) ≡ false → (t.depth ≡ 16) ⊎ (t.depth ≡ 32)
row_words t (indices d c) h e = absurd (not_small t.depth d h)
row_words t (bytes (inl d) c) h e = absurd (true≢false (sym (rw (c, d)) ∙ e))
row_words t (bytes (inr d) c) h e = absurd (true≢false (sym (rw (c, d)) ∙ e))
row_words t (fives d c) h e = inl d
row_words t (masked d c) h e = d

pub word_row : (file : List ℕ) (t : Fields) (from : ℕ) (channels : Channels) → Way t → 8 < t.depth → (eqb t.compression 0 && not (eqb t.depth 16)) ≡ false → channels ≡ channels_for file t.compression
    → cat (λ x. quad_under channels (cell_word t.depth (drop from file) x)) t.width ≡ numbers_in file t (drop from file)
word_row file t from channels (indices d c) h e q = absurd (not_small t.depth d h)
word_row file t from channels (bytes (inl d) c) h e q = absurd (true≢false (sym (rw (c, d)) ∙ e))
word_row file t from channels (bytes (inr d) c) h e q = absurd (true≢false (sym (rw (c, d)) ∙ e))
word_row file t from channels (fives d c) h e q = five_row file t from channels q d c
word_row file t from channels (masked d c) h e q = mask_row file t from channels q c

pub four_each : (t : Fields) → 8 < t.depth → numbers_each t ≡ 4
four_each t h = rw (lt-leb t.depth 8 h)

pub one_each : (t : Fields) → t.depth ≤ 8 → numbers_each t ≡ 1
one_each t h = rw (le-leb t.depth 8 h)

pub one_room : (t : Fields) (to m : ℕ) → t.depth ≤ 8 → to + t.width * numbers_each t ≤ m → to + t.width ≤ m
one_room t to m h k = omega (arith, subst (λ (n : ℕ). to + t.width * n ≤ m) (one_each t h) k)

pub four_room : (t : Fields) (to m : ℕ) → 8 < t.depth → to + t.width * numbers_each t ≤ m → to + t.width * 4 ≤ m
four_room t to m h k = subst (λ (n : ℕ). to + t.width * n ≤ m) (four_each t h) k

-- ---- the loop over the rows

-- row y's numbers
abbrev pub row_at : List ℕ → Fields → ℕ → List ℕ
row_at file t y = numbers_in file t (row_from file t (stored_at t y))

pub few_numbers : (w n : ℕ) (b : Bool) → w < 4294967296 → n ≡ cond b 1 4 → w * n ≤ 17179869184
few_numbers w n true h e = rw e (omega arith)
few_numbers w n false h e = rw e (omega arith)

-- part s of h parts of one size k is inside them all, in numbers that the code has
pub part_inside : (offset h s k H K m : ℕ) → h ≡ H → k ≡ K → offset + H * K ≤ m → s < h → offset + s * k + k ≤ m
part_inside offset h s k H K m e f l q =
    let g : offset + h * k ≤ m = rw (e, f) l in
    omega (arith, stored_inside h s k q)

pub stored_is : (t : Fields) (y stored height : ℕ) (top : Bool) → top ≡ top_first t → height ≡ shown_height t → stored ≡ cond top y (height - 1 - y) → stored ≡ stored_at t y
stored_is t y stored height top e f g = g ∙ rw (e, f)

pub row_put : (file is later : List ℕ) (t : Fields) (y stored stride to numbers : ℕ) → stored ≡ stored_at t y → stride ≡ row_stride t.width t.depth → to ≡ y * numbers
    → later ≡ put is to (numbers_in file t (drop (t.offset + stored * stride) file)) → later ≡ put is (0 + y * numbers) (row_at file t y)
row_put file is later t y stored stride to numbers e f g q =
    q ∙ (λ z. put is ((g ∙ sym (zero-add (y * numbers))) z) (numbers_in file t (row_here file t y stored stride e f z)))

pub rows_done : (file was is : List ℕ) (t : Fields) (y : ℕ) → is ≡ put was 0 (cat (row_at file t) y) → y ≡ shown_height t → is ≡ put was 0 (plain_numbers file t)
rows_done file was is t y e f = e ∙ ap (λ (n : ℕ). put was 0 (cat (row_at file t) n)) f ∙ ap (put was 0) (all_rows file t)

-- ---- at a depth that is known

pub is_32_words : (t : Fields) → Way t → 8 < t.depth → (eqb t.compression 0 && not (eqb t.depth 16)) ≡ false → (t.depth ≡ 16 → ⊥) → t.depth ≡ 32
is_32_words t k deep e n = the_second (row_words t k deep e) n

pub bytes_each : (d : ℕ) → (d ≡ 24) ⊎ (d ≡ 32) → (d / 8 ≡ 3) ⊎ (d / 8 ≡ 4)
bytes_each d (inl e) = inl (omega (arith, e))
bytes_each d (inr e) = inr (omega (arith, e))

pub known_size : (w d j size from m : ℕ) → d ≡ j → j / 8 ≡ size → (j ≡ 16) ⊎ ((j ≡ 24) ⊎ (j ≡ 32)) → from + row_stride w d ≤ m → from + w * size ≤ m
known_size w d j size from m e f k h =
    let b : w * (d / 8) ≤ row_stride w d = bytes_fit w d (subst (λ (z : ℕ). (z ≡ 16) ⊎ ((z ≡ 24) ⊎ (z ≡ 32))) (sym e) k) in
    let q : d / 8 ≡ size = ap (λ (z : ℕ). z / 8) e ∙ f in
    let c : w * size ≤ row_stride w d = subst (λ (z : ℕ). w * z ≤ row_stride w d) q b in
    omega arith

pub known_words : (file was later : List ℕ) (t : Fields) (from to j : ℕ) (channels : Channels) → t.depth ≡ j → Way t → 8 < t.depth → (eqb t.compression 0 && not (eqb t.depth 16)) ≡ false
    → channels ≡ channels_for file t.compression → later ≡ put was to (cat (λ x. quad_under channels (cell_word j (drop from file) x)) t.width) → later ≡ put was to (numbers_in file t (drop from file))
known_words file was later t from to j channels e k deep n q h =
    h ∙ ap (λ (z : ℕ). put was to (cat (λ x. quad_under channels (cell_word z (drop from file) x)) t.width)) (sym e) ∙ ap (put was to) (word_row file t from channels k deep n q)

-- 16 bits without masks in the file
pub without_masks : (file was later : List ℕ) (compression : ℕ) (c five : Channels) (from n to : ℕ) → compression ≡ 0 → c ≡ channels_for file compression → five ≡ five_bits
    → later ≡ put was to (cat (λ x. quad_under five (cell_word 16 (drop from file) x)) n) → later ≡ put was to (cat (λ x. quad_under c (cell_word 16 (drop from file) x)) n)
unfolding channels_for five_bits
without_masks file was later compression c five from n to e ec ef h =
    let same : five ≡ c = ef ∙ sym (subst (λ (k : ℕ). c ≡ channels_for file k) e ec) in
    subst (λ (z : Channels). later ≡ put was to (cat (λ x. quad_under z (cell_word 16 (drop from file) x)) n)) same h
