-- Cells as the code computes them are those of the readers.
use mathlib.Core.Path.{◌≡◌, refl, sym, subst}
use mathlib.Core.Logic.{◌⊎◌, inl, inr}
use mathlib.Core.Bool.{Bool, true, false, cond, ◌||◌}
use mathlib.Core.List.{List, [], ◌∷◌}
use Prim.Native.Nat.{ℕ, ◌+◌, ◌-◌, ◌*◌, ◌/◌, ◌%◌, ◌^◌, ◌≤◌, ◌<◌}
use native.Mathlib.Omega.{arith}
use borrow.Author.Tests.{eqb-true}
use lib.Bits.{bit_and, and_mask}
use lib.Dec.{eqb}
use lib.ListN.{length, get_or, drop}
use lib.Pow.{pow_mono}
use lib.Seq.{get_or-drop}
use Rattle.leaves.specs.Lists.{tab}
use Rattle.leaves.specs.Put.{put}
use Rattle.leaves.specs.Sizes.{has_table}
use Rattle.leaves.proofs.ListLaws.{tab_ext}
use Rattle.format.specs.Decode.{cell_at, pair_cell}
use Rattle.format.specs.Readers.{word_at, dword_at, cell_word}
use Rattle.cells.specs.declared.colours.Channels.{Channels}
use Rattle.cells.specs.Quads.{bytes_quad, value_under, quad_under}

-- ---- indices

pub or_true : (a b : Bool) → (a || b) ≡ true → (a ≡ true) ⊎ (b ≡ true)
or_true true b e = inl refl
or_true false b e = inr e

-- what holds at each depth with a colour table
pub table_cases {ℓ} : (P : ℕ → Type ℓ) → P 1 → P 2 → P 4 → P 8 → (d : ℕ) → has_table d ≡ true → P d
table_cases P p1 p2 p4 p8 d e = four (or_true _ _ e)
  where
    is : (k : ℕ) → P k → eqb d k ≡ true → P d
    is k p q = subst P (sym (eqb-true d k q)) p

    two : (eqb d 1 ≡ true) ⊎ (eqb d 2 ≡ true) → P d
    two (inl q) = is 1 p1 q
    two (inr q) = is 2 p2 q

    three : (eqb d 1 || eqb d 2 ≡ true) ⊎ (eqb d 4 ≡ true) → P d
    three (inl q) = two (or_true _ _ q)
    three (inr q) = is 4 p4 q

    four : (eqb d 1 || eqb d 2 || eqb d 4 ≡ true) ⊎ (eqb d 8 ≡ true) → P d
    four (inl q) = three (or_true _ _ q)
    four (inr q) = is 8 p8 q

pub byte_cell : (file : List ℕ) (from x : ℕ) → get_or file (from + x) 0 < 256 → get_or file (from + x) 0 ≡ cell_at 8 (drop from file) x
unfolding cell_at
byte_cell file from x h =
    let e : x * 8 / 8 ≡ x = omega arith in
    let z : 8 - 8 - x * 8 % 8 ≡ 0 = omega arith in
    rw (e, z, get_or-drop from file x 0) (omega arith)

-- the bits of a cell lie in its byte
pub bits_left : (d x : ℕ) → has_table d ≡ true → x * d % 8 ≤ 8 - d
bits_left d x t = table_cases (λ d. x * d % 8 ≤ 8 - d) (omega arith) (omega arith) (omega arith) (omega arith) d t

pub table_depth : (d : ℕ) → has_table d ≡ true → d ≤ 8
table_depth d t = table_cases (λ d. d ≤ 8) (omega arith) (omega arith) (omega arith) (omega arith) d t

-- a cell's byte is one of those that n cells take
pub bits_inside : (d x n : ℕ) → has_table d ≡ true → x < n → x * d / 8 < (n * d + 7) / 8
bits_inside d x n t h = table_cases (λ d. x * d / 8 < (n * d + 7) / 8) (omega arith) (omega arith) (omega arith) (omega arith) d t

pub one_shifted : (d : ℕ) → d ≤ 8 → 1 * 2 ^ d % 4294967296 ≡ 2 ^ d
one_shifted d h = omega (arith, pow_mono {j = 8} h)

pub packed_is : (file : List ℕ) (from d x : ℕ) → has_table d ≡ true
    → bit_and (get_or file (from + x * d / 8) 0 / 2 ^ (8 - d - x * d % 8)) (1 * 2 ^ d % 4294967296 - 1) ≡ cell_at d (drop from file) x
unfolding cell_at
packed_is file from d x t =
    rw (one_shifted d (table_depth d t), and_mask (get_or file (from + x * d / 8) 0 / 2 ^ (8 - d - x * d % 8)) d, get_or-drop from file (x * d / 8) 0)

-- a pair's cells
pub pair_four : (value j : ℕ) → cond (eqb (j % 2) 0) (value / 16) (value % 16) ≡ pair_cell 4 value j
unfolding pair_cell
pair_four value j = refl

pub pair_eight : (d value j : ℕ) → eqb d 4 ≡ false → value ≡ pair_cell d value j
unfolding pair_cell
pair_eight d value j e = rw e

-- ---- words

pub word_from : (file : List ℕ) (from k : ℕ) → word_at file (from + k) ≡ word_at (drop from file) k
unfolding word_at
word_from file from k =
    let e : from + (k + 1) ≡ from + k + 1 = omega arith in
    rw (get_or-drop from file k 0, get_or-drop from file (k + 1) 0, e)

pub dword_from : (file : List ℕ) (from k : ℕ) → dword_at file (from + k) ≡ dword_at (drop from file) k
unfolding dword_at
dword_from file from k =
    let e : from + (k + 2) ≡ from + k + 2 = omega arith in
    rw (← word_from file from k, ← word_from file from (k + 2), e)

-- the word of cell x, which is p bytes from the file's start
pub word_cell : (file : List ℕ) (from d x p : ℕ) → (d ≡ 16) ⊎ (d ≡ 32) → p ≡ from + x * (d / 8) → cond (eqb d 16) (word_at file p) (dword_at file p) ≡ cell_word d (drop from file) x
unfolding cell_word
word_cell file from d x p (inl e) q =
    let k : x * 16 / 8 ≡ x * (16 / 8) = omega arith in
    rw (q, e, k) (word_from file from (x * (16 / 8)))
word_cell file from d x p (inr e) q =
    let k : x * 32 / 8 ≡ x * (32 / 8) = omega arith in
    rw (q, e, k) (dword_from file from (x * (32 / 8)))

pub bits_small : (d x : ℕ) → has_table d ≡ true → x < 2 ^ 40 → x * d ≤ 8 * 2 ^ 40
bits_small d x t h = table_cases (λ d. x * d ≤ 8 * 2 ^ 40) (omega arith) (omega arith) (omega arith) (omega arith) d t

-- a word's bytes
pub two_bytes : (d : ℕ) → (d ≡ 16) ⊎ (d ≡ 32) → 2 ≤ d / 8
two_bytes d (inl e) = rw e (omega arith)
two_bytes d (inr e) = rw e (omega arith)

pub four_bytes : (d : ℕ) → (d ≡ 16) ⊎ (d ≡ 32) → (d ≡ 16 → ⊥) → 4 ≤ d / 8
four_bytes d (inl e) n = absurd (n e)
four_bytes d (inr e) n = rw e (omega arith)

-- ---- four numbers a cell

pub bytes-length : (file : List ℕ) (from size x : ℕ) → length (bytes_quad file from size x) ≡ 4
unfolding bytes_quad
bytes-length file from size x = refl

pub bytes_turn : (file is later : List ℕ) (from size x to p q r g b : ℕ) → p ≡ from + x * size → q ≡ to + x * 4 → r ≡ get_or file (p + 2) 0 → g ≡ get_or file (p + 1) 0 → b ≡ get_or file p 0
    → later ≡ put is q (r ∷ g ∷ b ∷ 0 ∷ []) → later ≡ put is (to + x * 4) (bytes_quad file from size x)
unfolding bytes_quad
bytes_turn file is later from size x to p q r g b ep eq er eg eb e = rw (← ep, ← eq, ← er, ← eg, ← eb) e

pub words_turn : (file is later : List ℕ) (c : Channels) (from d x to p q word r g b a : ℕ) → (d ≡ 16) ⊎ (d ≡ 32) → p ≡ from + x * (d / 8) → q ≡ to + x * 4
    → word ≡ cond (eqb d 16) (word_at file p) (dword_at file p)
    → r ≡ value_under c.red word → g ≡ value_under c.green word → b ≡ value_under c.blue word → a ≡ value_under c.alpha word
    → later ≡ put is q (r ∷ g ∷ b ∷ a ∷ []) → later ≡ put is (to + x * 4) (quad_under c (cell_word d (drop from file) x))
words_turn file is later c from d x to p q word r g b a deep ep eq ew er eg eb ea e =
    rw (← word_cell file from d x p deep ep, ← ew, ← er, ← eg, ← eb, ← ea, ← eq) e

-- ---- pairs

pub pair_halves : (d value n : ℕ) → d ≡ 4 → tab (λ j. cond (eqb (j % 2) 0) (value / 16) (value % 16)) n ≡ tab (pair_cell d value) n
pair_halves d value n e = tab_ext _ _ n (λ j h. rw e (pair_four value j))

pub pair_whole : (d value n : ℕ) → eqb d 4 ≡ false → tab (λ j. value) n ≡ tab (pair_cell d value) n
pair_whole d value n e = tab_ext _ _ n (λ j h. pair_eight d value j e)

pub eight_bits : (d n from m : ℕ) → d ≡ 8 → from + (n * d + 7) / 8 ≤ m → from + n ≤ m
eight_bits d n from m e h = let k : from + (n * 8 + 7) / 8 ≤ m = subst (λ (z : ℕ). from + (n * z + 7) / 8 ≤ m) e h in omega arith

-- a depth with a table that is none of three is the fourth
pub depth_one : (d : ℕ) → has_table d ≡ true → (d ≡ 8 → ⊥) → (d ≡ 4 → ⊥) → (d ≡ 2 → ⊥) → d ≡ 1
depth_one d t a b c = table_cases (λ k. (k ≡ 8 → ⊥) → (k ≡ 4 → ⊥) → (k ≡ 2 → ⊥) → k ≡ 1) (λ a b c. refl) (λ a b c. absurd (c refl)) (λ a b c. absurd (b refl)) (λ a b c. absurd (a refl)) d t a b c

-- what is asked and given at a depth that is known
pub known_bytes : (d k n from m : ℕ) → d ≡ k → from + (n * d + 7) / 8 ≤ m → from + (n * k + 7) / 8 ≤ m
known_bytes d k n from m e h = subst (λ (z : ℕ). from + (n * z + 7) / 8 ≤ m) e h

pub known_indices : (file was later : List ℕ) (from d k n to : ℕ) → d ≡ k → later ≡ put was to (tab (cell_at k (drop from file)) n) → later ≡ put was to (tab (cell_at d (drop from file)) n)
known_indices file was later from d k n to e h = subst (λ (z : ℕ). later ≡ put was to (tab (cell_at z (drop from file)) n)) (sym e) h
