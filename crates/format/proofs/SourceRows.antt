-- Source rows as the readers meet them again: their bytes, and where each stored row stands.
use mathlib.Core.Path.{◌≡◌, refl, ◌∙◌}
use mathlib.Core.Logic.{◌⊎◌, inl, inr}
use mathlib.Core.List.{List, [], ◌∷◌, ◌++◌, append_assoc}
use Prim.Native.Nat.{ℕ, zero, suc, ◌+◌, ◌-◌, ◌*◌, ◌≤◌, ◌<◌}
use native.Mathlib.Nat.{not-suc-le-zero, le_of_suc-le-suc, eq-or-lt_of_le, suc-mul, mul-le-mul_right}
use native.Mathlib.Omega.{arith}
use lib.ListN.{length, get_or, take, drop, length-drop, replicate, length-append, get_or-append}
use lib.Seq.{length-take-le, get_or-take, get_or-drop, drop_at}
use Rattle.leaves.specs.declared.image.BmpPixelFormat.{BmpPixelFormat}
use Rattle.leaves.specs.declared.image.BmpPixelFormat.TheVariants.{Rgba, Rgb24, Bgra, Bgr24, Rgb555, Rgb565, Pal8, Indexed4, Indexed2, Indexed1}
use Rattle.leaves.specs.Lists.{cat}
use Rattle.rows.specs.StoredRows.{padded, source_row}
use Rattle.format.specs.Expectation.{pixel_bytes, plainly_shown, fitted_shown}
use Rattle.leaves.proofs.ListLaws.{length-cat, get_or-cat}
use Rattle.rows.proofs.AllRows.{row_within}

-- ---- bytes of a source row

-- a source row is as long as its pixels
pub length_source : (plane : List ℕ) (stride n h y : ℕ) → n ≤ stride → stride * h ≤ length plane → y < h → length (source_row plane stride n y) ≡ n
length_source plane stride n h y inside long l =
    length-take-le n (drop (y * stride) plane)
    (omega (arith, length-drop (y * stride) plane, row_within y h stride n 1 1 (length plane) l refl (omega arith) long))

-- byte k of it, counted in the plane
pub source_at : (plane : List ℕ) (stride n y k : ℕ) → k < n → get_or (source_row plane stride n y) k 0 ≡ get_or plane (y * stride + k) 0
source_at plane stride n y k h = get_or-take n (drop (y * stride) plane) k 0 h ∙ get_or-drop (y * stride) plane k 0

-- what is true of all places of a list and of 0 is true of all places of its beginnings
take_small : (n : ℕ) (xs : List ℕ) (b : ℕ) → 0 < b → ((k : ℕ) → get_or xs k 0 < b) → (k : ℕ) → get_or (take n xs) k 0 < b
take_small zero xs b p h k = p
take_small (suc n) [] b p h k = p
take_small (suc n) (x ∷ xs) b p h zero = h 0
take_small (suc n) (x ∷ xs) b p h (suc k) = take_small n xs b p (λ j. h (suc j)) k

-- and of its parts
pub part_small : (xs : List ℕ) (i n b : ℕ) → 0 < b → ((k : ℕ) → get_or xs k 0 < b) → (k : ℕ) → get_or (take n (drop i xs)) k 0 < b
part_small xs i n b p h = take_small n (drop i xs) b p (λ k. rw (get_or-drop i xs k 0) (h (i + k)))

-- its bytes are bytes
pub source_small : (plane : List ℕ) (stride n y : ℕ) → ((k : ℕ) → get_or plane k 0 < 256) → (k : ℕ) → get_or (source_row plane stride n y) k 0 < 256
source_small plane stride n y h = part_small plane (y * stride) n 256 (omega arith) h

-- what must be shown of a pixel depends on its own bytes alone
pub plainly_of : (f : BmpPixelFormat) (a b : ℕ → ℕ) → ((k : ℕ) → k < pixel_bytes f → a k ≡ b k) → plainly_shown f a ≡ plainly_shown f b
unfolding plainly_shown
plainly_of Rgba a b e = rw (e 0 (omega arith), e 1 (omega arith), e 2 (omega arith))
plainly_of Rgb24 a b e = rw (e 0 (omega arith), e 1 (omega arith), e 2 (omega arith))
plainly_of Bgra a b e = rw (e 0 (omega arith), e 1 (omega arith), e 2 (omega arith))
plainly_of Bgr24 a b e = rw (e 0 (omega arith), e 1 (omega arith), e 2 (omega arith))
plainly_of Rgb555 a b e = rw (e 0 (omega arith), e 1 (omega arith))
plainly_of Rgb565 a b e = rw (e 0 (omega arith), e 1 (omega arith))
plainly_of Pal8 a b e = rw (e 0 (omega arith))
plainly_of Indexed4 a b e = rw (e 0 (omega arith))
plainly_of Indexed2 a b e = rw (e 0 (omega arith))
plainly_of Indexed1 a b e = rw (e 0 (omega arith))

pub fitted_of : (f : BmpPixelFormat) (masks : List ℕ) (a b : ℕ → ℕ) → ((k : ℕ) → k < pixel_bytes f → a k ≡ b k) → fitted_shown f masks a ≡ fitted_shown f masks b
unfolding fitted_shown
fitted_of Rgba masks a b e = rw (e 0 (omega arith), e 1 (omega arith), e 2 (omega arith), e 3 (omega arith))
fitted_of Rgb24 masks a b e = rw (e 0 (omega arith), e 1 (omega arith), e 2 (omega arith))
fitted_of Bgra masks a b e = rw (e 0 (omega arith), e 1 (omega arith), e 2 (omega arith), e 3 (omega arith))
fitted_of Bgr24 masks a b e = rw (e 0 (omega arith), e 1 (omega arith), e 2 (omega arith))
fitted_of Rgb555 masks a b e = refl
fitted_of Rgb565 masks a b e = refl
fitted_of Pal8 masks a b e = refl
fitted_of Indexed4 masks a b e = refl
fitted_of Indexed2 masks a b e = refl
fitted_of Indexed1 masks a b e = refl

-- ---- places of stored rows

-- a list that begins with another
pub record Begins (xs ys : List ℕ) : Type 0 where
  pub rest : List ℕ
  pub is : xs ≡ ys ++ rest

-- of lists of one length joined, number s stands s lengths on
pub joined_at : (f : ℕ → List ℕ) (n h s : ℕ) (rest : List ℕ) → ((k : ℕ) → length (f k) ≡ n) → s < h → Begins (drop (s * n) (cat f h ++ rest)) (f s)
unfolding cat
joined_at f n zero s rest e l = absurd (not-suc-le-zero l)
joined_at f n (suc h) s rest e l = go (eq-or-lt_of_le (le_of_suc-le-suc l)) (joined_at f n h s (f h ++ rest) e)
  where
    go : (s ≡ h) ⊎ (s < h) → (s < h → Begins (drop (s * n) (cat f h ++ (f h ++ rest))) (f s)) → Begins (drop (s * n) (cat f h ++ f h ++ rest)) (f s)
    go (inl q) before =
        record {
          rest = rest;
          is = rw (q, append_assoc (cat f h) (f h) rest) (drop_at (cat f h) (f h ++ rest) (h * n) (length-cat f n h (λ k _. e k)));
        }
    go (inr m) before = rw (append_assoc (cat f h) (f h) rest) (before m)

-- ---- bytes of a stored row

-- zeros and what follows the row change none of its bytes
pub padded-at : (n : ℕ) (bytes rest : List ℕ) (i : ℕ) → i < length bytes → get_or (padded n bytes ++ rest) i 0 ≡ get_or bytes i 0
unfolding padded
padded-at n bytes rest i h =
    get_or-append (bytes ++ replicate (n - length bytes) 0) rest 0 i (simp length-append (omega arith))
    ∙ get_or-append bytes (replicate (n - length bytes) 0) 0 i h

-- byte i of pixel x is one of the row's
pub within : (x w k i : ℕ) → x < w → i < k → x * k + i < w * k
within x w k i h l = omega (arith, mul-le-mul_right k h, suc-mul x k)

-- byte i of cell x, of cells of k bytes
pub cells_at : (cell : ℕ → List ℕ) (k n w : ℕ) (rest : List ℕ) (x i : ℕ) → ((j : ℕ) → length (cell j) ≡ k) → x < w → i < k
    → get_or (padded n (cat cell w) ++ rest) (x * k + i) 0 ≡ get_or (cell x) i 0
cells_at cell k n w rest x i size h l =
    let all : length (cat cell w) ≡ w * k = length-cat cell k w (λ j m. size j) in
    padded-at n (cat cell w) rest (x * k + i) (omega (arith, within x w k i h l)) ∙ get_or-cat cell k w x i 0 (λ j m. size j) l h
