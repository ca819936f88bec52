-- Where each row of a stream starts.
use Rattle.std.proofs.Common.{◌≡◌, ℕ, zero, suc, ◌+◌, ◌<◌, ◌≤◌, ◌⊎◌, List, ◌++◌, length, take, drop, refl, ◌∙◌, inl, inr, le_of_suc-le-suc, not-suc-le-zero, eq-or-lt_of_le, arith, length-append, length-drop, drop_at}
use lib.Seq.{take-append-le, drop-append-le, take-length}
use Rattle.leaves.specs.Lists.{cat}
use Rattle.rows.specs.Stream.{stream_row, stream}

module _ {ℓ} {A : Type ℓ} (f : ℕ → List A) where
  grows_go : (s n : ℕ) → (s ≡ suc n) ⊎ (s < suc n) → (s ≤ n → length (cat f s) ≤ length (cat f n)) → length (cat f s) ≤ length (cat f (suc n))
  unfolding cat
  grows_go s n (inl e) h = rw e (omega arith)
  grows_go s n (inr l) h = let k = h (le_of_suc-le-suc l) in omega (arith, length-append (cat f n) (f n))

  -- fewer lists are no longer than more
  pub cat_grows : (s n : ℕ) → s ≤ n → length (cat f s) ≤ length (cat f n)
  unfolding cat
  cat_grows zero zero h = omega arith
  cat_grows (suc s) zero h = absurd (not-suc-le-zero h)
  cat_grows s (suc n) h = grows_go s n (eq-or-lt_of_le h) (cat_grows s n)

  next_grows : (s n : ℕ) → s < n → length (cat f s) + length (f s) ≤ length (cat f n)
  unfolding cat
  next_grows s n h = omega (arith, cat_grows (suc s) n h, length-append (cat f s) (f s))

  place_go : (s n : ℕ) → (s ≡ n) ⊎ (s < n) → (s < n → take (length (f s)) (drop (length (cat f s)) (cat f n)) ≡ f s)
      → take (length (f s)) (drop (length (cat f s)) (cat f n ++ f n)) ≡ f s
  place_go s n (inl e) h = rw (e, drop_at (cat f n) (f n) (length (cat f n)) refl) (take-length (f n))
  place_go s n (inr l) h =
      let k : length (cat f s) + length (f s) ≤ length (cat f n) = next_grows s n l in
      rw (drop-append-le (length (cat f s)) (cat f n) (f n) (omega arith))
      (take-append-le (length (f s)) (drop (length (cat f s)) (cat f n)) (f n) (omega (arith, length-drop (length (cat f s)) (cat f n))) ∙ h l)

  -- list s of the joined lists starts where those before it end
  cat_place : (s h : ℕ) → s < h → take (length (f s)) (drop (length (cat f s)) (cat f h)) ≡ f s
  unfolding cat
  cat_place s zero l = absurd (not-suc-le-zero l)
  cat_place s (suc n) l = place_go s n (eq-or-lt_of_le (le_of_suc-le-suc l)) (cat_place s n)

-- the stored row s stands in the stream where the rows before it end
pub row_place : (d w h : ℕ) (plane : List ℕ) (stride s : ℕ) → s < h
    → take (length (stream_row d w h plane stride s)) (drop (length (cat (stream_row d w h plane stride) s)) (stream d w h plane stride))
    ≡ stream_row d w h plane stride s
unfolding stream
row_place d w h plane stride s l = cat_place (stream_row d w h plane stride) s h l
