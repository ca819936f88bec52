-- Laws of the stream: its rows, its length, and a turn of the loops that count and write it.
use Rattle.std.proofs.Common.{◌≡◌, ℕ, ◌+◌, ◌<◌, ◌≤◌, Bool, true, false, cond, eqb, ltb, List, [], ◌∷◌, ◌++◌, length, sym, refl, ap, ◌∙◌, add-one, arith, length-append, le-ltb, lt-ltb}
use Rattle.std.specs.Prelude.{Option, Some, None}
use Rattle.leaves.specs.Lists.{cat}
use Rattle.leaves.specs.Put.{put}
use Rattle.rows.specs.RleCodes.{row_codes}
use Rattle.rows.specs.StoredRows.{row_of, source_row}
use Rattle.rows.specs.Stream.{end_mark, stream_row, is_under, counted_bytes, Counted}
use Rattle.leaves.proofs.Puts.{put-append}
use Rattle.rows.proofs.StreamPlaces.{cat_grows}

-- the length of a row with its end
pub length_row : (d w h : ℕ) (plane : List ℕ) (stride s : ℕ)
    → length (stream_row d w h plane stride s) ≡ length (row_codes d (source_row plane stride w (row_of false h s))) + 2
unfolding stream_row
length_row d w h plane stride s = length-append (row_codes d (source_row plane stride w (row_of false h s))) (0 ∷ end_mark h s ∷ [])

-- the turn y of the loops that count and write a stream
module _ (d w h : ℕ) (plane : List ℕ) (stride y : ℕ) (row : List ℕ) (part_row : row ≡ source_row plane stride w (row_of false h y)) where
  rows_more : length (cat (stream_row d w h plane stride) (y + 1)) ≡ length (cat (stream_row d w h plane stride) y) + (length (row_codes d (source_row plane stride w (row_of false h y))) + 2)
  unfolding cat
  rows_more = rw (add-one y, length-append (cat (stream_row d w h plane stride) y) (stream_row d w h plane stride y), length_row d w h plane stride y)

  pub count_turn : (len n : ℕ) → len ≡ length (cat (stream_row d w h plane stride) y)
      → n ≡ length (row_codes d row)
      → len + n + 2 ≡ length (cat (stream_row d w h plane stride) (y + 1))
  count_turn len n el en =
      let e : n ≡ length (row_codes d (source_row plane stride w (row_of false h y))) = en ∙ ap (λ (l : List ℕ). length (row_codes d l)) part_row in
      omega (arith, rows_more)

  -- the place after the row and its end
  pub place_turn : (at o o' : ℕ) → o ≡ at + length (cat (stream_row d w h plane stride) y)
      → o' ≡ o + length (row_codes d row) + 2
      → o' ≡ at + length (cat (stream_row d w h plane stride) (y + 1))
  place_turn at o o' eo e = omega (arith, count_turn (length (cat (stream_row d w h plane stride) y)) _ refl refl)

  -- a row fits where the stream does
  pub row_fits : (at o n : ℕ) → y < h → o ≡ at + length (cat (stream_row d w h plane stride) y) → at + length (cat (stream_row d w h plane stride) h) ≤ n
      → o + length (row_codes d row) + 2 ≤ n
  row_fits at o n below eo fits =
      rw part_row (omega (arith, rows_more, cat_grows (stream_row d w h plane stride) (y + 1) h (omega arith)))

  cat_more : cat (stream_row d w h plane stride) (y + 1) ≡ cat (stream_row d w h plane stride) y ++ stream_row d w h plane stride y
  unfolding cat
  cat_more = ap (λ (k : ℕ). cat (stream_row d w h plane stride) k) (add-one y)

  pub write_turn : (buf₀ buf buf' : List ℕ) (at o : ℕ) (last : Bool) → last ≡ eqb (y + 1) h → y < h → at + length (cat (stream_row d w h plane stride) h) ≤ length buf₀
      → o ≡ at + length (cat (stream_row d w h plane stride) y) → buf ≡ put buf₀ at (cat (stream_row d w h plane stride) y)
      → buf' ≡ put buf o (row_codes d row ++ (0 ∷ cond last 1 0 ∷ []))
      → buf' ≡ put buf₀ at (cat (stream_row d w h plane stride) (y + 1))
  unfolding stream_row
  write_turn buf₀ buf buf' at o last el below fits eo eb e =
      let g = cat_grows (stream_row d w h plane stride) y h (omega arith) in
      rw (e, part_row, eb, eo, el, cat_more)
      (put-append buf₀ at (cat (stream_row d w h plane stride) y) (stream_row d w h plane stride y) (omega arith))

-- ---- the count

pub over : (n budget : ℕ) → budget ≤ n → Counted n budget None
over n budget h =
    let q : ltb n budget ≡ false = le-ltb n budget h in
    record { under = sym q; bytes = sym (ap (λ (b : Bool). cond b n 0) q) }

pub under : (m n budget : ℕ) → m ≡ n → m < budget → Counted n budget (Some m)
under m n budget e h =
    let q : ltb n budget ≡ true = lt-ltb n budget (omega (arith, e, h)) in
    record { under = sym q; bytes = e ∙ sym (ap (λ (b : Bool). cond b n 0) q) }

-- an answer by what it says
rebuilt : Bool → ℕ → Option ℕ
rebuilt true bytes = Some bytes
rebuilt false bytes = None

rebuilds : (r : Option ℕ) → rebuilt (is_under r) (counted_bytes r) ≡ r
unfolding rebuilt
rebuilds (Some bytes) = refl
rebuilds None = refl

-- two answers of which the promise holds are one
pub count_determined : (n budget : ℕ) (r s : Option ℕ) → Counted n budget r → Counted n budget s → r ≡ s
count_determined n budget r s p q =
    let same : is_under r ≡ is_under s = p.under ∙ sym q.under in
    let bytes : counted_bytes r ≡ counted_bytes s = p.bytes ∙ sym q.bytes in
    sym (rebuilds r) ∙ (λ z. rebuilt (same z) (bytes z)) ∙ rebuilds s
