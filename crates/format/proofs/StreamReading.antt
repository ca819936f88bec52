-- A stream that is read or refused, of any bytes, by its rows.
use mathlib.Core.Path.{◌≡◌, refl, sym, ap, ◌∙◌, subst}
use mathlib.Core.Logic.{◌⊎◌, inl, inr}
use mathlib.Core.Bool.{Bool, true, false}
use mathlib.Core.List.{List, [], ◌∷◌, ◌++◌, append_assoc, append-nil}
use Prim.Native.Nat.{ℕ, zero, suc, ◌+◌, ◌*◌, ◌≤◌, ◌<◌}
use native.Mathlib.Nat.{mul-le-mul_right}
use native.Mathlib.Omega.{arith}
use borrow.Author.Tests.{ltb-true, ltb-false, lt-ltb}
use lib.Dec.{ltb}
use lib.ListN.{length, take, drop, length-append, length-drop}
use lib.Seq.{take_all, take-add, take_at, drop_at, length-take-le, take-append-le, drop-append-le}
use Rattle.format.specs.Decode.{Decoded, filled, refused, behind, and_then, read_code, read_row, read_row_end, rows_below, decode}
use Rattle.format.specs.Shown.{Cause}
use Rattle.format.proofs.RowReading.{row_length_lem, row_alone}

-- ---- two readings, one after the other

-- both are read
pub record Both (first : Decoded) (next : List ℕ → ℕ → Decoded) (all : List ℕ) (n : ℕ) : Type 0 where
  pub cells : List ℕ
  pub taken : ℕ
  pub more : List ℕ
  pub m : ℕ
  pub earlier : first ≡ filled cells taken
  pub later : next cells taken ≡ filled more m
  pub together : all ≡ cells ++ more
  pub bytes : n ≡ taken + m

-- the second is refused
record Second (first : Decoded) (next : List ℕ → ℕ → Decoded) (cause : Cause) : Type 0 where
  cells : List ℕ
  taken : ℕ
  earlier : first ≡ filled cells taken
  later : next cells taken ≡ refused cause

not_both : {cause : Cause} {cells : List ℕ} {n : ℕ} → refused cause ≡ filled cells n → ⊥
not_both e = let z : ◌≡◌ {A = ℕ} 0 1 = cc in omega arith

pub both_read : (first : Decoded) (next : List ℕ → ℕ → Decoded) {all : List ℕ} {n : ℕ} → and_then first next ≡ filled all n → Both first next all n
both_read (refused cause) next e = absurd (not_both e)
both_read (filled cells taken) next {all} {n} e = go (next cells taken) refl e
  where
    go : (r : Decoded) → next cells taken ≡ r → behind cells taken r ≡ filled all n → Both (filled cells taken) next all n
    go (refused cause) q e = absurd (not_both e)
    go (filled more m) q e = record { cells = cells; taken = taken; more = more; m = m; earlier = refl; later = q; together = cc; bytes = cc }

one_refused : (first : Decoded) (next : List ℕ → ℕ → Decoded) {cause : Cause} → and_then first next ≡ refused cause
    → (first ≡ refused cause) ⊎ Second first next cause
one_refused (refused c) next e = inl e
one_refused (filled cells taken) next {cause} e = go (next cells taken) refl e
  where
    go : (r : Decoded) → next cells taken ≡ r → behind cells taken r ≡ refused cause → (filled cells taken ≡ refused cause) ⊎ Second (filled cells taken) next cause
    go (refused c) q e = inr (record { cells = cells; taken = taken; earlier = refl; later = q ∙ e })
    go (filled more m) q e = absurd (not_both (sym e))

-- ---- the code between two rows

-- it is 00 00
record Mark (bs cells : List ℕ) (n : ℕ) : Type 0 where
  rest : List ℕ
  zeros : bs ≡ 0 ∷ 0 ∷ rest
  none : cells ≡ []
  two : n ≡ 2

abbrev MarkLaws : List ℕ → Decoded → Type 0
MarkLaws bs (filled cells n) = Mark bs cells n
MarkLaws bs (refused cause) = Unit {0}

mark_laws : (d : ℕ) (bs : List ℕ) → MarkLaws bs (read_code d 0 bs)
unfolding read_code
mark_laws d [] = tt
mark_laws d (b ∷ []) = tt
mark_laws d (suc n ∷ v ∷ bs) = rw (lt-ltb 0 (suc n) (omega arith)) tt
mark_laws d (zero ∷ zero ∷ bs) = record { rest = bs; zeros = refl; none = refl; two = refl }
mark_laws d (zero ∷ suc zero ∷ bs) = tt
mark_laws d (zero ∷ suc (suc zero) ∷ bs) = tt
mark_laws d (zero ∷ suc (suc (suc n)) ∷ bs) = rw (lt-ltb 0 (suc (suc (suc n))) (omega arith)) tt

-- ---- the rows of a stream

module _ (d w : ℕ) (bs : List ℕ) where
  -- row s and the code behind it lead to the row above
  pub rows_next : (s : ℕ) (rest : List ℕ) {below row : List ℕ} {place n : ℕ} → rows_below d w bs s ≡ filled below place
      → read_row d w (drop place bs) ≡ filled row n → drop n (drop place bs) ≡ 0 ∷ 0 ∷ rest → rows_below d w bs (suc s) ≡ filled (below ++ row) (place + (n + 2))
  unfolding rows_below read_row_end read_code
  rows_next s rest e f g = rw (e, f, g, append-nil)

  -- and with the top row the stream is read
  pub decode_next : (s : ℕ) {below row : List ℕ} {place n : ℕ} → rows_below d w bs s ≡ filled below place
      → read_row d w (drop place bs) ≡ filled row n → decode d w bs s ≡ filled (below ++ row) (place + n)
  unfolding decode
  decode_next s e f = rw (e, f)

  -- the other way round: what is known of row s where the rows to it are read
  pub record Last (s : ℕ) (all : List ℕ) (end : ℕ) : Type 0 where
    pub below : List ℕ
    pub place : ℕ
    pub row : List ℕ
    pub taken : ℕ
    pub rest : List ℕ
    pub earlier : rows_below d w bs s ≡ filled below place
    pub here : read_row d w (drop place bs) ≡ filled row taken
    pub zeros : drop taken (drop place bs) ≡ 0 ∷ 0 ∷ rest
    pub together : all ≡ below ++ row
    pub bytes : end ≡ place + (taken + 2)

  pub rows_last : (s : ℕ) {all : List ℕ} {end : ℕ} → rows_below d w bs (suc s) ≡ filled all end → Last s all end
  unfolding rows_below read_row_end
  rows_last s e =
      let b = both_read (rows_below d w bs s) (λ cells place. read_row_end d w (drop place bs)) e in
      let l = drop b.taken bs in
      let r = both_read (read_row d w l) (λ cells taken. read_code d 0 (drop taken l)) b.later in
      let m : Mark (drop r.taken l) r.more r.m = subst (MarkLaws (drop r.taken l)) r.later (mark_laws d (drop r.taken l)) in
      let same : b.more ≡ r.cells = r.together ∙ ap (λ (z : List ℕ). r.cells ++ z) m.none ∙ append-nil r.cells in
      record {
        below = b.cells;
        place = b.taken;
        row = r.cells;
        taken = r.taken;
        rest = m.rest;
        earlier = b.earlier;
        here = r.earlier;
        zeros = m.zeros;
        together = b.together ∙ ap (λ (z : List ℕ). b.cells ++ z) same;
        bytes = b.bytes ∙ ap (λ (z : ℕ). b.taken + z) (r.bytes ∙ ap (λ (z : ℕ). r.taken + z) m.two);
      }

  -- s rows have s × w cells
  pub rows_length : (s : ℕ) {cells : List ℕ} {place : ℕ} → rows_below d w bs s ≡ filled cells place → length cells ≡ s * w
  unfolding rows_below
  rows_length zero {cells} e = let none : cells ≡ [] = cc in ap length none ∙ omega arith
  rows_length (suc s) e =
      let l = rows_last s e in
      ap length l.together ∙ length-append l.below l.row ∙ omega (arith, rows_length s l.earlier, row_length_lem d w (drop l.place bs) l.here)

  -- row s begins within the bytes
  pub rows_place : (s : ℕ) {cells : List ℕ} {place : ℕ} → rows_below d w bs s ≡ filled cells place → place ≤ length bs
  unfolding rows_below
  rows_place zero {place = p} e = let none : p ≡ 0 = cc in omega arith
  rows_place (suc s) e = let l = rows_last s e in omega (arith, rows_place s l.earlier, l.bytes, simp length-drop at (ap length l.zeros))

  -- ---- row s of a stream that is read

  -- its place, and its reading from there
  pub record RowAt (all : List ℕ) (s : ℕ) : Type 0 where
    pub place : ℕ
    pub taken : ℕ
    pub below : rows_below d w bs s ≡ filled (take (s * w) all) place
    pub here : read_row d w (drop place bs) ≡ filled (take w (drop (s * w) all)) taken

  -- t rows and one more
  rows_joined : (t place n : ℕ) (below row : List ℕ) → rows_below d w bs t ≡ filled below place → read_row d w (drop place bs) ≡ filled row n
      → ((s : ℕ) → s < t → RowAt below s) → (s : ℕ) → s ≤ t → RowAt (below ++ row) s
  rows_joined t place n below row e f earlier s h = go (ltb s t) refl
    where
      go : (b : Bool) → ltb s t ≡ b → RowAt (below ++ row) s
      go true l =
          let r = earlier s (ltb-true s t l) in
          let k : s * w + w ≤ length below = omega (arith, rows_length t e, mul-le-mul_right w (ltb-true s t l)) in
          let start : s * w ≤ length below = omega arith in
          let left : w ≤ length (drop (s * w) below) = omega (arith, length-drop (s * w) below) in
          record {
            place = r.place;
            taken = r.taken;
            below = rw (take-append-le (s * w) below row start) r.below;
            here = rw (drop-append-le (s * w) below row start, take-append-le w (drop (s * w) below) row left) r.here;
          }
      go false l =
          let last : s ≡ t = omega (arith, ltb-false s t l) in
          let k : length row ≤ w = omega (arith, row_length_lem d w (drop place bs) f) in
          rw last
          (record {
            place = place;
            taken = n;
            below = rw (take_at below row (t * w) (rows_length t e)) e;
            here = rw (drop_at below row (t * w) (rows_length t e), take_all w row k) f;
          })

  rows_read : (t : ℕ) {all : List ℕ} {place : ℕ} → rows_below d w bs t ≡ filled all place → (s : ℕ) → s < t → RowAt all s
  rows_read zero e s h = absurd (omega arith)
  rows_read (suc t) e s h =
      let l = rows_last t e in
      rw l.together (rows_joined t l.place l.taken l.below l.row l.earlier l.here (rows_read t l.earlier) s (omega arith))

  -- row s of what a stream shows is the row that is read from the place where its codes begin
  pub decode_rows : (top : ℕ) {all : List ℕ} {n : ℕ} → decode d w bs top ≡ filled all n → (s : ℕ) → s ≤ top → RowAt all s
  unfolding decode
  decode_rows top e s h =
      let b = both_read (rows_below d w bs top) (λ cells place. read_row d w (drop place bs)) e in
      rw b.together (rows_joined top b.taken b.m b.cells b.more b.earlier b.later (rows_read top b.earlier) s h)

  -- ---- a stream that is refused

  -- a refusal below stays
  pub rows_refused : (s top : ℕ) {cause : Cause} → rows_below d w bs s ≡ refused cause → s ≤ top → rows_below d w bs top ≡ refused cause
  unfolding rows_below
  rows_refused s zero e h = let z : s ≡ 0 = omega arith in rw z at e
  rows_refused s (suc top) {cause} e h = go (ltb top s) refl (rows_refused s top e)
    where
      go : (b : Bool) → ltb top s ≡ b → (s ≤ top → rows_below d w bs top ≡ refused cause) → rows_below d w bs (suc top) ≡ refused cause
      go true l f = let z : s ≡ suc top = omega (arith, ltb-true top s l) in rw z at e
      go false l f = rw (f (ltb-false top s l))

  -- a row that is refused, where those below it are read
  pub refused_row : (s top : ℕ) {below : List ℕ} {place : ℕ} {cause : Cause} → rows_below d w bs s ≡ filled below place
      → read_row d w (drop place bs) ≡ refused cause → s ≤ top → decode d w bs top ≡ refused cause
  unfolding decode rows_below read_row_end
  refused_row s top {cause = c} e f h = go (ltb s top) refl
    where
      go : (b : Bool) → ltb s top ≡ b → decode d w bs top ≡ refused c
      go true l = let q : rows_below d w bs (suc s) ≡ refused c = rw (e, f) in rw (rows_refused (suc s) top q (ltb-true s top l))
      go false l = let last : top ≡ s = omega (arith, ltb-false s top l) in rw (last, e, f)

  -- a code between two rows that is refused, where the rows below it are read
  pub refused_end : (s top : ℕ) {below row : List ℕ} {place n : ℕ} {cause : Cause} → rows_below d w bs s ≡ filled below place
      → read_row d w (drop place bs) ≡ filled row n → read_code d 0 (drop n (drop place bs)) ≡ refused cause → s < top → decode d w bs top ≡ refused cause
  unfolding decode rows_below read_row_end
  refused_end s top {cause = c} e f g h =
      let q : rows_below d w bs (suc s) ≡ refused c = rw (e, f, g) in
      rw (rows_refused (suc s) top q h)

  -- what is refused first, where the rows below it are read: a row, or the code between two rows
  pub data Refusal (top : ℕ) (cause : Cause) : Type 0 where
    at_row : (s place : ℕ) (below : List ℕ) → s ≤ top → rows_below d w bs s ≡ filled below place → read_row d w (drop place bs) ≡ refused cause → Refusal top cause
    at_end : (s place n : ℕ) (below row : List ℕ) → s < top → rows_below d w bs s ≡ filled below place → read_row d w (drop place bs) ≡ filled row n
        → read_code d 0 (drop n (drop place bs)) ≡ refused cause → Refusal top cause

  raise : (t : ℕ) {cause : Cause} → Refusal t cause → Refusal (suc t) cause
  raise t (at_row s place below h e f) = at_row s place below (omega arith) e f
  raise t (at_end s place n below row h e f g) = at_end s place n below row (omega arith) e f g

  rows_refusal : (t : ℕ) {cause : Cause} → rows_below d w bs t ≡ refused cause → Refusal t cause
  unfolding rows_below read_row_end
  rows_refusal zero e = absurd (not_both (sym e))
  rows_refusal (suc t) {cause} e = go (one_refused (rows_below d w bs t) (λ cells place. read_row_end d w (drop place bs)) e) (rows_refusal t)
    where
      here : (place : ℕ) (below : List ℕ) → rows_below d w bs t ≡ filled below place
          → (read_row d w (drop place bs) ≡ refused cause) ⊎ Second (read_row d w (drop place bs)) (λ row n. read_code d 0 (drop n (drop place bs))) cause → Refusal (suc t) cause
      here place below q (inl f) = at_row t place below (omega arith) q f
      here place below q (inr r) = at_end t place r.taken below r.cells (omega arith) q r.earlier r.later

      go : (rows_below d w bs t ≡ refused cause) ⊎ Second (rows_below d w bs t) (λ cells place. read_row_end d w (drop place bs)) cause
          → (rows_below d w bs t ≡ refused cause → Refusal t cause) → Refusal (suc t) cause
      go (inl q) f = raise t (f q)
      go (inr q) f = here q.taken q.cells q.earlier (one_refused _ _ q.later)

  -- a stream is refused for the first row that is refused, or the first code between two rows
  pub decode_refused : (top : ℕ) {cause : Cause} → decode d w bs top ≡ refused cause → Refusal top cause
  unfolding decode
  decode_refused top {cause} e = go (one_refused (rows_below d w bs top) (λ cells place. read_row d w (drop place bs)) e)
    where
      go : (rows_below d w bs top ≡ refused cause) ⊎ Second (rows_below d w bs top) (λ cells place. read_row d w (drop place bs)) cause → Refusal top cause
      go (inl q) = rows_refusal top q
      go (inr q) = at_row top q.taken q.cells (omega arith) q.earlier q.later

-- ---- what follows is not read

row_above : (d w : ℕ) (bs : List ℕ) (s p k : ℕ) (below row more rest : List ℕ) → p ≤ length bs → ((next : List ℕ) → rows_below d w (take p bs ++ next) s ≡ filled below p)
    → read_row d w (drop p bs) ≡ filled row k → drop k (drop p bs) ≡ 0 ∷ 0 ∷ more → rows_below d w (take (p + (k + 2)) bs ++ rest) (suc s) ≡ filled (below ++ row) (p + (k + 2))
row_above d w bs s p k below row more rest h earlier f g =
    let next : List ℕ = 0 ∷ 0 ∷ rest in
    let front = take p bs in
    let codes = take k (drop p bs) in
    let at : drop p (front ++ (codes ++ next)) ≡ codes ++ next = drop_at front (codes ++ next) p (length-take-le p bs h) in
    let there : k ≤ length (drop p bs) = omega (arith, length-drop k (drop p bs), ap length g) in
    rw (take-add p (k + 2) bs, take-add k 2 (drop p bs), g, append_assoc front (codes ++ (0 ∷ 0 ∷ [])) rest, append_assoc codes (0 ∷ 0 ∷ []) rest)
    (rows_next d w (front ++ (codes ++ next)) s rest (earlier (codes ++ next)) (rw at (row_alone d w (drop p bs) f next)) (rw at (drop_at codes next k (length-take-le k (drop p bs) there))))

-- the rows below row s depend on the bytes before its place only
pub rows_alone : (d w : ℕ) (bs : List ℕ) (s : ℕ) {cells : List ℕ} {place : ℕ} → rows_below d w bs s ≡ filled cells place
    → (rest : List ℕ) → rows_below d w (take place bs ++ rest) s ≡ filled cells place
unfolding rows_below
rows_alone d w bs zero e rest = e
rows_alone d w bs (suc s) e rest =
    let l = rows_last d w bs s e in
    (λ z. rows_below d w (take (l.bytes z) bs ++ rest) (suc s))
    ∙ row_above d w bs s l.place l.taken l.below l.row l.rest rest (rows_place d w bs s l.earlier) (rows_alone d w bs s l.earlier) l.here l.zeros
    ∙ sym (λ z. filled (l.together z) (l.bytes z))

-- and a stream on its own bytes only
pub decode_alone : (d w : ℕ) (bs : List ℕ) (top : ℕ) {all : List ℕ} {n : ℕ} → decode d w bs top ≡ filled all n
    → (rest : List ℕ) → decode d w (take n bs ++ rest) top ≡ filled all n
unfolding decode
decode_alone d w bs top e rest =
    let b = both_read (rows_below d w bs top) (λ cells place. read_row d w (drop place bs)) e in
    let p = b.taken in
    let codes = take b.m (drop p bs) in
    let at = drop_at (take p bs) (codes ++ rest) p (length-take-le p bs (rows_place d w bs top b.earlier)) in
    ap (λ (l : List ℕ). decode d w l top) ((λ z. take (b.bytes z) bs ++ rest) ∙ ap (λ (l : List ℕ). l ++ rest) (take-add p b.m bs) ∙ append_assoc (take p bs) codes rest)
    ∙ decode_next d w (take p bs ++ (codes ++ rest)) top (rows_alone d w bs top b.earlier (codes ++ rest)) (ap (read_row d w) at ∙ row_alone d w (drop p bs) b.later rest)
    ∙ sym (λ z. filled (b.together z) (b.bytes z))
