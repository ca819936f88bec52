-- Parts of a buffer: one between two others, and the loops that fill a zeroed buffer part by part.
use mathlib.Core.Path.{◌≡◌, refl, sym, ap, ◌∙◌}
use mathlib.Core.List.{List, [], ◌++◌, append-nil}
use Prim.Native.Nat.{ℕ, suc, ◌+◌, ◌-◌, ◌*◌, ◌/◌, ◌≤◌, ◌<◌, min}
use native.Mathlib.Nat.{suc-mul, mul-le-mul_right, mul-div_cancel}
use native.Mathlib.Omega.{arith}
use lib.ListN.{length, get_or, take, drop, replicate, length-append, length-drop, length-replicate, replicate-append-replicate}
use lib.Seq.{ext_get_or, get_or-take, get_or-drop, length-take-le, take_at, drop_at, drop-drop}
use Rattle.leaves.specs.Lists.{tab, cat}
use Rattle.rows.specs.StoredRows.{padded}
use Rattle.leaves.proofs.ListLaws.{length-tab, get_or-tab, length-cat}
use Rattle.reference.specs.Rust.{Run, done, ◌>>=◌, range, within, copy_from_slice, for}
use Rattle.reference.specs.Packing.{zip_chunks}
use Rattle.reference.proofs.RunLaws.{range_is, within_is, copy_is, for_is}

abbrev pub zeros : ℕ → List ℕ
zeros n = replicate n 0

pub length_zeros : (n : ℕ) → length (zeros n) ≡ n
length_zeros n = length-replicate n 0

-- the part between a and c becomes `new`
within-at : (a b c new : List ℕ) (i j : ℕ) (f : List ℕ → Run (List ℕ)) → length a ≡ i → i + length b ≡ j → f b ≡ done new
    → within (a ++ (b ++ c)) i j f ≡ done (a ++ new ++ c)
within-at a b c new i j f p q e =
    let n : j - i ≡ length b = omega arith in
    let l : j ≤ length (a ++ (b ++ c)) = simp length-append (omega arith) in
    let d : drop i (a ++ (b ++ c)) ≡ b ++ c = drop_at a (b ++ c) i p in
    let u : take (j - i) (drop i (a ++ (b ++ c))) ≡ b = rw (d, n) (take_at b c (length b) refl) in
    let v : drop j (a ++ (b ++ c)) ≡ c = rw (← q) (sym (drop-drop (length b) i (a ++ (b ++ c))) ∙ rw d (drop_at b c (length b) refl)) in
    within_is (a ++ (b ++ c)) i j f new (omega arith) l (ap f u ∙ e) ∙ rw (take_at a (b ++ c) i p, v)

-- the first m of n zeros become `new`
pub front_is : (n m : ℕ) (f : List ℕ → Run (List ℕ)) (new : List ℕ) → m ≤ n → length new ≡ m → f (zeros m) ≡ done new → within (zeros n) 0 m f ≡ done (padded n new)
unfolding padded
front_is n m f new h l e =
    let s : m + (n - m) ≡ n = omega arith in
    let z : zeros n ≡ zeros m ++ zeros (n - m) = sym (replicate-append-replicate m (n - m) 0 ∙ ap zeros s) in
    rw (z, l) (within-at [] (zeros m) (zeros (n - m)) new 0 m f refl (omega (arith, length_zeros m)) e)

-- bytes copied to the front of zeros
pub copied_in : (bytes : List ℕ) (n : ℕ) → length bytes ≤ n → within (zeros n) 0 (length bytes) (λ part. copy_from_slice part bytes) ≡ done (padded n bytes)
copied_in bytes n h =
    front_is n (length bytes) (λ part. copy_from_slice part bytes) bytes h refl (copy_is (zeros (length bytes)) bytes (length_zeros (length bytes)))

-- a loop of w turns, of which turn k writes `cell k`, of m bytes, into its place in zeros
pub cells_in : (m w z : ℕ) (cell : ℕ → List ℕ) (f body : ℕ → List ℕ → Run (List ℕ)) → ((k : ℕ) → k < w → length (cell k) ≡ m)
    → ((k : ℕ) (d : List ℕ) → k < w → body k d ≡ within d (k * m) (k * m + m) (f k)) → ((k : ℕ) → k < w → f k (zeros m) ≡ done (cell k))
    → for w body (zeros (w * m + z)) ≡ done (cat cell w ++ zeros z)
unfolding cat
cells_in m w z cell f body size turn makes =
    ap (λ (n : ℕ). for w body (zeros (n * m + z))) (omega arith)
    ∙ for_is body state w (λ k l.
    let C : List ℕ = cat cell k in
    let c : length C ≡ k * m = length-cat cell m k (λ i b. size i (omega arith)) in
    let r : ℕ = (w - suc k) * m + z in
    let s : (w - k) * m + z ≡ m + r = ap (λ (n : ℕ). n * m + z) (next k l) ∙ omega (arith, suc-mul (w - suc k) m) in
    let zs : zeros ((w - k) * m + z) ≡ zeros m ++ zeros r = ap zeros s ∙ sym (replicate-append-replicate m r 0) in
    turn k (state k) l
    ∙ ap (λ (t : List ℕ). within (C ++ t) (k * m) (k * m + m) (f k)) zs
    ∙ within-at C (zeros m) (zeros r) (cell k) (k * m) (k * m + m) (f k) c (ap (λ (n : ℕ). k * m + n) (length_zeros m)) (makes k l))
    ∙ ap (λ (n : ℕ). done (cat cell w ++ zeros n)) (none (w - w) (omega arith))
  where
    -- k cells, and zeros for the others
    state : ℕ → List ℕ
    state k = cat cell k ++ zeros ((w - k) * m + z)

    next : (k : ℕ) → k < w → w - k ≡ suc (w - suc k)
    next k l = omega arith

    none : (n : ℕ) → n ≡ 0 → n * m + z ≡ z
    none n e = rw e (omega arith)

-- a part of n bytes, by its places
chunk_is : (src : List ℕ) (n at : ℕ) → at + n ≤ length src → range src at (at + n) ≡ done (tab (λ i. get_or src (at + i) 0) n)
chunk_is src n at h =
    let s : at + n - at ≡ n = omega arith in
    let l : length (take n (drop at src)) ≡ n = length-take-le n (drop at src) (simp length-drop (omega arith)) in
    range_is src at (at + n) (omega arith) h
    ∙ rw s
    (ap done (ext_get_or 0 (take n (drop at src)) (tab (λ i. get_or src (at + i) 0) n) (l ∙ sym (length-tab _ n)) (λ i b.
    let k : i < n = omega arith in
    get_or-take n (drop at src) i 0 k ∙ get_or-drop at src i 0 ∙ sym (get_or-tab (λ i. get_or src (at + i) 0) n i 0 k))))

-- chunks of m bytes made from chunks of n, as many of the one as of the other
pub chunks_in : (m n w : ℕ) (body : List ℕ → List ℕ → Run (List ℕ)) (src : List ℕ) (cell : ℕ → List ℕ) → 0 < m → 0 < n → length src ≡ w * n
    → ((k : ℕ) → length (cell k) ≡ m) → ((k : ℕ) → body (zeros m) (tab (λ i. get_or src (k * n + i) 0) n) ≡ done (cell k))
    → zip_chunks m n body src (zeros (w * m)) ≡ done (cat cell w)
unfolding zip_chunks
chunks_in m n w body src cell p q size len makes =
    let e : length (zeros (w * m)) / m ≡ w = rw (length_zeros (w * m)) (mul-div_cancel w p) in
    let f : length src / n ≡ w = rw size (mul-div_cancel w q) in
    let g : min w w ≡ w = omega arith in
    let z : w * m ≡ w * m + 0 = omega arith in
    rw (e, f, g, z)
    (cells_in m w 0 cell (λ k chunk. range src (k * n) (k * n + n) >>= body chunk) (λ k d. within d (k * m) (k * m + m) (λ chunk. range src (k * n) (k * n + n) >>= body chunk))
    (λ k _. len k) (λ k d _. refl) (λ k l.
    let room : k * n + n ≤ length src = omega (arith, mul-le-mul_right n l, suc-mul k n) in
    rw (chunk_is src n (k * n) room) (makes k))
    ∙ ap done (append-nil (cat cell w)))
