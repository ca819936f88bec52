-- Laws of the loops that write the head.
use mathlib.Core.Path.{◌≡◌, refl, sym, ap, ◌∙◌}
use mathlib.Core.Bool.{Bool, true, false, not, cond}
use mathlib.Core.List.{List, [], ◌∷◌, ◌++◌, append_assoc, append-nil}
use Prim.Native.Nat.{ℕ, suc, ◌+◌, ◌*◌, ◌/◌, ◌%◌, ◌≤◌, ◌<◌}
use native.Mathlib.Omega.{arith}
use borrow.Author.Tests.{eq-eqb, ne_eqb}
use lib.IntN.{ℤ, pos}
use lib.ListN.{length, get_or, take, length-take, length-append, get_or-map}
use mir.Syntax.{w32}
use mir.Val.{of_z}
use lib.Seq.{take-suc, take_all}
use Rattle.leaves.specs.Bytes.{le16, le32, length-le32}
use Rattle.leaves.specs.Lists.{cat}
use Rattle.leaves.specs.Masks.{has_alpha_mask}
use Rattle.leaves.specs.Put.{put}
use Rattle.format.specs.File.{table_entry}
use Rattle.format.specs.Layout.{mask_tail}
use Rattle.format.specs.Headers.{dwords, file_header, info_header, v4_fields, longs}
use Rattle.planner.specs.declared.heads.FirstFields.{FirstFields}
use Rattle.planner.specs.Plans.{first_fields}
use Rattle.leaves.proofs.ListLaws.{length-cat}
use Rattle.leaves.proofs.Puts.{put-append}
use Rattle.format.proofs.HeadTable.{dwords-length, mask_tail_lem, longs-length}

-- one piece more, put where the pieces so far end
pub put_next : (d b e s t : List ℕ) (at n q : ℕ) → length s ≡ n → q ≡ at + n → at + n ≤ length d → b ≡ put d at s → e ≡ put b q t → e ≡ put d at (s ++ t)
put_next d b e s t at n q l p room was is =
    let place : q ≡ at + length s = p ∙ ap (λ (z : ℕ). at + z) (sym l) in
    is ∙ (λ z. put (was z) (place z) t) ∙ put-append d at s t (omega arith)

-- DWORDs of two lists
dwords-append : (xs ys : List ℕ) → dwords (xs ++ ys) ≡ dwords xs ++ dwords ys
unfolding dwords
dwords-append [] ys = refl
dwords-append (x ∷ xs) ys = ap (λ (z : List ℕ). le32 x ++ z) (dwords-append xs ys) ∙ sym (append_assoc (le32 x) (dwords xs) (dwords ys))

-- one DWORD more
pub next_dword : (src d b e : List ℕ) (at i q : ℕ) → i < length src → at + 4 * length src ≤ length d → q ≡ at + 4 * i → b ≡ put d at (dwords (take i src))
    → e ≡ put b q (le32 (get_or src i 0)) → e ≡ put d at (dwords (take (i + 1) src))
unfolding dwords
next_dword src d b e at i q h room p was is =
    let l : length (dwords (take i src)) ≡ 4 * i = dwords-length (take i src) ∙ omega (arith, length-take i src) in
    let f : i + 1 ≡ suc i = omega arith in
    put_next d b e (dwords (take i src)) (le32 (get_or src i 0)) at (4 * i) q l p (omega arith) was is
    ∙ ap (put d at) (sym (
    ap dwords (ap (λ (n : ℕ). take n src) f ∙ take-suc src i 0 h) ∙ dwords-append (take i src) (get_or src i 0 ∷ [])
    ∙ ap (λ (z : List ℕ). dwords (take i src) ++ z) (append-nil (le32 (get_or src i 0)))))

-- all DWORDs
pub all_dwords : (src d b : List ℕ) (at i : ℕ) → length src ≤ i → b ≡ put d at (dwords (take i src)) → b ≡ put d at (dwords src)
all_dwords src d b at i h was = was ∙ ap (λ (z : List ℕ). put d at (dwords z)) (take_all i src h)

-- one LONG more
pub next_long : (src : List ℤ) (v : ℕ) (d b e : List ℕ) (at i q : ℕ) → i < length src → at + 4 * length src ≤ length d → q ≡ at + 4 * i → b ≡ put d at (dwords (take i (longs src)))
    → v ≡ of_z w32 (get_or src i (pos 0)) → e ≡ put b q (le32 v) → e ≡ put d at (dwords (take (i + 1) (longs src)))
unfolding longs
next_long src v d b e at i q h room p was is more =
    let n : length (longs src) ≡ length src = longs-length src in
    next_dword (longs src) d b e at i q (omega (arith, n)) (omega (arith, n)) p was (more ∙ ap (λ (z : ℕ). put b q (le32 z)) (is ∙ sym (get_or-map (of_z w32) src i (pos 0))))

-- all LONGs
pub all_longs : (src : List ℤ) (d b : List ℕ) (at i : ℕ) → length src ≤ i → b ≡ put d at (dwords (take i (longs src))) → b ≡ put d at (dwords (longs src))
all_longs src d b at i h was = all_dwords (longs src) d b at i (omega (arith, longs-length src)) was

-- one table entry more
pub next_entry : (palette d b e : List ℕ) (at k q n : ℕ) → k < n → at + 4 * n ≤ length d → q ≡ at + k * 4 → b ≡ put d at (cat (table_entry palette) k)
    → e ≡ put b q (table_entry palette k) → e ≡ put d at (cat (table_entry palette) (k + 1))
unfolding cat table_entry
next_entry palette d b e at k q n h room p was is =
    let f : k + 1 ≡ suc k = omega arith in
    put_next d b e (cat (table_entry palette) k) (table_entry palette k) at (k * 4) q (length-cat (table_entry palette) 4 k (λ j l. refl)) p (omega arith) was is
    ∙ ap (λ (m : ℕ). put d at (cat (table_entry palette) m)) (sym f)

-- ---- the mask tail

-- three masks, and the alpha mask if it is not 0
tail_parts : (masks : List ℕ) (b : Bool) → has_alpha_mask masks ≡ b
    → mask_tail masks ≡ dwords (get_or masks 0 0 ∷ get_or masks 1 0 ∷ get_or masks 2 0 ∷ []) ++ cond b (le32 (get_or masks 3 0)) []
unfolding mask_tail dwords le32
tail_parts masks true e = rw e
tail_parts masks false e = rw e

-- with an alpha mask
pub tail_alpha : (masks : List ℕ) → (get_or masks 3 0 ≡ 0 → ⊥) → mask_tail masks ≡ dwords (get_or masks 0 0 ∷ get_or masks 1 0 ∷ get_or masks 2 0 ∷ []) ++ le32 (get_or masks 3 0)
tail_alpha masks some = tail_parts masks true (ap not (ne_eqb (get_or masks 3 0) 0 some))

-- without one
pub tail_none : (masks : List ℕ) → get_or masks 3 0 ≡ 0 → mask_tail masks ≡ dwords (get_or masks 0 0 ∷ get_or masks 1 0 ∷ get_or masks 2 0 ∷ [])
tail_none masks none = tail_parts masks false (ap not (eq-eqb (get_or masks 3 0) 0 none)) ∙ append-nil (dwords (get_or masks 0 0 ∷ get_or masks 1 0 ∷ get_or masks 2 0 ∷ []))

-- it has at least 12 bytes
pub tail_long : (masks : List ℕ) → 12 ≤ length (mask_tail masks)
unfolding mask_tail dwords le32
tail_long masks = omega arith

-- with an alpha mask it has 16
pub tail-length : (masks : List ℕ) → (get_or masks 3 0 ≡ 0 → ⊥) → length (mask_tail masks) ≡ 16
tail-length masks some = mask_tail_lem masks true (ap not (ne_eqb (get_or masks 3 0) 0 some))

-- ---- the two headers

-- planes and bit count are one DWORD
one_dword : (d : ℕ) → d < 65536 → le16 1 ++ le16 d ≡ le32 (1 + 65536 * d)
unfolding le16 le32
one_dword d h =
    let first : (1 + 65536 * d) / 256 ≡ 256 * d = omega arith in
    let second : 256 * d / 256 ≡ d = omega arith in
    let a : 1 ≡ (1 + 65536 * d) % 256 = omega arith in
    let b : 0 ≡ 256 * d % 256 = omega arith in
    rw (first, second) (λ z. a z ∷ b z ∷ d % 256 ∷ d / 256 % 256 ∷ [])

-- two letters, then DWORDs
pub first-dwords : (d b e : List ℕ) (at : ℕ) (h : FirstFields) → h.bit_count < 65536 → at + 54 ≤ length d → b ≡ put d at (le16 0x4D42)
    → e ≡ put b (at + 2) (dwords (h.file_size ∷ 0 ∷ h.pixel_offset ∷ h.header_size ∷ h.width ∷ h.stored_height ∷ (1 + 65536 * h.bit_count) ∷ h.compression ∷ h.image_size ∷ h.x_pels
    ∷ h.y_pels ∷ h.clr_used ∷ 0 ∷ []))
    → e ≡ put d at (first_fields h)
unfolding first_fields file_header info_header dwords le16 le32
first-dwords d b e at h deep room was is =
    put_next d b e (le16 0x4D42) _ at 2 (at + 2) refl refl (omega arith) was is
    ∙ ap (λ (x : List ℕ). put d at (le16 0x4D42 ++ le32 h.file_size ++ le32 0 ++ le32 h.pixel_offset ++ le32 h.header_size ++ le32 h.width ++ le32 h.stored_height ++ x
    ++ le32 h.compression ++ le32 h.image_size ++ le32 h.x_pels ++ le32 h.y_pels ++ le32 h.clr_used ++ le32 0)) (sym (one_dword h.bit_count deep))

-- ---- the fields of the 108-byte header

-- four writes, one behind the other
pub v4_written : (d b1 b2 b3 b4 masks : List ℕ) (ends : List ℤ) (gammas : List ℕ) (at space : ℕ) → length masks ≡ 4 → length ends ≡ 9 → at + 68 ≤ length d
    → b1 ≡ put d at (dwords masks) → b2 ≡ put b1 (at + 16) (le32 space) → b3 ≡ put b2 (at + 20) (dwords (longs ends)) → b4 ≡ put b3 (at + 56) (dwords gammas)
    → b4 ≡ put d at (v4_fields masks space (longs ends) gammas)
unfolding v4_fields
v4_written d b1 b2 b3 b4 masks ends gammas at space four nine room e1 e2 e3 e4 =
    let endpoints = longs ends in
    let l1 : length (dwords masks) ≡ 16 = dwords-length masks ∙ omega arith in
    let l2 : length (dwords masks ++ le32 space) ≡ 20 = length-append (dwords masks) (le32 space) ∙ omega (arith, length-le32 space) in
    let l3 : length (dwords masks ++ le32 space ++ dwords endpoints) ≡ 56
    = length-append (dwords masks ++ le32 space) (dwords endpoints) ∙ omega (arith, dwords-length endpoints, longs-length ends) in
    let s2 = put_next d b1 b2 (dwords masks) (le32 space) at 16 (at + 16) l1 refl (omega arith) e1 e2 in
    let s3 = put_next d b2 b3 (dwords masks ++ le32 space) (dwords endpoints) at 20 (at + 20) l2 refl (omega arith) s2 e3 in
    put_next d b3 b4 (dwords masks ++ le32 space ++ dwords endpoints) (dwords gammas) at 56 (at + 56) l3 refl (omega arith) s3 e4
