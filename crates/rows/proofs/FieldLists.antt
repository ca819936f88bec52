-- Laws of the fields of all samples.
use Rattle.std.proofs.Common.{◌≡◌, ℕ, ◌+◌, ◌*◌, ◌<◌, Bool, false, cond, List, [], length, get_or, drop, sym, ap, ◌∙◌, append-nil, arith}
use lib.Seq.{drop-length}
use Rattle.rows.specs.declared.masks.MaskLayout.{MaskLayout}
use Rattle.leaves.specs.Lists.{tab, cat}
use Rattle.leaves.specs.Put.{put}
use Rattle.rows.specs.StoredRows.{field, channel_at, fields_of}
use Rattle.leaves.proofs.ListLaws.{length-tab, get_or-tab, length-cat, get_or-cat}
use Rattle.rows.proofs.MaskCells.{no_cells}
use Rattle.rows.proofs.PackLaws.{put_cell}

-- the field of a sample stands in its channel's list
pub field_at : (layout : MaskLayout) (bgr : Bool) (c s : ℕ) → c < 4 → s < 256 → get_or (fields_of layout bgr) (c * 256 + s) 0 ≡ field (channel_at layout bgr c) s
unfolding fields_of
field_at layout bgr c s h l =
    get_or-cat (λ i. tab (field (channel_at layout bgr i)) 256) 256 4 c s 0 (λ i k. length-tab (field (channel_at layout bgr i)) 256) l h
    ∙ get_or-tab (field (channel_at layout bgr c)) 256 s 0 l

pub length_fields : (layout : MaskLayout) (bgr : Bool) → length (fields_of layout bgr) ≡ 1024
unfolding fields_of
length_fields layout bgr = length-cat (λ i. tab (field (channel_at layout bgr i)) 256) 256 4 (λ i k. length-tab (field (channel_at layout bgr i)) 256)

-- a list that is put over one of its length is what is there then
put_whole : (d s : List ℕ) → length d ≡ length s → put d 0 s ≡ s
unfolding put
put_whole d s e =
    let n : 0 + length s ≡ length d = omega arith in
    let z : drop (0 + length s) d ≡ [] = ap (λ (k : ℕ). drop k d) n ∙ drop-length d in
    rw z (append-nil s)

-- the lists of four channels, one after the other
pub four_channels : (layout : MaskLayout) (d d1 d2 d3 d4 : List ℕ) → length d ≡ 1024 → d1 ≡ put d 0 (tab (field layout.r) 256)
    → d2 ≡ put d1 256 (tab (field layout.g) 256) → d3 ≡ put d2 512 (tab (field layout.b) 256) → d4 ≡ put d3 768 (tab (field layout.a) 256)
    → d4 ≡ fields_of layout false
unfolding fields_of channel_at
four_channels layout d d1 d2 d3 d4 whole red green blue alpha =
    let f : ℕ → List ℕ = λ c. tab (field (channel_at layout false c)) 256 in
    let size : (i : ℕ) → length (f i) ≡ 256 = λ i. length-tab (field (channel_at layout false i)) 256 in
    let one = put_cell d d d1 0 256 0 1 0 f size (no_cells f d 0) red (omega arith) (omega arith) (omega arith) in
    let two = put_cell d d1 d2 0 256 1 2 256 f size one green (omega arith) (omega arith) (omega arith) in
    let three = put_cell d d2 d3 0 256 2 3 512 f size two blue (omega arith) (omega arith) (omega arith) in
    put_cell d d3 d4 0 256 3 4 768 f size three alpha (omega arith) (omega arith) (omega arith)
    ∙ put_whole d (cat f 4) (whole ∙ sym (length-cat f 256 4 (λ i k. size i)))

-- where blue comes first, they are those of the layout with red and blue exchanged
pub fields_ordered : (l m : MaskLayout) (bgr : Bool)
    → (m.bpp ≡ l.bpp) × (m.r ≡ cond bgr l.b l.r) × (m.g ≡ l.g) × (m.b ≡ cond bgr l.r l.b) × (m.a ≡ l.a)
    → fields_of m false ≡ fields_of l bgr
unfolding fields_of channel_at
fields_ordered l m bgr same = rw (same.1, same.2, same.3, same.4)

-- what is read at a sample's place is its field
pub field-read : (layout : MaskLayout) (fields : List ℕ) (c s p v : ℕ) → fields ≡ fields_of layout false → c < 4 → s < 256 → p ≡ c * 256 + s → v ≡ get_or fields p 0
    → v ≡ field (channel_at layout false c) s
field-read layout fields c s p v e h l place is = is ∙ rw (e, place) (field_at layout false c s h l)
