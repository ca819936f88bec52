-- Laws of stored rows: what each case of a row's packing asks and gives, and all rows of a plane.
use Rattle.std.proofs.Common.{◌≡◌, ℕ, ◌+◌, ◌-◌, ◌*◌, ◌/◌, ◌<◌, ◌≤◌, Bool, true, false, ◌⊎◌, List, length, get_or, take, drop, set, sym, refl, ap, ◌∙◌, mul-le-mul_right, suc-mul, mul_comm, mul-one, arith, length-append, length-drop, length-take, length-take-le, eqb-true}
use mathlib.Core.Bool.{false≢true}
use lib.ListN.{length-replicate}
use Rattle.rows.specs.declared.masks.MaskLayout.{MaskLayout}
use Rattle.rows.specs.declared.pack.RowPack.{RowPack}
use Rattle.rows.specs.declared.pack.RowPack.TheVariants.{Bgra32, Bgr24, Words16, Indexed, Masks}
use Rattle.leaves.specs.Lists.{cat}
use Rattle.leaves.specs.Put.{put}
use Rattle.leaves.specs.Sizes.{row_stride, has_table}
use Rattle.rows.specs.Packing.{packed}
use Rattle.rows.specs.Starts.{noted}
use Rattle.rows.specs.StoredRows.{padded, cell24, cell32, mask_cell, stored_row, pack_bits, pack_bytes, LayoutOk, PackOk, fields_of, FieldsOk, in_mask_mode, is_copied, row_of, source_row, stored_rows}
use Rattle.leaves.proofs.ListLaws.{length-tab, cat_ext, length-cat}
use Rattle.rows.proofs.Cells.{copied24, copied32}
use Rattle.rows.proofs.PackLaws.{packed_8, part_small, put_cell}
use Rattle.rows.proofs.MaskCells.{no_cells, all_put, length-mask_cell, cells_fit}
use Rattle.rows.proofs.StartLaws.{noted_start, noted_turn, noted_end}

-- what is asked of source and buffer for a packing is asked for the case that it is
pub case_asks : (p q : RowPack) (w n at l : ℕ) → p ≡ q → n ≡ w * pack_bytes p → at + row_stride w (pack_bits p) ≤ l
    → (n ≡ w * pack_bytes q) × (at + row_stride w (pack_bits q) ≤ l)
case_asks p q w n at l e h k = (rw e at h, rw e at k)

-- what that case writes is the stored row
pub case_gives : (p q : RowPack) (w at : ℕ) (row d x : List ℕ) → p ≡ q → x ≡ put d at (stored_row q w row) → x ≡ put d at (stored_row p w row)
case_gives p q w at row d x e h = rw e h

-- what is asked in the case of indices, where each source byte is one pixel
pub indices_ask : (p : RowPack) (bpp w n at l : ℕ) → p ≡ Indexed bpp → PackOk p → n ≡ w * pack_bytes p → at + row_stride w (pack_bits p) ≤ l → w < 4294967296
    → (has_table bpp ≡ true) × ((n < 4294967296) × (at + row_stride n bpp ≤ l))
indices_ask p bpp w n at l e ok h k s =
    let f : n ≡ w = (rw e at h) ∙ mul-one w in
    (rw e at ok, (omega arith, rw f (rw e at k)))

-- what that case writes is the stored row
pub indices_give : (p : RowPack) (bpp w at : ℕ) (row d x : List ℕ) → p ≡ Indexed bpp → length row ≡ w * pack_bytes p
    → x ≡ put d at (packed bpp row (row_stride (length row) bpp)) → x ≡ put d at (stored_row p w row)
unfolding stored_row
indices_give p bpp w at row d x e h k =
    let f : length row ≡ w = (rw e at h) ∙ mul-one w in
    rw e (rw f at k)

-- the layouts of masks
pub masks_good : (p : RowPack) (n : ℕ) (bgr : Bool) (layout : MaskLayout) → p ≡ Masks n bgr layout → PackOk p → ((n ≡ 3) ⊎ (n ≡ 4)) × LayoutOk layout
masks_good p n bgr layout e ok = rw e at ok

-- what is asked in the case of masks
pub masks_ask : (p : RowPack) (n : ℕ) (bgr : Bool) (layout : MaskLayout) (fields : List ℕ) (w m at l : ℕ) → p ≡ Masks n bgr layout → PackOk p
    → m ≡ w * pack_bytes p → at + row_stride w (pack_bits p) ≤ l → FieldsOk p fields
    → LayoutOk layout × (((n ≡ 3) ⊎ (n ≡ 4)) × ((m ≡ w * n) × ((at + row_stride w layout.bpp ≤ l) × (fields ≡ fields_of layout bgr))))
masks_ask p n bgr layout fields w m at l e ok h k t =
    let good = masks_good p n bgr layout e ok in
    (good.1, (good.0, (rw e at h, (rw e at k, rw e at t))))

-- other rows read no fields
pub no_fields : (p : RowPack) (fields : List ℕ) → in_mask_mode p ≡ false → FieldsOk p fields
no_fields (Bgra32 bgr) fields e = tt
no_fields (Bgr24 bgr) fields e = tt
no_fields Words16 fields e = tt
no_fields (Indexed bpp) fields e = tt
no_fields (Masks n bgr layout) fields e = absurd (false≢true (sym e))

-- bytes that are no more than the length are padded to it
length-padded : (n : ℕ) (bytes : List ℕ) → length bytes ≤ n → length (padded n bytes) ≡ n
unfolding padded
length-padded n bytes h = simp (length-append, length-replicate) (omega arith)

-- whole cells within the stored row
length-cells : (f : ℕ → List ℕ) (k n w : ℕ) → ((i : ℕ) → length (f i) ≡ k) → w * k ≤ n → length (padded n (cat f w)) ≡ n
length-cells f k n w size h = length-padded n (cat f w) (omega (arith, length-cat f k w (λ i m. size i)))

-- a stored row has the stored row's length, also where bytes of its source are missing
pub length-stored_row : (pack : RowPack) → PackOk pack → (w : ℕ) (row : List ℕ) → length row ≤ w * pack_bytes pack
    → length (stored_row pack w row) ≡ row_stride w (pack_bits pack)
unfolding stored_row cell24 cell32 packed row_stride
length-stored_row (Bgra32 bgr) ok w row h = length-cells (cell32 bgr row) 4 (row_stride w 32) w (λ i. refl) (omega arith)
length-stored_row (Bgr24 bgr) ok w row h = length-cells (cell24 bgr row) 3 (row_stride w 24) w (λ i. refl) (omega arith)
length-stored_row Words16 ok w row h = length-padded (row_stride w 16) row (omega arith)
length-stored_row (Indexed bpp) ok w row h = length-tab _ (row_stride w bpp)
length-stored_row (Masks n bgr layout) ok w row h =
    length-cells (mask_cell layout n bgr row) (layout.bpp / 8) (row_stride w layout.bpp) w (length-mask_cell layout n bgr row ok.1.depth) (cells_fit w layout.bpp ok.1.depth)

-- the source row of a stored row is one of the picture's
pub row_of_below : (is_top_down : Bool) (h s : ℕ) → s < h → row_of is_top_down h s < h
row_of_below true h s l = l
row_of_below false h s l = omega arith

-- a row's source is within the plane
pub row_within : (from h stride w n k l : ℕ) → from < h → n ≡ k → w * k ≤ stride → stride * h ≤ l → from * stride + w * n ≤ l
row_within from h stride w n k l b e f g =
    omega (arith, mul_comm stride h, suc-mul from stride, mul-le-mul_right stride b, ap (λ (z : ℕ). w * z) e)

-- also as the loops count it
pub source_within : (from h stride bytes l : ℕ) (is_top_down : Bool) (y : ℕ) → from ≡ row_of is_top_down h y → y < h → bytes ≤ stride → stride * h ≤ l → from * stride + bytes ≤ l
source_within from h stride bytes l is_top_down y place k small all =
    omega (arith, row_within from h stride bytes 1 1 l (rw place (row_of_below is_top_down h y k)) refl (omega arith) all)

-- the part of the plane that they hand on is the source row
pub source_is : (plane : List ℕ) (stride n bytes from h y : ℕ) (is_top_down : Bool) → n ≡ bytes → from ≡ row_of is_top_down h y
    → take (from * stride + n - from * stride) (drop (from * stride) plane) ≡ source_row plane stride bytes (row_of is_top_down h y)
source_is plane stride n bytes from h y is_top_down e place =
    let z : from * stride + n - from * stride ≡ n = omega arith in
    rw (z, e, place)

-- the stored row at a place
abbrev pub row_at : RowPack → ℕ → ℕ → Bool → List ℕ → ℕ → ℕ → List ℕ
row_at pack w h is_top_down plane stride s = stored_row pack w (source_row plane stride (w * pack_bytes pack) (row_of is_top_down h s))

-- stored rows have one length
pub length_row_at : (pack : RowPack) → PackOk pack → (w h : ℕ) (is_top_down : Bool) (plane : List ℕ) (stride s : ℕ)
    → length (row_at pack w h is_top_down plane stride s) ≡ row_stride w (pack_bits pack)
length_row_at pack ok w h is_top_down plane stride s =
    length-stored_row pack ok w (source_row plane stride (w * pack_bytes pack) (row_of is_top_down h s)) (simp length-take (omega arith))

-- and so all of them together
pub length-stored_rows : (pack : RowPack) → PackOk pack → (w h : ℕ) (is_top_down : Bool) (plane : List ℕ) (stride : ℕ)
    → length (stored_rows pack w h is_top_down plane stride) ≡ h * row_stride w (pack_bits pack)
unfolding stored_rows
length-stored_rows pack ok w h is_top_down plane stride =
    length-cat (row_at pack w h is_top_down plane stride) (row_stride w (pack_bits pack)) h (λ s l. length_row_at pack ok w h is_top_down plane stride s)

-- ---- the loops over all rows

-- what holds before the stored row y, each of `stored` bytes: the rows before it stand in the buffer from `at` on, and their starts are noted
abbrev pub SoFar : (ℕ → List ℕ) → ℕ → ℕ → ℕ → List ℕ → List ℕ → List ℕ → List ℕ → ℕ → Type 0
SoFar row stored at origin dst₀ starts₀ dst starts y = (dst ≡ put dst₀ at (cat row y)) × (starts ≡ noted (λ s. at - origin + s * stored) starts₀ y)

-- the next row has room
pub row_room : (stored at h y n m : ℕ) → y < h → at + stored * h ≤ n → m ≡ n → at + y * stored + stored ≤ m
row_room stored at h y n m k g e = omega (arith, mul_comm stored h, suc-mul y stored, mul-le-mul_right stored k)

module _ (row : ℕ → List ℕ) (stored at origin : ℕ) (dst₀ starts₀ : List ℕ) where
  pub rows_start : SoFar row stored at origin dst₀ starts₀ dst₀ starts₀ 0
  rows_start = (no_cells row dst₀ at, noted_start (λ s. at - origin + s * stored) starts₀)

  module _ (dst starts : List ℕ) (y : ℕ) (so_far : SoFar row stored at origin dst₀ starts₀ dst starts y) where
    -- one row more
    pub rows_turn : (later_dst later_starts : List ℕ) (h : ℕ) → ((s : ℕ) → length (row s) ≡ stored) → origin ≤ at → y < h → at + stored * h ≤ length dst₀
        → later_dst ≡ put dst (at + y * stored) (row y) → later_starts ≡ set starts y (at + y * stored - origin)
        → SoFar row stored at origin dst₀ starts₀ later_dst later_starts (y + 1)
    rows_turn later_dst later_starts h size k l g e f =
        let room = row_room stored at h y (length dst₀) (length dst₀) l g refl in (
          put_cell dst₀ dst later_dst at stored y (y + 1) (at + y * stored) row size so_far.0 e refl refl (omega arith),
          noted_turn (λ s. at - origin + s * stored) starts₀ starts later_starts y (at + y * stored - origin) so_far.1 (omega arith) f,
        )

    -- and all rows
    pub rows_end : (h : ℕ) → y ≡ h → (dst ≡ put dst₀ at (cat row h)) × (starts ≡ noted (λ s. at - origin + s * stored) starts₀ h)
    rows_end h l = (all_put row dst₀ dst at y h l so_far.0, noted_end (λ s. at - origin + s * stored) starts₀ starts y h l so_far.1)

-- ---- rows that are stored as they are

-- such a row at a place, and zeros after it
abbrev pub copy_at : ℕ → ℕ → ℕ → Bool → List ℕ → ℕ → ℕ → List ℕ
copy_at stored bytes h is_top_down plane stride s = padded stored (source_row plane stride bytes (row_of is_top_down h s))

pub length_copy_at : (stored bytes h : ℕ) (is_top_down : Bool) (plane : List ℕ) (stride s : ℕ) → bytes ≤ stored → length (copy_at stored bytes h is_top_down plane stride s) ≡ stored
length_copy_at stored bytes h is_top_down plane stride s fits = length-padded stored (source_row plane stride bytes (row_of is_top_down h s)) (simp length-take (omega arith))

-- a source row is as long as its pixels
pub length_source : (plane : List ℕ) (stride n h y : ℕ) → n ≤ stride → stride * h ≤ length plane → y < h → length (source_row plane stride n y) ≡ n
length_source plane stride n h y inside long l =
    length-take-le n (drop (y * stride) plane)
    (omega (arith, length-drop (y * stride) plane, row_within y h stride n 1 1 (length plane) l refl (omega arith) long))

-- it fits the stored row
pub copied_fits : (pack : RowPack) → is_copied pack ≡ true → (w : ℕ) → w * pack_bytes pack ≤ row_stride w (pack_bits pack)
unfolding row_stride
copied_fits (Bgra32 bgr) e w = omega arith
copied_fits (Bgr24 bgr) e w = omega arith
copied_fits Words16 e w = omega arith
copied_fits (Indexed bpp) e w = rw (eqb-true bpp 8 e) (omega arith)
copied_fits (Masks n bgr layout) e w = absurd (false≢true e)

-- where its kind is stored as it is, that is the stored row
pub copied_row : (pack : RowPack) → is_copied pack ≡ true → (w : ℕ) (row : List ℕ) → ((i : ℕ) → get_or row i 0 < 256) → length row ≡ w * pack_bytes pack
    → padded (row_stride w (pack_bits pack)) row ≡ stored_row pack w row
unfolding stored_row row_stride
copied_row (Bgra32 true) e w row small size = ap (padded (row_stride w 32)) (copied32 row w size)
copied_row (Bgra32 false) e w row small size = absurd (false≢true e)
copied_row (Bgr24 true) e w row small size = ap (padded (row_stride w 24)) (copied24 row w size)
copied_row (Bgr24 false) e w row small size = absurd (false≢true e)
copied_row Words16 e w row small size = refl
copied_row (Indexed bpp) e w row small size =
    let eight : bpp ≡ 8 = eqb-true bpp 8 e in
    rw eight (sym (packed_8 row (row_stride w 8) small (omega arith)))
copied_row (Masks n bgr layout) e w row small size = absurd (false≢true e)

-- so a copy of it writes that
pub copied_gives : (pack : RowPack) → is_copied pack ≡ true → (w at stored : ℕ) (row d x : List ℕ) → ((i : ℕ) → get_or row i 0 < 256) → length row ≡ w * pack_bytes pack
    → stored ≡ row_stride w (pack_bits pack) → x ≡ put d at (padded stored row) → x ≡ put d at (stored_row pack w row)
copied_gives pack e w at stored row d x small size strides is = is ∙ ap (put d at) (ap (λ (n : ℕ). padded n row) strides ∙ copied_row pack e w row small size)

-- and copies of all rows are the stored rows
pub copied_rows : (pack : RowPack) → is_copied pack ≡ true → (w h stride n stored : ℕ) (is_top_down : Bool) (plane : List ℕ) → ((i : ℕ) → get_or plane i 0 < 256)
    → n ≡ w * pack_bytes pack → stored ≡ row_stride w (pack_bits pack) → w * pack_bytes pack ≤ stride → stride * h ≤ length plane
    → cat (copy_at stored n h is_top_down plane stride) h ≡ stored_rows pack w h is_top_down plane stride
unfolding stored_rows
copied_rows pack e w h stride n stored is_top_down plane small bytes size fits all =
    rw (bytes, size)
    (cat_ext (copy_at (row_stride w (pack_bits pack)) (w * pack_bytes pack) h is_top_down plane stride) (row_at pack w h is_top_down plane stride) h (λ s l.
    copied_row pack e w (source_row plane stride (w * pack_bytes pack) (row_of is_top_down h s)) (part_small plane (row_of is_top_down h s * stride) (w * pack_bytes pack) 256 (omega arith) small)
    (length_source plane stride (w * pack_bytes pack) h (row_of is_top_down h s) fits all (row_of_below is_top_down h s l))))
