-- Laws of the file that hold of every accepted call.
use mathlib.Core.Path.{◌≡◌, refl, sym, ap, ◌∙◌, subst}
use mathlib.Core.Bool.{Bool, true, false, false≢true, cond}
use mathlib.Core.List.{List, [], ◌∷◌, ◌++◌}
use Prim.Native.Nat.{ℕ, zero, suc, ◌+◌, ◌-◌, ◌*◌, ◌/◌, ◌≤◌, ◌<◌, max}
use native.Mathlib.Nat.{mod-lt}
use native.Mathlib.Omega.{arith}
use borrow.Author.Tests.{lt-ltb, leb-false}
use lib.Dec.{eqb, leb}
use lib.ListN.{length, get_or, replicate}
use Rattle.leaves.specs.declared.encoder.EncodeSource.{EncodeSource}
use Rattle.leaves.specs.declared.options.EncodeOptions.{EncodeOptions}
use Rattle.leaves.specs.declared.image.BmpPixelFormat.{BmpPixelFormat}
use Rattle.rows.specs.declared.masks.MaskLayout.{MaskLayout}
use Rattle.rows.specs.declared.pack.RowPack.{RowPack}
use Rattle.rows.specs.declared.pack.RowPack.TheVariants.{Bgra32, Bgr24, Words16, Indexed, Masks}
use Rattle.rows.specs.declared.blocks.Block.{Block}
use Rattle.rows.specs.declared.blocks.Block.TheVariants.{Pair, Absolute}
use Rattle.leaves.specs.Bytes.{le16, le32}
use Rattle.format.specs.File.{mode_in, pack_in, rle_planned, raw_bytes, entries_of, head_bytes_of, tail_of, stream_of, limit_in, budget, stream_used, stored_rows_of, pixels, table_entry, colour_table, file_size_of, file_of, plain_size_of, bound_of}
use Rattle.format.specs.Layout.{is_profiled, tail_in, mask_tail, head_rest, coded}
use Rattle.leaves.specs.Formats.{bits_per_pixel, is_rgb565}
use Rattle.format.specs.declared.layout.Mode.{Mode}
use Rattle.format.specs.declared.layout.Mode.TheVariants.{Masked, Calibrated, Profiled, Plain}
use Rattle.format.proofs.Modes.{coded_cases, planned_in, no_tail, used_in}
use Rattle.format.proofs.FileSizes.{pack_ok, length_rows_lem}
use Rattle.format.proofs.HeadFields.{dword_bytes, first_part, rest_part, file_parts, length_file}
use Rattle.leaves.specs.Lists.{tab, cat}
use Rattle.rows.specs.Packing.{packed_byte_of, packed}
use Rattle.rows.specs.RleCodes.{width, block, bytes, codes, row_codes}
use Rattle.rows.specs.StoredRows.{padded, cell24, cell32, mask_cell, stored_row, stored_rows, PackOk, pack_bytes, row_of, source_row}
use Rattle.rows.specs.Stream.{end_mark, stream_row, stream}
use Rattle.format.specs.Accepted.{Accepted}
use Rattle.format.specs.Headers.{dwords, file_header, info_header, v4_fields, v5_fields}
use Rattle.format.specs.Input.{Input}
use Rattle.format.specs.Readers.{word_at, dword_at}
use Rattle.rows.proofs.PackLaws.{Depth, depth, digits_byte}
use Rattle.rows.proofs.RleBlocks.{block_sound}
use Rattle.format.proofs.SourceRows.{source_small}

-- ---- the size

-- bfSize of any file header, whatever follows it
size-at : (size off : ℕ) (more rest : List ℕ) → size < 4294967296 → dword_at ((file_header size off ++ more) ++ rest) 2 ≡ size
unfolding file_header le32 le16 dword_at word_at
size-at size off more rest h = dword_bytes size h

-- bfSize is the file's length
pub size-field : (i : Input) → Accepted i → dword_at (file_of (limit_in i) i) 2 ≡ length (file_of (limit_in i) i)
size-field i a =
    ap (λ (file : List ℕ). dword_at file 2) (file_parts i)
    ∙ size-at (file_size_of (limit_in i) i) (head_bytes_of i) _ _ (omega (arith, a.fits, a.limited))
    ∙ sym (length_file i)

-- ---- the stream

-- a planned stream is used exactly if it is under the budget
pub stream_used_under_budget : (i : Input) → rle_planned i ≡ true
    → (stream_used (limit_in i) i ≡ true → length (stream_of i) < budget (limit_in i) i) × (length (stream_of i) < budget (limit_in i) i → stream_used (limit_in i) i ≡ true)
unfolding stream_used
stream_used_under_budget i e = (
  λ u. (used_in (limit_in i) i u).under,
  λ l. rw (e, lt-ltb (length (stream_of i)) (budget (limit_in i) i) l),
)

-- ---- the bound

-- no stream is used that is not planned
unplanned : (i : Input) → rle_planned i ≡ false → stream_used (limit_in i) i ≡ false
unfolding stream_used
unplanned i e = rw e

-- a file is no longer than its bound
pub file_within_bound : (i : Input) → Accepted i → file_size_of (limit_in i) i ≤ bound_of (limit_in i) i
unfolding file_size_of pixels plain_size_of bound_of
file_within_bound i a = go (rle_planned i) (stream_used (limit_in i) i) (leb (plain_size_of i) (limit_in i)) refl refl refl a.fits
  where
    rows : length (stored_rows_of i) ≡ raw_bytes i
    rows = length_rows_lem i a.masks a.samples

    go : (p s f : Bool) → rle_planned i ≡ p → stream_used (limit_in i) i ≡ s → leb (plain_size_of i) (limit_in i) ≡ f
        → head_bytes_of i + length (cond s (stream_of i) (stored_rows_of i)) + length (tail_of i) ≤ limit_in i
        → head_bytes_of i + length (cond s (stream_of i) (stored_rows_of i)) + length (tail_of i)
        ≤ cond p (head_bytes_of i + max (budget (limit_in i) i + 2 * i.source.width + 2) (cond f (raw_bytes i) 0)) (plain_size_of i)
    go false true f e u l fits = absurd (false≢true (sym (unplanned i e) ∙ u))
    go false false f e u l fits = omega (arith, rows)
    go true true f e u l fits = omega (arith, (stream_used_under_budget i e).0 u, no_tail i (planned_in i e))
    go true false true e u l fits = omega (arith, rows, no_tail i (planned_in i e))
    go true false false e u l fits = omega (arith, rows, leb-false (plain_size_of i) (limit_in i) l)

-- ---- bytes

-- every number of a list is a byte
record Bytes (xs : List ℕ) : Type 0 where
  each : (k : ℕ) → get_or xs k 0 < 256

none : Bytes []
none = record { each = λ k. omega arith }

more : (x : ℕ) (xs : List ℕ) → x < 256 → Bytes xs → Bytes (x ∷ xs)
more x xs h b = record { each = go }
  where
    go : (k : ℕ) → get_or (x ∷ xs) k 0 < 256
    go zero = h
    go (suc k) = b.each k

joined : {xs ys : List ℕ} → Bytes xs → Bytes ys → Bytes (xs ++ ys)
joined {xs} {ys} a b = record { each = go xs a.each }
  where
    go : (zs : List ℕ) → ((k : ℕ) → get_or zs k 0 < 256) → (k : ℕ) → get_or (zs ++ ys) k 0 < 256
    go [] h k = b.each k
    go (z ∷ zs) h zero = h 0
    go (z ∷ zs) h (suc k) = go zs (λ j. h (suc j)) k

-- lists of bytes joined, and bytes by places
cat-bytes : (f : ℕ → List ℕ) (n : ℕ) → ((k : ℕ) → Bytes (f k)) → Bytes (cat f n)
unfolding cat
cat-bytes f zero h = none
cat-bytes f (suc n) h = joined (cat-bytes f n h) (h n)

tab-bytes : (f : ℕ → ℕ) (n : ℕ) → ((k : ℕ) → f k < 256) → Bytes (tab f n)
unfolding tab
tab-bytes f zero h = none
tab-bytes f (suc n) h = joined (tab-bytes f n h) (more (f n) [] (h n) none)

zeros : (n : ℕ) → Bytes (replicate n 0)
zeros zero = none
zeros (suc n) = more 0 (replicate n 0) (omega arith) (zeros n)

either : (b : Bool) (xs ys : List ℕ) → Bytes xs → Bytes ys → Bytes (cond b xs ys)
either true xs ys h k = h
either false xs ys h k = k

-- numbers are written as bytes, whatever their size
word : (v : ℕ) → Bytes (le16 v)
unfolding le16
word v = more _ _ (mod-lt v (omega arith)) (more _ _ (mod-lt (v / 256) (omega arith)) none)

dword : (v : ℕ) → Bytes (le32 v)
unfolding le32
dword v =
    more _ _ (mod-lt v (omega arith))
    (more _ _ (mod-lt (v / 256) (omega arith))
    (more _ _ (mod-lt (v / 256 / 256) (omega arith)) (more _ _ (mod-lt (v / 256 / 256 / 256) (omega arith)) none)))

dwords-bytes : (vs : List ℕ) → Bytes (dwords vs)
unfolding dwords
dwords-bytes [] = none
dwords-bytes (v ∷ vs) = joined (dword v) (dwords-bytes vs)

-- ---- bytes of the head

file_header_lem : (size off : ℕ) → Bytes (file_header size off)
unfolding file_header
file_header_lem size off = joined (joined (joined (joined (word 0x4D42) (dword size)) (word 0)) (word 0)) (dword off)

info_header_lem : (hs w h d c im x y n : ℕ) → Bytes (info_header hs w h d c im x y n)
unfolding info_header
info_header_lem hs w h d c im x y n =
    let sizes = joined (joined (dword hs) (dword w)) (dword h) in
    let kinds = joined (joined (joined sizes (word 1)) (word d)) (dword c) in
    joined (joined (joined (joined (joined kinds (dword im)) (dword x)) (dword y)) (dword n)) (dword 0)

v4_bytes : (masks : List ℕ) (space : ℕ) (endpoints gammas : List ℕ) → Bytes (v4_fields masks space endpoints gammas)
unfolding v4_fields
v4_bytes masks space endpoints gammas = joined (joined (joined (dwords-bytes masks) (dword space)) (dwords-bytes endpoints)) (dwords-bytes gammas)

v5_bytes : (intent at size : ℕ) → Bytes (v5_fields intent at size)
unfolding v5_fields
v5_bytes intent at size = joined (joined (joined (dword intent) (dword at)) (dword size)) (dword 0)

rest_bytes_lem : (mode : Mode) (s : EncodeSource) (o : EncodeOptions) (n at : ℕ) → Bytes (head_rest mode s o n at)
unfolding head_rest mask_tail
rest_bytes_lem Masked s o n at = dwords-bytes _
rest_bytes_lem Calibrated s o n at = v4_bytes _ _ _ _
rest_bytes_lem Profiled s o n at = joined (v4_bytes _ _ _ _) (v5_bytes _ _ _)
rest_bytes_lem Plain s o n at = either (is_rgb565 s.format) _ _ (v4_bytes _ _ _ _) none

-- the table has the palette's bytes and zeros
table_bytes : (i : Input) → Accepted i → Bytes (colour_table i)
unfolding colour_table table_entry
table_bytes i a =
    cat-bytes (table_entry i.palette) (entries_of i)
    (λ k. more _ _ (a.palette_bytes_is (k * 4 + 2)) (more _ _ (a.palette_bytes_is (k * 4 + 1)) (more _ _ (a.palette_bytes_is (k * 4)) (more 0 [] (omega arith) none))))

-- ---- bytes of stored rows

-- the cells of a byte have 8 bits together
packed_byte : {d : ℕ} → Depth d → (cell : ℕ → ℕ) (k : ℕ) → packed_byte_of d cell k < 256
unfolding packed_byte_of
packed_byte {d} q cell k = digits_byte q _ (8 / d) (omega arith)

packed-bytes : {d : ℕ} → Depth d → (xs : List ℕ) (n : ℕ) → Bytes (packed d xs n)
unfolding packed
packed-bytes q xs n = tab-bytes _ n (packed_byte q _)

padded-bytes : (n : ℕ) (xs : List ℕ) → Bytes xs → Bytes (padded n xs)
unfolding padded
padded-bytes n xs h = joined h (zeros (n - length xs))

cell24-bytes : (bgr : Bool) (row : List ℕ) (x : ℕ) → Bytes row → Bytes (cell24 bgr row x)
unfolding cell24
cell24-bytes bgr row x h = more _ _ (h.each _) (more _ _ (h.each _) (more _ _ (h.each _) none))

cell32-bytes : (bgr : Bool) (row : List ℕ) (x : ℕ) → Bytes row → Bytes (cell32 bgr row x)
unfolding cell32
cell32-bytes bgr row x h = more _ _ (h.each _) (more _ _ (h.each _) (more _ _ (h.each _) (more _ _ (h.each _) none)))

mask_bytes : (layout : MaskLayout) (n : ℕ) (bgr : Bool) (row : List ℕ) (x : ℕ) → Bytes (mask_cell layout n bgr row x)
unfolding mask_cell
mask_bytes layout n bgr row x = either (eqb layout.bpp 16) _ _ (word _) (dword _)

-- a source row of bytes is stored as bytes
row_bytes_lem : (p : RowPack) → PackOk p → (w : ℕ) (row : List ℕ) → Bytes row → Bytes (stored_row p w row)
unfolding stored_row
row_bytes_lem (Bgra32 bgr) ok w row h = padded-bytes _ _ (cat-bytes _ w (λ x. cell32-bytes bgr row x h))
row_bytes_lem (Bgr24 bgr) ok w row h = padded-bytes _ _ (cat-bytes _ w (λ x. cell24-bytes bgr row x h))
row_bytes_lem Words16 ok w row h = padded-bytes _ _ h
row_bytes_lem (Indexed bpp) ok w row h = packed-bytes (depth bpp ok) row _
row_bytes_lem (Masks n bgr layout) ok w row h = padded-bytes _ _ (cat-bytes _ w (λ x. mask_bytes layout n bgr row x))

rows_bytes : (i : Input) → Accepted i → Bytes (stored_rows_of i)
unfolding stored_rows_of stored_rows
rows_bytes i a =
    let ok = (pack_ok i a.masks a.samples).0 in
    let w = i.source.width in
    let h = i.source.height in
    let p = pack_in i in
    let row : ℕ → List ℕ = λ s. source_row i.plane i.source.stride (w * pack_bytes p) (row_of i.options.top_down h s) in
    let small : (s : ℕ) → Bytes (row s) =
    λ s. record { each = source_small i.plane i.source.stride (w * pack_bytes p) (row_of i.options.top_down h s) a.plane_bytes_is } in
    cat-bytes (λ s. stored_row p w (row s)) h (λ s. row_bytes_lem p ok w (row s) (small s))

-- ---- bytes of a stream

-- a block's count is at most 255
block-bytes : {d : ℕ} → Depth d → (b : Block) (xs : List ℕ) → width b ≤ 255 → Bytes (bytes d b xs)
unfolding bytes
block-bytes q (Pair n v w) xs h = more n _ (omega (arith, h)) (more _ [] (packed_byte q _ 0) none)
block-bytes q (Absolute n) xs h = more 0 _ (omega arith) (more n _ (omega (arith, h)) (packed-bytes q _ _))

codes-bytes : {d : ℕ} → Depth d → (s : ℕ) (xs : List ℕ) → Bytes (codes d s xs)
unfolding codes
codes-bytes q s [] = none
codes-bytes q (suc s) (x ∷ xs) = codes-bytes q s xs
codes-bytes {d} q zero (x ∷ xs) =
    joined (block-bytes q (block x xs) (x ∷ xs) (block_sound d q.small x xs).most) (codes-bytes q (width (block x xs) - 1) xs)

end_lt : (h s : ℕ) → end_mark h s < 256
end_lt h s = go (eqb (s + 1) h)
  where
    go : (b : Bool) → cond b 1 0 < 256
    go true = omega arith
    go false = omega arith

stream-bytes : {d : ℕ} → Depth d → (w h : ℕ) (plane : List ℕ) (stride : ℕ) → Bytes (stream d w h plane stride)
unfolding stream stream_row row_codes
stream-bytes q w h plane stride = cat-bytes _ h (λ s. joined (codes-bytes q 0 _) (more 0 _ (omega arith) (more _ [] (end_lt h s) none)))

-- the depths that are coded
coded_depth : (f : BmpPixelFormat) → coded f ≡ true → Depth (bits_per_pixel f)
coded_depth = coded_cases (λ (f : BmpPixelFormat). Depth (bits_per_pixel f)) (depth 8 refl) (depth 4 refl)

pixel_bytes_lem : (i : Input) → Accepted i → Bytes (pixels (limit_in i) i)
unfolding pixels stream_of
pixel_bytes_lem i a = go (stream_used (limit_in i) i) refl
  where
    go : (b : Bool) → stream_used (limit_in i) i ≡ b → Bytes (cond b (stream_of i) (stored_rows_of i))
    go true e = stream-bytes (coded_depth i.source.format (used_in (limit_in i) i e).planned.source) _ _ _ _
    go false e = rows_bytes i a

tail-bytes : (mode : Mode) (given : Bool) (icc linked : List ℕ) → Bytes icc → Bytes linked → Bytes (tail_in mode given icc linked)
unfolding tail_in
tail-bytes mode given icc linked a b = either (is_profiled mode) _ _ (either given linked icc b a) none

-- every number of the file is a byte, if the profiles' are
pub file_bytes : (i : Input) → Accepted i → ((k : ℕ) → get_or i.icc k 0 < 256) → ((k : ℕ) → get_or i.linked k 0 < 256) → (k : ℕ) → get_or (file_of (limit_in i) i) k 0 < 256
file_bytes i a icc linked =
    let all : Bytes (first_part i (file_size_of (limit_in i) i) ++ (rest_part i ++ (colour_table i ++ (pixels (limit_in i) i ++ tail_of i)))) =
    joined (joined (file_header_lem _ _) (info_header_lem _ _ _ _ _ _ _ _ _))
    (joined (rest_bytes_lem (mode_in i) i.source i.options _ _) (joined (table_bytes i a) (joined (pixel_bytes_lem i a) (tail-bytes (mode_in i) _ _ _ (record { each = icc }) (record { each = linked }))))) in
    (subst Bytes (sym (file_parts i)) all).each
