-- What a reader shows of a stored row in mask mode is what must be shown.
use mathlib.Core.Path.{◌≡◌, refl, sym, ap, ◌∙◌, subst}
use mathlib.Core.Bool.{Bool, true, false, true≢false, not, cond}
use mathlib.Core.Logic.{◌⊎◌, inl, inr}
use mathlib.Core.List.{List, [], ◌∷◌, ◌++◌}
use Prim.Native.Nat.{ℕ, zero, suc, ◌+◌, ◌*◌, ◌/◌, ◌^◌, ◌<◌}
use native.Mathlib.Omega.{arith}
use borrow.Author.Tests.{eq-eqb}
use lib.Count.{ones_in}
use lib.Dec.{eqb}
use lib.ListN.{length, get_or}
use Rattle.leaves.specs.declared.image.BmpPixelFormat.{BmpPixelFormat}
use Rattle.leaves.specs.declared.image.BmpPixelFormat.TheVariants.{Rgba, Rgb24, Bgra, Bgr24, Rgb555, Rgb565, Pal8, Indexed4, Indexed2, Indexed1}
use Rattle.rows.specs.declared.masks.MaskLayout.{MaskLayout}
use Rattle.rows.specs.declared.pack.RowPack.TheVariants.{Masks}
use Rattle.leaves.specs.Bytes.{le16, le32}
use Rattle.leaves.specs.Fit.{fit}
use Rattle.format.specs.Layout.{channels_of}
use Rattle.leaves.specs.Formats.{bytes_per_pixel, blue_first, mask_source}
use Rattle.leaves.specs.Lists.{cat}
use Rattle.leaves.specs.Masks.{has_alpha_mask, mask_compression}
use Rattle.leaves.specs.Sizes.{row_stride}
use Rattle.rows.specs.StoredRows.{padded, red_in, green_in, blue_in, alpha_in, mask_word, mask_cell as cell_bytes, stored_row}
use Rattle.format.specs.Accepted.{MasksAccepted}
use Rattle.format.specs.Expectation.{pixel_bytes, fitted, fitted_shown}
use Rattle.format.specs.Readers.{word_at, dword_at, cell_word, channel, mask_cell}
use Rattle.leaves.proofs.ListLaws.{from_le16, from_le32}
use Rattle.rows.proofs.MaskCells.{length-mask_cell, cell32}
use Rattle.format.proofs.Channels.{joined, field_at, channel_shown, word_lt}
use Rattle.format.proofs.SourceRows.{cells_at}

-- ---- a cell's bytes in a stored row

-- byte k of cell x, of cells of s bytes each, whatever follows the cells
byte_at : (f : ℕ → List ℕ) (rest : List ℕ) (s w n x k q : ℕ) → ((i : ℕ) → length (f i) ≡ s) → x < w → k < s → q ≡ x * s + k
    → get_or (padded n (cat f w) ++ rest) q 0 ≡ get_or (f x) k 0
byte_at f rest s w n x k q all l h e = ap (λ (z : ℕ). get_or (padded n (cat f w) ++ rest) z 0) e ∙ cells_at f s n w rest x k all l h

-- the word of a cell is read as it was written: of 16 bits
word16 : (f : ℕ → List ℕ) (rest : List ℕ) (w n x v : ℕ) → ((i : ℕ) → length (f i) ≡ 2) → f x ≡ le16 v → v < 65536 → x < w
    → cell_word 16 (padded n (cat f w) ++ rest) x ≡ v
unfolding cell_word word_at
word16 f rest w n x v all e h l =
    let byte : (k q : ℕ) → k < 2 → q ≡ x * 2 + k → get_or (padded n (cat f w) ++ rest) q 0 ≡ get_or (f x) k 0 = λ k q. byte_at f rest 2 w n x k q all l in
    rw (byte 0 (x * 16 / 8) (omega arith) (omega arith), byte 1 (x * 16 / 8 + 1) (omega arith) (omega arith), e) (from_le16 v h)

-- and of 32
word32 : (f : ℕ → List ℕ) (rest : List ℕ) (w n x v : ℕ) → ((i : ℕ) → length (f i) ≡ 4) → f x ≡ le32 v → v < 4294967296 → x < w
    → cell_word 32 (padded n (cat f w) ++ rest) x ≡ v
unfolding cell_word dword_at word_at
word32 f rest w n x v all e h l =
    let byte : (k q : ℕ) → k < 4 → q ≡ x * 4 + k → get_or (padded n (cat f w) ++ rest) q 0 ≡ get_or (f x) k 0 = λ k q. byte_at f rest 4 w n x k q all l in
    let at : ℕ = x * 32 / 8 in
    rw (
      byte 0 at (omega arith) (omega arith),
      byte 1 (at + 1) (omega arith) (omega arith),
      byte 2 (at + 2) (omega arith) (omega arith),
      byte 3 (at + 2 + 1) (omega arith) (omega arith),
      e,
    ) (omega (arith, from_le32 v h))

-- ---- the word

-- the samples of pixel x, in the masks' order
abbrev pub samples_in : ℕ → Bool → List ℕ → ℕ → List ℕ
samples_in n bgr row x = red_in n bgr row x ∷ green_in n row x ∷ blue_in n bgr row x ∷ alpha_in n row x ∷ []

-- the word that is written has the fields of the four
pub word_is : (d n : ℕ) (bgr : Bool) (masks row : List ℕ) (x : ℕ)
    → mask_word (channels_of d masks) n bgr row x ≡ joined (field_at masks (samples_in n bgr row x)) 4
unfolding channels_of mask_word joined
word_is d n bgr masks row x = refl

-- an alpha sample is a byte, missing or not
alpha_lt : (n : ℕ) (row : List ℕ) (x : ℕ) → ((k : ℕ) → get_or row k 0 < 256) → alpha_in n row x < 256
alpha_lt n row x h = go (eqb n 4)
  where
    go : (b : Bool) → cond b (get_or row (x * n + 3) 0) 255 < 256
    go true = h (x * n + 3)
    go false = omega arith

-- and so is each sample
pub sample-lt : (n : ℕ) (bgr : Bool) (row : List ℕ) (x : ℕ) → ((k : ℕ) → get_or row k 0 < 256) → (k : ℕ) → get_or (samples_in n bgr row x) k 0 < 256
sample-lt n bgr row x h zero = h (x * n + cond bgr 2 0)
sample-lt n bgr row x h (suc zero) = h (x * n + 1)
sample-lt n bgr row x h (suc (suc zero)) = h (x * n + cond bgr 0 2)
sample-lt n bgr row x h (suc (suc (suc zero))) = alpha_lt n row x h
sample-lt n bgr row x h (suc (suc (suc (suc k)))) = omega arith

-- a cell of 16 bits is written as its word
cell16 : (layout : MaskLayout) (n : ℕ) (bgr : Bool) (row : List ℕ) (x : ℕ) → layout.bpp ≡ 16 → cell_bytes layout n bgr row x ≡ le16 (mask_word layout n bgr row x)
unfolding cell_bytes
cell16 layout n bgr row x e = rw (eq-eqb layout.bpp 16 e)

-- the word that is read is the one that was written
word_read : (layout : MaskLayout) (n : ℕ) (bgr : Bool) (row rest : List ℕ) (w x : ℕ) → (layout.bpp ≡ 16) ⊎ (layout.bpp ≡ 32)
    → mask_word layout n bgr row x < 2 ^ layout.bpp → x < w → cell_word layout.bpp (stored_row (Masks n bgr layout) w row ++ rest) x ≡ mask_word layout n bgr row x
unfolding stored_row
word_read layout n bgr row rest w x (inl e) small l =
    let f = cell_bytes layout n bgr row in
    let v : ℕ = mask_word layout n bgr row x in
    ap (λ (z : ℕ). cell_word z (padded (row_stride w layout.bpp) (cat f w) ++ rest) x) e
    ∙ word16 f rest w (row_stride w layout.bpp) x v (λ i. length-mask_cell layout n bgr row (inl e) i ∙ omega arith)
    (cell16 layout n bgr row x e) (subst (λ (z : ℕ). v < 2 ^ z) e small) l
word_read layout n bgr row rest w x (inr e) small l =
    let f = cell_bytes layout n bgr row in
    let v : ℕ = mask_word layout n bgr row x in
    ap (λ (z : ℕ). cell_word z (padded (row_stride w layout.bpp) (cat f w) ++ rest) x) e
    ∙ word32 f rest w (row_stride w layout.bpp) x v (λ i. length-mask_cell layout n bgr row (inr e) i ∙ omega arith)
    (sym (cell32 layout n bgr row x v (λ g. omega arith) refl)) (subst (λ (z : ℕ). v < 2 ^ z) e small) l

-- ---- the cell

-- what is shown of a word whose channels are the fitted samples
shown_is : (file masks samples : List ℕ) (v : ℕ) → dword_at file 54 ≡ get_or masks 0 0 → dword_at file 58 ≡ get_or masks 1 0 → dword_at file 62 ≡ get_or masks 2 0
    → (has_alpha_mask masks ≡ true → dword_at file 66 ≡ get_or masks 3 0)
    → ((k : ℕ) → k < 4 → channel (get_or masks k 0) v ≡ fit (ones_in 32 (get_or masks k 0)) (get_or samples k 0))
    → mask_cell file (mask_compression masks) v ≡ fitted masks (get_or samples 0 0) (get_or samples 1 0) (get_or samples 2 0) (get_or samples 3 0)
unfolding mask_cell fitted
shown_is file masks samples v r g b a h = go (eqb (get_or masks 3 0) 0) refl
  where
    go : (t : Bool) → eqb (get_or masks 3 0) 0 ≡ t
        → mask_cell file (mask_compression masks) v ≡ fitted masks (get_or samples 0 0) (get_or samples 1 0) (get_or samples 2 0) (get_or samples 3 0)
    go true e = rw (e, r, g, b, h 0 (omega arith), h 1 (omega arith), h 2 (omega arith))
    go false e = rw (e, r, g, b, a (ap not e), h 0 (omega arith), h 1 (omega arith), h 2 (omega arith), h 3 (omega arith))

-- whatever the bytes of a pixel and their order
cell_shown_lem : (d n : ℕ) (bgr : Bool) (masks file row rest : List ℕ) (w x : ℕ) → MasksAccepted d masks → dword_at file 54 ≡ get_or masks 0 0
    → dword_at file 58 ≡ get_or masks 1 0 → dword_at file 62 ≡ get_or masks 2 0 → (has_alpha_mask masks ≡ true → dword_at file 66 ≡ get_or masks 3 0)
    → ((k : ℕ) → get_or row k 0 < 256) → x < w
    → mask_cell file (mask_compression masks) (cell_word d (stored_row (Masks n bgr (channels_of d masks)) w row ++ rest) x)
    ≡ fitted masks (red_in n bgr row x) (green_in n row x) (blue_in n bgr row x) (alpha_in n row x)
unfolding channels_of
cell_shown_lem d n bgr masks file row rest w x ok r g b a bytes l =
    let all = sample-lt n bgr row x bytes in
    let is = word_is d n bgr masks row x in
    let small : mask_word (channels_of d masks) n bgr row x < 2 ^ d = rw is (word_lt d masks (samples_in n bgr row x) ok all) in
    ap (mask_cell file (mask_compression masks)) (word_read (channels_of d masks) n bgr row rest w x ok.depths small l ∙ is)
    ∙ shown_is file masks (samples_in n bgr row x) (joined (field_at masks (samples_in n bgr row x)) 4) r g b a (channel_shown d masks (samples_in n bgr row x) ok all)

-- a masked cell shows the samples handed in, each fitted to its mask
pub masked_cell : (f : BmpPixelFormat) (d : ℕ) (masks file row rest : List ℕ) (w x : ℕ) → mask_source f ≡ false → MasksAccepted d masks
    → dword_at file 54 ≡ get_or masks 0 0 → dword_at file 58 ≡ get_or masks 1 0 → dword_at file 62 ≡ get_or masks 2 0
    → (has_alpha_mask masks ≡ true → dword_at file 66 ≡ get_or masks 3 0) → ((k : ℕ) → get_or row k 0 < 256) → x < w
    → mask_cell file (mask_compression masks) (cell_word d (stored_row (Masks (bytes_per_pixel f) (blue_first f) (channels_of d masks)) w row ++ rest) x)
    ≡ fitted_shown f masks (λ k. get_or row (x * pixel_bytes f + k) 0)
unfolding fitted_shown
masked_cell Rgba d masks file row rest w x _ ok r g b a bytes l = cell_shown_lem d 4 false masks file row rest w x ok r g b a bytes l
masked_cell Rgb24 d masks file row rest w x _ ok r g b a bytes l = cell_shown_lem d 3 false masks file row rest w x ok r g b a bytes l
masked_cell Bgra d masks file row rest w x _ ok r g b a bytes l = cell_shown_lem d 4 true masks file row rest w x ok r g b a bytes l
masked_cell Bgr24 d masks file row rest w x _ ok r g b a bytes l = cell_shown_lem d 3 true masks file row rest w x ok r g b a bytes l
masked_cell Rgb555 d masks file row rest w x e _ _ _ _ _ _ _ = absurd (true≢false e)
masked_cell Rgb565 d masks file row rest w x e _ _ _ _ _ _ _ = absurd (true≢false e)
masked_cell Pal8 d masks file row rest w x e _ _ _ _ _ _ _ = absurd (true≢false e)
masked_cell Indexed4 d masks file row rest w x e _ _ _ _ _ _ _ = absurd (true≢false e)
masked_cell Indexed2 d masks file row rest w x e _ _ _ _ _ _ _ = absurd (true≢false e)
masked_cell Indexed1 d masks file row rest w x e _ _ _ _ _ _ _ = absurd (true≢false e)
