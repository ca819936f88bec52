-- The stored rows of mask mode in the original's file and in the document's, with and without a wide channel.
use mathlib.Core.Path.{◌≡◌, refl, sym, ap, ◌∙◌, subst}
use mathlib.Core.Bool.{Bool, true, false, true≢false, cond, ◌&&◌, ◌||◌}
use mathlib.Core.Logic.{◌⊎◌, inl, inr}
use mathlib.Core.List.{List, ◌++◌}
use Prim.Native.Nat.{ℕ, zero, suc, ◌^◌, ◌<◌}
use native.Mathlib.Omega.{arith}
use lib.Dec.{eqb}
use lib.ListN.{length, get_or}
use Rattle.std.proofs.Common.{is_some}
use Rattle.leaves.specs.declared.image.BmpPixelFormat.{BmpPixelFormat}
use Rattle.leaves.specs.declared.image.BmpPixelFormat.TheVariants.{Rgba, Rgb24, Bgra, Bgr24, Rgb555, Rgb565, Pal8, Indexed4, Indexed2, Indexed1}
use Rattle.leaves.specs.Bytes.{le16, le32, length-le32}
use Rattle.leaves.specs.Formats.{bytes_per_pixel, blue_first}
use Rattle.leaves.specs.Lists.{cat}
use Rattle.leaves.specs.Sizes.{row_stride}
use Rattle.leaves.proofs.ListLaws.{cat_ext, length-cat}
use Rattle.leaves.proofs.Runs.{count-le}
use Rattle.leaves.specs.Options.{bitfields_in}
use Rattle.rows.specs.declared.pack.RowPack.TheVariants.{Masks}
use Rattle.rows.specs.StoredRows.{padded, mask_word, mask_cell, stored_row, stored_rows}
use Rattle.rows.proofs.PackLaws.{padded_full}
use Rattle.format.specs.Accepted.{MasksAccepted}
use Rattle.format.specs.File.{pack_in, stored_rows_of}
use Rattle.format.specs.Input.{Input}
use Rattle.format.specs.Layout.{channels_of, plain_pack, mask_pack, pack_of}
use Rattle.format.proofs.Acceptance.{Checked}
use Rattle.format.proofs.Channels.{joined}
use Rattle.format.proofs.MaskedCells.{samples_in, word_is, sample-lt}
use Rattle.format.proofs.Modes.{both}
use Rattle.reference.specs.Compared.{is_wide, refitted_word, refitted_words, any_wide, Typed}
use Rattle.reference.proofs.Original.{original_word, original_cell, original_row, row_in, original_rows}
use Rattle.reference.proofs.SourceLaws.{row_small}
use Rattle.reference.proofs.WideChannels.{wide_ones, word-refitted, original_small, none_refitted, first_word, cat-refitted, all_refitted}

-- words of 32 bits have no padding behind them
unpadded : (w : ℕ) (f : ℕ → List ℕ) → ((x : ℕ) → length (f x) ≡ 4) → padded (row_stride w 32) (cat f w) ≡ cat f w
unfolding row_stride
unpadded w f four = padded_full (row_stride w 32) (cat f w) (omega (arith, length-cat f 4 w (λ x _. four x)))

-- ---- a row

-- without masks they are the same
plain-same : (f : BmpPixelFormat) (w : ℕ) (row : List ℕ) → original_row (plain_pack f) w row ≡ stored_row (plain_pack f) w row
unfolding original_row
plain-same Rgba w row = refl
plain-same Rgb24 w row = refl
plain-same Bgra w row = refl
plain-same Bgr24 w row = refl
plain-same Rgb555 w row = refl
plain-same Rgb565 w row = refl
plain-same Pal8 w row = refl
plain-same Indexed4 w row = refl
plain-same Indexed2 w row = refl
plain-same Indexed1 w row = refl

module _ (masks : List ℕ) (n : ℕ) (bgr : Bool) (row : List ℕ) (small : (k : ℕ) → get_or row k 0 < 256) where
  -- the word of a pixel in mask mode
  word_same : (d : ℕ) → MasksAccepted d masks → (x : ℕ)
      → refitted_word masks (original_word (channels_of d masks) n bgr row x) ≡ mask_word (channels_of d masks) n bgr row x
  unfolding original_word channels_of joined
  word_same d ok x = word-refitted d masks (samples_in n bgr row x) ok (sample-lt n bgr row x small) ∙ sym (word_is d n bgr masks row x)

  -- where no channel is wide
  narrow_row : (d : ℕ) → MasksAccepted d masks → ((k : ℕ) → k < 4 → is_wide (get_or masks k 0) ≡ false) → (w : ℕ)
      → original_row (Masks n bgr (channels_of d masks)) w row ≡ stored_row (Masks n bgr (channels_of d masks)) w row
  unfolding original_row stored_row original_cell mask_cell
  narrow_row d ok narrow w =
      ap (padded (row_stride w (channels_of d masks).bpp))
      (cat_ext _ _ w (λ x _. ap (λ (v : ℕ). cond (eqb (channels_of d masks).bpp 16) (le16 v) (le32 v)) (sym (none_refitted masks _ narrow) ∙ word_same d ok x)))

  -- and where one is, the pixels are words of 32 bits
  module _ (ok : MasksAccepted 32 masks) where
    word_lt : (x : ℕ) → original_word (channels_of 32 masks) n bgr row x < 4294967296
    unfolding original_word channels_of joined
    word_lt x = original_small 32 masks (samples_in n bgr row x) ok (sample-lt n bgr row x small)

    cell_refitted : (x : ℕ) (rest : List ℕ) → refitted_words masks (original_cell (channels_of 32 masks) n bgr row x ++ rest) ≡ mask_cell (channels_of 32 masks) n bgr row x ++ refitted_words masks rest
    unfolding original_cell mask_cell channels_of
    cell_refitted x rest = first_word masks _ rest (word_lt x) ∙ ap (λ (v : ℕ). le32 v ++ refitted_words masks rest) (word_same 32 ok x)

    wide_row : (w : ℕ) (rest : List ℕ)
        → refitted_words masks (original_row (Masks n bgr (channels_of 32 masks)) w row ++ rest) ≡ stored_row (Masks n bgr (channels_of 32 masks)) w row ++ refitted_words masks rest
    unfolding original_row stored_row original_cell mask_cell channels_of
    wide_row w rest =
        ap (λ (z : List ℕ). refitted_words masks (z ++ rest)) (unpadded w _ (λ x. length-le32 _))
        ∙ cat-refitted masks _ _ cell_refitted w rest
        ∙ ap (λ (z : List ℕ). z ++ refitted_words masks rest) (sym (unpadded w _ (λ x. length-le32 _)))

-- ---- the masks

-- a channel of more than 16 bits has a word of 32
wide_depth : (d : ℕ) (masks : List ℕ) → MasksAccepted d masks → (k : ℕ) → k < 4 → is_wide (get_or masks k 0) ≡ true → d ≡ 32
wide_depth d masks ok k l e = go ok.depths
  where
    go : (d ≡ 16) ⊎ (d ≡ 32) → d ≡ 32
    go (inl f) = absurd (omega (arith, count-le 16 (get_or masks k 0) (omega arith) (subst (λ (z : ℕ). get_or masks k 0 < 2 ^ z) f (ok.inside k l)), wide_ones (get_or masks k 0) e))
    go (inr f) = f

-- one of four
some_of : {P : Type 0} (a b c e : Bool) → (a ≡ true → P) → (b ≡ true → P) → (c ≡ true → P) → (e ≡ true → P) → (a || b || c || e) ≡ true → P
some_of true b c e f g h j t = f refl
some_of false true c e f g h j t = g refl
some_of false false true e f g h j t = h refl
some_of false false false e f g h j t = j t

-- or none
none_of : (wide : ℕ → Bool) → (wide 0 || wide 1 || wide 2 || wide 3) ≡ false → (k : ℕ) → k < 4 → wide k ≡ false
none_of wide h k l = go (wide 0) (wide 1) (wide 2) (wide 3) h k l refl refl refl refl
  where
    go : (a b c e : Bool) → (a || b || c || e) ≡ false → (k : ℕ) → k < 4 → wide 0 ≡ a → wide 1 ≡ b → wide 2 ≡ c → wide 3 ≡ e → wide k ≡ false
    go false false false false h zero l p q r t = p
    go false false false false h (suc zero) l p q r t = q
    go false false false false h (suc (suc zero)) l p q r t = r
    go false false false false h (suc (suc (suc zero))) l p q r t = t
    go false false false false h (suc (suc (suc (suc k)))) l p q r t = absurd (omega (arith, l))
    go true b c e h k l p q r t = absurd (true≢false h)
    go false true c e h k l p q r t = absurd (true≢false h)
    go false false true e h k l p q r t = absurd (true≢false h)
    go false false false true h k l p q r t = absurd (true≢false h)

-- ---- all rows

abbrev pub masks_in : Input → List ℕ
masks_in i = (bitfields_in i.options).masks

-- a mask file with a channel of more than 16 bits
abbrev pub wide_in : Input → Bool
wide_in i = (is_some i.options.bitfields) && any_wide (masks_in i)

module _ (i : Input) (ok : Typed i) (k : Checked i) where
  narrow_same : wide_in i ≡ false → (row : List ℕ) → ((j : ℕ) → get_or row j 0 < 256)
      → original_row (pack_in i) i.source.width row ≡ stored_row (pack_in i) i.source.width row
  unfolding pack_of
  narrow_same h row small = go (is_some i.options.bitfields) refl
    where
      go : (b : Bool) → is_some i.options.bitfields ≡ b
          → original_row (cond b (mask_pack i.source.format (bitfields_in i.options).bpp (masks_in i)) (plain_pack i.source.format)) i.source.width row
          ≡ stored_row (cond b (mask_pack i.source.format (bitfields_in i.options).bpp (masks_in i)) (plain_pack i.source.format)) i.source.width row
      go true e =
          narrow_row (masks_in i) (bytes_per_pixel i.source.format) (blue_first i.source.format) row small (bitfields_in i.options).bpp (k.masks e)
          (none_of (λ (j : ℕ). is_wide (get_or (masks_in i) j 0)) (rw e at h)) i.source.width
      go false e = plain-same i.source.format i.source.width row

  pub rows_same : wide_in i ≡ false → original_rows i ≡ stored_rows_of i
  unfolding original_rows stored_rows_of stored_rows
  rows_same h = cat_ext _ _ i.source.height (λ y _. narrow_same h (row_in i y) (row_small i ok y))

  module _ (h : wide_in i ≡ true) where
    pub masked : is_some i.options.bitfields ≡ true
    masked = (both (is_some i.options.bitfields) (any_wide (masks_in i)) h).0

    deep : (bitfields_in i.options).bpp ≡ 32
    deep =
        let at : (j : ℕ) → j < 4 → is_wide (get_or (masks_in i) j 0) ≡ true → (bitfields_in i.options).bpp ≡ 32 = wide_depth (bitfields_in i.options).bpp (masks_in i) (k.masks masked) in
        some_of _ _ _ _ (at 0 (omega arith)) (at 1 (omega arith)) (at 2 (omega arith)) (at 3 (omega arith)) (both (is_some i.options.bitfields) (any_wide (masks_in i)) h).1

    wide_same : (row : List ℕ) → ((j : ℕ) → get_or row j 0 < 256) → (rest : List ℕ)
        → refitted_words (masks_in i) (original_row (pack_in i) i.source.width row ++ rest) ≡ stored_row (pack_in i) i.source.width row ++ refitted_words (masks_in i) rest
    unfolding pack_of
    wide_same row small rest =
        rw (masked, deep)
        (wide_row (masks_in i) (bytes_per_pixel i.source.format) (blue_first i.source.format) row small (subst (λ (d : ℕ). MasksAccepted d (masks_in i)) deep (k.masks masked)) i.source.width rest)

    pub rows_refitted : refitted_words (masks_in i) (original_rows i) ≡ stored_rows_of i
    unfolding original_rows stored_rows_of stored_rows
    rows_refitted =
        all_refitted (masks_in i) (λ y. original_row (pack_in i) i.source.width (row_in i y)) (λ y. stored_row (pack_in i) i.source.width (row_in i y))
        (λ y rest. wide_same (row_in i y) (row_small i ok y) rest) i.source.height
