-- Laws of mask mode with channels of at most 8 bits: a word is made of a pixel's word.
use Rattle.std.proofs.Common.{◌≡◌, ℕ, ◌+◌, ◌*◌, ◌/◌, ◌%◌, ◌≤◌, Bool, true, false, cond, eqb, ◌⊎◌, List, get_or, sym, refl, ap, ◌∙◌, subst, ap₂, inl, inr, arith}
use lib.Bits.{bit_or}
use Rattle.leaves.specs.declared.bitfields.MaskShiftLen.{MaskShiftLen}
use Rattle.rows.specs.declared.masks.MaskLayout.{MaskLayout}
use Rattle.leaves.specs.Bytes.{le16, le32}
use Rattle.leaves.specs.Lists.{cat}
use Rattle.leaves.specs.Put.{put}
use Rattle.leaves.specs.Sizes.{row_stride}
use Rattle.rows.specs.StoredRows.{field, alpha_in, mask_word, mask_cell, cell32, LayoutOk}
use Rattle.leaves.proofs.BitLaws.{or_turn}
use Rattle.leaves.proofs.ListLaws.{cat_ext}
use Rattle.rows.proofs.MaskCells.{cells_fit}

-- the word of a pixel of which the bytes are given as a word
pub of_pixel : (layout : MaskLayout) (row : List ℕ) (x pixel v : ℕ) → le32 pixel ≡ cell32 true row x → v ≡ mask_word layout 4 false (le32 pixel) 0
    → v ≡ mask_word layout 4 false row x
unfolding cell32 mask_word
of_pixel layout row x pixel v e f = f ∙ rw e

-- four fields of a pixel's bytes are its word
pub of_fields : (layout : MaskLayout) (pixel r g b a : ℕ) → r ≡ field layout.r (pixel % 256) → g ≡ field layout.g (pixel / 256 % 256)
    → b ≡ field layout.b (pixel / 256 / 256 % 256) → a ≡ field layout.a (pixel / 256 / 256 / 256 % 256)
    → bit_or (bit_or (bit_or r g) b) a ≡ mask_word layout 4 false (le32 pixel) 0
unfolding mask_word le32
of_fields layout pixel r g b a r' g' b' a' = rw (r', g', b', a')

-- where blue comes first, the layout with red and blue exchanged makes the same cells
module _ (l m : MaskLayout) (bgr : Bool)
    (same : (m.bpp ≡ l.bpp) × (m.r ≡ cond bgr l.b l.r) × (m.g ≡ l.g) × (m.b ≡ cond bgr l.r l.b) × (m.a ≡ l.a)) where
  word_ordered : (b : Bool) → b ≡ bgr → (n : ℕ) (row : List ℕ) (x : ℕ) → mask_word m n false row x ≡ mask_word l n b row x
  unfolding mask_word
  word_ordered true e n row x =
      let r : m.r ≡ l.b = same.1 ∙ ap (λ (z : Bool). cond z l.b l.r) (sym e) in
      let t : m.b ≡ l.r = same.3 ∙ ap (λ (z : Bool). cond z l.r l.b) (sym e) in
      rw (r, t, same.2, same.4)
      (ap (λ (z : ℕ). bit_or z (field l.a (alpha_in n row x))) (or_turn (field l.b (get_or row (x * n + 0) 0)) (field l.g (get_or row (x * n + 1) 0)) (field l.r (get_or row (x * n + 2) 0))))
  word_ordered false e n row x =
      let r : m.r ≡ l.r = same.1 ∙ ap (λ (z : Bool). cond z l.b l.r) (sym e) in
      let t : m.b ≡ l.b = same.3 ∙ ap (λ (z : Bool). cond z l.r l.b) (sym e) in
      rw (r, t, same.2, same.4)

  cell_ordered : (n : ℕ) (row : List ℕ) (x : ℕ) → mask_cell m n false row x ≡ mask_cell l n bgr row x
  unfolding mask_cell
  cell_ordered n row x = ap₂ (λ (d v : ℕ). cond (eqb d 16) (le16 v) (le32 v)) same.0 (word_ordered bgr refl n row x)

  pub put_ordered : (n : ℕ) (row d e : List ℕ) (at w : ℕ) → e ≡ put d at (cat (mask_cell m n false row) w) → e ≡ put d at (cat (mask_cell l n bgr row) w)
  put_ordered n row d e at w is = is ∙ ap (put d at) (cat_ext (mask_cell m n false row) (mask_cell l n bgr row) w (λ x _. cell_ordered n row x))

  either : (P : MaskShiftLen → Type 0) (b : Bool) (x y : MaskShiftLen) → P x → P y → P (cond b x y)
  either P true x y p q = p
  either P false x y p q = q

  -- what holds of a layout holds of it with red and blue exchanged
  pub layout_ordered : LayoutOk l → LayoutOk m
  layout_ordered k =
      let P : MaskShiftLen → Type 0 = λ ch. ch.shift + ch.len ≤ 32 in
      record {
        depth = subst (λ (n : ℕ). (n ≡ 16) ⊎ (n ≡ 32)) (sym same.0) k.depth;
        red = subst P (sym same.1) (either P bgr l.b l.r k.blue k.red);
        green = subst P (sym same.2) k.green;
        blue = subst P (sym same.3) (either P bgr l.r l.b k.red k.blue);
        alpha = subst P (sym same.4) k.alpha;
      }

  pub room_ordered : LayoutOk l → (w at n k : ℕ) → l.bpp ≡ k * 8 → at + row_stride w l.bpp ≤ n → at + w * k ≤ n
  room_ordered ok w at n k deep h = let z : l.bpp / 8 ≡ k = omega arith in rw (← z) (omega (arith, cells_fit w l.bpp ok.depth))

-- the other depth
pub depth32 : (bpp : ℕ) → (bpp ≡ 16) ⊎ (bpp ≡ 32) → (bpp ≡ 16 → ⊥) → bpp ≡ 32
depth32 bpp (inl e) h = absurd (h e)
depth32 bpp (inr e) h = e
