use Rattle.std.proofs.Common.{◌≡◌, ℕ, ◌+◌, ◌*◌, ◌%◌, ◌^◌, ◌<◌, [], ◌∷◌, get_or, mod-eq_of_lt, arith}
use Rattle.rows.specs.declared.rle.Rle.{Rle}
use Rattle.rows.specs.declared.rle.Rle.TheVariants.{Rle8, Rle4}
use Rattle.rows.specs.Packing.{digits, packed_byte_of}
use Rattle.rows.specs.RleCodes.{is_rle4, depth_of}
use Rattle.rows.proofs.rle.pair_byte.Goals as goal

small-four : (rle : Rle) (x : ℕ) → rle ≡ Rle4 → x < 2 ^ depth_of (is_rle4 rle) → x < 16
small-four rle x e h = rw e at h

small-eight : (rle : Rle) (x : ℕ) → rle ≡ Rle8 → x < 2 ^ depth_of (is_rle4 rle) → x < 256
small-eight rle x e h = rw e at h

byte-four : (v w : ℕ) → v < 16 → w < 16 → v * 16 + w ≡ packed_byte_of 4 (λ j. get_or (v ∷ w ∷ []) j 0) 0
unfolding packed_byte_of digits
byte-four v w h k =
    let a : v % 16 ≡ v = mod-eq_of_lt h in
    let b : w % 16 ≡ w = mod-eq_of_lt k in
    omega arith

byte-eight : (v w : ℕ) → v < 256 → v ≡ packed_byte_of 8 (λ j. get_or (v ∷ w ∷ []) j 0) 0
unfolding packed_byte_of digits
byte-eight v w h = let a : v % 256 ≡ v = mod-eq_of_lt h in omega arith

pub returns-in-Rle8 : goal.returns-in-Rle8
returns-in-Rle8 c = let a = c.args in rw c.in-Rle8.is (byte-eight a.v a.w (small-eight a.rle a.v c.in-Rle8.is c.requires.0))

pub returns-in-Rle4 : goal.returns-in-Rle4
returns-in-Rle4 c = let a = c.args in rw c.in-Rle4.is (byte-four a.v a.w (small-four a.rle a.v c.in-Rle4.is c.requires.0) (small-four a.rle a.w c.in-Rle4.is c.requires.1))
