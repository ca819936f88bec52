use Rattle.std.proofs.Common.{◌≡◌, ℕ, ◌+◌, ◌≤◌, Bool, true, false, cond, List, [], ◌∷◌, ◌++◌, length, set, refl, ap, ◌∙◌, arith}
use mir.Val.{bool_byte}
use Rattle.leaves.specs.Put.{put}
use Rattle.rows.specs.RleCodes.{is_rle4, depth_of, row_codes}
use Rattle.leaves.proofs.Puts.{put-append, length-put}
use Rattle.rows.proofs.RleBytes.{put_pair}
use Rattle.rows.proofs.rle.rle_row.Goals as goal

mark : (b : Bool) → bool_byte b ≡ cond b 1 0
mark true = refl
mark false = refl

-- the two bytes of the end stand behind the codes
end-put : (buf buf' r : List ℕ) (at o : ℕ) (last : Bool) → o ≡ at + length r → buf' ≡ put buf at r → at + length r + 2 ≤ length buf
    → set (set buf' o 0) (o + 1) (bool_byte last) ≡ put buf at (r ++ (0 ∷ cond last 1 0 ∷ []))
end-put buf buf' r at o last eo eb fits =
    let n : length buf' ≡ length buf = ap length eb ∙ length-put buf at r (omega arith) in
    put_pair buf' o 0 (bool_byte last) (cond last 1 0) (omega arith) (mark last)
    ∙ rw (eo, eb) (put-append buf at r (0 ∷ cond last 1 0 ∷ []) (omega arith))

pub returns : goal.returns
returns c =
    let a = c.args in
    let r = row_codes (depth_of (is_rle4 a.rle)) a.row.now in
    (omega arith, end-put a.buf.now c.encode_rle_row-o.new.buf r a.at c.encode_rle_row-o.result a.last c.encode_rle_row-o.ensures.0 c.encode_rle_row-o.ensures.1 (omega arith))
