-- Laws of indices packed to 4 bits, sixteen bytes at a time.
use Rattle.std.proofs.Common.{◌≡◌, ℕ, ◌+◌, ◌-◌, ◌*◌, ◌%◌, ◌<◌, ◌≤◌, List, length, take, drop, set, sym, ap, ◌∙◌, subst, le_antisymm, add-one, arith, length-drop, length-take-le, get_or-drop, get_or-take, drop-drop, take-suc-set, ext_get_or}
use lib.Seq.{take-length}
use Rattle.leaves.specs.Lists.{tab}
use Rattle.leaves.specs.Put.{put}
use Rattle.rows.specs.Packing.{digits, packed_byte_of}
use Rattle.leaves.proofs.ListLaws.{length-tab, get_or-tab}
use Rattle.leaves.proofs.Puts.{put_part}

-- a byte of two cells
pub byte_4 : (cell : ℕ → ℕ) (i : ℕ) → cell (i * 2) % 16 * 16 + cell (i * 2 + 1) % 16 ≡ packed_byte_of 4 cell i
unfolding packed_byte_of digits
byte_4 cell i = let e : i * 2 + 0 ≡ i * 2 = omega arith in rw e (omega arith)

-- an array that is filled from its start
pub fill : (t : List ℕ) (g : ℕ → ℕ) (j v : ℕ) → j < length t → take j t ≡ tab g j → v ≡ g j → take (j + 1) (set t j v) ≡ tab g (j + 1)
unfolding tab
fill t g j v h e f = rw (add-one j, take-suc-set t j v h, e, f)

pub filled : (t : List ℕ) (g : ℕ → ℕ) (j n : ℕ) → length t ≡ n → j ≤ n → n ≤ j → take j t ≡ tab g j → t ≡ tab g n
filled t g j n l h k e = sym (take-length t) ∙ ap (λ (m : ℕ). take m t) l ∙ subst (λ (m : ℕ). take m t ≡ tab g m) (le_antisymm h k) e

-- m bytes of a list by places, from place i on
part : (g : ℕ → ℕ) (n i m : ℕ) → i + m ≤ n → tab (λ k. g (i + k)) m ≡ take m (drop i (tab g n))
part g n i m h =
    let f : ℕ → ℕ = λ k. g (i + k) in
    let l : length (drop i (tab g n)) ≡ n - i = length-drop i (tab g n) ∙ ap (λ (z : ℕ). z - i) (length-tab g n) in
    let r : length (take m (drop i (tab g n))) ≡ m = length-take-le m (drop i (tab g n)) (omega arith) in
    ext_get_or 0 (tab f m) (take m (drop i (tab g n))) (length-tab f m ∙ sym r) (λ k b.
    let q : k < m = omega (arith, length-tab f m) in
    get_or-tab f m k 0 q ∙ sym (get_or-take m (drop i (tab g n)) k 0 q ∙ get_or-drop i (tab g n) k 0 ∙ get_or-tab g n (i + k) 0 (omega arith)))

-- those bytes are put, and the rest is left
pub put-bytes : (g : ℕ → ℕ) (n i m at : ℕ) (d e : List ℕ) → i + m ≤ n → at + n ≤ length d → e ≡ put d (at + i) (tab (λ k. g (i + k)) m)
    → put e (at + (i + m)) (drop (i + m) (tab g n)) ≡ put d (at + i) (drop i (tab g n))
put-bytes g n i m at d e h room is =
    let s = tab g n in
    let l : length (drop i s) ≡ n - i = length-drop i s ∙ ap (λ (z : ℕ). z - i) (length-tab g n) in
    let p : at + (i + m) ≡ at + i + m = omega arith in
    rw (is, part g n i m h, p, ← drop-drop m i s) (put_part d (at + i) (drop i s) m (omega arith) (omega arith))
