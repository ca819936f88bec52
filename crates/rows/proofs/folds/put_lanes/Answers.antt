use Rattle.std.proofs.Common.{◌≡◌, ℕ, ◌*◌, ◌/◌, ◌%◌, ◌^◌, ◌<◌, List, [], ◌∷◌, length, set, sym, ap, ◌∙◌, zero-mul, arith}
use Rattle.leaves.specs.Lists.{tab}
use Rattle.leaves.specs.Put.{put}
use Rattle.leaves.proofs.Puts.{put_sets}
use Rattle.rows.proofs.FoldLaws.{folded_one}
use Rattle.rows.proofs.PackLaws.{put_byte}
use Rattle.rows.proofs.folds.put_lanes.Goals as goal

-- the byte of lane j
abbrev byte : ℕ → ℕ → ℕ → ℕ
byte w n j = w / 2 ^ (j * (64 / n)) % 256

-- the first store
first : (d : List ℕ) (at w n : ℕ) → at < length d → set d at (w % 256) ≡ put d at (tab (byte w n) 1)
unfolding tab
first d at w n h =
    let e : w / 2 ^ 0 % 256 ≡ w % 256 = omega arith in
    rw (zero-mul (64 / n), e) (put_sets d at (w % 256 ∷ []) (omega arith))

pub returns-then-this-eq2 : goal.returns-then-this-eq2
returns-then-this-eq2 g c =
    let a = c.args in
    let b = byte a.w g.row.N in
    let e = c.if-this-eq2.true in
    let v : a.w / 2 ^ 32 % 256 ≡ b 1 = rw e in
    put_byte a.dst.now _ a.at 1 (a.w / 2 ^ 32 % 256) b v (first a.dst.now a.at a.w g.row.N (omega arith)) (omega arith)
    ∙ ap (λ (m : ℕ). put a.dst.now a.at (tab b m)) (sym e)

pub returns-else-this-eq2 : goal.returns-else-this-eq2
returns-else-this-eq2 g c =
    let a = c.args in
    let one = folded_one g.row.N c.requires.folded_depth c.if-this-eq2.false in
    first a.dst.now a.at a.w g.row.N (omega arith) ∙ ap (λ (m : ℕ). put a.dst.now a.at (tab (byte a.w g.row.N) m)) (sym one)
