use Rattle.std.proofs.Common.{◌≡◌, ℕ, ◌+◌, ◌*◌, ◌/◌, ◌<◌, ◌≤◌, get_or, drop, refl, ap, ◌∙◌, mul-le-mul_right, suc-mul, div-add-mod', add-one, arith}
use Rattle.leaves.specs.Put.{put}
use Rattle.rows.specs.Packing.{packed}
use Rattle.rows.proofs.FoldLaws.{put_eight}
use Rattle.rows.proofs.Nibbles.{put-bytes}
use Rattle.rows.proofs.indices.pack_folded.Invariants.{byte}
use Rattle.rows.proofs.indices.pack_folded.Goals as goal

-- as many times d bytes as there is room for
fits : (m n d : ℕ) → m ≤ n / d → m * d ≤ n
fits m n d l = omega (arith, mul-le-mul_right d l, div-add-mod' n d)

-- one of them more
next : (i m n d : ℕ) → i < m → m ≤ n / d → (i + 1) * d ≤ n
next i m n d l h = omega (arith, fits m n d h, mul-le-mul_right d l, suc-mul i d, add-one i)

pub loop-turn-preserved : goal.loop-turn-preserved
loop-turn-preserved g c =
    let a = c.args in
    let l = c.loop-turn in
    let p = c.put_lanes in
    let w = c.folded in
    let o = l.turn * g.row.BPP in
    let after : (l.turn + 1) * g.row.BPP ≡ o + g.row.BPP = rw add-one (suc-mul l.turn g.row.BPP) in
    let room = next l.turn c.min-turns.result a.n g.row.BPP c.loop-turn-test.true (omega arith) in
    let b = put_eight g.row.BPP l.turn o w.result (a.at + o) l.dst p.new.dst c.requires.folded_depth (λ x. get_or a.src.now x 0) refl w.ensures p.ensures in
    rw after (put-bytes (byte a.src.now g.row.BPP) a.n o g.row.BPP a.at l.dst p.new.dst (omega arith) (omega arith) b ∙ l.invariant)

pub returns : goal.returns
unfolding packed
returns g c =
    let a = c.args in
    let l = c.loop-turn in
    let all : c.min-turns.result ≡ l.turn = omega arith in
    c.pack_tail.ensures ∙ ap (λ (m : ℕ). put l.dst (a.at + m * g.row.BPP) (drop (m * g.row.BPP) (packed g.row.BPP a.src.now a.n))) all ∙ l.invariant
