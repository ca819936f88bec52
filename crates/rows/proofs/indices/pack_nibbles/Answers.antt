use Rattle.std.proofs.Common.{◌≡◌, ℕ, ◌+◌, ◌*◌, ◌/◌, drop, ap, ◌∙◌, arith}
use Rattle.leaves.specs.Put.{put}
use Rattle.rows.specs.Packing.{packed}
use Rattle.rows.proofs.Nibbles.{put-bytes}
use Rattle.rows.proofs.indices.pack_nibbles.Invariants.{byte}
use Rattle.rows.proofs.indices.pack_nibbles.Goals as goal

pub loop-turn-preserved : goal.loop-turn-preserved
loop-turn-preserved c =
    let l = c.loop-turn in
    let a = c.args in
    let p = c.pack_sixteen in
    let next : (l.turn + 1) * 16 ≡ l.turn * 16 + 16 = omega arith in
    rw next (put-bytes (byte a.src.now) a.n (l.turn * 16) 16 a.at l.dst p.new.dst (omega arith) (omega arith) p.ensures ∙ l.invariant)

pub returns : goal.returns
unfolding packed
returns c =
    let a = c.args in
    let l = c.loop-turn in
    let all : c.min-turns.result / 16 ≡ l.turn = omega arith in
    c.pack_tail.ensures ∙ ap (λ (n : ℕ). put l.dst (a.at + n * 16) (drop (n * 16) (packed 4 a.src.now a.n))) all ∙ l.invariant
