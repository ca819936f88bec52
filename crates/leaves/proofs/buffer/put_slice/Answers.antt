use Rattle.std.proofs.Common.{◌≡◌, ℕ, ◌+◌, ◌-◌, ◌≤◌, List, length, take, drop, refl, ap, ◌∙◌, add-zero, arith, length-drop, length-take, take_all, drop-drop}
use Rattle.leaves.specs.Put.{put}
use Rattle.leaves.proofs.Puts.{put_part}
use Rattle.leaves.proofs.buffer.put_slice.Goals as goal

-- k bytes more are in place
turn : (d e s : List ℕ) (at done k : ℕ) → e ≡ put d (at + done) (take (done + k - done) (drop done s)) → done + k ≤ length s → at + length s ≤ length d
    → put e (at + (done + k)) (drop (done + k) s) ≡ put d (at + done) (drop done s)
turn d e s at done k eq h f =
    let p : done + k - done ≡ k = omega arith in
    let q : at + (done + k) ≡ at + done + k = omega arith in
    rw (eq, p, q, ← drop-drop k done s) (put_part d (at + done) (drop done s) k (simp length-drop (omega arith)) (omega arith))

pub loop-done-init : goal.loop-done-init
loop-done-init c = (omega arith, refl, ap (λ (o : ℕ). put c.args.buf.now o c.args.src.now) (add-zero c.args.at))

pub put_chunk-requires : goal.put_chunk-requires
put_chunk-requires c = simp (length-take, length-drop) (record { src_len_bound = omega arith; src_in_bounds = omega arith })

pub loop-done-preserved : goal.loop-done-preserved
loop-done-preserved c =
    let l = c.loop-done in
    let a = c.args in
    (omega arith, omega arith, turn l.buf c.put_chunk.new.buf a.src.now a.at l.done 4096 c.put_chunk.ensures (omega arith) (omega arith) ∙ l.invariant.2)

pub put_chunk-requires-2 : goal.put_chunk-requires-2
put_chunk-requires-2 c = simp (length-take, length-drop) (record { src_len_bound = omega arith; src_in_bounds = omega arith })

pub returns : goal.returns
returns c =
    let l = c.loop-done in
    let a = c.args in
    c.put_chunk-2.ensures ∙ ap (put l.buf (a.at + l.done)) (take_all (length a.src.now - l.done) (drop l.done a.src.now) (simp length-drop (omega arith))) ∙ l.invariant.2
