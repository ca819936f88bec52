use Rattle.std.proofs.Common.{ℕ, ◌+◌, get_or, ap, ◌∙◌, zero-add, arith, lit≤}
use Rattle.rows.proofs.FlagBytes.{above_law}
use Rattle.rows.proofs.windows.packed.Goals as goal

pub returns : goal.returns
returns c f h =
    let t = c.args.flags.now in
    let w₁ = c.flag_byte.ensures f (λ k l. ap (λ (z : ℕ). get_or t z 0) (zero-add k) ∙ h k (omega arith)) in
    let w₂ = above_law f 8 8 _ _ (lit≤ tt) w₁ (c.flag_byte-2.ensures (λ k. f (8 + k)) (λ k l. h (8 + k) (omega arith))) in
    let w₃ = above_law f 16 8 _ _ (lit≤ tt) w₂ (c.flag_byte-3.ensures (λ k. f (16 + k)) (λ k l. h (16 + k) (omega arith))) in
    let w₄ = above_law f 24 8 _ _ (lit≤ tt) w₃ (c.flag_byte-4.ensures (λ k. f (24 + k)) (λ k l. h (24 + k) (omega arith))) in
    let w₅ = above_law f 32 8 _ _ (lit≤ tt) w₄ (c.flag_byte-5.ensures (λ k. f (32 + k)) (λ k l. h (32 + k) (omega arith))) in
    let w₆ = above_law f 40 8 _ _ (lit≤ tt) w₅ (c.flag_byte-6.ensures (λ k. f (40 + k)) (λ k l. h (40 + k) (omega arith))) in
    let w₇ = above_law f 48 8 _ _ (lit≤ tt) w₆ (c.flag_byte-7.ensures (λ k. f (48 + k)) (λ k l. h (48 + k) (omega arith))) in
    above_law f 56 8 _ _ (lit≤ tt) w₇ (c.flag_byte-8.ensures (λ k. f (56 + k)) (λ k l. h (56 + k) (omega arith)))
