use Rattle.std.proofs.Common.{◌≡◌, ℕ, ◌+◌, length, refl, ap, ◌∙◌, le_antisymm, arith}
use Rattle.rows.specs.RleCodes.{is_rle4, depth_of}
use Rattle.leaves.specs.Lists.{cat}
use Rattle.rows.specs.Stream.{stream_row, stream}
use Rattle.rows.proofs.StreamPlaces.{cat_grows}
use Rattle.rows.proofs.Streams.{count_turn, over, under}
use Rattle.rows.proofs.counting.rle_len.Goals as goal

pub loop-y-init : goal.loop-y-init
unfolding cat
loop-y-init c = refl

pub returns-then-budget-len : goal.returns-then-budget-len
unfolding stream
returns-then-budget-len c =
    let a = c.args in
    let l = c.loop-y in
    let f = stream_row (depth_of (is_rle4 a.rle)) a.width a.height a.plane.now a.stride in
    let n : l.len ≡ length (cat f l.y) = l.invariant in
    over (length (cat f a.height)) a.budget (omega (arith, cat_grows f l.y a.height (omega arith)))

pub loop-y-preserved : goal.loop-y-preserved
loop-y-preserved c =
    let a = c.args in
    let l = c.loop-y in
    let e : l.len + (c.rle_row_len.result + 2) ≡ l.len + c.rle_row_len.result + 2 = omega arith in
    e ∙ count_turn (depth_of (is_rle4 a.rle)) a.width a.height a.plane.now a.stride l.y c.source_row.result.now c.source_row.ensures l.len c.rle_row_len.result l.invariant c.rle_row_len.ensures.0

pub returns-then-len-budget : goal.returns-then-len-budget
unfolding stream
returns-then-len-budget c =
    let a = c.args in
    let l = c.loop-y in
    let f = stream_row (depth_of (is_rle4 a.rle)) a.width a.height a.plane.now a.stride in
    let n : l.len ≡ length (cat f l.y) = l.invariant in
    let all : l.len ≡ length (cat f a.height) = n ∙ ap (λ (k : ℕ). length (cat f k)) (le_antisymm (omega arith) c.loop-y-test.false) in
    under l.len (length (cat f a.height)) a.budget all c.if-len-budget.true

pub returns-else-len-budget : goal.returns-else-len-budget
unfolding stream
returns-else-len-budget c =
    let a = c.args in
    let l = c.loop-y in
    let f = stream_row (depth_of (is_rle4 a.rle)) a.width a.height a.plane.now a.stride in
    let n : l.len ≡ length (cat f l.y) = l.invariant in
    let all : l.len ≡ length (cat f a.height) = n ∙ ap (λ (k : ℕ). length (cat f k)) (le_antisymm (omega arith) c.loop-y-test.false) in
    over (length (cat f a.height)) a.budget (omega arith)
