use mathlib.Core.Path.{◌≡◌, ap, ◌∙◌}
use Prim.Native.Nat.{ℕ}
use native.Mathlib.Omega.{arith}
use borrow.Author.Tests.{leb-true, ne_eqb}
use lib.Dec.{eqb}
use Rattle.leaves.specs.Lists.{tab}
use Rattle.leaves.specs.Put.{put}
use Rattle.leaves.proofs.ListLaws.{length-tab}
use Rattle.format.specs.Decode.{pair_cell}
use Rattle.cells.proofs.CellLaws.{pair_halves, pair_whole}
use Rattle.cells.proofs.Within.{within_as, within-put, within_over, within_both}
use Rattle.cells.proofs.indices.put_pair.Goals as goal

-- at depth 8 the cells of a pair are its value
eight : (d v n : ℕ) → d ≡ 8 → tab (λ j. v) n ≡ tab (pair_cell d v) n
eight d v n e = pair_whole d v n (ap (λ (z : ℕ). eqb z 4) e)

pub returns-then-depth-eq4 : goal.returns-then-depth-eq4
returns-then-depth-eq4 c =
    let a = c.args in
    within-put a.cells.now a.to (tab (pair_cell a.depth a.value) a.n) a.room _ (c.alternate.ensures ∙ ap (put a.cells.now a.to) (pair_halves a.depth a.value a.n c.if-depth-eq4.true)) (omega (arith, length-tab (pair_cell a.depth a.value) a.n, c.requires.n_le_room, c.requires.room_in_bounds))

pub repeat-requires : goal.repeat-requires
repeat-requires c = omega (arith, leb-true 8 c.args.room c.if-room-ge8.true-raw)

pub returns-then-n-le8 : goal.returns-then-n-le8
returns-then-n-le8 c =
    let a = c.args in
    within_as
    (eight a.depth a.value a.n c.if-depth-eq8.true)
    (within_over a.cells.now a.to a.value a.n 8 a.room _ c.repeat.ensures c.if-n-le8.true (leb-true _ _ c.if-room-ge8.true-raw) c.requires.room_in_bounds)

pub returns-then-room-ge8 : goal.returns-then-room-ge8
returns-then-room-ge8 c =
    let a = c.args in
    within_as
    (eight a.depth a.value a.n c.if-depth-eq8.true)
    (within_both a.cells.now _ _ a.to a.value a.n 8 a.room c.repeat.ensures c.repeat-then-room-ge8.ensures (omega arith) (omega (arith, c.requires.n_le_room, c.requires.room_in_bounds)))

pub returns : goal.returns
returns c =
    let a = c.args in
    within-put a.cells.now a.to (tab (pair_cell a.depth a.value) a.n) a.room _ (c.repeat-2.ensures ∙ ap (put a.cells.now a.to) (pair_whole a.depth a.value a.n (ne_eqb a.depth 4 c.if-depth-eq4.false))) (omega (arith, length-tab (pair_cell a.depth a.value) a.n, c.requires.n_le_room, c.requires.room_in_bounds))
