use Rattle.std.proofs.Common.{◌≡◌, ℕ, ◌+◌, ◌/◌, ◌^◌, ◌<◌, get_or, sym, refl, subst, arith}
use Rattle.rows.specs.Packing.{packed_byte_of}
use Rattle.rows.specs.Words.{word, lanes}
use Rattle.rows.proofs.FoldLaws.{folded_one, cut_law, fold_law}
use Rattle.rows.proofs.folds.folded.Goals as goal

-- the result at a depth that is known
at-depth : (d k r : ℕ) (cell : ℕ → ℕ) → d ≡ k → r ≡ lanes (2 ^ (64 / k)) (packed_byte_of k cell) k → r ≡ lanes (2 ^ (64 / d)) (packed_byte_of d cell) d
at-depth d k r cell e f = subst (λ (z : ℕ). r ≡ lanes (2 ^ (64 / z)) (packed_byte_of z cell) z) (sym e) f

pub returns-then-this-eq2 : goal.returns-then-this-eq2
unfolding packed_byte_of lanes word
returns-then-this-eq2 g c =
    let a = c.args in
    let cell : ℕ → ℕ = λ i. get_or a.src.now i 0 in
    let from : ℕ → ℕ = λ i. cell (a.x + i) in
    let small : (i : ℕ) → cell i < 256 = λ i. omega (arith, c.shared_slice_known-1.given i) in
    let cells = cut_law 2 c.le64-w.result 0x0303030303030303 a.x cell (omega arith) small c.le64-w.ensures refl in
    let pairs = fold_law 2 1 8 4 _ _ _ _ _ from (omega arith) refl cells c.fold-pairs.ensures refl refl refl in
    at-depth g.row.BPP 2 _ from c.if-this-eq2.true (fold_law 2 2 16 2 _ _ _ _ _ from (omega arith) refl pairs c.fold.ensures refl refl refl)

pub returns : goal.returns
unfolding packed_byte_of lanes word
returns g c =
    let a = c.args in
    let cell : ℕ → ℕ = λ i. get_or a.src.now i 0 in
    let from : ℕ → ℕ = λ i. cell (a.x + i) in
    let small : (i : ℕ) → cell i < 256 = λ i. omega (arith, c.shared_slice_known-1.given i) in
    let cells = cut_law 1 c.le64-w.result 0x0101010101010101 a.x cell (omega arith) small c.le64-w.ensures refl in
    let pairs = fold_law 1 1 8 4 _ _ _ _ _ from (omega arith) refl cells c.fold-pairs-2.ensures refl refl refl in
    let fours = fold_law 1 2 16 2 _ _ _ _ _ from (omega arith) refl pairs c.fold-fours.ensures refl refl refl in
    at-depth g.row.BPP 1 _ from (folded_one g.row.BPP c.requires.folded_depth c.if-this-eq2.false) (fold_law 1 4 32 1 _ _ _ _ _ from (omega arith) refl fours c.fold-2.ensures refl refl refl)
