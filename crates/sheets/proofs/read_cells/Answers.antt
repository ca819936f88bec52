use mathlib.Core.Path.{refl, ap, ◌∙◌}
use Prim.Native.Nat.{ℕ}
use native.Mathlib.Omega.{arith}
use lib.Dec.{eqb}
use lib.ListN.{length}
use Rattle.std.proofs.Common.{rules, tests}
use Rattle.std.proofs.lemmas.List.{length_push}
use Rattle.std.proofs.lemmas.Iterator.Splits.{YieldsList-from_slice_split}
use Rattle.std.proofs.lemmas.Iterator.Consumers.{YieldsList-at, YieldsList-turn, YieldsList-end}
use Rattle.arguments.specs.Words.{items_of}
use Rattle.arguments.proofs.Pieces.{items_split}
use Rattle.sheets.specs.Sheets.{index_of}
use Rattle.sheets.proofs.SheetLaws.{length-map}
use Rattle.sheets.proofs.CellLoop.{index_at, left_start, left_end, left_room, left_bad, left_turn}
use Rattle.sheets.proofs.read_cells.Goals as goal

pub loop-cell-init : goal.loop-cell-init
loop-cell-init c = (refl, left_start (omega (arith, c.requires, length-map index_of (items_of c.args.separator c.args.line.now))))

pub returns-in_default : goal.returns-in_default
returns-in_default c =
    let a = c.args in
    let l = c.loop-cell in
    let e = c.split-cell-items.ensures in
    let t = YieldsList-turn (YieldsList-at c.into_iter-cell-iterator.ensures.into_iter_gives (YieldsList-from_slice_split _ (λ (b : ℕ). eqb b a.separator) a.line.now e.rest e.done e.closure (λ x b q k. search (rules, tests)))) l.yielded _ l.yielded_by _ _ c.in-Some.cell c.in-Some.is c.next.ensures.steps in
    let is = index_at (items_of a.separator a.line.now) l.n c.in-Some.cell.now (rw (items_split a.separator a.line.now, ← l.invariant.0) at t) in
    left_bad l.invariant.1 (index_of c.in-Some.cell.now) is (omega (arith, c.in_default.ensures))

pub bounds-cells-at : goal.bounds-cells-at
bounds-cells-at c =
    let a = c.args in
    let l = c.loop-cell in
    let e = c.split-cell-items.ensures in
    let t = YieldsList-turn (YieldsList-at c.into_iter-cell-iterator.ensures.into_iter_gives (YieldsList-from_slice_split _ (λ (b : ℕ). eqb b a.separator) a.line.now e.rest e.done e.closure (λ x b q k. search (rules, tests)))) l.yielded _ l.yielded_by _ _ c.in-Some.cell c.in-Some.is c.next.ensures.steps in
    let is = index_at (items_of a.separator a.line.now) l.n c.in-Some.cell.now (rw (items_split a.separator a.line.now, ← l.invariant.0) at t) in
    left_room l.invariant.1 (index_of c.in-Some.cell.now) is

pub loop-cell-preserved : goal.loop-cell-preserved
loop-cell-preserved c =
    let a = c.args in
    let l = c.loop-cell in
    let e = c.split-cell-items.ensures in
    let t = YieldsList-turn (YieldsList-at c.into_iter-cell-iterator.ensures.into_iter_gives (YieldsList-from_slice_split _ (λ (b : ℕ). eqb b a.separator) a.line.now e.rest e.done e.closure (λ x b q k. search (rules, tests)))) l.yielded _ l.yielded_by _ _ c.in-Some.cell c.in-Some.is c.next.ensures.steps in
    let is = index_at (items_of a.separator a.line.now) l.n c.in-Some.cell.now (rw (items_split a.separator a.line.now, ← l.invariant.0) at t) in
    let v = c.in-Some-index in
    (omega (arith, l.invariant.0, length_push l.yielded c.in-Some.cell), left_turn l.invariant.1 v.index (is.0, v.ensures.1 ∙ is.1) (omega (arith, v.ensures)))

pub returns : goal.returns
returns c =
    let a = c.args in
    let l = c.loop-cell in
    let e = c.split-cell-items.ensures in
    let t = YieldsList-end (YieldsList-at c.into_iter-cell-iterator.ensures.into_iter_gives (YieldsList-from_slice_split _ (λ (b : ℕ). eqb b a.separator) a.line.now e.rest e.done e.closure (λ x b q k. search (rules, tests)))) l.yielded _ l.yielded_by _ _ c.in-None.is c.next.ensures.steps in
    left_end l.invariant.1 (omega (arith, l.invariant.0, t.1, ap length (items_split a.separator a.line.now), length-map index_of (items_of a.separator a.line.now)))
