use mathlib.Core.List.{List}
use mathlib.Core.Path.{refl, sym, ap, ◌∙◌, ◌≡◌}
use Prim.Native.Nat.{ℕ, ◌+◌, ◌<◌}
use native.Mathlib.Numerals.{add-one}
use native.Mathlib.Omega.{arith}
use lib.ListN.{length, take, set, length-set}
use lib.Seq.{take-suc-set, take_all}
use Rattle.leaves.specs.Lists.{tab}
use Rattle.command.specs.Sample.{shade, sample_palette}
use Rattle.command.proofs.sample.sample_palette.Goals as goal

turn : (palette : List ℕ) (i v : ℕ) → i < length palette → take i palette ≡ tab shade i → v ≡ shade i → take (i + 1) (set palette i v) ≡ tab shade (i + 1)
unfolding tab
turn palette i v h e f = rw (add-one i, take-suc-set palette i v h, e, f)

whole : (palette : List ℕ) (i : ℕ) → length palette ≡ 1024 → i ≡ 1024 → take i palette ≡ tab shade i → palette ≡ sample_palette
unfolding sample_palette
whole palette i l e f = sym (take_all i palette (omega arith)) ∙ f ∙ ap (tab shade) e

pub loop-i-init : goal.loop-i-init
unfolding tab
loop-i-init c = (refl, refl)

pub loop-i-preserved : goal.loop-i-preserved
loop-i-preserved c =
    let l = c.loop-i in
    (length-set l.palette l.i c.shade.result ∙ l.invariant.0, turn l.palette l.i c.shade.result (omega arith) l.invariant.1 c.shade.ensures)

pub returns : goal.returns
returns c = let l = c.loop-i in (whole l.palette l.i l.invariant.0 (omega arith) l.invariant.1, l.invariant.0)
