use mathlib.Core.Bool.{Bool, true, false, not}
use mathlib.Core.Path.{refl, sym, ap, ◌∙◌, ◌≡◌}
use Prim.Native.Nat.{ℕ, ◌-◌, ◌*◌}
use native.Mathlib.Omega.{arith}
use borrow.Author.Tests.{lt-ltb, le-ltb, ltb-true, ltb-false}
use lib.Dec.{ltb}
use Rattle.command.proofs.run.is_longer.Goals as goal

empty : (bytes rows : ℕ) → bytes ≡ 0 → false ≡ ltb rows bytes
empty bytes rows e = sym (le-ltb rows bytes (omega arith))

-- above, where one less is not below
above : (bytes rows : ℕ) → (bytes ≡ 0 → ⊥) → not (ltb (bytes - 1) rows) ≡ ltb rows bytes
above bytes rows some = go (ltb (bytes - 1) rows) refl
  where
    go : (b : Bool) → ltb (bytes - 1) rows ≡ b → not b ≡ ltb rows bytes
    go true e = sym (le-ltb rows bytes (omega (arith, ltb-true (bytes - 1) rows e)))
    go false e = sym (lt-ltb rows bytes (omega (arith, ltb-false (bytes - 1) rows e)))

pub returns-then-bytes-eq0 : goal.returns-then-bytes-eq0
returns-then-bytes-eq0 c = let a = c.args in empty a.bytes (a.stride * a.height) c.if-bytes-eq0.true

pub returns : goal.returns
returns c =
    let a = c.args in
    ap not c.below_product.ensures ∙ above a.bytes (a.stride * a.height) c.if-bytes-eq0.false
