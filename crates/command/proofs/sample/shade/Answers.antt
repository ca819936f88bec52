use mathlib.Core.Path.{◌∙◌, ◌≡◌}
use Prim.Native.Nat.{ℕ, ◌/◌, ◌%◌}
use borrow.Author.Tests.{eq-eqb, ne_eqb}
use Rattle.command.specs.Sample.{channel_at, shade}
use Rattle.command.proofs.sample.shade.Goals as goal

alpha : (i : ℕ) → i % 4 ≡ 3 → 255 ≡ shade i
unfolding shade
alpha i e = rw (eq-eqb (i % 4) 3 e)

colour : (i : ℕ) → (i % 4 ≡ 3 → ⊥) → channel_at (i / 4) (i % 4) ≡ shade i
unfolding shade
colour i n = rw (ne_eqb (i % 4) 3 n)

pub returns-then-i-eq3 : goal.returns-then-i-eq3
returns-then-i-eq3 c = alpha c.args.i c.if-i-eq3.true

pub returns : goal.returns
returns c = c.channel_at.ensures ∙ colour c.args.i c.if-i-eq3.false
