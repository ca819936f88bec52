use mathlib.Core.Path.{refl, ◌≡◌}
use Prim.Native.Nat.{ℕ, zero, suc, ◌/◌, ◌%◌, ◌<◌, ◌≤◌, ◌^◌}
use native.Mathlib.Nat.{pow-suc}
use native.Mathlib.Omega.{arith}
use borrow.Author.Tests.{ne_eqb}
use Rattle.messages.specs.Checksum.{crc_byte, crc_of, bytes_in}
use Rattle.messages.proofs.checksum.with_number.Goals as goal

-- the low byte is taken off
turn : (sum left k r x : ℕ) → left < 256 ^ k → 0 < left → r ≡ crc_byte sum (left % 256) → crc_of sum (bytes_in k left) ≡ x
    → (j : ℕ) × (left / 256 < 256 ^ j) × (crc_of r (bytes_in j (left / 256)) ≡ x)
unfolding crc_of bytes_in
turn sum left zero r x h some e is = let z : ⊥ = omega arith in absurd z
turn sum left (suc j) r x h some e is =
    let less : left / 256 < 256 ^ j = omega (arith, pow-suc 256 j) in
    (j, less, rw e (rw (ne_eqb left 0 (λ z. omega arith)) at is))

done : (sum left k x : ℕ) → left ≤ 0 → crc_of sum (bytes_in k left) ≡ x → sum ≡ x
unfolding crc_of bytes_in
done sum left zero x h e = e
done sum left (suc k) x h e = let none : left ≡ 0 = omega arith in rw none at e

pub loop-left-init : goal.loop-left-init
loop-left-init c = (8, omega arith, refl)

pub loop-left-preserved : goal.loop-left-preserved
loop-left-preserved c =
    let l = c.loop-left in
    turn l.sum l.left l.invariant.0 c.with_byte-sum.result (crc_of c.args.before (bytes_in 8 c.args.n)) l.invariant.1 c.loop-left-test.true c.with_byte-sum.ensures l.invariant.2

pub returns : goal.returns
returns c =
    let l = c.loop-left in
    done l.sum l.left l.invariant.0 (crc_of c.args.before (bytes_in 8 c.args.n)) c.loop-left-test.false l.invariant.2
