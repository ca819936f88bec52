use mathlib.Core.Bool.{Bool, true, false, true≢false, ◌&&◌}
use mathlib.Core.List.{List, [], ◌∷◌}
use mathlib.Core.Path.{refl, sym, ◌≡◌}
use Prim.Native.Nat.{ℕ, zero, suc, ◌<◌}
use native.Mathlib.Omega.{arith}
use borrow.Author.Tests.{ltb-true}
use lib.Dec.{ltb}
use lib.ListN.{get_or}
use Rattle.command.specs.Sample.{stops}
use Rattle.command.proofs.sample.stop.Goals as goal

-- whether all numbers of a list are bytes
are_bytes : List ℕ → Bool
are_bytes [] = true
are_bytes (x ∷ xs) = ltb x 256 && are_bytes xs

byte_at : (xs : List ℕ) (n : ℕ) → are_bytes xs ≡ true → get_or xs n 0 < 256
unfolding are_bytes
byte_at [] n e = omega arith
byte_at (x ∷ xs) n e = go (ltb x 256) refl e n (λ k. byte_at xs k)
  where
    go : (b : Bool) → ltb x 256 ≡ b → (b && are_bytes xs) ≡ true → (n : ℕ) → ((k : ℕ) → are_bytes xs ≡ true → get_or xs k 0 < 256) → get_or (x ∷ xs) n 0 < 256
    go true q f zero h = ltb-true x 256 q
    go true q f (suc k) h = h k f
    go false q f k h = absurd (true≢false (sym f))

small : (n : ℕ) → get_or stops n 0 < 256
unfolding are_bytes stops
small n = byte_at stops n refl

pub overflow_cast-result : goal.overflow_cast-result
unfolding stops
overflow_cast-result c = let h = small c.args.n in omega (arith, h)

pub returns : goal.returns
unfolding stops
returns c = (refl, small c.args.n)
