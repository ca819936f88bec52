use Rattle.std.proofs.Common.{◌≡◌, ℕ, ◌*◌, ◌/◌, ◌<◌, Bool, true, false, ltb, sym, refl, ap, div-lt_iff_lt-mul, mul-zero, le-div_iff_mul-le, arith, ltb-false, ltb-true, le-ltb, lt-ltb}
use Rattle.leaves.proofs.checks.below_product.Goals as goal

-- a quotient below a is the number below the product
quotient : (n a b : ℕ) → 0 < b → ltb (n / b) a ≡ ltb n (a * b)
quotient n a b h = go (ltb (n / b) a) refl
  where
    go : (t : Bool) → ltb (n / b) a ≡ t → t ≡ ltb n (a * b)
    go true e = sym (lt-ltb n (a * b) ((div-lt_iff_lt-mul h).0 (ltb-true (n / b) a e)))
    go false e = sym (le-ltb n (a * b) ((le-div_iff_mul-le h).0 (ltb-false (n / b) a e)))

nothing-below : (n a b : ℕ) → b ≡ 0 → false ≡ ltb n (a * b)
nothing-below n a b e = sym (le-ltb n (a * b) (omega (arith, ap (λ (z : ℕ). a * z) e, mul-zero a)))

pub returns-then-b-eq0 : goal.returns-then-b-eq0
returns-then-b-eq0 c = nothing-below c.args.n c.args.a c.args.b c.if-b-eq0.true

pub returns : goal.returns
returns c = quotient c.args.n c.args.a c.args.b (omega (arith, c.if-b-eq0.false))
