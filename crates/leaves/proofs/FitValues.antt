-- Samples fitted, by computation: at each seam of the definition, and what document 02, A.4, says of 255.
use Rattle.std.proofs.Common.{◌≡◌, ℕ, List, [], ◌∷◌, map, refl}
use Rattle.leaves.specs.Fit.{from_top, repeated, fit}

-- bits, a sample, the sample fitted to them
unfoldable pub fitted : List (ℕ × ℕ × ℕ)
fitted =
    (0, 255, 0)
    ∷ (1, 128, 1)
    ∷ (8, 129, 129)
    ∷ (9, 129, 259)
    ∷ (15, 129, 16576)
    ∷ (15, 255, 32767)
    ∷ (16, 129, 33153)
    ∷ (16, 255, 65535)
    -- "255 to 17 bits is 131,071"
    ∷ (17, 255, 131071)
    -- from the top down: 00000001 00000001 0
    ∷ (17, 1, 514)
    ∷ (24, 129, 8487297)
    ∷ (25, 129, 16974595)
    ∷ (32, 255, 4294967295)
    ∷ (32, 1, 16843009)
    ∷ []

pub values_hold : map (λ (e : ℕ × ℕ × ℕ). fit e.0 e.1) fitted ≡ map (λ (e : ℕ × ℕ × ℕ). e.2) fitted
unfolding fit repeated from_top fitted
values_hold = refl
