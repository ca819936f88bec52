-- Laws of the bitwise operations that the kit lacks.
use Rattle.std.proofs.Common.{◌≡◌, ℕ, ◌+◌, ◌*◌, ◌/◌, ◌%◌, ◌≤◌, min, max, sym, refl, ap, ◌∙◌, ap₂, arith}
use lib.Arith.{bin_ind, digits_div, digits_mod}
use lib.Bits.{bit_and, bit_or, and_step, or_step, or_comm, and_le_l, and_le_r, or_add_and}

pub and_half : (a b : ℕ) → bit_and a b / 2 ≡ bit_and (a / 2) (b / 2)
and_half a b = ap (λ (z : ℕ). z / 2) (and_step a b) ∙ digits_div (bit_and (a / 2) (b / 2)) (omega arith)

pub and_odd : (a b : ℕ) → bit_and a b % 2 ≡ min (a % 2) (b % 2)
and_odd a b = ap (λ (z : ℕ). z % 2) (and_step a b) ∙ digits_mod (bit_and (a / 2) (b / 2)) (omega arith)

or_half : (a b : ℕ) → bit_or a b / 2 ≡ bit_or (a / 2) (b / 2)
or_half a b = ap (λ (z : ℕ). z / 2) (or_step a b) ∙ digits_div (bit_or (a / 2) (b / 2)) (omega arith)

or_odd : (a b : ℕ) → bit_or a b % 2 ≡ max (a % 2) (b % 2)
or_odd a b = ap (λ (z : ℕ). z % 2) (or_step a b) ∙ digits_mod (bit_or (a / 2) (b / 2)) (omega arith)

min-max : (x y z : ℕ) → min (max x y) z ≡ max (min x z) (min y z)
min-max x y z = omega arith

-- and distributes over or
pub and-or : (a b c : ℕ) → bit_and (bit_or a b) c ≡ bit_or (bit_and a c) (bit_and b c)
and-or a =
    bin_ind (λ (n : ℕ). (b c : ℕ) → bit_and (bit_or n b) c ≡ bit_or (bit_and n c) (bit_and b c)) (λ b c. refl)
    (λ n ih b c.
    and_step (bit_or n b) c
    ∙ ap₂ (λ (x y : ℕ). bit_and x (c / 2) * 2 + min y (c % 2)) (or_half n b) (or_odd n b)
    ∙ ap₂ (λ (x y : ℕ). x * 2 + y) (ih (b / 2) (c / 2)) (min-max (n % 2) (b % 2) (c % 2))
    ∙ sym (or_step (bit_and n c) (bit_and b c)
    ∙ ap₂ (λ (x y : ℕ). x * 2 + y) (ap₂ bit_or (and_half n c) (and_half b c)) (ap₂ max (and_odd n c) (and_odd b c)))) a

max_turn : (x y z : ℕ) → max (max x y) z ≡ max (max z y) x
max_turn x y z = omega arith

-- the bits of three numbers, the first and the last exchanged
pub or_turn : (a b c : ℕ) → bit_or (bit_or a b) c ≡ bit_or (bit_or c b) a
or_turn a =
    bin_ind (λ (n : ℕ). (b c : ℕ) → bit_or (bit_or n b) c ≡ bit_or (bit_or c b) n) (λ b c. or_comm b c ∙ sym (or_comm (bit_or c b) 0))
    (λ n ih b c.
    or_step (bit_or n b) c
    ∙ ap₂ (λ (x y : ℕ). bit_or x (c / 2) * 2 + max y (c % 2)) (or_half n b) (or_odd n b)
    ∙ ap₂ (λ (x y : ℕ). x * 2 + y) (ih (b / 2) (c / 2)) (max_turn (n % 2) (b % 2) (c % 2))
    ∙ sym (or_step (bit_or c b) n ∙ ap₂ (λ (x y : ℕ). bit_or x (n / 2) * 2 + max y (n % 2)) (or_half c b) (or_odd c b))) a

-- a number has no bit that one with more bits lacks
pub le_or_l : (a b : ℕ) → a ≤ bit_or a b
le_or_l a b = omega (arith, or_add_and a b, and_le_r a b)

pub le_or_r : (a b : ℕ) → b ≤ bit_or a b
le_or_r a b = omega (arith, or_add_and a b, and_le_l a b)
