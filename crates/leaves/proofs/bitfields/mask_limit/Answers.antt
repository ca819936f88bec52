use Rattle.std.proofs.Common.{◌≡◌, ℕ, ◌+◌, ◌^◌, ◌⊎◌, inl, inr}
use Rattle.leaves.proofs.bitfields.mask_limit.Goals as goal

sixteen : (d : ℕ) → (d ≡ 16) ⊎ (d ≡ 32) → (d ≡ 32 → ⊥) → 65535 + 1 ≡ 2 ^ d
sixteen d (inl e) n = rw e
sixteen d (inr e) n = absurd (n e)

pub returns-then-bpp-eq32 : goal.returns-then-bpp-eq32
returns-then-bpp-eq32 c = rw c.if-bpp-eq32.true

pub returns : goal.returns
returns c = sixteen c.args.bpp c.requires c.if-bpp-eq32.false
