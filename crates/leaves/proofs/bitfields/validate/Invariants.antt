use Rattle.std.proofs.Common.{◌≡◌, ◌⊎◌, Ok}
use Rattle.leaves.specs.Masks.{union_of, mask_rows}
use Rattle.leaves.specs.Lists.{cat}
use Rattle.leaves.specs.Refusals.{first_of}
use Rattle.leaves.proofs.bitfields.validate.Given as goal

abbrev pub invariant-loop-k : goal.invariant-loop-k
invariant-loop-k l = ((l.bpp ≡ 16) ⊎ (l.bpp ≡ 32)) × (l.union ≡ union_of l.masks l.k) × (first_of (cat (mask_rows l.bpp l.masks) l.k) ≡ Ok tt)
