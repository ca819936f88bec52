use Rattle.std.proofs.Common.{◌≡◌, ℕ, ◌+◌, ◌-◌, ◌^◌, eqb, List, get_or, sym, ap, ◌∙◌, ap₂, arith}
use lib.Bits.{bit_and, and_mask}
use Rattle.rows.specs.RleCodes.{cells}
use Rattle.rows.proofs.FromBits.{bits_ext}
use Rattle.rows.proofs.Scans.{cell_at}
use Rattle.rows.proofs.FlagBytes.{flags_turn}
use Rattle.rows.proofs.windows.masked_flags.Invariants.{alike}
use Rattle.rows.proofs.windows.masked_flags.Goals as goal

-- under the mask of a depth a byte is a cell
masked : (row : List ℕ) (d mask p : ℕ) → mask ≡ 2 ^ d - 1 → bit_and (get_or row p 0) mask ≡ get_or (cells d row) p 0
masked row d mask p e = ap (bit_and (get_or row p 0)) e ∙ and_mask (get_or row p 0) d ∙ sym (cell_at d row p)

pub loop-k-preserved : goal.loop-k-preserved
loop-k-preserved c =
    let a = c.args in
    let l = c.loop-k in
    flags_turn (alike a.row.now a.mask a.at) l.flags l.k c.same.result (omega arith) l.invariant.0 l.invariant.1 c.same.ensures

pub returns : goal.returns
returns c d e =
    let a = c.args in
    c.packed.ensures (alike a.row.now a.mask a.at) (λ j l. c.loop-k.invariant.1 j (omega arith))
    ∙ bits_ext _ _ 64 (λ k l. ap₂ eqb (masked a.row.now d a.mask (a.at + k) e) (masked a.row.now d a.mask (a.at + k + 1) e))
