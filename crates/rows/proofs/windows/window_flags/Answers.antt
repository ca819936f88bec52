use Rattle.std.proofs.Common.{◌≡◌, ℕ, ◌+◌, ◌-◌, ◌/◌, ◌^◌, ◌<◌, ◌≤◌, List, length, ap, ◌∙◌, arith}
use Rattle.rows.specs.RleCodes.{is_rle4, depth_of, cells}
use Rattle.rows.specs.Windows.{from_bits, twins, flags_at}
use Rattle.rows.proofs.Scans.{length-cells}
use Rattle.rows.proofs.Charges.{full, partial}
use Rattle.rows.proofs.windows.window_flags.Goals as goal

-- the window of the row's cells
full-cells : (d : ℕ) (row : List ℕ) (at : ℕ) → at + 65 ≤ length row → from_bits (twins (cells d row) at) 64 ≡ from_bits (flags_at (cells d row) at) 64
full-cells d row at h = full (cells d row) at (rw length-cells h)

partial-cells : (d : ℕ) (row : List ℕ) (at : ℕ) → 65 ≤ length row → length row - 65 < at → at + 2 ≤ length row
    → from_bits (twins (cells d row) (length row - 65)) 64 / 2 ^ (at - (length row - 65)) ≡ from_bits (flags_at (cells d row) at) 64
partial-cells d row at some past h = let e = length-cells d row in rw e at (partial (cells d row) at (rw e some) (rw e past) (rw e h))

pub returns-then-at-last : goal.returns-then-at-last
returns-then-at-last c =
    let a = c.args in
    c.masked_flags.ensures (depth_of (is_rle4 a.rle)) c.mask-mask.ensures ∙ full-cells (depth_of (is_rle4 a.rle)) a.row.now a.at (omega arith)

pub returns : goal.returns
returns c =
    let a = c.args in
    ap (λ (z : ℕ). z / 2 ^ (a.at - (length a.row.now - 65))) (c.masked_flags-2.ensures (depth_of (is_rle4 a.rle)) c.mask-mask.ensures)
    ∙ partial-cells (depth_of (is_rle4 a.rle)) a.row.now a.at (omega arith) (omega arith) (omega arith)
