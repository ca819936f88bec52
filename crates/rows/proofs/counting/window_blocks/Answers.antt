use Rattle.std.proofs.Common.{◌≡◌, ℕ, ◌+◌, ◌<◌, Bool, ◌&&◌, nat_lt, List, get_or, ap₂, ◌∙◌}
use Rattle.rows.specs.RleCodes.{cells}
use Rattle.rows.proofs.FromBits.{bits_ext}
use Rattle.rows.proofs.Scans.{length-cells}
use Rattle.rows.specs.Windows.{flags_at}
use Rattle.rows.proofs.WindowCharges.{coded, twins_cells}
use Rattle.rows.proofs.counting.window_blocks.Goals as goal

-- at depth 8 the cells are the bytes
flags_cells : (row : List ℕ) (at : ℕ) → ((i : ℕ) → get_or row i 0 < 256) → (k : ℕ) → flags_at (cells 8 row) at k ≡ flags_at row at k
flags_cells row at bytes k = ap₂ (λ (n : ℕ) (t : Bool). nat_lt (at + k + 1) n && t) (length-cells 8 row) (twins_cells row at bytes k)

pub returns : goal.returns
returns c =
    let a = c.args in
    let f : ℕ → Bool = flags_at a.row.now a.at in
    let bytes : (i : ℕ) → get_or a.row.now i 0 < 256 = λ i. (c.shared_slice_known-1.given i).fits in
    let w = c.window_flags-e.ensures ∙ bits_ext _ _ 64 (λ k l. flags_cells a.row.now a.at bytes k) in
    coded a.row.now a.at bytes _ _ (c.whole_runs-cells.ensures.0 f w) c.if-cells-eq0.false (c.charge_below-bytes.ensures.0 f w)
