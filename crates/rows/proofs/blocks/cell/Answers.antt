use Rattle.std.proofs.Common.{◌≡◌, ℕ, ◌-◌, ◌^◌, ◌<◌, Bool, List, get_or, sym, ◌∙◌}
use lib.Bits.{bit_and, and_mask, mask_lt}
use Rattle.rows.specs.RleCodes.{is_rle4, depth_of, cells}
use Rattle.rows.proofs.Scans.{cell_at}
use Rattle.rows.proofs.blocks.cell.Goals as goal

cut : (four : Bool) (row : List ℕ) (k m : ℕ) → m ≡ 2 ^ depth_of four - 1 → (bit_and (get_or row k 0) m ≡ get_or (cells (depth_of four) row) k 0) × (bit_and (get_or row k 0) m < 2 ^ depth_of four)
cut four row k m e =
    let d = depth_of four in
    rw e (and_mask (get_or row k 0) d ∙ sym (cell_at d row k), mask_lt (get_or row k 0) d)

pub returns : goal.returns
returns c =
    let a = c.args in
    cut (is_rle4 a.rle) a.row.now a.k _ c.mask.ensures
