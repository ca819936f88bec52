use Rattle.std.proofs.Common.{◌≡◌, ℕ, ◌+◌, ◌-◌, ◌*◌, ◌/◌, ◌<◌, ◌≤◌, Bool, List, length, get_or, take, drop, sym, ap, ◌∙◌, arith, length-drop, length-take}
use Rattle.leaves.specs.Put.{put}
use Rattle.rows.specs.declared.rle.Rle.{Rle}
use Rattle.rows.specs.declared.rle.Rle.TheVariants.{Rle8}
use Rattle.rows.specs.Packing.{packed}
use Rattle.rows.specs.StoredRows.{padded}
use Rattle.rows.specs.RleCodes.{is_rle4, depth_of, cells, data_bytes}
use Rattle.rows.proofs.PackLaws.{packed_8, part_small}
use Rattle.rows.proofs.RleBytes.{packed_cut, part_cut}
use Rattle.rows.proofs.rle.put_data.Goals.{in-Rle8, in-Rle4}
use Rattle.rows.proofs.rle.put_data.Goals as goal

-- the bytes packed from the indices are those of the cells
data-put : (buf e row : List ℕ) (four : Bool) (d i n at len : ℕ) → depth_of four ≡ d → len ≡ data_bytes (depth_of four) n
    → e ≡ put buf at (packed d (take (i + n - i) (drop i row)) len) → e ≡ put buf at (packed (depth_of four) (take n (drop i (cells (depth_of four) row))) (data_bytes (depth_of four) n))
data-put buf e row four d i n at len f l is =
    let g : i + n - i ≡ n = omega arith in
    is ∙ rw (l, g, f) (ap (put buf at) (packed_cut d (take n (drop i row)) (take n (drop i (cells d row))) (data_bytes d n) (part_cut d row i n)))

-- at depth 8 they are the indices, and a zero after an odd count
data-copy : (buf e row : List ℕ) (rle : Rle) (i n at len : ℕ) → rle ≡ Rle8 → ((x : ℕ) → get_or row x 0 < 256) → len ≡ data_bytes (depth_of (is_rle4 rle)) n → i + n ≤ length row
    → e ≡ put buf at (padded len (take (i + n - i) (drop i row))) → e ≡ put buf at (packed (depth_of (is_rle4 rle)) (take n (drop i (cells (depth_of (is_rle4 rle)) row))) (data_bytes (depth_of (is_rle4 rle)) n))
data-copy buf e row rle i n at len f h l within is =
    let d : depth_of (is_rle4 rle) ≡ 8 = ap (λ (r : Rle). depth_of (is_rle4 r)) f in
    let z : data_bytes (depth_of (is_rle4 rle)) n ≡ (n * 8 + 15) / 16 * 2 = ap (λ (k : ℕ). data_bytes k n) d in
    data-put buf e row (is_rle4 rle) 8 i n at len d l
    (is ∙ ap (put buf at) (sym (packed_8 (take (i + n - i) (drop i row)) len (part_small row i (i + n - i) 256 (omega arith) h) (omega (arith, length-take (i + n - i) (drop i row), length-drop i row)))))

pub returns : goal.returns
returns c =
    let a = c.args in
    let n = c.data_bytes-len in
    let m = c.match-rle in (
      omega arith,
      elim (m.branch) [ in-Rle8 w ↦ data-copy a.buf.now m.buf a.row.now a.rle a.i a.n a.at n.result w.in-Rle8.is (λ x. (c.type_inv.row x).fits) n.ensures.0 c.requires.0 (w.buf-is ∙ w.copy_row.ensures) | in-Rle4 w ↦ data-put a.buf.now m.buf a.row.now (is_rle4 a.rle) 4 a.i a.n a.at n.result (ap (λ (r : Rle). depth_of (is_rle4 r)) w.in-Rle4.is) n.ensures.0 (w.buf-is ∙ w.pack_bytes.ensures) ],
    )
