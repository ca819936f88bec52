-- The source row of a stored row, and the rows that `Rows::new` makes.
use mathlib.Core.Path.{◌≡◌}
use mathlib.Core.Bool.{Bool, true, false, cond}
use Prim.Native.Nat.{ℕ, suc, ◌+◌, ◌-◌, ◌*◌, ◌^◌, ◌≤◌, ◌<◌}
use native.Mathlib.Nat.{suc-mul, mul-le-mul_right}
use native.Mathlib.Omega.{arith}
use lib.ListN.{length, get_or}
use Rattle.rows.specs.StoredRows as document
use Rattle.format.specs.File.{pack_in}
use Rattle.format.specs.Input.{Input}
use Rattle.format.proofs.SourceRows.{source_small}
use Rattle.reference.specs.Rust.{done, ◌>>=◌, add, sub, mul, range}
use Rattle.reference.specs.Packing.{source_bytes, Rows, source_row}
use Rattle.reference.specs.Compared.{Typed}
use Rattle.reference.proofs.Original.{row_in}
use Rattle.reference.proofs.RunLaws.{add_is, sub_is, mul_is, range_is}

-- the bytes of a call's source row
pub row_small : (i : Input) → Typed i → (y k : ℕ) → get_or (row_in i y) k 0 < 256
row_small i ok y = source_small i.plane i.source.stride (i.source.width * document.pack_bytes (pack_in i)) (document.row_of i.options.top_down i.source.height y) ok.plane_bytes_is

-- rows inside their stride and inside the plane, whose bytes can be addressed
pub record RowsOk (r : Rows) : Type 0 where
  pub inside : r.width * source_bytes r.pack ≤ r.plane.stride
  pub whole : r.plane.stride * r.height ≤ length r.plane.«data»
  pub small : r.plane.stride * r.height < 2 ^ 64

module _ (r : Rows) (ok : RowsOk r) where
  -- row y of the plane is read
  read : (y : ℕ) → y < r.height
      → (mul 64 y r.plane.stride >>= λ start. mul 64 r.width (source_bytes r.pack) >>= λ bytes. add 64 start bytes >>= λ end. range r.plane.«data» start end)
      ≡ done (document.source_row r.plane.«data» r.plane.stride (r.width * source_bytes r.pack) y)
  read y l =
      let s = r.plane.stride in
      let n = r.width * source_bytes r.pack in
      let m : (suc y) * s ≤ r.height * s = mul-le-mul_right s l in
      let e : suc y * s ≡ y * s + s = omega (arith, suc-mul y s) in
      let h : y * s + n ≤ s * r.height = omega (arith, m, e, ok.inside) in
      let b : y * s < 2 ^ 64 = omega (arith, h, ok.small) in
      let c : n < 2 ^ 64 = omega (arith, h, ok.small) in
      let d : y * s + n < 2 ^ 64 = omega (arith, h, ok.small) in
      let w : y * s + n - y * s ≡ n = omega arith in
      rw (mul_is 64 y s b, mul_is 64 r.width (source_bytes r.pack) c, add_is 64 (y * s) n d, range_is r.plane.«data» (y * s) (y * s + n) (omega arith) (omega (arith, h, ok.whole)), w)

  pub source_is : (y : ℕ) → y < r.height
      → source_row r y ≡ done (document.source_row r.plane.«data» r.plane.stride (r.width * source_bytes r.pack) (document.row_of r.top_down r.height y))
  unfolding source_row
  source_is y l = go r.top_down
    where
      go : (t : Bool)
          → (cond t (done y) (sub r.height 1 >>= λ last. sub last y) >>= λ y. mul 64 y r.plane.stride >>= λ start. mul 64 r.width (source_bytes r.pack) >>= λ bytes. add 64 start bytes >>= λ end. range r.plane.«data» start end)
          ≡ done (document.source_row r.plane.«data» r.plane.stride (r.width * source_bytes r.pack) (document.row_of t r.height y))
      go true = read y l
      go false =
          let h = r.height in
          let b : 1 ≤ h = omega (arith, l) in
          rw (sub_is h 1 b, sub_is (h - 1) y (omega (arith, l))) (read (h - 1 - y) (omega (arith, l)))
