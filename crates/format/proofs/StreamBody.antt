-- What the readers show of a stream.
use mathlib.Core.Path.{◌≡◌, refl, sym, ap, ◌∙◌}
use mathlib.Core.Logic.{◌⊎◌, inl, inr}
use mathlib.Core.Bool.{true, false, cond, ◌||◌}
use mathlib.Core.List.{List, ◌++◌}
use Prim.Native.Nat.{ℕ, zero, suc, ◌+◌, ◌-◌, ◌*◌, ◌%◌, ◌^◌, ◌≤◌, ◌<◌}
use native.Mathlib.Omega.{arith}
use lib.Dec.{eqb}
use lib.ListN.{length, get_or, drop}
use Rattle.std.proofs.Common.{is_some}
use Rattle.leaves.specs.declared.image.BmpPixelFormat.{BmpPixelFormat}
use Rattle.format.specs.File.{depth_in, head_bytes_of, tail_of, stream_of, limit_in, stream_used, pixels, compression_of, file_of}
use Rattle.format.specs.Layout.{depth_of, coded}
use Rattle.leaves.specs.Formats.{bytes_per_pixel, bits_per_pixel}
use Rattle.format.proofs.Modes.{coded_cases, used_in}
use Rattle.format.proofs.HeadFields.{pixels-at, fields_read}
use Rattle.format.proofs.HeadTable.{palette_read}
use Rattle.leaves.specs.Lists.{tab, cat}
use Rattle.format.specs.Decode.{filled, decode}
use Rattle.rows.specs.RleCodes.{cells}
use Rattle.rows.specs.StoredRows.{row_of, source_row}
use Rattle.rows.specs.Stream.{stream}
use Rattle.format.specs.Accepted.{Accepted}
use Rattle.format.specs.Expectation.{pixel_bytes, handed, plainly_shown, cell_shown, palette_shown, expected}
use Rattle.format.specs.Input.{Input}
use Rattle.format.specs.Readers.{Fields, fields_of, shown_height, no_cell_of, palette_of, streamed, body, shows}
use Rattle.format.specs.Shown.{Cell, index}
use Rattle.leaves.proofs.ListLaws.{get_or-cat}
use Rattle.format.proofs.Decoding.{decode-stream}
use Rattle.rows.proofs.Scans.{length-cells, cell_at}
use Rattle.format.proofs.Pictures.{height_shown_lem, some_cell, picture_shown}
use Rattle.format.proofs.SourceRows.{length_source, source_at}

-- ---- any stream

-- the cells that a stream fills, in stored order
abbrev all_cells : ℕ → ℕ → ℕ → List ℕ → ℕ → List ℕ
all_cells d w h plane stride = cat (λ s. cells d (source_row plane stride w (row_of false h s))) h

module _ (d w h : ℕ) (plane : List ℕ) (stride : ℕ) (inside : w * 1 ≤ stride) (long : stride * h ≤ length plane) where
  -- every row of the plane is whole
  pub whole_row : (s : ℕ) → s < h → length (source_row plane stride w (row_of false h s)) ≡ w
  whole_row s l =
      let from : h - 1 - s < h = omega arith in
      length_source plane stride w h (h - 1 - s) (omega arith) long from

  -- the cell that is shown at x in row y is the index handed in there, cut to the depth
  cell_filled : (y x : ℕ) → y < h → x < w → get_or (all_cells d w h plane stride) ((h - 1 - y) * w + x) 0 ≡ get_or plane (y * stride + x * 1 + 0) 0 % 2 ^ d
  cell_filled y x l k =
      let below : h - 1 - y < h = omega arith in
      let back : h - 1 - (h - 1 - y) ≡ y = omega arith in
      let place : y * stride + x ≡ y * stride + x * 1 + 0 = omega arith in
      get_or-cat (λ s. cells d (source_row plane stride w (row_of false h s))) w h (h - 1 - y) x 0
      (λ s m. length-cells d (source_row plane stride w (row_of false h s)) ∙ whole_row s m) k below
      ∙ cell_at d (source_row plane stride w (row_of false h (h - 1 - y))) x
      ∙ ap (λ (z : ℕ). z % 2 ^ d)
      (source_at plane stride w (h - 1 - (h - 1 - y)) x k
      ∙ ap (λ (z : ℕ). get_or plane (z * stride + x) 0) back
      ∙ ap (λ (z : ℕ). get_or plane z 0) place)

-- the stream is read as the cells of its rows
stream-read : (d w h : ℕ) (plane : List ℕ) (stride : ℕ) (rest : List ℕ) → (d ≡ 4) ⊎ (d ≡ 8) → 0 < h → w * 1 ≤ stride → stride * h ≤ length plane
    → decode d w (stream d w h plane stride ++ rest) (h - 1) ≡ filled (all_cells d w h plane stride) (length (stream d w h plane stride) - 2)
stream-read d w zero plane stride rest deep some inside long = absurd (omega arith)
stream-read d w (suc m) plane stride rest deep some inside long =
    let e : suc m - 1 ≡ m = omega arith in
    ap (decode d w (stream d w (suc m) plane stride ++ rest)) e
    ∙ decode-stream d deep w plane stride m (whole_row d w (suc m) plane stride inside long) rest

-- a reader that finds the stream shows the indices of the plane
body-read : (file : List ℕ) (t : Fields) (d w h : ℕ) (colours : List Cell) (plane : List ℕ) (stride : ℕ) (rest : List ℕ) (cell : ℕ → ℕ → Cell)
    → (d ≡ 4) ⊎ (d ≡ 8) → 0 < w → 0 < h → h < 2147483648 → w * 1 ≤ stride → stride * h ≤ length plane
    → t.width ≡ w → t.height ≡ h → t.depth ≡ d → palette_of file t ≡ colours → (eqb t.compression 1 || eqb t.compression 2) ≡ true
    → drop t.offset file ≡ stream d w h plane stride ++ rest
    → ((y x : ℕ) → cell y x ≡ index (get_or plane (y * stride + x * 1 + 0) 0 % 2 ^ d))
    → body file t ≡ shows (record { width = w; height = h; palette = colours; rows = tab (λ y. tab (λ x. cell y x) w) h })
unfolding body streamed
body-read file t d w h colours plane stride rest cell deep broad some tall inside long wide high bits palette kind at shown =
    let all : shown_height t ≡ h = height_shown_lem t false h some tall high in
    let found : decode t.depth t.width (drop t.offset file) (shown_height t - 1) ≡ filled (all_cells d w h plane stride) (length (stream d w h plane stride) - 2)
    = (λ z. decode (bits z) (wide z) (at z) (all z - 1)) ∙ stream-read d w h plane stride rest deep some inside long in
    let full : no_cell_of t ≡ false = some_cell t w h broad some wide all in
    rw (full, kind) (ap (streamed file t) found)
    ∙ picture_shown file t (λ y x. index (get_or (all_cells d w h plane stride) ((shown_height t - 1 - y) * t.width + x) 0)) cell w h colours wide all palette
    (λ y x l k.
    (λ z. index (get_or (all_cells d w h plane stride) ((all z - 1 - y) * wide z + x) 0))
    ∙ ap index (cell_filled d w h plane stride inside long y x l k) ∙ sym (shown y x))

-- ---- the sources that are coded

-- what the two sources that a stream codes have in common
pub record Coded (f : BmpPixelFormat) : Type 0 where
  pub deep : (bits_per_pixel f ≡ 4) ⊎ (bits_per_pixel f ≡ 8)
  pub one : bytes_per_pixel f ≡ 1
  pub step : pixel_bytes f ≡ 1
  pub kind : (eqb (cond (eqb (bits_per_pixel f) 8) 1 2) 1 || eqb (cond (eqb (bits_per_pixel f) 8) 1 2) 2) ≡ true
  pub shown : (byte : ℕ → ℕ) → plainly_shown f byte ≡ index (byte 0 % 2 ^ bits_per_pixel f)

pub coded_source : (f : BmpPixelFormat) → coded f ≡ true → Coded f
unfolding plainly_shown
coded_source =
    coded_cases Coded (record { deep = inr refl; one = refl; step = refl; kind = refl; shown = λ byte. refl })
    (record { deep = inl refl; one = refl; step = refl; kind = refl; shown = λ byte. refl })

-- ---- when a stream is used

-- the compression says that there is a stream
pub kind_read : (i : Input) → stream_used (limit_in i) i ≡ true → compression_of (limit_in i) i ≡ cond (eqb (bits_per_pixel i.source.format) 8) 1 2
unfolding compression_of
kind_read i used = rw used

-- and the depth is the source's
pub plain_depth : (i : Input) → is_some i.options.bitfields ≡ false → depth_in i ≡ bits_per_pixel i.source.format
unfolding depth_of
plain_depth i off = rw off

-- the stream stands at the offset
pub stream_at : (i : Input) → stream_used (limit_in i) i ≡ true
    → drop (head_bytes_of i) (file_of (limit_in i) i)
    ≡ stream (bits_per_pixel i.source.format) i.source.width i.source.height i.plane i.source.stride ++ tail_of i
unfolding pixels stream_of
stream_at i used = pixels-at i ∙ rw used

-- without masks an index is shown as it was handed in, cut to the depth
index_shown : (i : Input) → is_some i.options.bitfields ≡ false → Coded i.source.format → (y x : ℕ)
    → cell_shown i y x ≡ index (get_or i.plane (y * i.source.stride + x * 1 + 0) 0 % 2 ^ bits_per_pixel i.source.format)
unfolding cell_shown handed
index_shown i off c y x = rw off (c.shown (handed i y x) ∙ rw c.step)

-- what the readers show of a stream is what must be shown
pub stream-body : (i : Input) → Accepted i → stream_used (limit_in i) i ≡ true
    → body (file_of (limit_in i) i) (fields_of (file_of (limit_in i) i)) ≡ shows (expected i)
unfolding expected
stream-body i a used =
    let parts = used_in (limit_in i) i used in
    let c : Coded i.source.format = coded_source i.source.format parts.planned.source in
    let read = fields_read i a in
    let offset : (fields_of (file_of (limit_in i) i)).offset ≡ head_bytes_of i = ap (λ (t : Fields). t.offset) read in
    let wide : (fields_of (file_of (limit_in i) i)).width ≡ i.source.width = ap (λ (t : Fields). t.width) read in
    let high : (fields_of (file_of (limit_in i) i)).height ≡ i.source.height = ap (λ (t : Fields). t.height) read ∙ rw parts.planned.bottom_up in
    let bits : (fields_of (file_of (limit_in i) i)).depth ≡ bits_per_pixel i.source.format = ap (λ (t : Fields). t.depth) read ∙ plain_depth i parts.planned.unmasked in
    let kind : (fields_of (file_of (limit_in i) i)).compression ≡ cond (eqb (bits_per_pixel i.source.format) 8) 1 2
    = ap (λ (t : Fields). t.compression) read ∙ kind_read i used in
    let at : drop (fields_of (file_of (limit_in i) i)).offset (file_of (limit_in i) i) ≡ _ = ap (λ (n : ℕ). drop n (file_of (limit_in i) i)) offset ∙ stream_at i used in
    body-read (file_of (limit_in i) i) (fields_of (file_of (limit_in i) i)) (bits_per_pixel i.source.format) i.source.width i.source.height (palette_shown i) i.plane i.source.stride
    (tail_of i) (cell_shown i) c.deep a.some_width a.some_height a.tall (rw (← c.one) a.rows_inside) a.plane_long wide high bits
    (palette_read i a) (rw kind c.kind) at
    (index_shown i parts.planned.unmasked c)
