-- Laws of the functions that write a file: the head, then the stream, or the stored rows and the profile.
use mathlib.Core.Path.{◌≡◌, refl, sym, ap, subst, ◌∙◌}
use mathlib.Core.Bool.{Bool, true, false, not, cond, false≢true}
use mathlib.Core.List.{List, ◌++◌, append-nil}
use Prim.Native.Nat.{ℕ, ◌+◌, ◌-◌, ◌*◌, ◌≤◌, ◌<◌, min}
use native.Mathlib.Omega.{arith}
use borrow.Author.Tests.{eqb-true}
use lib.Dec.{eqb}
use lib.ListN.{length, length-append}
use Rattle.std.proofs.Common.{Ok, Option, Some, None, is_some}
use Rattle.leaves.specs.declared.encoder.EncodedBmpFormat.{EncodedBmpFormat}
use Rattle.leaves.specs.declared.encoder.EncodedBmpFormat.TheVariants as written
use Rattle.leaves.specs.declared.image.BmpPixelFormat.{BmpPixelFormat}
use Rattle.leaves.specs.Formats.{bytes_per_pixel, bits_per_pixel}
use Rattle.leaves.specs.Put.{put}
use Rattle.leaves.specs.Lists.{cat}
use Rattle.leaves.specs.Sizes.{row_stride, clr_used_of}
use Rattle.rows.specs.declared.pack.RowPack.{RowPack}
use Rattle.rows.specs.declared.rle.Rle.{Rle}
use Rattle.rows.specs.declared.rle.Rle.TheVariants.{Rle8, Rle4}
use Rattle.rows.specs.RleCodes as codes
use Rattle.rows.specs.StoredRows.{pack_bits, pack_bytes, PackOk, stored_rows}
use Rattle.rows.specs.Starts.{noted}
use Rattle.rows.specs.Stream.{stream, stream_start}
use Rattle.rows.proofs.StartLaws.{noted_ext}
use Rattle.format.specs.declared.layout.Layout.{Layout}
use Rattle.format.specs.declared.layout.Mode.TheVariants.{Plain}
use Rattle.format.specs.File.{mode_in, depth_in, pack_in, rle_planned, raw_bytes, entries_of, head_bytes_of, tail_of, stream_of, max_file, limit_in, budget, stream_used, stored_rows_of, pixels, table_entry, colour_table, stored_height_of, compression_of, image_size_of, x_pels_in, y_pels_in, head_of, file_size_of, file_of, plain_size_of, format_of}
use Rattle.format.specs.Input.{Input}
use Rattle.format.specs.Layout.{header_size_of, head_rest, head_len, raw_len, rows_compression, rows_format, coding_at, coding_of, layout_of}
use Rattle.format.specs.Starts.{row_start}
use Rattle.format.proofs.Acceptance.{Checked, rows_long, plan_passed}
use Rattle.format.proofs.FileSizes.{pack_ok, rows_pixels}
use Rattle.format.proofs.HeadFields.{length_head}
use Rattle.format.proofs.HeadTable.{entries_small}
use Rattle.format.proofs.ImageSize.{compressed_size, stream_compression}
use Rattle.format.proofs.Modes.{coded_cases, PlannedIn, planned_in, used_in, tail_empty, no_tail}
use Rattle.format.proofs.PlainBody.{pack_bytes_lem}
use Rattle.format.proofs.RowStarts.{start_coded, start_stored}
use Rattle.planner.specs.declared.encoder.Encoded.{Encoded}
use Rattle.planner.specs.declared.plan.Sizes.{Sizes}
use Rattle.planner.specs.Plans.{encoded_in, sizes_by, layout_in, sizes_of, Planned, Streamed, first_fields, head_by, noted_for}
use Rattle.planner.proofs.HeadLaws.{put_next}
use Rattle.planner.proofs.LayoutLaws.{coding_planned}

-- ---- sizes

module _ (i : Input) (s : Sizes) (e : s ≡ sizes_of i) where
  pub sizes_head : s.head ≡ head_bytes_of i
  unfolding sizes_by
  sizes_head = ap (λ (t : Sizes). t.head) e

  pub sizes_raw : s.raw ≡ raw_bytes i
  unfolding sizes_by
  sizes_raw = ap (λ (t : Sizes). t.raw) e

  pub sizes_file : s.file ≡ plain_size_of i
  unfolding sizes_by plain_size_of
  sizes_file = ap (λ (t : Sizes). t.file) e

  -- the parts of the file
  pub sizes_parts : s.file ≡ s.head + s.raw + length (tail_of i)
  unfolding plain_size_of
  sizes_parts = sizes_file ∙ omega (arith, sizes_head, sizes_raw)

-- ---- the head

-- the head of a layout
head_of_lem : (i : Input) (c im n : ℕ) → head_by (layout_in i) i.source i.options i.palette (head_bytes_of i) c im n (length (tail_of i)) (head_bytes_of i - 14 + raw_bytes i) ≡ head_of i c im (x_pels_in i) (y_pels_in i) n
unfolding head_by first_fields layout_of head_of colour_table
head_of_lem i c im n = refl

-- a plain head looks at no profile
head_plain : (i : Input) (c im n a b x y : ℕ) → mode_in i ≡ Plain
    → head_by (layout_in i) i.source i.options i.palette (head_bytes_of i) c im n a b ≡ head_by (layout_in i) i.source i.options i.palette (head_bytes_of i) c im n x y
unfolding head_by first_fields layout_of head_rest
head_plain i c im n a b x y e =
    let same : head_rest (mode_in i) i.source i.options a b ≡ head_rest (mode_in i) i.source i.options x y
    = (λ z. head_rest (e z) i.source i.options a b) ∙ (λ z. head_rest (sym e z) i.source i.options x y) in
    λ z. first_fields (record {
      file_size = n;
      pixel_offset = head_bytes_of i;
      header_size = header_size_of (mode_in i) i.source.format;
      width = i.source.width;
      stored_height = stored_height_of i;
      bit_count = depth_in i;
      compression = c;
      image_size = im;
      x_pels = x_pels_in i;
      y_pels = y_pels_in i;
      clr_used = clr_used_of (depth_in i) (entries_of i);
    }) ++ same z ++ cat (table_entry i.palette) (entries_of i)

-- a layout's mode is the call's
pub mode_is : (i : Input) (l : Layout) → l ≡ layout_in i → l.mode ≡ mode_in i
unfolding layout_of
mode_is i l e = ap (λ (x : Layout). x.mode) e

-- what the head's writer asks
pub head_asked : (i : Input) (l : Layout) (head : ℕ) → l ≡ layout_in i → head ≡ head_bytes_of i
    → (l.entries ≤ 256) × (head ≡ 54 + length (head_rest l.mode i.source i.options 0 0) + 4 * l.entries)
unfolding layout_of head_len
head_asked i l head e h = (
  subst (λ (x : Layout). x.entries ≤ 256) (sym e) (entries_small i.source.format (length i.palette) i.options.minimal_palette),
  h ∙ sym (ap (λ (x : Layout). 54 + length (head_rest x.mode i.source i.options 0 0) + 4 * x.entries) e),
)

-- ---- a stream

-- the coding that a depth has
rle_in : Option Rle → Rle
rle_in (Some rle) = rle
rle_in None = Rle8

-- is of that depth, 8 or 4
coding_depth : (d : ℕ) (rle : Rle) → coding_at d ≡ Some rle → (codes.depth_of (codes.is_rle4 rle) ≡ d) × (codes.is_rle4 rle ≡ not (eqb d 8))
unfolding rle_in
coding_depth d rle e = go (eqb d 8) (eqb d 4) refl refl e
  where
    go : (a b : Bool) → eqb d 8 ≡ a → eqb d 4 ≡ b → cond a (Some Rle8) (cond b (Some Rle4) None) ≡ Some rle → (codes.depth_of (codes.is_rle4 rle) ≡ d) × (codes.is_rle4 rle ≡ not a)
    go true b p q r = (sym (ap (λ (c : Option Rle). codes.depth_of (codes.is_rle4 (rle_in c))) r) ∙ sym (eqb-true d 8 p), sym (ap (λ (c : Option Rle). codes.is_rle4 (rle_in c)) r))
    go false true p q r = (sym (ap (λ (c : Option Rle). codes.depth_of (codes.is_rle4 (rle_in c))) r) ∙ sym (eqb-true d 4 q), sym (ap (λ (c : Option Rle). codes.is_rle4 (rle_in c)) r))
    go false false p q r = absurd (false≢true (ap is_some r))

module _ (i : Input) (l : Layout) (rle : Rle) (el : l ≡ layout_in i) (ec : l.coding ≡ Some rle) where
  coding_is : coding_of i.source i.options ≡ Some rle
  unfolding layout_of
  coding_is = sym (ap (λ (x : Layout). x.coding) el) ∙ ec

  -- a layout with a stream plans RLE
  pub stream_planned : rle_planned i ≡ true
  stream_planned = sym (coding_planned i.source i.options) ∙ ap is_some coding_is

  at_depth : coding_at (bits_per_pixel i.source.format) ≡ Some rle
  unfolding coding_of
  at_depth = sym (ap (λ (b : Bool). cond b (coding_at (bits_per_pixel i.source.format)) None) stream_planned) ∙ coding_is

  -- its coding is the source's
  pub stream-coded : stream (codes.depth_of (codes.is_rle4 rle)) i.source.width i.source.height i.plane i.source.stride ≡ stream_of i
  unfolding stream_of
  stream-coded =
      ap (λ (d : ℕ). stream d i.source.width i.source.height i.plane i.source.stride) (coding_depth (bits_per_pixel i.source.format) rle at_depth).0

  -- and so is where its rows begin
  pub stream_starts : (s : ℕ) → stream_start (codes.depth_of (codes.is_rle4 rle)) i.source.width i.source.height i.plane i.source.stride s
      ≡ stream_start (bits_per_pixel i.source.format) i.source.width i.source.height i.plane i.source.stride s
  stream_starts s =
      ap (λ (d : ℕ). stream_start d i.source.width i.source.height i.plane i.source.stride s) (coding_depth (bits_per_pixel i.source.format) rle at_depth).0

  -- its rows lie in the plane
  pub stream_inside : i.source.width * bytes_per_pixel i.source.format ≤ i.source.stride → i.source.width ≤ i.source.stride
  stream_inside h =
      go (bytes_per_pixel i.source.format) (coded_cases (λ (f : BmpPixelFormat). bytes_per_pixel f ≡ 1) refl refl i.source.format (planned_in i stream_planned).source) h
    where
      go : (n : ℕ) → n ≡ 1 → i.source.width * n ≤ i.source.stride → i.source.width ≤ i.source.stride
      go n e k = omega (arith, ap (λ (x : ℕ). i.source.width * x) e)

module _ (i : Input) (l : Layout) (sizes : Sizes) (rle : Rle) (len : ℕ) (k : Streamed i l sizes rle len) where
  stream_plan : PlannedIn i
  stream_plan = (used_in (limit_in i) i k.used).planned

  -- its file's size has 32 bits
  pub stream_small : sizes.head + len ≤ max_file
  unfolding budget
  stream_small =
      let under : length (stream_of i) < min (raw_bytes i) (limit_in i + 1 - head_bytes_of i) = (used_in (limit_in i) i k.used).under in
      omega (arith, sizes_head i sizes k.planned.sizes_are, k.long, (plan_passed i k.planned.passed).0.limited)

  stream-pixels : pixels (limit_in i) i ≡ stream_of i
  unfolding pixels
  stream-pixels = ap (λ (b : Bool). cond b (stream_of i) (stored_rows_of i)) k.used

  stream_eight : codes.is_rle4 rle ≡ not (eqb (bits_per_pixel i.source.format) 8)
  stream_eight = (coding_depth (bits_per_pixel i.source.format) rle (at_depth i l rle k.planned.layout_is k.coded)).1

  -- what goes by the coding
  by_coding : {A : Type 0} → (x y rest : A) → cond (codes.is_rle4 rle) y x ≡ cond (stream_used (limit_in i) i) (cond (eqb (bits_per_pixel i.source.format) 8) x y) rest
  by_coding x y rest = go (codes.is_rle4 rle) (eqb (bits_per_pixel i.source.format) 8) (stream_used (limit_in i) i) stream_eight k.used
    where
      go : (a b c : Bool) → a ≡ not b → c ≡ true → cond a y x ≡ cond c (cond b x y) rest
      go a true true e u = ap (λ (q : Bool). cond q y x) e
      go a false true e u = ap (λ (q : Bool). cond q y x) e
      go a b false e u = absurd (false≢true u)

  stream-size : sizes.head + len ≡ file_size_of (limit_in i) i
  unfolding file_size_of
  stream-size = omega (arith, sizes_head i sizes k.planned.sizes_are, k.long, ap length stream-pixels, no_tail i stream_plan)

  stream_image : len ≡ image_size_of (limit_in i) i
  stream_image = k.long ∙ sym (compressed_size (limit_in i) i (stream_compression (limit_in i) i k.used) ∙ ap length stream-pixels)

  -- the answer
  pub stream-answer : (format : EncodedBmpFormat) → format ≡ cond (codes.is_rle4 rle) written.Rle4 written.Rle8
      → ◌≡◌ {A = Encoded} (record { format = format; bytes = sizes.head + len }) (encoded_in i)
  unfolding format_of
  stream-answer format e = λ z. record { format = (e ∙ by_coding written.Rle8 written.Rle4 (rows_format i.source i.options)) z; bytes = stream-size z }

  -- the file
  pub stream_written : (d b1 b2 : List ℕ) (at compression : ℕ) → compression ≡ cond (codes.is_rle4 rle) 2 1 → at + sizes.head + len ≤ length d
      → b1 ≡ put d at (head_by l i.source i.options i.palette sizes.head compression len (sizes.head + len) 0 0)
      → b2 ≡ put b1 (at + sizes.head) (stream (codes.depth_of (codes.is_rle4 rle)) i.source.width i.source.height i.plane i.source.stride)
      → b2 ≡ put d at (file_of (limit_in i) i)
  unfolding file_of compression_of
  stream_written d b1 b2 at compression ec room e1 e2 =
      let p = k.planned in
      let top = head_of i (compression_of (limit_in i) i) (image_size_of (limit_in i) i) (x_pels_in i) (y_pels_in i) (file_size_of (limit_in i) i) in
      let c : compression ≡ compression_of (limit_in i) i = ec ∙ by_coding 1 2 (rows_compression i.source i.options) in
      let eh = sizes_head i sizes p.sizes_are in
      let h : head_by l i.source i.options i.palette sizes.head compression len (sizes.head + len) 0 0 ≡ top
      = (λ z. head_by (p.layout_is z) i.source i.options i.palette (eh z) (c z) (stream_image z) (stream-size z) 0 0)
      ∙ head_plain i (compression_of (limit_in i) i) (image_size_of (limit_in i) i) (file_size_of (limit_in i) i) 0 0 (length (tail_of i)) (head_bytes_of i - 14 + raw_bytes i) stream_plan.mode
      ∙ head_of_lem i (compression_of (limit_in i) i) (image_size_of (limit_in i) i) (file_size_of (limit_in i) i) in
      let long = length_head i (compression_of (limit_in i) i) (image_size_of (limit_in i) i) (x_pels_in i) (y_pels_in i) (file_size_of (limit_in i) i) ∙ sym eh in
      put_next d b1 b2 top (stream_of i) at sizes.head (at + sizes.head) long refl (omega arith) (e1 ∙ ap (put d at) h)
      (e2 ∙ ap (put b1 (at + sizes.head)) (stream-coded i l rle p.layout_is k.coded))
      ∙ ap (put d at) (sym ((λ z. top ++ stream-pixels z ++ tail_empty i stream_plan z) ∙ append-nil (top ++ stream_of i)))

  -- the starts of its rows, in a file that begins at `at`
  pub stream-noted : (at : ℕ) (was later : List ℕ)
      → later ≡ noted (λ s. at + sizes.head - at + stream_start (codes.depth_of (codes.is_rle4 rle)) i.source.width i.source.height i.plane i.source.stride s) was i.source.height
      → later ≡ noted_for (Ok tt) i was
  stream-noted at was later e =
      let p = k.planned in
      e
      ∙ noted_ext _ (row_start (limit_in i) i) was i.source.height
      (λ s.
      let head : at + sizes.head - at ≡ head_bytes_of i = omega (arith, sizes_head i sizes p.sizes_are) in
      (λ z. head z + stream_starts i l rle p.layout_is k.coded s z) ∙ sym (start_coded i (limit_in i) s k.used))

-- ---- stored rows

module _ (i : Input) (l : Layout) (sizes : Sizes) (p : Planned i l sizes) where
  rows_checked : Checked i
  rows_checked = (plan_passed i p.passed).0

  pack_is : l.pack ≡ pack_in i
  unfolding layout_of
  pack_is = ap (λ (x : Layout). x.pack) p.layout_is

  -- what the packer asks
  pub pack_asked : PackOk l.pack × ((i.source.width * pack_bytes l.pack ≤ i.source.stride) × (row_stride i.source.width (pack_bits l.pack) * i.source.height ≡ sizes.raw))
  unfolding raw_len
  pack_asked =
      let ok = pack_ok i rows_checked.masks rows_checked.samples in
      let n : pack_bytes l.pack ≡ bytes_per_pixel i.source.format = ap pack_bytes pack_is ∙ pack_bytes_lem i in
      let b : pack_bits l.pack ≡ depth_in i = ap pack_bits pack_is ∙ ok.1 in (
        subst PackOk (sym pack_is) ok.0,
        (
          subst (λ (m : ℕ). i.source.width * m ≤ i.source.stride) (sym n) rows_checked.rows_inside,
          ap (λ (d : ℕ). row_stride i.source.width d * i.source.height) b ∙ sym (sizes_raw i sizes p.sizes_are),
        ),
      )

  module _ (u : stream_used (limit_in i) i ≡ false) where
    rows_size : sizes.file ≡ file_size_of (limit_in i) i
    unfolding plain_size_of file_size_of
    rows_size = sizes_file i sizes p.sizes_are ∙ omega (arith, ap length (rows_pixels (limit_in i) i u), rows_long i rows_checked)

    -- the answer
    pub rows_answer : ◌≡◌ {A = Encoded} (record { format = l.format; bytes = sizes.file }) (encoded_in i)
    unfolding format_of layout_of
    rows_answer =
        let f : l.format ≡ format_of (limit_in i) i = ap (λ (x : Layout). x.format) p.layout_is
        ∙ sym (ap (λ (b : Bool). cond b (cond (eqb (bits_per_pixel i.source.format) 8) written.Rle8 written.Rle4) (rows_format i.source i.options)) u) in
        λ z. record { format = f z; bytes = rows_size z }

    -- the file
    pub rows_written : (d b1 b2 b3 profile : List ℕ) (at image : ℕ) → profile ≡ tail_of i → image ≡ cond (eqb l.compression 0) (cond (eqb l.header_size 40) 0 sizes.raw) sizes.raw → at + sizes.head + sizes.raw ≤ length d
        → b1 ≡ put d at (head_by l i.source i.options i.palette sizes.head l.compression image sizes.file (length profile) (sizes.head - 14 + sizes.raw))
        → b2 ≡ put b1 (at + sizes.head) (stored_rows l.pack i.source.width i.source.height i.options.top_down i.plane i.source.stride)
        → b3 ≡ put b2 (at + sizes.head + sizes.raw) profile → b3 ≡ put d at (file_of (limit_in i) i)
    unfolding stored_rows_of file_of compression_of image_size_of layout_of
    rows_written d b1 b2 b3 profile at image et ei room e1 e2 e3 =
        let eh = sizes_head i sizes p.sizes_are in
        let er = sizes_raw i sizes p.sizes_are in
        let c : l.compression ≡ compression_of (limit_in i) i = ap (λ (x : Layout). x.compression) p.layout_is
        ∙ sym (ap (λ (b : Bool). cond b (cond (eqb (bits_per_pixel i.source.format) 8) 1 2) (rows_compression i.source i.options)) u) in
        let stored : sizes.raw ≡ length (pixels (limit_in i) i) = er ∙ sym (ap length (rows_pixels (limit_in i) i u) ∙ rows_long i rows_checked) in
        let m : image ≡ image_size_of (limit_in i) i = ei ∙ (λ z. cond (eqb (c z) 0) (cond (eqb (p.layout_is z).header_size 40) 0 (er z)) (stored z)) in
        let top = head_of i (compression_of (limit_in i) i) (image_size_of (limit_in i) i) (x_pels_in i) (y_pels_in i) (file_size_of (limit_in i) i) in
        let h : head_by l i.source i.options i.palette sizes.head l.compression image sizes.file (length profile) (sizes.head - 14 + sizes.raw) ≡ top
        = (λ z. head_by (p.layout_is z) i.source i.options i.palette (eh z) (c z) (m z) (rows_size z) (length (et z)) (eh z - 14 + er z))
        ∙ head_of_lem i (compression_of (limit_in i) i) (image_size_of (limit_in i) i) (file_size_of (limit_in i) i) in
        let long : length top ≡ sizes.head = length_head i (compression_of (limit_in i) i) (image_size_of (limit_in i) i) (x_pels_in i) (y_pels_in i) (file_size_of (limit_in i) i) ∙ sym eh in
        let all : length (top ++ stored_rows_of i) ≡ sizes.head + sizes.raw = length-append top (stored_rows_of i) ∙ omega (arith, long, er, rows_long i rows_checked) in
        let rows : stored_rows l.pack i.source.width i.source.height i.options.top_down i.plane i.source.stride ≡ stored_rows_of i
        = ap (λ (q : RowPack). stored_rows q i.source.width i.source.height i.options.top_down i.plane i.source.stride) pack_is in
        let two = put_next d b1 b2 top (stored_rows_of i) at sizes.head (at + sizes.head) long refl (omega arith) (e1 ∙ ap (put d at) h) (e2 ∙ ap (put b1 (at + sizes.head)) rows) in
        put_next d b2 b3 (top ++ stored_rows_of i) (tail_of i) at (sizes.head + sizes.raw) (at + sizes.head + sizes.raw) all (omega arith) (omega arith) two
        (e3 ∙ ap (put b2 (at + sizes.head + sizes.raw)) et)
        ∙ ap (put d at) (sym (ap (λ (x : List ℕ). top ++ x ++ tail_of i) (rows_pixels (limit_in i) i u)))

    -- the starts of the rows, in a file that begins at `at`
    pub rows_noted : (at : ℕ) (was later : List ℕ) → later ≡ noted (λ s. at + sizes.head - at + s * row_stride i.source.width (pack_bits l.pack)) was i.source.height
        → later ≡ noted_for (Ok tt) i was
    rows_noted at was later e =
        let head : at + sizes.head - at ≡ head_bytes_of i = omega (arith, sizes_head i sizes p.sizes_are) in
        e
        ∙ noted_ext _ (row_start (limit_in i) i) was i.source.height
        (λ s. (λ z. head z + s * row_stride i.source.width (pack_bits (pack_is z))) ∙ sym (start_stored i (subst PackOk pack_is pack_asked.0) (limit_in i) s u))
