-- The starts of a written file: the places where a reader finds its rows, so that each row is shown from its start.
use mathlib.Core.Path.{◌≡◌, refl, sym, ap, ◌∙◌}
use mathlib.Core.Bool.{Bool, true, false, cond, ◌||◌}
use mathlib.Core.List.{List, [], ◌∷◌, ◌++◌, append_assoc}
use Prim.Native.Nat.{ℕ, suc, ◌+◌, ◌-◌, ◌*◌, ◌/◌, ◌≤◌, ◌<◌}
use native.Mathlib.Omega.{arith}
use borrow.Author.Tests.{ne_eqb}
use lib.Dec.{eqb}
use lib.ListN.{length, get_or, take, drop, length-append}
use lib.Seq.{drop-drop, drop_at, drop-append_seam, take-append-le, take-take, length-take-le}
use Rattle.leaves.specs.Formats.{bits_per_pixel}
use Rattle.leaves.specs.Lists.{cat}
use Rattle.leaves.specs.Sizes.{row_stride}
use Rattle.leaves.proofs.ListLaws.{cat_ext, cat-append, length-cat, get_or-tab}
use Rattle.rows.specs.RleCodes.{row_codes}
use Rattle.rows.specs.StoredRows.{pack_bits, PackOk, row_of, source_row, stored_rows}
use Rattle.rows.specs.Stream.{end_mark, stream_row, stream, stream_start}
use Rattle.rows.proofs.AllRows.{row_at, length_row_at}
use Rattle.format.specs.Accepted.{Accepted}
use Rattle.format.specs.Decode.{read_row, rows_below}
use Rattle.format.specs.Expectation.{expected}
use Rattle.format.specs.File.{depth_in, pack_in, head_bytes_of, tail_of, stream_of, limit_in, stream_used, stored_rows_of, pixels, compression_of, file_size_of, file_of}
use Rattle.format.specs.Input.{Input}
use Rattle.format.specs.OneRow.{read_one_row, shows_row}
use Rattle.format.specs.Readers.{newer, fields_of, top_first, shown_height, row_length, head_needs}
use Rattle.format.specs.Starts.{pixel_row, row_start, starts_of, RowsShown}
use Rattle.format.proofs.Decoding.{row_and_end, decode_row, decode_below}
use Rattle.format.proofs.FileSizes.{pack_ok}
use Rattle.format.proofs.HeadFields.{pixels-at, length_file, fields_in, fields_read}
use Rattle.format.proofs.HeadWhole.{head_needs_lem}
use Rattle.format.proofs.Modes.{used_in}
use Rattle.format.proofs.OneRowBytes.{row_bytes, row_own}
use Rattle.format.proofs.OneRowLaws.{bytes_read_of, start_in, shown_at, row_of_reading}
use Rattle.format.proofs.Pictures.{top_first_lem, height_shown_lem}
use Rattle.format.proofs.PlainBody.{rows_code}
use Rattle.format.proofs.PlainCells.{length_row}
use Rattle.format.proofs.Readings.{demand3}
use Rattle.format.proofs.SourceRows.{Begins}
use Rattle.format.proofs.StreamBody.{coded_source, whole_row, stream_at, kind_read, plain_depth}

-- ---- the rows of the pixels

module _ (i : Input) where
  -- the stored row s, coded and as it is
  abbrev coded : ℕ → List ℕ
  coded = stream_row (bits_per_pixel i.source.format) i.source.width i.source.height i.plane i.source.stride

  abbrev stored : ℕ → List ℕ
  stored = row_at (pack_in i) i.source.width i.source.height i.options.top_down i.plane i.source.stride

  -- the pixels are the stored rows one after the other, so each start is where its row stands
  pub pixels_rows : (limit : ℕ) → pixels limit i ≡ cat (pixel_row limit i) i.source.height
  unfolding pixels pixel_row stream_of stream stored_rows_of stored_rows
  pixels_rows limit = go (stream_used limit i)
    where
      go : (b : Bool) → cond b (cat coded i.source.height) (cat stored i.source.height) ≡ cat (λ s. cond b (coded s) (stored s)) i.source.height
      go true = refl
      go false = refl

  -- starts of a stream, and of stored rows
  pub start_coded : (limit s : ℕ) → stream_used limit i ≡ true
      → row_start limit i s ≡ head_bytes_of i + stream_start (bits_per_pixel i.source.format) i.source.width i.source.height i.plane i.source.stride s
  unfolding row_start pixel_row stream_start
  start_coded limit s used = ap (λ (b : Bool). head_bytes_of i + length (cat (λ k. cond b (coded k) (stored k)) s)) used

  stored_length : PackOk (pack_in i) → (s : ℕ) → length (cat stored s) ≡ s * row_stride i.source.width (pack_bits (pack_in i))
  stored_length ok s =
      length-cat stored (row_stride i.source.width (pack_bits (pack_in i))) s
      (λ k l. length_row_at (pack_in i) ok i.source.width i.source.height i.options.top_down i.plane i.source.stride k)

  pub start_stored : PackOk (pack_in i) → (limit s : ℕ) → stream_used limit i ≡ false → row_start limit i s ≡ head_bytes_of i + s * row_stride i.source.width (pack_bits (pack_in i))
  unfolding row_start pixel_row
  start_stored ok limit s unused =
      ap (λ (b : Bool). head_bytes_of i + length (cat (λ k. cond b (coded k) (stored k)) s)) unused ∙ ap (λ (n : ℕ). head_bytes_of i + n) (stored_length ok s)

-- ---- where a reader finds them

module _ (i : Input) (a : Accepted i) where
  abbrev file : List ℕ
  file = file_of (limit_in i) i

  -- the rows before row s of a stream all lead to the row above
  ends : (s : ℕ) → s < i.source.height
      → cat (coded i) s ≡ cat (λ k. row_and_end (bits_per_pixel i.source.format) (source_row i.plane i.source.stride i.source.width (row_of false i.source.height k))) s
  unfolding stream_row
  ends s l = cat_ext _ _ s (λ k m. rw (ne_eqb (k + 1) i.source.height (λ z. omega arith)))

  -- the stream, from its row s on
  split : (s : ℕ) → s < i.source.height
      → stream (bits_per_pixel i.source.format) i.source.width i.source.height i.plane i.source.stride
      ≡ cat (coded i) s ++ cat (λ k. coded i (s + k)) (i.source.height - s)
  unfolding stream
  split s l = let e : i.source.height ≡ s + (i.source.height - s) = omega arith in ap (cat (coded i)) e ∙ sym (cat-append (coded i) s (i.source.height - s))

  pub start_read : (s : ℕ) → s < i.source.height → start_in file s ≡ row_start (limit_in i) i s
  unfolding start_in stream_start
  start_read s l = rw (fields_read i a) (go (stream_used (limit_in i) i) refl)
    where
      d : ℕ
      d = depth_in i

      go : (b : Bool) → stream_used (limit_in i) i ≡ b
          → head_bytes_of i + cond (eqb (compression_of (limit_in i) i) 1 || eqb (compression_of (limit_in i) i) 2) (bytes_read_of (rows_below d i.source.width (drop (head_bytes_of i) file) s)) (s * row_length i.source.width d)
          ≡ row_start (limit_in i) i s
      go true used =
          let parts = used_in (limit_in i) i used in
          let c = coded_source i.source.format parts.planned.source in
          let row : ℕ → List ℕ = λ k. source_row i.plane i.source.stride i.source.width (row_of false i.source.height k) in
          let after = cat (λ k. coded i (s + k)) (i.source.height - s) in
          let bytes : drop (head_bytes_of i) file ≡ cat (λ k. row_and_end (bits_per_pixel i.source.format) (row k)) s ++ (after ++ tail_of i)
          = stream_at i used
          ∙ ap (λ (l : List ℕ). l ++ tail_of i) (split s l ∙ ap (λ (l : List ℕ). l ++ after) (ends s l))
          ∙ append_assoc (cat (λ k. row_and_end (bits_per_pixel i.source.format) (row k)) s) after (tail_of i) in
          let below = decode_below (bits_per_pixel i.source.format) c.deep i.source.width row s (after ++ tail_of i)
          (λ k m. whole_row (bits_per_pixel i.source.format) i.source.width i.source.height i.plane i.source.stride (rw (← c.one) a.rows_inside) a.plane_long k (omega arith)) in
          rw (kind_read i used, c.kind, plain_depth i parts.planned.unmasked, bytes, below, ← ends s l) (sym (start_coded i (limit_in i) s used))
      go false unused =
          let ok = pack_ok i a.masks a.samples in
          let n : row_length i.source.width d ≡ row_stride i.source.width (pack_bits (pack_in i)) = length_row d i.source.width ∙ ap (row_stride i.source.width) (sym ok.1) in
          rw (rows_code i a unused, n) (sym (start_stored i ok.0 (limit_in i) s unused))

  -- which row of the picture the stored row s is
  shown_read : (s : ℕ) → shown_at (fields_of file) s ≡ row_of i.options.top_down i.source.height s
  shown_read s = rw (fields_read i a) (go (stream_used (limit_in i) i) refl)
    where
      high : shown_height (fields_in i) ≡ i.source.height
      high = height_shown_lem (fields_in i) i.options.top_down i.source.height a.some_height a.tall refl

      first : top_first (fields_in i) ≡ i.options.top_down
      first = top_first_lem (fields_in i) i.options.top_down i.source.height a.some_height a.tall refl

      by : (td : Bool) → cond td s (i.source.height - 1 - s) ≡ row_of td i.source.height s
      by true = refl
      by false = refl

      go : (b : Bool) → stream_used (limit_in i) i ≡ b
          → cond (eqb (compression_of (limit_in i) i) 1 || eqb (compression_of (limit_in i) i) 2) (shown_height (fields_in i) - 1 - s) (cond (top_first (fields_in i)) s (shown_height (fields_in i) - 1 - s))
          ≡ row_of i.options.top_down i.source.height s
      go true used =
          let parts = used_in (limit_in i) i used in
          let c = coded_source i.source.format parts.planned.source in
          rw (kind_read i used, c.kind) (ap (λ (n : ℕ). n - 1 - s) high ∙ sym (ap (λ (td : Bool). row_of td i.source.height s) parts.planned.bottom_up))
      go false unused = rw (rows_code i a unused) ((λ z. cond (first z) s (high z - 1 - s)) ∙ by i.options.top_down)

  -- the newer reader shows each row from its start
  pub row_shown : (s : ℕ) → s < i.source.height
      → read_one_row newer file (row_start (limit_in i) i s) ≡ shows_row (get_or (expected i).rows (row_of i.options.top_down i.source.height s) [])
  unfolding expected
  row_shown s l =
      ap (read_one_row newer file) (sym (start_read s l))
      ∙ row_of_reading newer file (expected i) (demand3 i a).newer_shows s l
      ∙ ap (λ (y : ℕ). shows_row (get_or (expected i).rows y [])) (shown_read s)

  pub rows_shown_is : RowsShown i file (starts_of (limit_in i) i)
  unfolding starts_of
  rows_shown_is =
      record { each = λ s l. ap (read_one_row newer file) (get_or-tab (row_start (limit_in i) i) i.source.height s 0 l) ∙ row_shown s l }

  -- ---- that row alone

  head_inside : head_bytes_of i ≤ length file
  unfolding file_size_of
  head_inside = omega (arith, length_file i)

  -- the row as it is stored, coded and not
  coded_is : (s : ℕ) → stream_used (limit_in i) i ≡ true
      → pixel_row (limit_in i) i s
      ≡ row_codes (bits_per_pixel i.source.format) (source_row i.plane i.source.stride i.source.width (row_of false i.source.height s)) ++ (0 ∷ end_mark i.source.height s ∷ [])
  unfolding pixel_row stream_row
  coded_is s used = ap (λ (b : Bool). cond b (coded i s) (stored i s)) used

  stored_is : (s : ℕ) → stream_used (limit_in i) i ≡ false → length (pixel_row (limit_in i) i s) ≡ length (stored i s)
  unfolding pixel_row
  stored_is s unused = ap (λ (b : Bool). length (cond b (coded i s) (stored i s))) unused

  cells_stored : (w d : ℕ) → (w * d + 7) / 8 ≤ row_stride w d
  unfolding row_stride
  cells_stored w d = omega arith

  -- the file from a row's start on begins with that row
  pub row_there : (s : ℕ) → s < i.source.height → Begins (drop (row_start (limit_in i) i s) file) (pixel_row (limit_in i) i s)
  unfolding row_start cat
  row_there s l =
      let f = pixel_row (limit_in i) i in
      let e : i.source.height ≡ suc s + (i.source.height - suc s) = omega arith in
      let after = cat (λ k. f (suc s + k)) (i.source.height - suc s) ++ tail_of i in
      let bytes : drop (head_bytes_of i) file ≡ cat f s ++ (f s ++ after)
      = pixels-at i
      ∙ ap (λ (x : List ℕ). x ++ tail_of i) (pixels_rows i (limit_in i) ∙ ap (cat f) e ∙ sym (cat-append f (suc s) (i.source.height - suc s)))
      ∙ append_assoc (cat f s ++ f s) (cat (λ k. f (suc s + k)) (i.source.height - suc s)) (tail_of i)
      ∙ append_assoc (cat f s) (f s) after in
      record {
        rest = after;
        is = sym (drop-drop (length (cat f s)) (head_bytes_of i) file) ∙ ap (drop (length (cat f s))) bytes ∙ drop-append_seam (cat f s) (f s ++ after);
      }

  -- the bytes of a row that are looked at are bytes of that row
  row_within : (s : ℕ) → s < i.source.height → row_bytes file (row_start (limit_in i) i s) ≤ length (pixel_row (limit_in i) i s)
  unfolding row_bytes
  row_within s l = rw (fields_read i a) (go (stream_used (limit_in i) i) refl)
    where
      w : ℕ
      w = i.source.width

      from : List ℕ
      from = drop (row_start (limit_in i) i s) file

      go : (b : Bool) → stream_used (limit_in i) i ≡ b
          → cond (eqb (compression_of (limit_in i) i) 1 || eqb (compression_of (limit_in i) i) 2) (bytes_read_of (read_row (depth_in i) w from)) ((w * depth_in i + 7) / 8) ≤ length (pixel_row (limit_in i) i s)
      go true used =
          let parts = used_in (limit_in i) i used in
          let c = coded_source i.source.format parts.planned.source in
          let d : ℕ = bits_per_pixel i.source.format in
          let row = source_row i.plane i.source.stride w (row_of false i.source.height s) in
          let end : List ℕ = 0 ∷ end_mark i.source.height s ∷ [] in
          let wide : length row ≡ w = whole_row d w i.source.height i.plane i.source.stride (rw (← c.one) a.rows_inside) a.plane_long s l in
          let is : pixel_row (limit_in i) i s ≡ row_codes d row ++ end = coded_is s used in
          let begins : from ≡ row_codes d row ++ (end ++ (row_there s l).rest)
          = (row_there s l).is ∙ ap (λ (x : List ℕ). x ++ (row_there s l).rest) is ∙ append_assoc (row_codes d row) end (row_there s l).rest in
          let read : bytes_read_of (read_row d w from) ≡ length (row_codes d row)
          = (λ z. bytes_read_of (read_row d (sym wide z) (begins z))) ∙ ap bytes_read_of (decode_row d c.deep row (end ++ (row_there s l).rest)) in
          rw (kind_read i used, c.kind, plain_depth i parts.planned.unmasked) (omega (arith, read, ap length is, length-append (row_codes d row) end))
      go false unused =
          let ok = pack_ok i a.masks a.samples in
          let n : length (pixel_row (limit_in i) i s) ≡ row_stride w (depth_in i)
          = stored_is s unused ∙ length_row_at (pack_in i) ok.0 w i.source.height i.options.top_down i.plane i.source.stride s ∙ ap (row_stride w) ok.1 in
          rw (rows_code i a unused) (omega (arith, n, cells_stored w (depth_in i)))

  -- The head and that row are enough, whatever stands between them and behind.
  pub row_alone_shown : (s : ℕ) → s < i.source.height → (before after : List ℕ)
      → read_one_row newer (take (head_bytes_of i) file ++ (before ++ (pixel_row (limit_in i) i s ++ after))) (head_bytes_of i + length before)
      ≡ shows_row (get_or (expected i).rows (row_of i.options.top_down i.source.height s) [])
  row_alone_shown s l before after =
      let head = take (head_bytes_of i) file in
      let p = pixel_row (limit_in i) i s in
      let other = head ++ (before ++ (p ++ after)) in
      let n = row_bytes file (row_start (limit_in i) i s) in
      let m : ℕ = head_needs (fields_of file) in
      let long : length head ≡ head_bytes_of i = length-take-le (head_bytes_of i) file (head_inside) in
      let there : drop (head_bytes_of i + length before) other ≡ p ++ after
      = sym (drop-drop (length before) (head_bytes_of i) other)
      ∙ ap (drop (length before)) (drop_at head (before ++ (p ++ after)) (head_bytes_of i) long)
      ∙ drop-append_seam before (p ++ after) in
      row_own newer file other (row_start (limit_in i) i s) (head_bytes_of i + length before) _ (row_shown s l)
      (record {
        heads = sym (take-append-le m head (before ++ (p ++ after)) (omega (arith, long, head_needs_lem i a)) ∙ take-take m (head_bytes_of i) file (head_needs_lem i a));
        rows =
            ap (take n) (row_there s l).is ∙ take-append-le n p (row_there s l).rest (row_within s l)
            ∙ sym (ap (take n) there ∙ take-append-le n p after (row_within s l));
      })
