-- Plan::write_into, with a stream and without one.
use mathlib.Core.Path.{◌≡◌, refl, sym, ap, ◌∙◌}
use mathlib.Core.Bool.{Bool, true, false, not, cond, ◌&&◌, false≢true}
use mathlib.Core.Logic.{◌⊎◌}
use mathlib.Core.List.{List, [], ◌∷◌, ◌++◌, append_assoc, append-nil}
use Prim.Native.Nat.{ℕ, ◌+◌, ◌-◌, ◌*◌, ◌%◌, ◌^◌, ◌≤◌, ◌<◌}
use native.Mathlib.Nat.{mod-eq_of_lt, mul-one}
use native.Mathlib.Omega.{arith}
use borrow.Author.Tests.{lt-ltb, le-ltb, ltb-true, ltb-false, leb-true, leb-false}
use lib.Dec.{eqb, ltb, leb}
use lib.ListN.{length, take, length-append}
use lib.Seq.{take-append_seam}
use Rattle.std.proofs.Common.{is_some}
use Rattle.leaves.specs.declared.image.BmpPixelFormat.{BmpPixelFormat}
use Rattle.leaves.specs.declared.image.BmpPixelFormat.TheVariants as source
use Rattle.leaves.specs.declared.encoder.EncodedBmpFormat.TheVariants as written
use Rattle.leaves.specs.Formats.{bytes_per_pixel, bits_per_pixel, is_indexed, is_rgb565}
use Rattle.leaves.specs.Sizes.{clr_used_of}
use Rattle.leaves.proofs.ListLaws.{cat_ext}
use Rattle.leaves.proofs.Tests.{and_both, and_first, and_second}
use Rattle.leaves.specs.Options.{bitfields_in}
use Rattle.rows.specs.RleCodes.{row_codes}
use Rattle.rows.specs.StoredRows as rows
use Rattle.rows.specs.Stream.{end_mark, stream_row, stream}
use Rattle.format.specs.File.{mode_in, depth_in, pack_in, rle_planned, raw_bytes, entries_of, head_bytes_of, tail_of, stream_of, budget, stream_used, colour_table, stored_height_of, head_of, plain_size_of, bound_of, format_of}
use Rattle.format.specs.Layout.{is_plain, depth_of, head_rest, raw_len, mask_format, rows_compression, rows_format, coded, wants_rle}
use Rattle.format.specs.Headers.{file_header, info_header}
use Rattle.format.specs.Input.{Input}
use Rattle.format.specs.Refusals.{file_too_large, stream_over_budget}
use Rattle.format.proofs.Acceptance.{Checked}
use Rattle.format.proofs.HeadFields as fields
use Rattle.format.proofs.Passing.{and_false}
use Rattle.format.proofs.Modes.{given_mode, coded_cases, PlannedIn, planned_in}
use Rattle.format.proofs.PlainBody.{pack_bytes_lem}
use Rattle.reference.specs.Rust.{Run, done, ◌>>=◌, some, none, rle_over_limit, sub, within}
use Rattle.reference.specs.Types.{plain_token}
use Rattle.reference.specs.Rle.{Rle, Rle8, Rle4, rle_compression, rle_format, Probe, rle_into}
use Rattle.reference.specs.Plan.{Plan, Head, V3, V3Masks, V3Indexed, V4Rgb565, V4Calibrated, V5Profile, max_file, rle_in, rle_for, write_head, patch_rle_head, Appended, wrote, refused, write_pixels, probed, write_probed, write_into}
use Rattle.reference.specs.Compared.{given, options_of, Typed}
use Rattle.reference.proofs.RunLaws.{sub_is, reserve_is}
use Rattle.reference.proofs.ProbeLaws.{depth, row_is, into_is}
use Rattle.reference.proofs.NewPlan.{tables, format_in}
use Rattle.reference.proofs.PlanHeads.{palette_in, plain_head_for, head_for, by_head}
use Rattle.reference.proofs.PlanSizes.{sizes_for}
use Rattle.reference.proofs.Original.{row_in, original_rows, original_head, original_file}
use Rattle.reference.proofs.SourceLaws.{row_small}
use Rattle.reference.proofs.WriteLaws.{HeadFits, plan, row_read, row_length_lem, head_written, pixels_written, patch_is, within_rest}

-- ---- which stream is probed

-- none without a budget
none_probed : (head : Head) → probed head none ≡ none
none_probed (V3 bpp) = refl
none_probed (V3Masks masks) = refl
none_probed (V3Indexed bpp palette entries none) = refl
none_probed (V3Indexed bpp palette entries (some rle)) = refl
none_probed V4Rgb565 = refl
none_probed (V4Calibrated header cal) = refl
none_probed (V5Profile header space intent blob) = refl

-- the coding of a planned stream
record Coded (i : Input) : Type 0 where
  rle : Rle
  bits : bits_per_pixel i.source.format ≡ depth rle
  probes : (budget : ℕ) → probed (head_for (mode_in i) i.source.format i) (some budget) ≡ some (rle, budget)
  one_byte : rows.pack_bytes (pack_in i) ≡ 1
  not_565 : is_rgb565 i.source.format ≡ false

coded_of : (i : Input) → rle_planned i ≡ true → Coded i
unfolding wants_rle options_of
coded_of i e = coded_cases (λ f. i.source.format ≡ f → Coded i) (of source.Pal8 8 Rle8 refl refl refl refl refl) (of source.Indexed4 4 Rle4 refl refl refl refl refl) i.source.format (planned_in i e).source refl
  where
    wanted : (a b c d : Bool) → (a && b && c && d) ≡ true → (c && d) ≡ true
    wanted true true c d h = h
    wanted true false c d h = absurd (false≢true h)
    wanted false b c d h = absurd (false≢true h)

    of : (f : BmpPixelFormat) (bpp : ℕ) (rle : Rle) → plain_head_for f i ≡ V3Indexed bpp (palette_in i) (entries_of i) (rle_for f (options_of i)) → rle_in f ≡ some rle → bits_per_pixel f ≡ depth rle → bytes_per_pixel f ≡ 1 → is_rgb565 f ≡ false
        → i.source.format ≡ f → Coded i
    of f bpp rle head codes bits bytes other q =
        let w = wanted (is_plain (mode_in i)) (coded i.source.format) i.options.rle (not i.options.top_down) e in
        record {
          rle = rle;
          bits = ap bits_per_pixel q ∙ bits;
          probes = λ b.
              ap (λ n. probed (head_for n i.source.format i) (some b)) (planned_in i e).mode
              ∙ ap (λ g. probed (plain_head_for g i) (some b)) q
              ∙ ap (λ h. probed h (some b)) head
              ∙ ap (λ t. probed (V3Indexed bpp (palette_in i) (entries_of i) (cond t (rle_in f) none)) (some b)) w
              ∙ ap (λ r. probed (V3Indexed bpp (palette_in i) (entries_of i) r) (some b)) codes;
          one_byte = pack_bytes_lem i ∙ ap bytes_per_pixel q ∙ bytes;
          not_565 = ap is_rgb565 q ∙ other;
        }

-- ---- the head of a plain file that is not Rgb565

module _ (i : Input) (p : PlannedIn i) (other : is_rgb565 i.source.format ≡ false) where
  abbrev pub coded_head : ℕ → ℕ → List ℕ
  coded_head compression size =
      file_header size (head_bytes_of i)
      ++ info_header 40 i.source.width (stored_height_of i) (depth_in i) compression 0 2835 2835 (clr_used_of (depth_in i) (entries_of i))
      ++ colour_table i

  -- with any count of pixels
  coded_head_lem : (compression pixel_bytes size : ℕ) → original_head i compression pixel_bytes size ≡ coded_head compression size
  unfolding head_of head_rest
  coded_head_lem compression pixel_bytes size =
      let first : List ℕ = file_header size (head_bytes_of i) ++ info_header 40 i.source.width (stored_height_of i) (depth_in i) compression 0 2835 2835 (clr_used_of (depth_in i) (entries_of i)) in
      rw (p.mode, other) (ap (λ x. x ++ colour_table i) (append-nil first))

  zero_head : (pixel_bytes size : ℕ) → original_head i (rows_compression i.source i.options) pixel_bytes size ≡ coded_head 0 size
  unfolding rows_compression
  zero_head pixel_bytes size =
      let none : rows_compression i.source i.options ≡ 0 = rw (p.unmasked, other) in
      ap (λ n. original_head i n pixel_bytes size) none ∙ coded_head_lem 0 pixel_bytes size

-- a coding's compression and format, by the depth
coded_compression : (rle : Rle) (d : ℕ) → d ≡ depth rle → cond (eqb d 8) 1 2 ≡ rle_compression rle
coded_compression Rle8 d e = rw e
coded_compression Rle4 d e = rw e

coded_format : (rle : Rle) (d : ℕ) → d ≡ depth rle → cond (eqb d 8) written.Rle8 written.Rle4 ≡ rle_format rle
coded_format Rle8 d e = rw e
coded_format Rle4 d e = rw e

-- ---- a file without a stream

plain_format : (limit : ℕ) (i : Input) → stream_used limit i ≡ false → format_in (mode_in i) i ≡ format_of limit i
unfolding format_of rows_format
plain_format limit i e =
    let masks = mask_format (bitfields_in i.options).masks in
    rw e (ap (λ b. cond b masks (plain_token i.source.format)) (sym (given_mode i.source i.options)) ∙ ap (cond (is_some i.options.bitfields) masks) (tables i.source.format).token)

-- ---- writing

module _ (limit : ℕ) (most : limit ≤ max_file) (i : Input) (ok : Typed i) (k : Checked i) (product : i.source.stride * i.source.height < 2 ^ 64) (whole : (length i.palette % 4 ≡ 0) ⊎ (is_indexed i.source.format ≡ false)) where
  abbrev planned : Plan
  planned = plan i ok k (sizes_for limit i)

  -- the probe writes the document's stream
  stream-probed : rle_planned i ≡ true → (c : Coded i) (room : ℕ) (out : List ℕ)
      → rle_into planned.rows c.rle room out ≡ done (cond (ltb (length (stream_of i)) room) (record { kept = true; out = out ++ stream_of i }) (record { kept = false; out = out }))
  unfolding stream_of stream stream_row
  stream-probed e c room out =
      into_is planned.rows c.rle codes
      (λ y o l. row_is planned.rows c.rle y o (row_in i y) (row_read i ok k (sizes_for limit i) product y l) (row_small i ok y) (omega (arith, row_length_lem i ok k (sizes_for limit i) y l, narrow, k.wide)) l ok.height)
      room out
      ∙ ap (λ s. done (cond (ltb (length s) room) (record { kept = true; out = out ++ s }) (record { kept = false; out = out }))) (cat_ext codes (stream_row (bits_per_pixel i.source.format) i.source.width i.source.height i.plane i.source.stride) i.source.height (λ y l. same y))
    where
      codes : ℕ → List ℕ
      codes y = row_codes (depth c.rle) (row_in i y) ++ (0 ∷ end_mark i.source.height y ∷ [])

      narrow : i.source.width * rows.pack_bytes (pack_in i) ≡ i.source.width
      narrow = ap (λ n. i.source.width * n) c.one_byte ∙ mul-one i.source.width

      same : (y : ℕ) → codes y ≡ row_codes (bits_per_pixel i.source.format) (rows.source_row i.plane i.source.stride i.source.width (rows.row_of false i.source.height y)) ++ (0 ∷ end_mark i.source.height y ∷ [])
      same y =
          ap (λ d. row_codes d (row_in i y) ++ (0 ∷ end_mark i.source.height y ∷ [])) (sym c.bits)
          ∙ ap (λ n. row_codes (bits_per_pixel i.source.format) (rows.source_row i.plane i.source.stride n (rows.row_of i.options.top_down i.source.height y)) ++ (0 ∷ end_mark i.source.height y ∷ [])) narrow
          ∙ ap (λ t. row_codes (bits_per_pixel i.source.format) (rows.source_row i.plane i.source.stride i.source.width (rows.row_of t i.source.height y)) ++ (0 ∷ end_mark i.source.height y ∷ [])) (planned_in i e).bottom_up

  -- the head of a file without a stream
  head_fits : plain_size_of i ≤ limit → HeadFits i (raw_bytes i)
  unfolding plain_size_of raw_len depth_of
  head_fits small =
      record {
        whole = whole;
        profile = λ m. (refl, omega arith);
        raw = λ m b. (rw (given_mode i.source i.options, m, sixteen i.source.format b), omega (arith, small));
      }
    where
      sixteen : (f : BmpPixelFormat) → is_rgb565 f ≡ true → bits_per_pixel f ≡ 16
      sixteen = by_head (λ f. is_rgb565 f ≡ true → bits_per_pixel f ≡ 16) (λ f a b m e. absurd (false≢true (sym b ∙ e))) (λ e. refl) (λ f a b e. absurd (false≢true (sym b ∙ e)))

  -- its rows behind that head
  rows_behind : stream_used limit i ≡ false → plain_size_of i ≤ limit → (out : List ℕ) → length out < 2 ^ 63 → write_pixels planned (out ++ original_head i (rows_compression i.source i.options) (raw_bytes i) (plain_size_of i)) ≡ done (wrote (format_of limit i) (out ++ original_file limit i))
  unfolding plain_size_of original_file
  rows_behind e small out room =
      let head : List ℕ = original_head i (rows_compression i.source i.options) (raw_bytes i) (plain_size_of i) in
      let long : length (out ++ head) ≡ length out + head_bytes_of i = length-append out head ∙ ap (λ n. length out + n) (fields.length_head i _ _ 2835 2835 (plain_size_of i)) in
      rw (pixels_written i ok k (sizes_for limit i) product refl (out ++ head) (omega (arith, long, small, room)), plain_format limit i e, e, append_assoc out head (original_rows i), append_assoc out (head ++ original_rows i) (tail_of i))

  plain_write : stream_used limit i ≡ false → plain_size_of i ≤ limit → (out : List ℕ) → length out < 2 ^ 63 → write_probed planned out none ≡ done (wrote (format_of limit i) (out ++ original_file limit i))
  unfolding write_probed plain_size_of
  plain_write e small out room =
      let file : plain_size_of i % 4294967296 ≡ plain_size_of i = mod-eq_of_lt (omega arith) in
      let raw : raw_bytes i % 4294967296 ≡ raw_bytes i = mod-eq_of_lt (omega arith) in
      rw (file, raw, head_written i ok k (sizes_for limit i) out (plain_size_of i) (raw_bytes i) (head_fits small)) (rows_behind e small out room)

  -- ---- with a probe

  module _ (e : rle_planned i ≡ true) (c : Coded i) where
    abbrev p : PlannedIn i
    p = planned_in i e

    probe_fits : HeadFits i 0
    probe_fits =
        record {
          whole = whole;
          profile = λ m. absurd (false≢true (ap is_plain (sym m ∙ p.mode)));
          raw = λ m b. absurd (false≢true (sym c.not_565 ∙ b));
        }

    -- the head that is written before the stream
    abbrev first : ℕ → List ℕ
    first = coded_head i p c.not_565 0

    first_written : (size : ℕ) (out : List ℕ) → write_head planned out size 0 ≡ done (out ++ first size)
    first_written size out = head_written i ok k (sizes_for limit i) out size 0 probe_fits ∙ ap (λ h. done (out ++ h)) (zero_head i p c.not_565 0 size)

    -- the file with the stream
    coded_file : stream_used limit i ≡ true → original_file limit i ≡ coded_head i p c.not_565 (rle_compression c.rle) (head_bytes_of i + length (stream_of i)) ++ stream_of i
    unfolding original_file
    coded_file u = rw (u, coded_compression c.rle (bits_per_pixel i.source.format) c.bits) (ap (λ h. h ++ stream_of i) (coded_head_lem i p c.not_565 (rle_compression c.rle) (raw_bytes i) (head_bytes_of i + length (stream_of i))))

    -- the probe's head, patched
    patched : (old n : ℕ) → n < 2 ^ 32 → patch_rle_head (first old ++ stream_of i) n c.rle ≡ done (coded_head i p c.not_565 (rle_compression c.rle) n ++ stream_of i)
    patched old n small =
        let d = depth_in i in
        let used = clr_used_of d (entries_of i) in
        let rest : List ℕ = colour_table i ++ stream_of i in
        let head : ℕ → ℕ → List ℕ = λ s z. file_header s (head_bytes_of i) ++ info_header 40 i.source.width (stored_height_of i) d z 0 2835 2835 used in
        ap (λ x. patch_rle_head x n c.rle) (append_assoc (head old 0) (colour_table i) (stream_of i))
        ∙ patch_is old (head_bytes_of i) i.source.width (stored_height_of i) d used n rest c.rle
        ∙ ap (λ s. done (head s (rle_compression c.rle) ++ rest)) (mod-eq_of_lt small)
        ∙ ap done (sym (append_assoc (head n (rle_compression c.rle)) (colour_table i) (stream_of i)))

    first-length : (size : ℕ) → length (first size) ≡ head_bytes_of i
    first-length size = ap length (sym (coded_head_lem i p c.not_565 0 0 size)) ∙ fields.length_head i 0 _ 2835 2835 size

    -- the stream is kept
    kept_write : stream_used limit i ≡ true → head_bytes_of i + length (stream_of i) ≤ limit → (old : ℕ) (out : List ℕ)
        → (sub (length (out ++ first old ++ stream_of i)) (length out)
        >>= λ size. within (out ++ first old ++ stream_of i) (length out) (length (out ++ first old ++ stream_of i)) (λ file. patch_rle_head file size c.rle)
        >>= λ file. done (wrote (rle_format c.rle) file))
        ≡ done (wrote (rle_format c.rle) (out ++ original_file limit i))
    kept_write u small old out =
        let s = stream_of i in
        let n : ℕ = head_bytes_of i + length s in
        let all : out ++ first old ++ s ≡ out ++ (first old ++ s) = append_assoc out (first old) s in
        let long : length (out ++ (first old ++ s)) ≡ length out + n = length-append out (first old ++ s) ∙ ap (λ z. length out + z) (length-append (first old) s ∙ ap (λ z. z + length s) (first-length old)) in
        let size : length (out ++ (first old ++ s)) - length out ≡ n = omega (arith, long) in
        rw (
          all,
          sub_is (length (out ++ (first old ++ s))) (length out) (omega (arith, long)),
          size,
          within_rest out (first old ++ s) (coded_head i p c.not_565 (rle_compression c.rle) n ++ s) (λ file. patch_rle_head file n c.rle) (patched old n (omega (arith, small))),
          coded_file u,
        )

    -- what the probe comes to: the stream, or stored rows, or neither fits
    abbrev after : List ℕ → ℕ → Probe → Run Appended
    after out start probe =
        cond probe.kept
        (sub (length probe.out) start
        >>= λ size. within probe.out start (length probe.out) (λ file. patch_rle_head file size c.rle)
        >>= λ file. done (wrote (rle_format c.rle) file))
        (cond (not (leb (plain_size_of i) limit)) (done (refused rle_over_limit (take start probe.out))) (write_pixels planned probe.out))

    abbrev under : Bool
    under = ltb (length (stream_of i)) (budget limit i)

    probed_write : (out : List ℕ) → length out < 2 ^ 63
        → (write_head planned out (cond (leb (plain_size_of i) limit) (plain_size_of i % 4294967296) 0) 0 >>= λ headed. rle_into planned.rows c.rle (budget limit i % 18446744073709551616) headed >>= after out (length out))
        ≡ done (cond (ltb limit (plain_size_of i) && not under) (refused rle_over_limit out) (wrote (format_of limit i) (out ++ original_file limit i)))
    unfolding stream_used format_of budget
    probed_write out room =
        let m : budget limit i % 18446744073709551616 ≡ budget limit i = mod-eq_of_lt (omega arith) in
        rw (first_written old out, m, stream-probed e c (budget limit i) (out ++ first old)) (go under refl)
      where
        old : ℕ
        old = cond (leb (plain_size_of i) limit) (plain_size_of i % 4294967296) 0

        go : (u : Bool) → under ≡ u
            → after out (length out) (cond u (record { kept = true; out = out ++ first old ++ stream_of i }) (record { kept = false; out = out ++ first old }))
            ≡ done (cond (ltb limit (plain_size_of i) && not u) (refused rle_over_limit out) (wrote (format_of limit i) (out ++ original_file limit i)))
        go true q =
            let used : stream_used limit i ≡ true = and_both (rle_planned i) under e q in
            let s : length (stream_of i) < budget limit i = ltb-true (length (stream_of i)) (budget limit i) q in
            let small : head_bytes_of i + length (stream_of i) ≤ limit = omega arith in
            let over : (ltb limit (plain_size_of i) && false) ≡ false = and_second (ltb limit (plain_size_of i)) false refl in
            let format : format_of limit i ≡ rle_format c.rle =
            ap (λ b. cond b (cond (eqb (bits_per_pixel i.source.format) 8) written.Rle8 written.Rle4) (rows_format i.source i.options)) used
            ∙ coded_format c.rle (bits_per_pixel i.source.format) c.bits in
            kept_write used small old out
            ∙ ap (λ f. done (wrote f (out ++ original_file limit i))) (sym format)
            ∙ ap (λ b. done (cond b (refused rle_over_limit out) (wrote (format_of limit i) (out ++ original_file limit i)))) (sym over)
        go false q = fall (leb (plain_size_of i) limit) refl
          where
            unused : stream_used limit i ≡ false
            unused = and_second (rle_planned i) under q

            fall : (f : Bool) → leb (plain_size_of i) limit ≡ f
                → cond (not f) (done (refused rle_over_limit (take (length out) (out ++ first (cond f (plain_size_of i % 4294967296) 0))))) (write_pixels planned (out ++ first (cond f (plain_size_of i % 4294967296) 0)))
                ≡ done (cond (ltb limit (plain_size_of i) && true) (refused rle_over_limit out) (wrote (format_of limit i) (out ++ original_file limit i)))
            fall true h =
                let small : plain_size_of i ≤ limit = leb-true (plain_size_of i) limit h in
                let m : plain_size_of i % 4294967296 ≡ plain_size_of i = mod-eq_of_lt (omega (arith, small)) in
                let fits : ltb limit (plain_size_of i) ≡ false = le-ltb limit (plain_size_of i) small in
                rw (m, fits)
                (ap (λ x. write_pixels planned (out ++ x)) (sym (zero_head i p c.not_565 (raw_bytes i) (plain_size_of i))) ∙ rows_behind unused small out room)
            fall false h =
                let large : ltb limit (plain_size_of i) ≡ true = lt-ltb limit (plain_size_of i) (leb-false (plain_size_of i) limit h) in
                rw (large, take-append_seam out (first 0))

  -- ---- write_into

  unused : rle_planned i ≡ false → stream_used limit i ≡ false
  unfolding stream_used
  unused e = and_first (rle_planned i) (ltb (length (stream_of i)) (budget limit i)) e

  pub write_is : file_too_large limit i ≡ false → (out : List ℕ) → length out + bound_of limit i < 2 ^ 63
      → write_into planned out ≡ done (cond (stream_over_budget limit i) (refused rle_over_limit out) (wrote (format_of limit i) (out ++ original_file limit i)))
  unfolding write_into write_probed file_too_large stream_over_budget
  write_is large out room =
      let bound : bound_of limit i % 18446744073709551616 ≡ bound_of limit i = mod-eq_of_lt (omega (arith, room)) in
      rw (bound, reserve_is out (bound_of limit i) room) (go (rle_planned i) refl)
    where
      go : (b : Bool) → rle_planned i ≡ b
          → write_probed planned out (probed (head_for (mode_in i) i.source.format i) (given b (budget limit i)))
          ≡ done (cond (stream_over_budget limit i) (refused rle_over_limit out) (wrote (format_of limit i) (out ++ original_file limit i)))
      go false e =
          let fits : ltb limit (plain_size_of i) ≡ false = and_false (not (rle_planned i)) (ltb limit (plain_size_of i)) large (ap not e) in
          let over : stream_over_budget limit i ≡ false = ap (λ b. b && ltb limit (plain_size_of i) && not (ltb (length (stream_of i)) (budget limit i))) e in
          ap (write_probed planned out) (none_probed (head_for (mode_in i) i.source.format i))
          ∙ plain_write (unused e) (ltb-false limit (plain_size_of i) fits) out (omega (arith, room))
          ∙ ap (λ b. done (cond b (refused rle_over_limit out) (wrote (format_of limit i) (out ++ original_file limit i)))) (sym over)
      go true e =
          let c = coded_of i e in
          let over : stream_over_budget limit i ≡ (ltb limit (plain_size_of i) && not (ltb (length (stream_of i)) (budget limit i))) =
          ap (λ b. b && ltb limit (plain_size_of i) && not (ltb (length (stream_of i)) (budget limit i))) e in
          ap (write_probed planned out) (c.probes (budget limit i))
          ∙ probed_write e c out (omega (arith, room))
          ∙ ap (λ b. done (cond b (refused rle_over_limit out) (wrote (format_of limit i) (out ++ original_file limit i)))) (sym over)
