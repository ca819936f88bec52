-- The plane so painted and written as Pal8 shows, in both readers, the shade or 255 of each quote.
use mathlib.Core.Path.{◌≡◌, refl, sym, ap, ◌∙◌}
use mathlib.Core.Bool.{Bool, true, false, true≢false}
use mathlib.Core.List.{List, []}
use Prim.Native.Nat.{ℕ, ◌+◌, ◌*◌, ◌%◌, ◌<◌}
use native.Mathlib.Nat.{mod-eq_of_lt}
use native.Mathlib.Omega.{arith}
use lib.Ieee.{Float}
use lib.ListN.{length, get_or, take, drop}
use Rattle.std.proofs.Common.{Ok, is_some}
use Rattle.leaves.specs.declared.image.BmpPixelFormat.TheVariants.{Pal8}
use Rattle.leaves.specs.Formats.{mask_source}
use Rattle.leaves.specs.Lists.{tab}
use Rattle.leaves.specs.Refusals.{first_of}
use Rattle.format.specs.Demand.{older_reads}
use Rattle.format.specs.Expectation.{handed, plainly_shown, cell_shown, expected}
use Rattle.format.specs.File.{limit_in}
use Rattle.format.specs.Input.{Input}
use Rattle.format.specs.Readers.{shows}
use Rattle.format.specs.Refusals.{write_rows}
use Rattle.format.specs.Shown.{Cell, index}
use Rattle.planner.specs.Answers.{EncodeAnswer, encoded_number, encoded_bytes, Written}
use Rattle.leaves.proofs.FirstOf.{check_determined}
use Rattle.leaves.proofs.ListLaws.{get_or-tab}
use Rattle.format.proofs.Acceptance.{keeps_limit}
use Rattle.grids.specs.Scale.{index_of, quote_at, Shaded}
use Rattle.grids.specs.Screens.{QuotesShown}
use Rattle.grids.proofs.Promises.{none_applies, index_small, painted_at}

-- ---- a Pal8 grid

module _ (i : Input) (pal8 : i.source.format ≡ Pal8) where
  -- 11 lets no masks pass beside it
  unmasked : (room offset : ℕ) → first_of (write_rows (limit_in i) i room offset) ≡ Ok tt → is_some i.options.bitfields ≡ false
  unmasked room offset e = go (is_some i.options.bitfields) refl
    where
      go : (b : Bool) → is_some i.options.bitfields ≡ b → b ≡ false
      go true q = absurd (true≢false (sym (ap mask_source pal8) ∙ (keeps_limit i room offset e).0.samples q))
      go false q = refl

  module _ (plain : is_some i.options.bitfields ≡ false) where
    -- both readers show what is expected
    older_too : older_reads i ≡ shows (expected i)
    older_too = rw (pal8, plain)

    -- a cell is its byte
    cell_is : (y x : ℕ) → cell_shown i y x ≡ index (get_or i.plane (y * i.source.stride + x) 0 % 256)
    unfolding cell_shown plainly_shown handed
    cell_is y x =
        let e : y * i.source.stride + x * 1 + 0 ≡ y * i.source.stride + x = omega arith in
        rw (plain, pal8) (ap (λ (n : ℕ). index (get_or i.plane n 0 % 256)) e)

    cell_at : (y x : ℕ) → y < i.source.height → x < i.source.width → get_or (get_or (expected i).rows y []) x (index 0) ≡ cell_shown i y x
    unfolding expected
    cell_at y x h k =
        ap (λ (row : List Cell). get_or row x (index 0)) (get_or-tab (λ v. tab (λ u. cell_shown i v u) i.source.width) i.source.height y [] h)
        ∙ get_or-tab (λ u. cell_shown i y u) i.source.width x (index 0) k

-- ---- painted, then written

pub quotes_shown : (edges lows highs : List Float) (was painted : List ℕ) → Shaded edges lows highs was painted 0
    → (i : Input) → i.source.format ≡ Pal8 → i.plane ≡ painted
    → (offset : ℕ) (buffer later : List ℕ) (r : EncodeAnswer) → Written i offset buffer later r → encoded_number r ≡ 0
    → QuotesShown edges lows highs i.source (take (encoded_bytes r) (drop offset later))
unfolding expected
quotes_shown edges lows highs was painted p i pal8 plane offset buffer later r w accepted = record {
  shown = expected i;
  newer_shows = (w.shown accepted).newer_shows;
  older_shows = (w.shown accepted).older_reads_is ∙ older_too i pal8 plain;
  width = refl;
  height = refl;
  cells = λ y x h k l.
      let place = y * i.source.stride + x in
      let byte : get_or i.plane place 0 ≡ index_of edges (quote_at lows highs place) = ap (λ (bytes : List ℕ). get_or bytes place 0) plane ∙ painted_at edges lows highs was painted place p l in
      let small : index_of edges (quote_at lows highs place) < 256 = index_small edges (none_applies edges lows highs was painted p).1 (quote_at lows highs place) in
      cell_at i pal8 plain y x h k ∙ cell_is i pal8 plain y x ∙ ap (λ (n : ℕ). index (n % 256)) byte ∙ ap index (mod-eq_of_lt small);
}
  where
    plain : is_some i.options.bitfields ≡ false
    plain = unmasked i pal8 (length buffer) offset (check_determined (first_of (write_rows (limit_in i) i (length buffer) offset)) (Ok tt) (sym w.number ∙ accepted))
