-- One code, as the code tells it.
use mathlib.Core.Path.{◌≡◌, refl, sym, ap, ◌∙◌}
use mathlib.Core.Bool.{true, false, true≢false}
use mathlib.Core.List.{List, [], ◌∷◌}
use Rattle.std.specs.Prelude.{None, Some}
use Prim.Native.Nat.{ℕ, zero, suc, ◌+◌, ◌-◌, ◌*◌, ◌/◌, ◌%◌, ◌≤◌, ◌<◌}
use native.Mathlib.Numerals.{add-one}
use native.Mathlib.Decide.{dec_lt}
use native.Mathlib.Omega.{arith}
use borrow.Author.Tests.{lt-ltb, le-ltb}
use lib.ListN.{length, get_or, drop, length-drop}
use lib.Seq.{drop-cons}
use Rattle.leaves.specs.Lists.{tab}
use Rattle.leaves.proofs.ListLaws.{length-tab}
use Rattle.format.specs.Decode.{Decoded, filled, refused, cell_at, pair_cell, data_read, read_code}
use Rattle.cells.specs.Streams.{is_refused, code_of, marks_end}

-- ---- the bytes at a place

pub two_bytes : (file : List ℕ) (at : ℕ) → at + 1 < length file → drop at file ≡ get_or file at 0 ∷ get_or file (at + 1) 0 ∷ drop (at + 2) file
two_bytes file at h =
    let l : at < length file = omega arith in
    let m : suc at < length file = omega arith in
    let e : suc (suc at) ≡ at + 2 = omega arith in
    rw (drop-cons file at 0 l, drop-cons file (suc at) 0 m, add-one at, e)

few_bytes : (d room : ℕ) (bs : List ℕ) → length bs < 2 → is_refused (read_code d room bs) ≡ true
unfolding read_code
few_bytes d room [] h = refl
few_bytes d room (b ∷ []) h = refl
few_bytes d room (b ∷ c ∷ bs) h = absurd (omega arith)

-- a refused code is none
pub none_of : (d : Decoded) → is_refused d ≡ true → None ≡ code_of d
none_of (filled cells taken) e = absurd (true≢false (sym e))
none_of (refused cause) e = refl

module _ (file : List ℕ) (at d room : ℕ) where
  pub refused_short : length file - at < 2 → is_refused (read_code d room (drop at file)) ≡ true
  refused_short h = few_bytes d room (drop at file) (omega (arith, length-drop at file))

  abbrev first : ℕ
  first = get_or file at 0

  abbrev second : ℕ
  second = get_or file (at + 1) 0

  -- two bytes are there
  module _ (some : 0 < room) (there : at + 1 < length file) where
    bytes : drop at file ≡ first ∷ second ∷ drop (at + 2) file
    bytes = two_bytes file at there

    pair_code : (n v : ℕ) (bs : List ℕ) → 0 < n → n ≤ room → read_code d room (n ∷ v ∷ bs) ≡ filled (tab (pair_cell d v) n) 2
    unfolding read_code
    pair_code zero v bs p q = absurd (omega arith)
    pair_code (suc n) v bs p q = rw (le-ltb room (suc n) q)

    pub pair_is : (first ≡ 0 → ⊥) → first ≤ room → read_code d room (drop at file) ≡ filled (tab (pair_cell d second) first) 2
    pair_is z l = ap (read_code d room) bytes ∙ pair_code first second (drop (at + 2) file) (omega (arith, z)) l

    pub pair_told : (first ≡ 0 → ⊥) → first ≤ room → Some (record { cells = first; bytes = 2 }) ≡ code_of (read_code d room (drop at file))
    pair_told z l = rw (pair_is z l, length-tab (pair_cell d second) first)

    over_code : (n v : ℕ) (bs : List ℕ) → room < n → is_refused (read_code d room (n ∷ v ∷ bs)) ≡ true
    unfolding read_code
    over_code zero v bs q = absurd (omega arith)
    over_code (suc n) v bs q = rw (lt-ltb room (suc n) q)

    pub pair_over : room < first → is_refused (read_code d room (drop at file)) ≡ true
    pair_over l = ap (λ (z : List ℕ). is_refused (read_code d room z)) bytes ∙ over_code first second (drop (at + 2) file) l

    -- an escape
    module _ (z : first ≡ 0) where
      escape : drop at file ≡ 0 ∷ second ∷ drop (at + 2) file
      escape = bytes ∙ ap (λ (n : ℕ). n ∷ second ∷ drop (at + 2) file) z

      small_code : (r n : ℕ) (bs : List ℕ) → 0 < r → n < 3 → is_refused (read_code d r (0 ∷ n ∷ bs)) ≡ true
      unfolding read_code
      small_code zero n bs p q = absurd (omega arith)
      small_code (suc r) zero bs p q = refl
      small_code (suc r) (suc zero) bs p q = refl
      small_code (suc r) (suc (suc zero)) bs p q = refl
      small_code (suc r) (suc (suc (suc n))) bs p q = absurd (omega arith)

      pub escape_small : second < 3 → is_refused (read_code d room (drop at file)) ≡ true
      escape_small l = ap (λ (b : List ℕ). is_refused (read_code d room b)) escape ∙ small_code room second (drop (at + 2) file) some l

      long_code : (n : ℕ) (bs : List ℕ) → 2 < n → room < n → is_refused (read_code d room (0 ∷ n ∷ bs)) ≡ true
      unfolding read_code
      long_code zero bs p q = absurd (omega arith)
      long_code (suc zero) bs p q = absurd (omega arith)
      long_code (suc (suc zero)) bs p q = absurd (omega arith)
      long_code (suc (suc (suc n))) bs p q = rw (lt-ltb room (suc (suc (suc n))) q)

      pub escape_over : 2 < second → room < second → is_refused (read_code d room (drop at file)) ≡ true
      escape_over p l = ap (λ (b : List ℕ). is_refused (read_code d room b)) escape ∙ long_code second (drop (at + 2) file) p l

      cut_code : (n : ℕ) (bs : List ℕ) → 2 < n → n ≤ room → length bs * 8 < n * d → is_refused (read_code d room (0 ∷ n ∷ bs)) ≡ true
      unfolding read_code
      cut_code zero bs p q l = absurd (omega arith)
      cut_code (suc zero) bs p q l = absurd (omega arith)
      cut_code (suc (suc zero)) bs p q l = absurd (omega arith)
      cut_code (suc (suc (suc n))) bs p q l = rw (le-ltb room (suc (suc (suc n))) q, lt-ltb (length bs * 8) (suc (suc (suc n)) * d) l)

      pub escape_cut : (k : ℕ) → k ≡ (second * d + 7) / 8 → 2 < second → second ≤ room → length file - at - 2 < k → is_refused (read_code d room (drop at file)) ≡ true
      escape_cut k q p l j =
          ap (λ (b : List ℕ). is_refused (read_code d room b)) escape ∙ cut_code second (drop (at + 2) file) p l (omega (arith, q, length-drop (at + 2) file))

      block_code : (n : ℕ) (bs : List ℕ) → 2 < n → n ≤ room → n * d ≤ length bs * 8 → read_code d room (0 ∷ n ∷ bs) ≡ filled (tab (cell_at d bs) n) (suc (suc (data_read d n)))
      unfolding read_code
      block_code zero bs p q l = absurd (omega arith)
      block_code (suc zero) bs p q l = absurd (omega arith)
      block_code (suc (suc zero)) bs p q l = absurd (omega arith)
      block_code (suc (suc (suc n))) bs p q l = rw (le-ltb room (suc (suc (suc n))) q, le-ltb (length bs * 8) (suc (suc (suc n)) * d) l)

      module _ (k : ℕ) (q : k ≡ (second * d + 7) / 8) (p : 2 < second) (l : second ≤ room) (j : k ≤ length file - at - 2) where
        pub block_is : read_code d room (drop at file) ≡ filled (tab (cell_at d (drop (at + 2) file)) second) (2 + k + k % 2)
        unfolding data_read
        block_is =
            let n : suc (suc (data_read d second)) ≡ 2 + k + k % 2 = omega (arith, q) in
            ap (read_code d room) escape ∙ block_code second (drop (at + 2) file) p l (omega (arith, q, length-drop (at + 2) file)) ∙ ap (filled (tab (cell_at d (drop (at + 2) file)) second)) n

        pub block_told : Some (record { cells = second; bytes = 2 + k + k % 2 }) ≡ code_of (read_code d room (drop at file))
        block_told = rw (block_is, length-tab (cell_at d (drop (at + 2) file)) second)

    -- the other way round: what is known of a code that is not refused
    module _ (good : is_refused (read_code d room (drop at file)) ≡ false) where
      never : is_refused (read_code d room (drop at file)) ≡ true → ⊥
      never q = true≢false (sym q ∙ good)

      pub good_pair : first ≤ room
      good_pair = elim (dec_lt room first) [ yes l ↦ absurd (never (pair_over l)) | no l ↦ omega arith ]

      pub good_long : first ≡ 0 → 2 < second
      good_long z = elim (dec_lt second 3) [ yes l ↦ absurd (never (escape_small z l)) | no l ↦ omega arith ]

      pub good_room : first ≡ 0 → second ≤ room
      good_room z = elim (dec_lt room second) [ yes l ↦ absurd (never (escape_over z (good_long z) l)) | no l ↦ omega arith ]

      pub good_data : first ≡ 0 → (second * d + 7) / 8 ≤ length file - at - 2
      good_data z = elim (dec_lt (length file - at - 2) ((second * d + 7) / 8)) [ yes l ↦ absurd (never (escape_cut z ((second * d + 7) / 8) refl (good_long z) (good_room z) l)) | no l ↦ omega arith ]

pub good_there : (file : List ℕ) (at d room : ℕ) → is_refused (read_code d room (drop at file)) ≡ false → at + 1 < length file
good_there file at d room good =
    elim (dec_lt (length file - at) 2) [ yes l ↦ absurd (true≢false (sym (refused_short file at d room l) ∙ good)) | no l ↦ omega arith ]

-- ---- the end of a row

pub marked : (bs : List ℕ) → marks_end bs ≡ true → bs ≡ 0 ∷ 0 ∷ drop 2 bs
marked [] e = absurd (true≢false (sym e))
marked (a ∷ []) e = absurd (true≢false (sym e))
marked (zero ∷ zero ∷ bs) e = refl
marked (zero ∷ suc b ∷ bs) e = absurd (true≢false (sym e))
marked (suc a ∷ b ∷ bs) e = absurd (true≢false (sym e))

pub unmarked : (d : ℕ) (bs : List ℕ) → marks_end bs ≡ false → is_refused (read_code d 0 bs) ≡ true
unfolding read_code
unmarked d [] e = refl
unmarked d (a ∷ []) e = refl
unmarked d (zero ∷ zero ∷ bs) e = absurd (true≢false e)
unmarked d (zero ∷ suc zero ∷ bs) e = refl
unmarked d (zero ∷ suc (suc zero) ∷ bs) e = refl
unmarked d (zero ∷ suc (suc (suc n)) ∷ bs) e = rw (lt-ltb 0 (suc (suc (suc n))) (omega arith))
unmarked d (suc a ∷ b ∷ bs) e = rw (lt-ltb 0 (suc a) (omega arith))
