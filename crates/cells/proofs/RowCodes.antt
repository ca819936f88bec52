-- The codes of a row, one after the other: the loop that looks for their end, and the loop that fills in their cells.
use mathlib.Core.Path.{◌≡◌, refl, sym, ap, ◌∙◌, subst}
use mathlib.Core.Bool.{Bool, true, false, true≢false, cond}
use mathlib.Core.Logic.{◌⊎◌, inl, inr}
use mathlib.Core.List.{List, [], ◌∷◌, ◌++◌, append_assoc, append-nil}
use Prim.Native.Nat.{ℕ, zero, suc, ◌+◌, ◌-◌, ◌*◌, ◌≤◌, ◌<◌}
use native.Mathlib.Nat.{add-zero, add_assoc}
use native.Mathlib.Omega.{arith}
use lib.ListN.{length, drop, length-append}
use lib.Seq.{drop-drop}
use lib.Dec.{ltb}
use Rattle.leaves.specs.Lists.{tab}
use Rattle.leaves.specs.Put.{put}
use Rattle.leaves.proofs.ListLaws.{length-tab}
use Rattle.format.specs.Decode.{Decoded, filled, refused, behind, and_then, pair_cell, cell_at, data_read, read_code, read_row}
use Rattle.format.specs.Shown.{short, past_row_end}
use Rattle.format.proofs.RowReading.{row_step, row_length_lem}
use Rattle.format.proofs.StreamReading.{Both, both_read}
use Rattle.cells.specs.declared.stream.Code.{Code}
use Rattle.std.specs.Prelude.{None, Some}
use Rattle.cells.specs.Streams.{is_refused, cells_in, bytes_in, code_of, row_end, PutWithin}
use Rattle.cells.proofs.Within.{within_start, within_more, within_end}

-- ---- readings as they are told

-- a code in a row with room fills some cell, or is refused
abbrev Filling : Decoded → Type 0
Filling (filled cells taken) = 0 < length cells
Filling (refused cause) = Unit {0}

some_cells : (d room : ℕ) (bs : List ℕ) → Filling (read_code d (suc room) bs)
unfolding read_code
some_cells d room [] = tt
some_cells d room (b ∷ []) = tt
some_cells d room (suc n ∷ v ∷ bs) = go (ltb (suc room) (suc n))
  where
    go : (t : Bool) → Filling (cond t (refused past_row_end) (filled (tab (pair_cell d v) (suc n)) 2))
    go true = tt
    go false = rw (length-tab (pair_cell d v) (suc n)) (omega arith)
some_cells d room (zero ∷ zero ∷ bs) = tt
some_cells d room (zero ∷ suc zero ∷ bs) = tt
some_cells d room (zero ∷ suc (suc zero) ∷ bs) = tt
some_cells d room (zero ∷ suc (suc (suc n)) ∷ bs) = go (ltb (suc room) (suc (suc (suc n)))) (ltb (length bs * 8) (suc (suc (suc n)) * d))
  where
    go : (t u : Bool) → Filling (cond t (refused past_row_end) (cond u (refused short) (filled (tab (cell_at d bs) (suc (suc (suc n)))) (suc (suc (data_read d (suc (suc (suc n)))))))))
    go true u = tt
    go false true = tt
    go false false = rw (length-tab (cell_at d bs) (suc (suc (suc n)))) (omega arith)

end_behind : (at taken : ℕ) (cells : List ℕ) (r : Decoded) → row_end at (behind cells taken r) ≡ row_end (at + taken) r
end_behind at taken cells (filled more n) = ap Some (sym (add_assoc at taken n))
end_behind at taken cells (refused cause) = refl

inside : {A : Type 0} (a b : A) → Some a ≡ Some b → a ≡ b
inside a b e = cc

-- ---- the end of a row

module _ (file : List ℕ) (d : ℕ) where
  fault_step : (at : ℕ) (r : Decoded) (next : List ℕ → ℕ → Decoded) → None ≡ code_of r → row_end at (and_then r next) ≡ None
  fault_step at (filled cells taken) next e = let z : ◌≡◌ {A = ℕ} 0 1 = cc in absurd (omega arith)
  fault_step at (refused cause) next e = refl

  -- no code: the row is refused
  pub row_fault : (at room : ℕ) → 0 < room → None ≡ code_of (read_code d room (drop at file)) → row_end at (read_row d room (drop at file)) ≡ None
  row_fault at zero h e = absurd (omega arith)
  row_fault at (suc room) h e = ap (row_end at) (row_step d room (drop at file)) ∙ fault_step at (read_code d (suc room) (drop at file)) _ e

  turn_step : (at room : ℕ) (r : Decoded) (code : Code) → Some code ≡ code_of r
      → row_end at (and_then r (λ cells taken. read_row d (room - length cells) (drop taken (drop at file)))) ≡ row_end (at + code.bytes) (read_row d (room - code.cells) (drop (at + code.bytes) file))
  turn_step at room (refused cause) code e = let z : ◌≡◌ {A = ℕ} 0 1 = cc in absurd (omega arith)
  turn_step at room (filled cells taken) code e =
      end_behind at taken cells (read_row d (room - length cells) (drop taken (drop at file)))
      ∙ rw (inside code _ e, drop-drop taken at file)

  -- one: the rest of the row is behind it
  pub row_turn : (at room : ℕ) (code : Code) → 0 < room → Some code ≡ code_of (read_code d room (drop at file))
      → row_end at (read_row d room (drop at file)) ≡ row_end (at + code.bytes) (read_row d (room - code.cells) (drop (at + code.bytes) file))
  row_turn at zero code h e = absurd (omega arith)
  row_turn at (suc room) code h e = ap (row_end at) (row_step d room (drop at file)) ∙ turn_step at (suc room) (read_code d (suc room) (drop at file)) code e

  -- the row is full
  pub row_whole : (at room : ℕ) → room ≡ 0 → row_end at (read_row d room (drop at file)) ≡ Some at
  row_whole at room e = ap (λ (k : ℕ). row_end at (read_row d k (drop at file))) e ∙ ap Some (add-zero at)

-- ---- filling in a row

-- after x cells
pub record RowFill (file : List ℕ) (start d w : ℕ) (was : List ℕ) (to : ℕ) (cells : List ℕ) (at x : ℕ) : Type 0 where
  pub done : List ℕ
  pub left : List ℕ
  pub m : ℕ
  pub within : x ≤ w
  pub rest : read_row d (w - x) (drop at file) ≡ filled left m
  pub together : cells_in (read_row d w (drop start file)) ≡ done ++ left
  pub bytes : at + m ≡ start + bytes_in (read_row d w (drop start file))
  pub count : length done ≡ x
  pub so_far : PutWithin was to done w cells
  pub small : at + 258 * (w - x) ≤ start + 258 * w

pub is_filled : (r : Decoded) → is_refused r ≡ false → r ≡ filled (cells_in r) (bytes_in r)
is_filled (filled cells taken) e = refl
is_filled (refused cause) e = absurd (true≢false e)

module _ {file : List ℕ} {begin d w : ℕ} {was : List ℕ} {to : ℕ} where
  pub fill_start : is_refused (read_row d w (drop begin file)) ≡ false → RowFill file begin d w was to was begin 0
  fill_start good =
      record {
        done = [];
        left = cells_in (read_row d w (drop begin file));
        m = bytes_in (read_row d w (drop begin file));
        within = omega arith;
        rest = let e : w - 0 ≡ w = omega arith in rw e (is_filled (read_row d w (drop begin file)) good);
        together = refl;
        bytes = refl;
        count = refl;
        so_far = within_start was to w;
        small = omega arith;
      }

  module _ {cells : List ℕ} {at x : ℕ} (r : RowFill file begin d w was to cells at x) (h : x < w) where
    step : Both (read_code d (w - x) (drop at file)) (λ cells taken. read_row d (w - x - length cells) (drop taken (drop at file))) r.left r.m
    step = go (w - x) (omega arith) r.rest
      where
        go : (room : ℕ) → 0 < room → read_row d room (drop at file) ≡ filled r.left r.m
            → Both (read_code d room (drop at file)) (λ cells taken. read_row d (room - length cells) (drop taken (drop at file))) r.left r.m
        go zero l e = absurd (omega arith)
        go (suc room) l e = both_read (read_code d (suc room) (drop at file)) (λ cells taken. read_row d (suc room - length cells) (drop taken (drop at file))) (sym (row_step d room (drop at file)) ∙ e)

    -- the next code is not refused
    pub fill_code_good : is_refused (read_code d (w - x) (drop at file)) ≡ false
    fill_code_good = ap is_refused step.earlier

    pub code_fits : (code : Code) → Some code ≡ code_of (read_code d (w - x) (drop at file)) → (0 < code.cells) × (code.cells ≤ w - x)
    code_fits code e =
        let q : code_of (read_code d (w - x) (drop at file)) ≡ code_of (filled step.cells step.taken) = ap code_of step.earlier in
        let n : code.cells ≡ length step.cells = ap (λ (k : Code). k.cells) (inside code _ (e ∙ q)) in
        let some : 0 < length step.cells = go (w - x) (omega arith) step.earlier in
        let all : length r.left ≡ w - x = row_length_lem d (w - x) (drop at file) r.rest in
        let parts : length r.left ≡ length step.cells + length step.more = ap length step.together ∙ length-append step.cells step.more in
        (omega arith, omega arith)
      where
        go : (room : ℕ) → 0 < room → read_code d room (drop at file) ≡ filled step.cells step.taken → 0 < length step.cells
        go zero l e = absurd (omega arith)
        go (suc room) l e = subst Filling e (some_cells d room (drop at file))

    pub fill_turn : (code : Code) (later : List ℕ) → Some code ≡ code_of (read_code d (w - x) (drop at file)) → code.bytes ≤ 258 → to + w ≤ length was
        → PutWithin cells (to + x) (cells_in (read_code d (w - x) (drop at file))) (w - x) later → RowFill file begin d w was to later (at + code.bytes) (x + code.cells)
    fill_turn code later e b room f =
        let s = step in
        let fits = code_fits code e in
        let q : code ≡ record { cells = length s.cells; bytes = s.taken } = inside code _ (e ∙ ap code_of s.earlier) in
        let n : code.cells ≡ length s.cells = ap (λ (k : Code). k.cells) q in
        let t : code.bytes ≡ s.taken = ap (λ (k : Code). k.bytes) q in
        let g : PutWithin cells (to + length r.done) s.cells (w - length r.done) later
        = rw r.count (subst (λ (z : Decoded). PutWithin cells (to + x) (cells_in z) (w - x) later) s.earlier f) in
        let less : w - (x + code.cells) ≡ w - x - length s.cells = omega (arith, n) in
        record {
          done = r.done ++ s.cells;
          left = s.more;
          m = s.m;
          within = omega (arith, fits.1);
          rest = rw (less, t, ← drop-drop s.taken at file) s.later;
          together = r.together ∙ ap (λ (l : List ℕ). r.done ++ l) s.together ∙ sym (append_assoc r.done s.cells s.more);
          bytes = omega (arith, r.bytes, s.bytes, t);
          count = length-append r.done s.cells ∙ omega (arith, r.count, n);
          so_far = within_more was to r.done s.cells w cells later r.so_far (omega (arith, r.count, n, fits.1)) g;
          small = omega (arith, r.small, fits.0, fits.1);
        }

  -- the row is full
  pub fill_end : {cells : List ℕ} {at x : ℕ} → RowFill file begin d w was to cells at x → w ≤ x
      → (at ≡ begin + bytes_in (read_row d w (drop begin file))) × (cells ≡ put was to (cells_in (read_row d w (drop begin file))))
  fill_end {cells} {at} {x} r h =
      let z : w - x ≡ 0 = omega arith in
      let none : filled [] 0 ≡ filled r.left r.m = subst (λ (k : ℕ). read_row d k (drop at file) ≡ filled r.left r.m) z r.rest in
      let no_cells : [] ≡ r.left = ap cells_in none in
      let no_bytes : 0 ≡ r.m = ap bytes_in none in
      let all : cells_in (read_row d w (drop begin file)) ≡ r.done = r.together ∙ ap (λ (l : List ℕ). r.done ++ l) (sym no_cells) ∙ append-nil r.done in
      (omega (arith, r.bytes, no_bytes), within_end was to r.done w cells r.so_far (omega (arith, r.count, r.within)) ∙ ap (put was to) (sym all))

-- ---- the depths of a stream

pub coded_small : {d : ℕ} → (d ≡ 4) ⊎ (d ≡ 8) → d ≤ 8
coded_small (inl e) = omega arith
coded_small (inr e) = omega arith
