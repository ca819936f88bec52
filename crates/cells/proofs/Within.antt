-- Cells put into a row of which the rest may hold anything.
use mathlib.Core.Path.{◌≡◌, refl, sym, ap, ap₂, ◌∙◌, subst}
use mathlib.Core.List.{List, [], ◌++◌, append_assoc, append-nil}
use Prim.Native.Nat.{ℕ, ◌+◌, ◌-◌, ◌≤◌}
use native.Mathlib.Nat.{add-zero}
use native.Mathlib.Omega.{arith}
use lib.ListN.{length, take, drop, length-append}
use lib.Seq.{drop-drop}
use Rattle.leaves.specs.Lists.{tab}
use Rattle.leaves.specs.Put.{put}
use Rattle.leaves.proofs.ListLaws.{length-tab, tab-append}
use Rattle.leaves.proofs.Puts.{length-put, before-put, after_put, put-nil, put-append}
use Rattle.cells.specs.Streams.{PutWithin}

pub within_as : {was : List ℕ} {to : ℕ} {cells other : List ℕ} {room : ℕ} {is : List ℕ} → cells ≡ other → PutWithin was to cells room is → PutWithin was to other room is
within_as {was} {to} {cells} {other} {room} {is} e s = subst (λ (l : List ℕ). PutWithin was to l room is) e s

-- the rest is as before
pub within-put : (was : List ℕ) (to : ℕ) (cells : List ℕ) (room : ℕ) (is : List ℕ) → is ≡ put was to cells → to + length cells ≤ length was → PutWithin was to cells room is
within-put was to cells room is e h = record { long = ap length e ∙ length-put was to cells h; filled_in = λ rest l. rw e (put-append was to cells rest h) }

same_ends : (d e : List ℕ) (at : ℕ) (t : List ℕ) → take at d ≡ take at e → drop (at + length t) d ≡ drop (at + length t) e → put d at t ≡ put e at t
unfolding put
same_ends d e at t a b = ap₂ (λ (x y : List ℕ). x ++ t ++ y) a b

-- what is put over a shorter list hides it
put_over : (was : List ℕ) (at : ℕ) (s t : List ℕ) → length s ≤ length t → at + length t ≤ length was → put (put was at s) at t ≡ put was at t
put_over was at s t l h =
    let e : at + length t ≡ at + length s + (length t - length s) = omega arith in
    let after : drop (at + length t) (put was at s) ≡ drop (at + length t) was =
    ap (λ (k : ℕ). drop k (put was at s)) e ∙ sym (drop-drop (length t - length s) (at + length s) (put was at s))
    ∙ ap (drop (length t - length s)) (after_put was at s (omega arith))
    ∙ drop-drop (length t - length s) (at + length s) was ∙ ap (λ (k : ℕ). drop k was) (sym e) in
    same_ends (put was at s) was at t (before-put was at s (omega arith)) after

-- m times a value where n times are asked for
pub within_over : (was : List ℕ) (to v n m room : ℕ) (is : List ℕ) → is ≡ put was to (tab (λ j. v) m) → n ≤ m → m ≤ room → to + room ≤ length was
    → PutWithin was to (tab (λ j. v) n) room is
within_over was to v n m room is e few fits h =
    let k : length (tab (λ j. v) n) ≡ n = length-tab (λ j. v) n in
    let o : length (tab (λ j. v) (m - n)) ≡ m - n = length-tab (λ j. v) (m - n) in
    let all : length (tab (λ j. v) m) ≡ m = length-tab (λ j. v) m in
    let whole : tab (λ j. v) n ++ tab (λ j. v) (m - n) ≡ tab (λ j. v) m = tab-append (λ j. v) n (m - n) ∙ ap (tab (λ j. v)) (omega arith) in
    let two : is ≡ put (put was to (tab (λ j. v) n)) (to + length (tab (λ j. v) n)) (tab (λ j. v) (m - n)) =
    e ∙ ap (put was to) (sym whole) ∙ sym (put-append was to (tab (λ j. v) n) (tab (λ j. v) (m - n)) (omega arith)) in
    record {
      long = ap length e ∙ length-put was to (tab (λ j. v) m) (omega arith);
      filled_in = λ rest l.
          let long : length (put was to (tab (λ j. v) n)) ≡ length was = length-put was to (tab (λ j. v) n) (omega arith) in
          ap (λ (x : List ℕ). put x (to + length (tab (λ j. v) n)) rest) two
          ∙ put_over (put was to (tab (λ j. v) n)) (to + length (tab (λ j. v) n)) (tab (λ j. v) (m - n)) rest (omega arith) (omega arith)
          ∙ put-append was to (tab (λ j. v) n) rest (omega arith);
    }

-- m times a value, and then the others
pub within_both : (was mid is : List ℕ) (to v n m room : ℕ) → mid ≡ put was to (tab (λ j. v) m) → is ≡ put mid (to + m) (tab (λ j. v) (n - m)) → m ≤ n → to + n ≤ length was
    → PutWithin was to (tab (λ j. v) n) room is
within_both was mid is to v n m room e f few h =
    let k : length (tab (λ j. v) m) ≡ m = length-tab (λ j. v) m in
    let l : length (tab (λ j. v) n) ≡ n = length-tab (λ j. v) n in
    let p : to + m ≡ to + length (tab (λ j. v) m) = omega arith in
    let q : m + (n - m) ≡ n = omega arith in
    within-put was to (tab (λ j. v) n) room is
    (f ∙ ap₂ (λ (x : List ℕ) (y : ℕ). put x y (tab (λ j. v) (n - m))) e p ∙ put-append was to (tab (λ j. v) m) (tab (λ j. v) (n - m)) (omega arith) ∙ ap (put was to) (tab-append (λ j. v) m (n - m) ∙ ap (tab (λ j. v)) q))
    (omega arith)

-- ---- a row that is filled from its start

pub within_start : (was : List ℕ) (to room : ℕ) → PutWithin was to [] room was
within_start was to room = record { long = refl; filled_in = λ rest l. ap (λ (k : ℕ). put was k rest) (add-zero to) }

pub within_more : (was : List ℕ) (to : ℕ) (done cells : List ℕ) (room : ℕ) (is later : List ℕ) → PutWithin was to done room is → length done + length cells ≤ room
    → PutWithin is (to + length done) cells (room - length done) later → PutWithin was to (done ++ cells) room later
within_more was to done cells room is later s h t =
    let n = length-append done cells in
    record {
      long = t.long ∙ s.long;
      filled_in = λ rest l.
          let p : to + length (done ++ cells) ≡ to + length done + length cells = omega (arith, n) in
          let m = length-append cells rest in
          ap (λ (k : ℕ). put later k rest) p ∙ t.filled_in rest (omega (arith, n)) ∙ s.filled_in (cells ++ rest) (omega (arith, n, m))
          ∙ ap (put was to) (sym (append_assoc done cells rest));
    }

pub within_end : (was : List ℕ) (to : ℕ) (cells : List ℕ) (room : ℕ) (is : List ℕ) → PutWithin was to cells room is → length cells ≡ room → is ≡ put was to cells
within_end was to cells room is s e = sym (put-nil is (to + length cells)) ∙ s.filled_in [] (omega arith) ∙ ap (put was to) (append-nil cells)
