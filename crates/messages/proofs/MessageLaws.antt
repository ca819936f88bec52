-- Laws of messages: pieces in a row are one message.
use mathlib.Core.Path.{◌≡◌, refl, sym, ap, subst, ◌∙◌}
use mathlib.Core.List.{List, [], ◌∷◌, ◌++◌, append_assoc}
use mathlib.Core.Bool.{Bool, true, false, cond}
use Prim.Native.Nat.{ℕ, zero, suc, ◌+◌, ◌-◌, ◌/◌, ◌%◌, ◌^◌, ◌≤◌, ◌<◌}
use native.Mathlib.Nat.{add-zero, sub-zero, pow-suc}
use native.Mathlib.Numerals.{add-one}
use native.Mathlib.Omega.{arith}
use borrow.Author.Tests.{eq-eqb, ne_eqb, lt-ltb, ltb-true, ltb-false}
use lib.Dec.{ltb}
use lib.ListN.{length, get_or, take, drop, length-take, length-append}
use lib.Seq.{drop-cons, take-suc, take-nil}
use Rattle.leaves.specs.Put.{put}
use Rattle.leaves.proofs.Puts.{length-put, put-nil, put-append}
use denote.Ref.{Bor}
use Rattle.std.specs.List.{slice_get}
use Rattle.std.specs.Prelude.{Some, None}
use Rattle.std.specs.Slice.{IsItemAt}
use Rattle.std.proofs.lemmas.Option.{slice_get-get_or, slice_get_past}
use Rattle.std.specs.Fmt.{digit_glyph, digits_onto, digits}
use Rattle.messages.specs.Messages.{decimal_in, decimal, piece_for, filled, Says}

pub append-nil : (xs : List ℕ) → xs ++ [] ≡ xs
append-nil [] = refl
append-nil (x ∷ xs) = ap (λ (r : List ℕ). x ∷ r) (append-nil xs)

-- ---- what fits

take_split : (r : ℕ) (a b : List ℕ) → take r (a ++ b) ≡ take r a ++ take (r - length (take r a)) b
take_split zero a b = refl
take_split (suc r) [] b = rw (sub-zero (suc r))
take_split (suc r) (x ∷ a) b =
    let e : suc r - suc (length (take r a)) ≡ r - length (take r a) = omega arith in
    rw e (ap (λ (l : List ℕ). x ∷ l) (take_split r a b))

fits : (r : ℕ) (a : List ℕ) → length (take r a) ≤ r
fits r a = omega (arith, length-take r a)

-- what is said behind a place
said : List ℕ → ℕ → List ℕ → List ℕ
said was at a = put was at (take (length was - at) a)

module _ (was : List ℕ) (at : ℕ) (inside : at ≤ length was) (a b : List ℕ) where
  place : at + length (take (length was - at) a) ≤ length was
  place = omega (arith, fits (length was - at) a)

  room : length (said was at a) - (at + length (take (length was - at) a)) ≡ length was - at - length (take (length was - at) a)
  unfolding said
  room = rw (length-put was at (take (length was - at) a) place) (omega arith)

  both_said : said (said was at a) (at + length (take (length was - at) a)) b ≡ said was at (a ++ b)
  unfolding said
  both_said =
      ap (λ (k : ℕ). put (said was at a) (at + length (take (length was - at) a)) (take k b)) room
      ∙ (put-append was at (take (length was - at) a) (take (length was - at - length (take (length was - at) a)) b) place
      ∙ ap (put was at) (sym (take_split (length was - at) a b)))

  both_behind : at + length (take (length was - at) a) + length (take (length (said was at a) - (at + length (take (length was - at) a))) b) ≡ at + length (take (length was - at) (a ++ b))
  both_behind =
      rw (room, take_split (length was - at) a b, length-append (take (length was - at) a) (take (length was - at - length (take (length was - at) a)) b)) (omega arith)

module _ {was : List ℕ} {at : ℕ} (inside : at ≤ length was) where
  module _ {a y : List ℕ} {p : ℕ} (first : Says was at a y p) where
    -- the memory is as long as before, and the place stands within it
    pub says_length : length y ≡ length was
    says_length = ap length first.text ∙ length-put was at (take (length was - at) a) (place was at inside a [])

    pub says_place : p ≤ length was
    says_place = rw first.behind (place was at inside a [])

    -- a message and the next one
    pub says_next : {b x : List ℕ} {q : ℕ} → Says y p b x q → Says was at (a ++ b) x q
    unfolding said
    says_next {b} {x} {q} second =
        record {
          text = second.text ∙ ap (λ (l : List ℕ). said l p b) first.text ∙ ap (λ (k : ℕ). said (said was at a) k b) first.behind ∙ both_said was at inside a b;
          behind =
              second.behind ∙ ap (λ (l : List ℕ). p + length (take (length l - p) b)) first.text
              ∙ ap (λ (k : ℕ). k + length (take (length (said was at a) - k) b)) first.behind
              ∙ both_behind was at inside a b;
        }

pub says_none : (was : List ℕ) (at : ℕ) → Says was at [] was at
says_none was at =
    let e = take-nil {A = ℕ} (length was - at) in
    record {
      text = sym (put-nil was at) ∙ ap (put was at) (sym e);
      behind = sym (add-zero at) ∙ ap (λ (l : List ℕ). at + length l) (sym e);
    }

-- the same of an equal message
pub says_as : {was m l later : List ℕ} {at to : ℕ} → m ≡ l → Says was at m later to → Says was at l later to
says_as {was} {m} {l} {later} {at} {to} e s = subst (λ (x : List ℕ). Says was at x later to) e s

-- ---- a list's pieces

pub got_is : {X : Type 0} (xs : List X) (k : ℕ) (x : Bor X) → IsItemAt xs k (Some x) → slice_get xs k ≡ Some x.now
got_is xs k x h = slice_get-get_or xs k x.now h.3.0 ∙ ap (λ y. Some y) (sym (h.4 (omega arith) x.now))

pub got_none : {X : Type 0} (xs : List X) (k : ℕ) → IsItemAt xs k None → slice_get xs k ≡ None
got_none xs k h = slice_get_past xs k h.3

-- ---- a line's marks

module _ (a b c d : List ℕ) where
  module _ (x : ℕ) where
    pub first_mark : x ≡ 64 → a ≡ piece_for a b c d x
    unfolding piece_for
    first_mark e = rw (eq-eqb x 64 e)

    module _ (n1 : x ≡ 64 → ⊥) where
      pub second_mark : x ≡ 35 → b ≡ piece_for a b c d x
      unfolding piece_for
      second_mark e = rw (ne_eqb x 64 n1, eq-eqb x 35 e)

      module _ (n2 : x ≡ 35 → ⊥) where
        pub third_mark : x ≡ 37 → c ≡ piece_for a b c d x
        unfolding piece_for
        third_mark e = rw (ne_eqb x 64 n1, ne_eqb x 35 n2, eq-eqb x 37 e)

        module _ (n3 : x ≡ 37 → ⊥) where
          pub fourth_mark : x ≡ 38 → d ≡ piece_for a b c d x
          unfolding piece_for
          fourth_mark e = rw (ne_eqb x 64 n1, ne_eqb x 35 n2, ne_eqb x 37 n3, eq-eqb x 38 e)

          pub no_mark : (x ≡ 38 → ⊥) → x ∷ [] ≡ piece_for a b c d x
          unfolding piece_for
          no_mark n4 = rw (ne_eqb x 64 n1, ne_eqb x 35 n2, ne_eqb x 37 n3, ne_eqb x 38 n4)

  filled-append : (xs ys : List ℕ) → filled a b c d (xs ++ ys) ≡ filled a b c d xs ++ filled a b c d ys
  unfolding filled
  filled-append [] ys = refl
  filled-append (x ∷ xs) ys = rw (filled-append xs ys) (sym (append_assoc (piece_for a b c d x) (filled a b c d xs) (filled a b c d ys)))

  pub filled_more : (line : List ℕ) (i : ℕ) → i < length line → filled a b c d (take (i + 1) line) ≡ filled a b c d (take i line) ++ piece_for a b c d (get_or line i 0)
  unfolding filled
  filled_more line i h =
      rw (add-one i, take-suc line i 0 h, filled-append (take i line) (get_or line i 0 ∷ []))
      (ap (λ (l : List ℕ). filled a b c d (take i line) ++ l) (append-nil (piece_for a b c d (get_or line i 0))))

pub one_byte : (line : List ℕ) (i next : ℕ) → i < length line → next ≡ i + 1 → take (next - i) (drop i line) ≡ get_or line i 0 ∷ []
one_byte line i next h e = let n : next - i ≡ 1 = omega arith in rw (n, drop-cons line i 0 h)

-- ---- digits

tenth : (k n : ℕ) → n < 10 ^ suc k → n / 10 < 10 ^ k
tenth k n h = omega (arith, pow-suc 10 k)

places : (k n : ℕ) → n < 10 ^ suc k → 10 ≤ n → 1 ≤ k
places zero n h some = omega arith
places (suc k) n h some = omega arith

onto_is : (fuel k n : ℕ) (more : List ℕ) → n < 10 ^ k → k ≤ fuel → 1 ≤ k → digits_onto fuel 10 false n more ≡ decimal_in k n ++ more
unfolding decimal_in
onto_is zero k n more h room some = let z : ⊥ = omega arith in absurd z
onto_is (suc fuel) zero n more h room some = let z : ⊥ = omega arith in absurd z
onto_is (suc fuel) (suc k) n more h room some = go (ltb n 10) refl (onto_is fuel k (n / 10))
  where
    glyph : digit_glyph false (n % 10) ≡ 48 + n % 10
    glyph = rw (lt-ltb (n % 10) 10 (omega arith))

    go : (b : Bool) → ltb n 10 ≡ b → ((rest : List ℕ) → n / 10 < 10 ^ k → k ≤ fuel → 1 ≤ k → digits_onto fuel 10 false (n / 10) rest ≡ decimal_in k (n / 10) ++ rest)
        → digits_onto (suc fuel) 10 false n more ≡ cond b ((48 + n) ∷ []) (decimal_in k (n / 10) ++ ((48 + n % 10) ∷ [])) ++ more
    go true q f =
        let low = ltb-true n 10 q in
        let none : n / 10 ≡ 0 = omega arith in
        let same : n % 10 ≡ n = omega arith in
        rw (eq-eqb (n / 10) 0 none, glyph, same)
    go false q f =
        let high = ltb-false n 10 q in
        let some_left : (n / 10 ≡ 0 → ⊥) = λ e. omega arith in
        rw (ne_eqb (n / 10) 0 some_left, glyph) (f ((48 + n % 10) ∷ more) (tenth k n h) (omega arith) (places k n h high) ∙ sym (append_assoc (decimal_in k (n / 10)) ((48 + n % 10) ∷ []) more))

-- 20 digits hold any number of 64 bits
pub decimal_is : (n : ℕ) → n < 2 ^ 64 → digits 10 false n ≡ decimal n
unfolding digits decimal
decimal_is n h = onto_is 64 20 n [] (omega arith) (omega arith) (omega arith) ∙ append-nil (decimal_in 20 n)
