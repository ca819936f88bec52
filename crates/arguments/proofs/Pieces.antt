-- Laws of words and items at a place of a text.
use mathlib.Core.Path.{◌≡◌, refl, sym, ap, ◌∙◌}
use mathlib.Core.Bool.{Bool, true, false, cond, not, ◌&&◌}
use mathlib.Core.List.{List, [], ◌∷◌}
use Prim.Native.Nat.{ℕ, suc, ◌+◌, ◌-◌, ◌≤◌, ◌<◌}
use native.Mathlib.Nat.{le_of_lt}
use native.Mathlib.Numerals.{add-one}
use native.Mathlib.Omega.{arith}
use borrow.Author.Tests.{le-leb, leb-false, ltb-true, ltb-false}
use lib.Dec.{eqb, leb, ltb}
use lib.ListN.{length, get_or, take, drop, drop_of_length-le, length-drop}
use Rattle.std.specs.List.{position, position_or_len, slice_split, onto_first, list_all, zip, slice_get}
use Rattle.std.specs.Option.{unwrap_or, option_map}
use Rattle.std.proofs.lemmas.List.Splits.{length-slice_split}
use denote.Ref.{Bor}
use Rattle.std.specs.Cmp.Lexicographic.{pointwise}
use Rattle.std.specs.Prelude.{Option, Some, None, SomeIff}
use Rattle.std.proofs.lemmas.Option.{cond_some, unwrap_or-slice_get, slice_get_past, slice_get-get_or}
use Rattle.std.proofs.lemmas.List.Sums.{prefix_len-le-length, count_by-le-length}
use Rattle.std.proofs.lemmas.List.Recursion.{is_position_or_len}
use lib.Seq.{drop-cons, drop-drop, take_all}
use Rattle.arguments.specs.Words.{part_of, up_to, onto, pieces, words_of, items_of, item_at, alike, lowered, byte_in, in_case, place_among}

-- the rest of a text, its first byte apart
pub split : (text : List ℕ) (at : ℕ) → at < length text → drop at text ≡ get_or text at 0 ∷ drop (at + 1) text
split text at inside = rw (add-one at) (drop-cons text at 0 inside)

-- ---- the bytes before a mark

-- how many they are: the place of the mark
pub up_position : (mark : ℕ) (xs : List ℕ) → length (up_to mark xs) ≡ position_or_len (λ (b : ℕ). eqb b mark) xs
unfolding up_to
up_position mark = is_position_or_len (λ (xs : List ℕ). length (up_to mark xs)) (λ (b : ℕ). eqb b mark) refl step
  where
    step : (x : ℕ) (xs : List ℕ) → length (up_to mark (x ∷ xs)) ≡ cond (eqb x mark) 0 (1 + length (up_to mark xs))
    step x xs = go (eqb x mark)
      where
        go : (b : Bool) → length (cond b [] (x ∷ up_to mark xs)) ≡ cond b 0 (1 + length (up_to mark xs))
        go true = refl
        go false = omega arith

pub none_false : (b : Bool) (n : ℕ) → cond b (Some n) None ≡ None → b ≡ false
none_false true n e = cc
none_false false n e = refl

-- where a search for the mark ends, of the bytes from a place on
module _ (mark : ℕ) (text : List ℕ) (at : ℕ) (inside : at ≤ length text) where
  pub end_found : (n : ℕ) → position (λ (b : ℕ). eqb b mark) (drop at text) ≡ Some n
      → (at + n ≡ at + length (up_to mark (drop at text))) × (at + n ≤ length text)
  end_found n e =
      let p = cond_some (ltb (position_or_len (λ (b : ℕ). eqb b mark) (drop at text)) (length (drop at text))) (position_or_len (λ (b : ℕ). eqb b mark) (drop at text)) n e in
      let h = ltb-true (position_or_len (λ (b : ℕ). eqb b mark) (drop at text)) (length (drop at text)) p.0 in
      (omega (arith, p.1, up_position mark (drop at text)), omega (arith, p.1, h, length-drop at text))

  pub end_missed : position (λ (b : ℕ). eqb b mark) (drop at text) ≡ None
      → (length text ≡ at + length (up_to mark (drop at text))) × (length text ≤ length text)
  end_missed e =
      let h = ltb-false (position_or_len (λ (b : ℕ). eqb b mark) (drop at text)) (length (drop at text)) (none_false (ltb (position_or_len (λ (b : ℕ). eqb b mark) (drop at text)) (length (drop at text))) (position_or_len (λ (b : ℕ). eqb b mark) (drop at text)) e) in
      (omega (arith, h, up_position mark (drop at text), prefix_len-le-length (λ (b : ℕ). not (eqb b mark)) (drop at text), length-drop at text), omega arith)

module _ (mark : ℕ) (text : List ℕ) (at : ℕ) where
  pub up_end : length text ≤ at → up_to mark (drop at text) ≡ []
  unfolding up_to
  up_end h = rw (drop_of_length-le text h)

pub take_up : (mark : ℕ) (xs : List ℕ) → take (length (up_to mark xs)) xs ≡ up_to mark xs
unfolding up_to
take_up mark [] = refl
take_up mark (x ∷ xs) = go (eqb x mark) (take_up mark xs)
  where
    go : (b : Bool) → take (length (up_to mark xs)) xs ≡ up_to mark xs → take (length (cond b [] (x ∷ up_to mark xs))) (x ∷ xs) ≡ cond b [] (x ∷ up_to mark xs)
    go true e = refl
    go false e = ap (λ (r : List ℕ). x ∷ r) e

-- ---- items

-- the first item, or none, of pieces: what stands before the first mark
first_up : (mark : ℕ) (rest : List (List ℕ)) (xs : List ℕ) → item_at rest 0 ≡ [] → item_at (pieces mark rest xs) 0 ≡ up_to mark xs
unfolding pieces onto up_to item_at
first_up mark rest [] e = e
first_up mark rest (x ∷ xs) e = go (eqb x mark) (pieces mark rest xs) (first_up mark rest xs e)
  where
    go : (b : Bool) (ps : List (List ℕ)) → item_at ps 0 ≡ up_to mark xs → item_at (cond b ([] ∷ ps) (onto x ps)) 0 ≡ cond b [] (x ∷ up_to mark xs)
    go true ps q = refl
    go false [] q = ap (λ (r : List ℕ). x ∷ r) q
    go false (p ∷ ps) q = ap (λ (r : List ℕ). x ∷ r) q

pub first_word : (xs : List ℕ) → item_at (words_of xs) 0 ≡ up_to 0 xs
unfolding words_of item_at
first_word xs = first_up 0 [] xs refl

onto_is : (x : ℕ) (ps : List (List ℕ)) → onto x ps ≡ onto_first x ps
unfolding onto
onto_is x [] = refl
onto_is x (p ∷ ps) = refl

-- the items are the parts that a slice's `split` gives
pub items_split : (mark : ℕ) (xs : List ℕ) → slice_split (λ (b : ℕ). eqb b mark) xs ≡ items_of mark xs
unfolding items_of pieces
items_split mark [] = refl
items_split mark (x ∷ xs) = go (eqb x mark) (items_split mark xs)
  where
    go : (b : Bool) → slice_split (λ (y : ℕ). eqb y mark) xs ≡ items_of mark xs
        → cond b ([] ∷ slice_split (λ (y : ℕ). eqb y mark) xs) (onto_first x (slice_split (λ (y : ℕ). eqb y mark) xs)) ≡ cond b ([] ∷ items_of mark xs) (onto x (items_of mark xs))
    go true e = ap (λ (ps : List (List ℕ)). [] ∷ ps) e
    go false e = ap (onto_first x) e ∙ sym (onto_is x (items_of mark xs))

pub items_most : (mark : ℕ) (xs : List ℕ) → length (items_of mark xs) ≤ length xs + 1
items_most mark xs = rw (← items_split mark xs, length-slice_split (λ (b : ℕ). eqb b mark) xs) (omega (arith, count_by-le-length (λ (b : ℕ). eqb b mark) xs))

-- item k, or nothing
pub item_got : (got : Option (Bor (List ℕ))) (r none : Bor (List ℕ)) → r ≡ unwrap_or got none → none.now ≡ [] → (mark : ℕ) (xs : List ℕ) (k : ℕ)
    → option_map (λ (b : Bor (List ℕ)). b.now) got ≡ slice_get (items_of mark xs) k → r.now ≡ item_at (items_of mark xs) k
unfolding item_at
item_got None r none e z mark xs k h = ap (λ (b : Bor (List ℕ)). b.now) e ∙ z ∙ ap (λ (o : Option (List ℕ)). unwrap_or o []) h ∙ unwrap_or-slice_get (items_of mark xs) k []
item_got (Some b) r none e z mark xs k h = ap (λ (b : Bor (List ℕ)). b.now) e ∙ ap (λ (o : Option (List ℕ)). unwrap_or o []) h ∙ unwrap_or-slice_get (items_of mark xs) k []

-- ---- pieces, each ended by a mark, and words

module _ (mark : ℕ) where
  pieces-first : (x : ℕ) (xs : List ℕ) → pieces mark [] (x ∷ xs) ≡ up_to mark (x ∷ xs) ∷ pieces mark [] (drop (length (up_to mark (x ∷ xs))) xs)
  unfolding pieces up_to onto
  pieces-first x [] = go (eqb x mark)
    where
      go : (b : Bool) → cond b ([] ∷ []) ((x ∷ []) ∷ []) ≡ cond b [] (x ∷ []) ∷ pieces mark [] (drop (length (cond b [] (x ∷ []))) [])
      go true = refl
      go false = refl
  pieces-first x (y ∷ ys) = go (eqb x mark) (pieces-first y ys)
    where
      go : (b : Bool) → pieces mark [] (y ∷ ys) ≡ up_to mark (y ∷ ys) ∷ pieces mark [] (drop (length (up_to mark (y ∷ ys))) ys)
          → cond b ([] ∷ pieces mark [] (y ∷ ys)) (onto x (pieces mark [] (y ∷ ys)))
          ≡ cond b [] (x ∷ up_to mark (y ∷ ys)) ∷ pieces mark [] (drop (length (cond b [] (x ∷ up_to mark (y ∷ ys)))) (y ∷ ys))
      go true e = refl
      go false e = ap (onto x) e

  module _ (text : List ℕ) (at : ℕ) where
    pub pieces_end : length text ≤ at → pieces mark [] (drop at text) ≡ []
    unfolding pieces
    pieces_end h = rw (drop_of_length-le text h)

    -- the piece at a place, and those after it
    pub pieces-at : at < length text → pieces mark [] (drop at text) ≡ up_to mark (drop at text) ∷ pieces mark [] (drop (at + length (up_to mark (drop at text)) + 1) text)
    pieces-at h =
        let r = length (up_to mark (drop at text)) in
        let e : drop at text ≡ get_or text at 0 ∷ drop (at + 1) text = split text at h in
        let n : at + 1 + r ≡ at + r + 1 = omega arith in
        let d : drop r (drop (at + 1) text) ≡ drop (at + r + 1) text = drop-drop r (at + 1) text ∙ ap (λ (k : ℕ). drop k text) n in
        let f = pieces-first (get_or text at 0) (drop (at + 1) text) in
        (rw (← e, d) at f)

module _ (text : List ℕ) (at : ℕ) where
  pub words_end : length text ≤ at → words_of (drop at text) ≡ []
  unfolding words_of
  words_end = pieces_end 0 text at

  pub words_at : at < length text → words_of (drop at text) ≡ up_to 0 (drop at text) ∷ words_of (drop (at + length (up_to 0 (drop at text)) + 1) text)
  unfolding words_of
  words_at = pieces-at 0 text at

-- ---- texts that are alike

pub alike_is : (a b : List ℕ) → pointwise eqb a b ≡ alike a b
unfolding alike
alike_is [] [] = refl
alike_is [] (y ∷ ys) = refl
alike_is (x ∷ xs) [] = refl
alike_is (x ∷ xs) (y ∷ ys) = ap (λ (r : Bool). eqb x y && r) (alike_is xs ys)

pub unlike_length : (a b : List ℕ) → (length a ≡ length b → ⊥) → alike a b ≡ false
unfolding alike
unlike_length [] [] n = absurd (n refl)
unlike_length [] (y ∷ ys) n = refl
unlike_length (x ∷ xs) [] n = refl
unlike_length (x ∷ xs) (y ∷ ys) n = go (eqb x y) (unlike_length xs ys (λ e. n (ap suc e)))
  where
    go : (b : Bool) → alike xs ys ≡ false → (b && alike xs ys) ≡ false
    go true e = e
    go false e = refl

-- ---- a name in any case

-- byte by byte
pub alike_in : (any : Bool) (text name : List ℕ) → length text ≡ length name
    → list_all (λ (p : ℕ × ℕ). eqb (p.0) (byte_in any (p.1))) (zip text name) ≡ alike text (in_case any name)
unfolding in_case byte_in alike
alike_in false [] [] e = refl
alike_in true [] [] e = refl
alike_in any [] (y ∷ ys) e = let z : ⊥ = omega arith in absurd z
alike_in any (x ∷ xs) [] e = let z : ⊥ = omega arith in absurd z
alike_in false (x ∷ xs) (y ∷ ys) e = ap (λ (r : Bool). eqb x y && r) (alike_in false xs ys (omega arith))
alike_in true (x ∷ xs) (y ∷ ys) e = ap (λ (r : Bool). eqb x (lowered y) && r) (alike_in true xs ys (omega arith))

pub length_case : (any : Bool) (name : List ℕ) → length (in_case any name) ≡ length name
unfolding in_case
length_case false name = refl
length_case true [] = refl
length_case true (x ∷ xs) = ap suc (length_case true xs)

pub unlike_case : (any : Bool) (text name : List ℕ) → (length text ≡ length name → ⊥) → false ≡ alike text (in_case any name)
unlike_case any text name n = sym (unlike_length text (in_case any name) (λ e. n (e ∙ length_case any name)))

-- ---- parts of a text

pub piece_up : (mark : ℕ) (text : List ℕ) (at to : ℕ) → to ≡ at + length (up_to mark (drop at text)) → take (to - at) (drop at text) ≡ up_to mark (drop at text)
piece_up mark text at to e =
    let n : to - at ≡ length (up_to mark (drop at text)) = omega arith in
    rw n (take_up mark (drop at text))

pub part_up : (mark : ℕ) (text : List ℕ) (at to : ℕ) (part : List ℕ) → part ≡ part_of text at to → to ≡ at + length (up_to mark (drop at text)) → to ≤ length text
    → part ≡ up_to mark (drop at text)
part_up mark text at to part is e h = is ∙ rw (le-leb at to (omega arith), le-leb to (length text) h) (piece_up mark text at to e)

pub part_rest : (text : List ℕ) (from : ℕ) → part_of text from (length text) ≡ drop from text
part_rest text from = go (leb from (length text)) refl
  where
    go : (b : Bool) → leb from (length text) ≡ b → part_of text from (length text) ≡ drop from text
    go true q =
        let h : length (drop from text) ≤ length text - from = omega (arith, length-drop from text) in
        rw (q, le-leb (length text) (length text) (omega arith)) (take_all (length text - from) (drop from text) h)
    go false q = rw q (sym (drop_of_length-le text (le_of_lt (leb-false from (length text) q))))

-- ---- a name among items

pub place_position : (name : List ℕ) (ps : List (List ℕ)) → place_among ps name ≡ position_or_len (λ (p : List ℕ). alike p name) ps
unfolding place_among
place_position name = is_position_or_len (λ (ps : List (List ℕ)). place_among ps name) (λ (p : List ℕ). alike p name) refl step
  where
    step : (p : List ℕ) (ps : List (List ℕ)) → place_among (p ∷ ps) name ≡ cond (alike p name) 0 (1 + place_among ps name)
    step p ps = ap (λ (n : ℕ). cond (alike p name) 0 n) (omega arith)

some_below : (n most : ℕ) → SomeIff (cond (ltb n most) (Some n) None) (n < most) n
some_below n most = go (ltb n most) refl
  where
    go : (b : Bool) → ltb n most ≡ b → SomeIff (cond b (Some n) None) (n < most) n
    go true q = (ltb-true n most q, refl)
    go false q = let h = ltb-false n most q in λ k. omega arith

pub place_found : (name list : List ℕ) (r : Option ℕ) → r ≡ position (λ (p : List ℕ). alike p name) (slice_split (λ (b : ℕ). eqb b 44) list)
    → SomeIff r (place_among (items_of 44 list) name < length (items_of 44 list)) (place_among (items_of 44 list) name)
place_found name list r e = rw (e, items_split 44 list) (go (items_of 44 list))
  where
    go : (ps : List (List ℕ)) → SomeIff (position (λ (p : List ℕ). alike p name) ps) (place_among ps name < length ps) (place_among ps name)
    go ps = rw (place_position name ps) (some_below (position_or_len (λ (p : List ℕ). alike p name) ps) (length ps))

-- the element at a name's place, of a list as long as that of the names
module _ {X : Type 0} (elements : List X) (names : List (List ℕ)) (name : List ℕ) (long : length names ≡ length elements) where
  pub no_place : (place_among names name < length names → ⊥) → None ≡ slice_get elements (place_among names name)
  no_place h = sym (slice_get_past elements (place_among names name) (omega arith))

  pub at_place : (k : ℕ) → (place_among names name < length names) × (k ≡ place_among names name) → (d : X) → Some (get_or elements k d) ≡ slice_get elements (place_among names name)
  at_place k h d = let inside = h.0 in sym (slice_get-get_or elements k d (omega (arith, h.1))) ∙ ap (slice_get elements) h.1
