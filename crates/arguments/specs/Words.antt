-- What a text is cut into: a command's words, the items of a list.
use Rattle.std.specs.Prelude.{Bool, true, false, cond, ◌&&◌, List, [], ◌∷◌, map, ℕ, suc, ◌+◌, ◌-◌, eqb, leb, length, get_or, take, drop}

-- the bytes from one place to another; none where that is no part
abbrev pub part_of : List ℕ → ℕ → ℕ → List ℕ
part_of text from to = cond (leb from to && leb to (length text)) (take (to - from) (drop from text)) []

-- the bytes before the first mark
unfoldable pub up_to : ℕ → List ℕ → List ℕ
up_to mark [] = []
up_to mark (x ∷ xs) = cond (eqb x mark) [] (x ∷ up_to mark xs)

-- a byte before the first piece
unfoldable pub onto : ℕ → List (List ℕ) → List (List ℕ)
onto x [] = (x ∷ []) ∷ []
onto x (p ∷ ps) = (x ∷ p) ∷ ps

-- the pieces of a text, each ended by a mark; `rest` is what its end leaves
unfoldable pub pieces : ℕ → List (List ℕ) → List ℕ → List (List ℕ)
pieces mark rest [] = rest
pieces mark rest (x ∷ xs) = cond (eqb x mark) ([] ∷ pieces mark rest xs) (onto x (pieces mark rest xs))

-- a command's words, each with a 0 after it
unfoldable pub words_of : List ℕ → List (List ℕ)
words_of = pieces 0 []

-- the items of a list with a mark between them, one at least
unfoldable pub items_of : ℕ → List ℕ → List (List ℕ)
items_of mark = pieces mark ([] ∷ [])

-- item k; empty where there is none
unfoldable pub item_at : List (List ℕ) → ℕ → List ℕ
item_at ps k = get_or ps k []

unfoldable pub alike : List ℕ → List ℕ → Bool
alike [] [] = true
alike [] (y ∷ ys) = false
alike (x ∷ xs) [] = false
alike (x ∷ xs) (y ∷ ys) = eqb x y && alike xs ys

-- a capital letter of ASCII as the small one
unfoldable pub lowered : ℕ → ℕ
lowered x = cond (leb 65 x && leb x 90) (x + 32) x

-- a byte, and a name: as it is, or in lower case
unfoldable pub byte_in : Bool → ℕ → ℕ
byte_in true x = lowered x
byte_in false x = x

unfoldable pub in_case : Bool → List ℕ → List ℕ
in_case true xs = map lowered xs
in_case false xs = xs

-- which item a name is, from 0; how many items there are where it is none
unfoldable pub place_among : List (List ℕ) → List ℕ → ℕ
place_among [] name = 0
place_among (p ∷ ps) name = cond (alike p name) 0 (suc (place_among ps name))
