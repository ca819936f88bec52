-- Document 02, A.6: the shade of a price, the index of a quote, the numbers 15, 22 and 23, and what the call promises.
-- Prices are compared as IEEE 754 does, by the kit's `lt` (below) and `le` (at or below): -0 and 0 are one price, an infinity is above or below every
-- other price, and no comparison with a NaN holds. Their laws are in proofs/FloatOrder.
use Rattle.std.specs.Prelude.{◌≡◌, Bool, true, false, not, cond, ◌&&◌, ◌||◌, List, [], ◌∷◌, ℕ, zero, suc, ◌+◌, ltb, eqb, Float, length, get_or, ⊤, Result, Ok, Err}
use Rattle.std.specs.Float.{nan}
use Rattle.std.specs.Float.Ieee.{is_nan, lt, le}
use Rattle.leaves.specs.Lists.{tab}
use Rattle.leaves.specs.Put.{put}
use Rattle.leaves.specs.Refusals.{one, first_applying}
use Rattle.grids.specs.declared.scale.Quote.{Quote}
use Rattle.grids.specs.declared.scale.ShadeRefusal.{ShadeRefusal}
use Rattle.grids.specs.declared.scale.ShadeRefusal.TheVariants.{ListsTooShort, NotScale, NotQuote}

-- "A price's shade is the count of edges at or below it"
unfoldable pub shade_of : List Float → Float → ℕ
shade_of [] price = 0
shade_of (edge ∷ edges) price = one (le edge price) + shade_of edges price

-- "A cell whose ends have the same shade gets it; any other gets index 255, the hatch"
unfoldable pub index_of : List Float → Quote → ℕ
index_of edges quoted = cond (eqb (shade_of edges quoted.low) (shade_of edges quoted.high)) (shade_of edges quoted.low) 255

-- "Lows and highs come as two lists": cell k of them
unfoldable pub quote_at : List Float → List Float → ℕ → Quote
quote_at lows highs k = record { low = get_or lows k nan; high = get_or highs k nan }

-- of all cells, one for each low
unfoldable pub indices_of : List Float → List Float → List Float → List ℕ
indices_of edges lows highs = tab (λ k. index_of edges (quote_at lows highs k)) (length lows)

-- ---- the numbers, "15, checked first", then "22 first"

-- 15: "highs or a lent plane shorter than the lows"
abbrev pub lists_too_short : ℕ → ℕ → ℕ → Bool
lists_too_short lows highs plane = ltb highs lows || ltb plane lows

-- "an edge not a number"
unfoldable pub some_nan : List Float → Bool
some_nan [] = false
some_nan (edge ∷ edges) = is_nan edge || some_nan edges

-- each edge is above the one before it, the first above `before`
unfoldable pub rises_from : Float → List Float → Bool
rises_from before [] = true
rises_from before (edge ∷ edges) = lt before edge && rises_from edge edges

-- "strictly rising"
unfoldable pub rises : List Float → Bool
rises [] = true
rises (edge ∷ edges) = rises_from edge edges

-- 22: "edge count outside 1 to 254, an edge not a number, or edges not strictly rising"
unfoldable pub not_scale : List Float → Bool
not_scale edges = (ltb (length edges) 1 || ltb 254 (length edges)) || (some_nan edges || not (rises edges))

-- 23: "a cell end not a number or low above high"
unfoldable pub not_quote : Quote → Bool
not_quote quoted = (is_nan quoted.low || is_nan quoted.high) || lt quoted.high quoted.low

-- of one of the first n cells
unfoldable pub some_not_quote : List Float → List Float → ℕ → Bool
some_not_quote lows highs zero = false
some_not_quote lows highs (suc n) = some_not_quote lows highs n || not_quote (quote_at lows highs n)

-- of the causes
abbrev pub number_of : ShadeRefusal → ℕ
number_of ListsTooShort = 15
number_of NotScale = 22
number_of NotQuote = 23

-- of the call's answer: 0 where nothing is refused
abbrev pub answer_number : Result ⊤ ShadeRefusal → ℕ
answer_number (Ok _) = 0
answer_number (Err why) = number_of why

unfoldable pub quote_rows : List Float → List Float → List Float → ℕ → List (Bool × ℕ)
quote_rows edges lows highs plane =
    (lists_too_short (length lows) (length highs) plane, 15) ∷ (not_scale edges, 22) ∷ (some_not_quote lows highs (length lows), 23) ∷ []

-- ---- the promise

-- "Plane bytes past the count of lows never change", and with a number none does
abbrev pub later_plane : ℕ → List Float → List Float → List Float → List ℕ → List ℕ
later_plane zero edges lows highs was = put was 0 (indices_of edges lows highs)
later_plane (suc n) edges lows highs was = was

-- of the number answered and of the plane as it was and as it is later
pub record Shaded (edges lows highs : List Float) (was later : List ℕ) (number : ℕ) : Type 0 where
  -- the first row that applies, or 0
  pub first : number ≡ first_applying (quote_rows edges lows highs (length was))
  pub plane : later ≡ later_plane number edges lows highs was
